-- What becomes of an access for which a processor trapped.
use Rattle.std.specs.Prelude.{◌≡◌, ◌≢◌, ◌⊎◌, ℕ, ◌/◌, ◌<◌, ◌≤◌, length, List, Some, None, Ok, Err, not, ◌&&◌}
use Rattle.base_words.specs.Limits.{most_cells, most_processors}
use Rattle.base_words.specs.declared.moves.MoveKind.{MoveKind}
use Rattle.base_words.specs.declared.place.Place.TheVariants.{Memory}
use Rattle.base_words.specs.declared.trap.TrapCause.{TrapCause}
use Rattle.base_words.specs.Halves.{Half, Fills}
use Rattle.private_machine.specs.Backing.{nearest}
use Rattle.private_machine.specs.OwnStep.{led}
use Rattle.private_machine.specs.PageMove.{named_by}
use Rattle.private_machine.specs.Reaching.{Wanted}
use Rattle.private_machine.specs.HardwareStep.{Trap}
use Rattle.private_machine.specs.TrapAccess.{trapped_access, missed_access}
use Rattle.private_machine.specs.SecondLevel.{Second, put}
use Rattle.isolation_law.specs.Content.{content}
use Rattle.isolation_law.specs.DirectStep.{lost_frames}
use Rattle.isolation_law.specs.Surroundings.{node_of_processor}
use Rattle.isolation_law.specs.GuestState.{GuestState, page, processor, second_level, vcpu_of, with_page, with_tlb, with_second_level}
use Rattle.isolation_law.specs.Needs.{none_of}
use Rattle.isolation_law.specs.RefillRow.{Refills}
use Rattle.isolation_law.specs.Traps.{step_on}
use Rattle.guest_course.specs.Hurdles.{NeedsMove}
use Rattle.guest_course.specs.StepCalls.{IsDenied, LosesPage, ReachesNoneLost}
use Rattle.guest_course.specs.declared.course.Course.{Course}
use Rattle.guest_course.specs.CourseView.{surroundings}
use Rattle.guest_course.specs.CourseRules.{AllStand}
use Rattle.guest_course.specs.Failures.{dead_cells}
use Rattle.guest_course.specs.declared.granting.Granted.{Granted}
use Rattle.guest_course.specs.declared.refilling.Refill.{Refill}
use Rattle.guest_course.specs.declared.refilling.Refill.TheVariants.{Filled, Waits, Needs, Lost, Denied}

-- nothing has changed, and the guest itself doesn't grant on memory what the processor trapped for
pub record StaysDenied (s : GuestState) (p v : ℕ) (cause : TrapCause) (t : GuestState) : Type 0 where
  pub why : IsDenied s p v cause
  pub same : t ≡ s

-- the processor traps for an access that the guest itself grants, on this page of memory
pub record ReachesPage (s : GuestState) (p v q : ℕ) : Type 0 where
  pub trap : Trap
  pub traps : step_on s p v ≡ Err trap
  pub access : Wanted
  pub is_it : trapped_access trap ≡ Some access
  pub offset : ℕ
  pub leads : led (content s) v access.unit access.purpose access.address ≡ Ok (Memory offset)
  pub page_is : q ≡ offset / 4096

-- it traps for such an access, or for a frame of the page that lies in a failed cell
abbrev pub TrapsOn : GuestState → ℕ → ℕ → ℕ → Type 0
TrapsOn s p v q = ReachesPage s p v q ⊎ LosesPage s p v q

-- nothing has changed: the page has a move
pub record StaysWaiting (s : GuestState) (p v q : ℕ) (t : GuestState) : Type 0 where
  pub reaches : TrapsOn s p v q
  pub moves : (page s q).move ≢ None
  pub same : t ≡ s

-- nothing has changed: the access is a store, which needs this move of the page
pub record StaysNeeding (s : GuestState) (p v q : ℕ) (kind : MoveKind) (t : GuestState) : Type 0 where
  pub reaches : ReachesPage s p v q
  pub alive : ReachesNoneLost s p v
  pub stores : missed_access reaches.trap ≡ None
  pub needs : NeedsMove s q kind
  pub same : t ≡ s

-- nothing has changed: the processor traps for a frame of the page that lies in a failed cell, and the page, which has no move, has to
-- be collapsed
pub record StaysLosing (s : GuestState) (p v q : ℕ) (t : GuestState) : Type 0 where
  pub loses : LosesPage s p v q
  pub is_page : q < length s.pages
  pub rests : (page s q).move ≡ None
  pub same : t ≡ s

-- nothing has changed at all, but where a half was given
abbrev pub StaysUnless : Refill → Course → Course → Type 0
StaysUnless Filled c d = Unit {0}
StaysUnless (Waits q) c d = d ≡ c
StaysUnless (Needs q kind) c d = d ≡ c
StaysUnless (Lost q) c d = d ≡ c
StaysUnless Denied c d = d ≡ c

abbrev pub Serves : GuestState → ℕ → ℕ → TrapCause → GuestState → Refill → Type 0
Serves s p v cause t Filled = Refills s p t
Serves s p v cause t (Waits q) = StaysWaiting s p v q.0 t
Serves s p v cause t (Needs q kind) = StaysNeeding s p v q.0 kind t
Serves s p v cause t (Lost q) = StaysLosing s p v q.0 t
Serves s p v cause t Denied = StaysDenied s p v cause t

-- the half and the second-level entry for what the guest grants
abbrev pub half_of : GuestState → ℕ → ℕ → ℕ → Granted → Half
half_of s p v address g = record {
  number = address / 4096;
  asid = (vcpu_of s v).cp0.entry_hi.asid;
  global = g.global;
  page = g.page.0;
  frame = nearest s.around.frames (lost_frames s.around s.dead) (node_of_processor s.around p) (page s g.page.0);
  writable = not (page s g.page.0).shared && (none_of (page s g.page.0).replicas && g.store);
}

abbrev pub second_of : GuestState → ℕ → ℕ → Granted → Second
second_of s v address g = record {
  number = address / 4096;
  asid = (vcpu_of s v).cp0.entry_hi.asid;
  global = g.global;
  page = g.page.0;
  store = g.store;
}

-- both have joined
pub record IsFilled (s : GuestState) (p v address : ℕ) (g : Granted) (t : GuestState) : Type 0 where
  pub tlb : List Half
  pub fills : Fills (half_of s p v address g) (processor s p).tlb tlb
  pub after : t ≡ with_second_level (with_tlb (with_page s g.page.0 (named_by p (page s g.page.0))) p tlb) v (put (second_of s v address g) (second_level s v))

-- the processor, the virtual processor with its second-level entries, and the page are there
pub record MayFill (c : Course) (p v q : ℕ) : Type 0 where
  pub is_processor : p < length c.places.items
  pub few_processors : length c.places.items ≤ most_processors
  pub is_vcpu : v < length c.vcpus.items
  pub seconds : length c.seconds.items ≡ length c.vcpus.items
  pub is_page : q < length c.pmap.pages
  pub stands : AllStand (surroundings c.around) 0 c.places.items
  pub cells : length (dead_cells c.dead) ≡ most_cells
