-- A refill is its row, and an access that isn't granted stays denied.
use Rattle.std.proofs.Common.{◌≡◌, ◌≢◌, ◌⊎◌, ℕ, ◌/◌, ◌&&◌, true, false, not, List, [], Option, Some, None, Ok, Err, length, get_or, refl, sym, ap, ◌∙◌, subst}
use Rattle.base_words.specs.declared.place.Place.TheVariants.{Memory}
use Rattle.base_words.specs.declared.regs.Regs.{Regs}
use Rattle.base_words.specs.declared.trap.TrapCause.{TrapCause}
use Rattle.base_words.specs.Coprocessor.{in_user_mode}
use Rattle.base_words.specs.Halves.{Half, Fills}
use Rattle.base_words.specs.Place.{segment}
use Rattle.private_machine.specs.declared.vcpu.Vcpu.{Vcpu}
use Rattle.private_machine.specs.Vcpu.{no_vcpu}
use Rattle.std.specs.Option.{is_some, option_map}
use Rattle.pmap_table.specs.OpenMoves.{told}
use Rattle.private_machine.specs.Backing.{Move, Page, nearest}
use Rattle.private_machine.specs.PageMove.{named_by}
use Rattle.private_machine.specs.SecondLevel.{put}
use Rattle.private_machine.specs.OwnStep.{led}
use Rattle.private_machine.specs.Reaching.{Wanted, Sight, Reached}
use Rattle.private_machine.specs.HardwareStep.{Trap, Line, FetchMiss, DataMiss, ReadOnly, Address, Privileged, Raised, Dead, hardware_step}
use Rattle.private_machine.specs.TrapAccess.{trapped_access, missed_access, access_of, TellsAccess}
use Rattle.isolation_law.specs.Surroundings.{node_of_processor}
use Rattle.isolation_law.specs.GuestState.{GuestState, page, processor, vcpu_of, second_level, with_page, with_tlb, with_second_level}
use Rattle.isolation_law.specs.Content.{content}
use Rattle.isolation_law.specs.Coherence.{Coherent}
use Rattle.isolation_law.specs.DirectStep.{lost_frames, with_inputs, sight}
use Rattle.isolation_law.specs.Needs.{none_of}
use Rattle.isolation_law.specs.RefillRow.{half_for, second_for, Refills}
use Rattle.isolation_law.specs.Traps.{step_on, is_granted}
use Rattle.guest_course.specs.declared.granting.Granted.{Granted}
use Rattle.guest_course.specs.Joining.{waits_for}
use Rattle.guest_course.specs.Granting.{HasAccess, IsInRange, LeadsTo, Grants}
use Rattle.guest_course.specs.RefillCalls.{StaysDenied, ReachesPage, half_of, second_of, IsFilled}
use Rattle.guest_course.specs.StepCalls.{MayStep, TrapsFor, ReachesNoneLost}
use Rattle.guest_course.proofs.DirectRow.{joined-vcpus, regs-same}
use Rattle.guest_course.proofs.JoinLemmas.{at-lined}
use Rattle.guest_course.proofs.TrapLemmas.{has-access, told-is, lacks, is-aligned, is-in-range}

-- what is told of traps
abbrev pub TrapsTell : Type 0
TrapsTell = (x : Sight) (pages : List Page) (regs : Regs) (trap : Trap) → hardware_step x pages regs ≡ Err trap → TellsAccess regs trap

-- what a trap tells of its access, over the registers before the input joins
tells : TrapsTell → (s : GuestState) (p v : ℕ) (trap : Trap) → step_on s p v ≡ Err trap → TellsAccess (vcpu_of s v).registers trap
tells law s p v trap is = subst (λ (r : Regs). TellsAccess r trap) (sym (regs-same s v)) (law (sight (with_inputs s v) p v) (with_inputs s v).pages (vcpu_of (with_inputs s v) v).registers trap is)

pub access-is : TrapsTell → (s : GuestState) (p v : ℕ) (cause : TrapCause) → TrapsFor s p v cause → HasAccess (vcpu_of s v).registers cause
access-is law s p v cause t = subst (λ (c : TrapCause). HasAccess (vcpu_of s v).registers c) t.told (has-access (vcpu_of s v).registers t.trap (tells law s p v t.trap t.traps))

-- no processor traps for a frame that is lost
pub none-lost : (s : GuestState) (p v : ℕ) (trap : Trap) → ReachesNoneLost s p v → step_on s p v ≡ Err trap → (there : Reached) (w : Wanted) → trap ≡ Dead there w → ⊥
none-lost s p v trap live is there w lost = live there w (is ∙ ap Err lost)

pub accessed-same : TrapsTell → (s : GuestState) (p v : ℕ) (cause : TrapCause) → ReachesNoneLost s p v → (t : TrapsFor s p v cause) → access_of (vcpu_of s v).registers cause ≡ trapped_access t.trap
accessed-same law s p v cause live t =
    ap (access_of (vcpu_of s v).registers) (sym t.told) ∙ told-is (vcpu_of s v).registers t.trap (tells law s p v t.trap t.traps) (none-lost s p v t.trap live t.traps)

-- an access for which a processor trapped is aligned and in the mode's ranges
pub in-range : (s : GuestState) (p v : ℕ) (cause : TrapCause) (t : TrapsFor s p v cause) (w : Wanted) → trapped_access t.trap ≡ Some w → IsInRange (vcpu_of s v) w
in-range s p v cause t w misses =
    let u = with_inputs s v in
    let l = lacks (sight u p v) w u.pages (vcpu_of u v).registers t.trap t.traps misses in
    let status : (vcpu_of u v).cp0.status ≡ (vcpu_of s v).cp0.status =
    ap (λ (x : List Vcpu). (get_or x v no_vcpu).cp0.status) (joined-vcpus (content s) v) ∙ (at-lined v (waits_for s.vcpus s.devices) s.vcpus).status in
    record {
      aligned = is-aligned (sight u p v) w l;
      in_range = λ out. is-in-range (sight u p v) w l (ap (λ x. segment (in_user_mode x) w.address) status ∙ out);
    }

-- an access that isn't granted, and none
pub denied-accessed : (s : GuestState) (p v : ℕ) (cause : TrapCause) (t : TrapsFor s p v cause) (w : Wanted) → trapped_access t.trap ≡ Some w → Grants (vcpu_of s v) (length s.pages) w None → is_granted s v (trapped_access t.trap) ≡ false
denied-accessed s p v cause t w is denied = ap (is_granted s v) is ∙ denied

pub denied-none : (s : GuestState) (p v : ℕ) (cause : TrapCause) (t : TrapsFor s p v cause) → trapped_access t.trap ≡ None → is_granted s v (trapped_access t.trap) ≡ false
denied-none s p v cause t none = ap (is_granted s v) none

pub stays-denied : (s t : GuestState) (p v : ℕ) (cause : TrapCause) (x : TrapsFor s p v cause) → ReachesNoneLost s p v → is_granted s v (trapped_access x.trap) ≡ false → t ≡ s → StaysDenied s p v cause t
stays-denied s t p v cause x live denied same = record { why = record { why = x; alive = live; denied = denied }; same = same }

-- the half that joined is the access's
pub refills : (s t : GuestState) (p v : ℕ) (cause : TrapCause) (may : MayStep s p v) (x : TrapsFor s p v cause) (w : Wanted) (g : Granted) → missed_access x.trap ≡ Some w → (page s g.page.0).move ≡ None
    → LeadsTo (vcpu_of s v) (length s.pages) w g → IsFilled s p v w.address g t → Refills s p t
refills s t p v cause may x w g misses rests l f =
    let c = vcpu_of s v in
    let q = l.offset / 4096 in
    let half : half_of s p v w.address g ≡ half_for s p v w q = λ i. record {
      number = w.address / 4096;
      asid = c.cp0.entry_hi.asid;
      global = l.everywhere i;
      page = l.page_is i;
      frame = nearest s.around.frames (lost_frames s.around s.dead) (node_of_processor s.around p) (page s (l.page_is i));
      writable = not (page s (l.page_is i)).shared && (none_of (page s (l.page_is i)).replicas && l.stores i);
    } in
    let second : second_of s v w.address g ≡ second_for s v w q = λ i. record {
      number = w.address / 4096;
      asid = c.cp0.entry_hi.asid;
      global = l.everywhere i;
      page = l.page_is i;
      store = l.stores i;
    } in
    record {
      goes_on = may.goes_on;
      v = v;
      runs = may.runs;
      may_act = may.may_act;
      trap = x.trap;
      traps = x.traps;
      access = w;
      misses = misses;
      offset = l.offset;
      leads = l.leads;
      rests = subst (λ (n : ℕ). (page s n).move ≡ None) l.page_is rests;
      halves = f.tlb;
      fills = subst (λ (h : Half). Fills h (processor s p).tlb f.tlb) half f.fills;
      after = f.after ∙ (λ i. with_second_level (with_tlb (with_page s (l.page_is i) (named_by p (page s (l.page_is i)))) p f.tlb) v (put (second i) (second_level s v)));
    }

-- the page to which a granted access leads
unfoldable pub reaches-page : (s : GuestState) (p v : ℕ) (cause : TrapCause) (x : TrapsFor s p v cause) (w : Wanted) (g : Granted) → trapped_access x.trap ≡ Some w → LeadsTo (vcpu_of s v) (length s.pages) w g → ReachesPage s p v g.page.0
reaches-page s p v cause x w g is l = record { trap = x.trap; traps = x.traps; access = w; is_it = is; offset = l.offset; leads = l.leads; page_is = l.page_is }

-- what is told of stores through halves that aren't writable
abbrev pub ReadOnlyNeeds : Type 0
ReadOnlyNeeds = (s : GuestState) (p v word : ℕ) (w : Wanted) (offset : ℕ) → Coherent s → (processor s p).loaded ≡ Some v → step_on s p v ≡ Err (ReadOnly word w) → led (content s) v w.unit w.purpose w.address ≡ Ok (Memory offset) → ((page s (offset / 4096)).shared ≡ true) ⊎ ((page s (offset / 4096)).replicas ≢ [])

-- such a store is into a page that needs a move
pub store-kept : ReadOnlyNeeds → (s : GuestState) (p v q : ℕ) → Coherent s → ReachesNoneLost s p v → (processor s p).loaded ≡ Some v → (r : ReachesPage s p v q) → missed_access r.trap ≡ None
    → ((page s q).shared ≡ true) ⊎ ((page s q).replicas ≢ [])
store-kept law s p v q co live loaded r stores = by r.trap r.is_it r.traps stores
  where
    by : (trap : Trap) → trapped_access trap ≡ Some r.access → step_on s p v ≡ Err trap → missed_access trap ≡ None → ((page s q).shared ≡ true) ⊎ ((page s q).replicas ≢ [])
    by Line e is miss = cc
    by (FetchMiss w) e is miss = cc
    by (DataMiss word w) e is miss = cc
    by (ReadOnly word w) e is miss =
        let same : w ≡ r.access = cc in
        rw r.page_is (law s p v word w r.offset co loaded is (ap (λ (x : Wanted). led (content s) v x.unit x.purpose x.address) same ∙ r.leads))
    by (Address word) e is miss = cc
    by (Privileged word) e is miss = cc
    by (Raised x) e is miss = cc
    by (Dead there w) e is miss = absurd (none-lost s p v (Dead there w) live is there w refl)

-- what is told of a page without a move, and of one with a move
pub rests-told : (m : Option Move) → is_some (option_map told m) ≡ false → m ≡ None
rests-told None is = refl
rests-told (Some m) is = cc
