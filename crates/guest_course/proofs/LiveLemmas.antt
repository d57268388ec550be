-- What a guest uses that goes on, and so lies in no cell that has failed; and a frame that does, for which the hardware traps.
use Rattle.std.proofs.Common.{◌≡◌, ℕ, ◌<◌, None, Result, refl, List, [], ◌∷◌, ◌++◌, Err, flat_map, length, get_or, inl, inr, sym, ap, ◌∙◌, subst}
use Rattle.base_words.specs.Halves.{Half}
use Rattle.base_words.specs.Membership.{Has}
use Rattle.base_words.specs.declared.ids.FrameNo.{FrameNo}
use Rattle.base_words.specs.declared.trap.TrapCause.{TrapCause}
use Rattle.base_words.specs.declared.trap.TrapCause.TheVariants as causes
use Rattle.hw_tlb.specs.Tlb.{halves}
use Rattle.private_machine.specs.Backing.{Copy, page_at, copies}
use Rattle.private_machine.specs.HardwareStep.{Trap, Line, FetchMiss, DataMiss, ReadOnly, Address, Privileged, Raised, Dead, Done, cause_of}
use Rattle.private_machine.specs.PageMove.{used_for}
use Rattle.private_machine.specs.Reaching.{Reached, Wanted}
use Rattle.isolation_law.specs.CellUse.{used_frames}
use Rattle.isolation_law.specs.GuestState.{GuestState, processor}
use Rattle.isolation_law.specs.Needs.{for_lost}
use Rattle.isolation_law.specs.Parts.{Processor}
use Rattle.isolation_law.specs.Traps.{step_on}
use Rattle.guest_course.specs.declared.place.Place.{Place}
use Rattle.guest_course.specs.declared.course.Course.{Course}
use Rattle.guest_course.specs.CourseView.{processor_of, state_of}
use Rattle.guest_course.specs.CourseRules.{IsSound}
use Rattle.guest_course.specs.StepCalls.{LosesPage, MayStep, ReachesNoneLost, TrapsFor}
use Rattle.guest_course.proofs.PlaceLemmas.{loaded-below}
use Rattle.guest_course.proofs.RebackLemmas.{processor-at}

has-right : (cs ds : List Copy) (x : Copy) → Has ds x → Has (cs ++ ds) x
has-right [] ds x has = has
has-right (c ∷ cs) ds x has = inr (has-right cs ds x has)

-- the spares are used
pub last-used : (s : GuestState) (rest : List Copy) (x : Copy) → s.spares ≡ rest ++ x ∷ [] → Has (used_frames s) x
last-used s rest x is = has-right (flat_map used_for s.pages) s.spares x (subst (λ (l : List Copy). Has l x) (sym is) (has-right rest (x ∷ []) x (inl refl)))

-- ---- frames of failed cells

same-trap : (a b : Trap) → ◌≡◌ {A = Result Done Trap} (Err a) (Err b) → a ≡ b
same-trap a b e = cc

-- a processor that trapped for another cause traps for none
pub none-dead : (s : GuestState) (p v : ℕ) (cause : TrapCause) → TrapsFor s p v cause → ((frame : FrameNo) → cause ≡ causes.Dead frame → ⊥) → ReachesNoneLost s p v
none-dead s p v cause x other there w is =
    other (record { 0 = there.frame }) (sym x.told ∙ ap cause_of (same-trap x.trap (Dead there w) (sym x.traps ∙ is)))

-- so no page has to be collapsed
pub kept-live : (s : GuestState) (p v : ℕ) (trap : Trap) → ReachesNoneLost s p v → step_on s p v ≡ Err trap → for_lost s trap ≡ None
kept-live s p v Line live is = refl
kept-live s p v (FetchMiss w) live is = refl
kept-live s p v (DataMiss word w) live is = refl
kept-live s p v (ReadOnly word w) live is = refl
kept-live s p v (Address word) live is = refl
kept-live s p v (Privileged word) live is = refl
kept-live s p v (Raised x) live is = refl
kept-live s p v (Dead there w) live is = absurd (live there w is)

-- a trap that is told as one for such a frame
pub record IsFor (trap : Trap) (frame : FrameNo) : Type 0 where
  pub at : Reached
  pub access : Wanted
  pub is_dead : trap ≡ Dead at access
  pub frame_is : at.frame ≡ frame.0

pub dead-trap : (trap : Trap) (frame : FrameNo) → cause_of trap ≡ causes.Dead frame → IsFor trap frame
dead-trap Line frame e = absurd cc
dead-trap (FetchMiss w) frame e = absurd cc
dead-trap (DataMiss word w) frame e = absurd cc
dead-trap (ReadOnly word w) frame e = absurd cc
dead-trap (Address word) frame e = absurd cc
dead-trap (Privileged word) frame e = absurd cc
dead-trap (Raised x) frame e = absurd cc
dead-trap (Dead at w) frame e = record { at = at; access = w; is_dead = refl; frame_is = cc }

-- a half of the processor's TLB that names the frame names a page of which it is one
pub record NamesLost (c : Course) (p v q : ℕ) : Type 0 where
  pub is_page : q < length c.pmap.pages
  pub loses : LosesPage (state_of c) p v q

pub names-lost : (c : Course) (p v : ℕ) (frame : FrameNo) (x : Place) (q : ℕ) → IsSound c → MayStep (state_of c) p v → TrapsFor (state_of c) p v (causes.Dead frame) → x ≡ get_or c.places.items p x
    → (h : Half) → Has (halves x.tlb) h → h.frame ≡ frame.0 → h.page ≡ q → NamesLost c p v q
names-lost c p v frame x q sound may why at h has frame_is page_is =
    let s = state_of c in
    let co = (sound.going may.goes_on.not_ended).coherent in
    let here : processor s p ≡ processor_of x = processor-at c.places.items p x (loaded-below c.places.items p v may.runs.loaded) at in
    let there : Has (processor s p).tlb h = subst (λ (y : Processor). Has y.tlb h) (sym here) has in
    let backed = (co.consistent.on_page p h there).backed in
    let dead = dead-trap why.trap frame why.told in
    record {
      is_page = subst (λ (n : ℕ). n < length c.pmap.pages) page_is (co.consistent.within p h there);
      loses = record {
        trap = why.trap;
        traps = why.traps;
        loses = record {
          at = dead.at;
          access = dead.access;
          is_dead = dead.is_dead;
          copy = backed.0;
          its_own = subst (λ (n : ℕ). Has (copies (page_at c.pmap.pages n)) backed.0) page_is backed.1;
          is_it = backed.2 ∙ frame_is ∙ sym dead.frame_is;
        };
      };
    }

-- and there is such a half
abbrev pub LostHalf : Type 0
LostHalf = (s : GuestState) (p v : ℕ) (at : Reached) (w : Wanted) → step_on s p v ≡ Err (Dead at w) → (h : Half) × Has (processor s p).tlb h × (h.page ≡ at.page) × (h.frame ≡ at.frame)

pub some-half : LostHalf → (c : Course) (p v : ℕ) (frame : FrameNo) (x : Place) → MayStep (state_of c) p v → TrapsFor (state_of c) p v (causes.Dead frame) → x ≡ get_or c.places.items p x
    → ((h : Half) → Has (halves x.tlb) h → h.frame ≡ frame.0 → ⊥) → ⊥
some-half law c p v frame x may why at none =
    let s = state_of c in
    let here : processor s p ≡ processor_of x = processor-at c.places.items p x (loaded-below c.places.items p v may.runs.loaded) at in
    let dead = dead-trap why.trap frame why.told in
    let half = law s p v dead.at dead.access (why.traps ∙ ap Err dead.is_dead) in
    none half.0 (subst (λ (y : Processor). Has y.tlb half.0) here half.1) (half.3 ∙ dead.frame_is)
