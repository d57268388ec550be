-- A dead frame for which the hardware traps is a replica of its page.
use Rattle.std.proofs.Common.{◌≡◌, ◌≢◌, ℕ, ◌+◌, ◌*◌, ◌<◌, ◌%◌, ◌/◌, ◌==◌, if◌then◌else◌, Bool, true, false, not, ◌&&◌, ⊎_elim, List, [], length, Option, Some, None, Result, Ok, Err, refl, sym, ◌∙◌, ap, subst, true≢false}
use Rattle.std.specs.Prelude.{find}
use Rattle.base_words.specs.declared.exception.Exception.{Exception}
use Rattle.base_words.specs.declared.exception.Use.TheVariants.{Load}
use Rattle.base_words.specs.declared.place.Place.TheVariants.{Memory}
use Rattle.base_words.specs.declared.regs.Regs.{Regs}
use Rattle.base_words.specs.Halves.{Half, is_of}
use Rattle.base_words.specs.Instruction.{Effect, effect}
use Rattle.base_words.specs.Membership.{Has}
use Rattle.base_words.specs.OpcodeMap.{decoded}
use Rattle.base_words.specs.Place.{Segment, Mapped, Direct, Outside, segment, is_store}
use Rattle.private_machine.specs.Backing.{Copy, Page}
use Rattle.private_machine.specs.OwnStep.{led, is_privileged}
use Rattle.private_machine.specs.PrivateMachine.{PrivateMachine}
use Rattle.private_machine.specs.Reaching.{Wanted, Lack, NoRange, NoHalf, DeadFrame, NoStore, Sight, Reached, at_half, wanted, fetch_at, through_half, in_segment, reached}
use Rattle.private_machine.specs.HardwareStep.{Trap, Line, Dead, Privileged, Done, fetch_trap, data_trap, with_data, asks_of, accesses, executes, fetches, hardware_step, word_through}
use Rattle.isolation_law.specs.GuestState.{GuestState, page, processor, vcpu_of, is_dead}
use Rattle.isolation_law.specs.Surroundings.{cell_of_frame}
use Rattle.isolation_law.specs.Coherence.{Consistent}
use Rattle.isolation_law.specs.Content.{content}
use Rattle.isolation_law.specs.LiveCells.{UsesLive}
use Rattle.isolation_law.specs.Phases.{GoesOn}
use Rattle.isolation_law.specs.DirectStep.{with_inputs, sight}
use Rattle.isolation_law.specs.Traps.{step_on}
use Rattle.isolation_law.proofs.DirectContent.{content-inputs, led-through}
use Rattle.isolation_law.proofs.DirectProofs.{ByHalf, found-has}
use Rattle.isolation_law.proofs.LiveCellProofs.{goes-on-alive, master-lives}
use Rattle.isolation_law.proofs.TrapProofs.{led-joined}

-- the half by which a dead frame was reached, for this access
pub record Losing (x : Sight) (w : Wanted) (at : Reached) : Type 0 where
  pub half : Half
  pub aligned : (w.address % w.unit == 0) ≡ true
  pub inside : segment x.user w.address ≢ Outside
  pub has : Has x.tlb half
  pub is_for : is_of (w.address / 4096) x.asid half ≡ true
  pub reaches : at ≡ at_half half
  pub lost : x.lost half.frame ≡ true

dead-same : (a b : Reached) → ◌≡◌ {A = Result Reached Lack} (Err (DeadFrame a)) (Err (DeadFrame b)) → a ≡ b
dead-same a b e = cc

through-dead : (x : Sight) (w : Wanted) (at : Reached) (o : Option Half) → through_half x w o ≡ Err (DeadFrame at) → (h : Half) × (o ≡ Some h) × (at ≡ at_half h) × (x.lost h.frame ≡ true)
through-dead x w at None e = cc
through-dead x w at (Some h) e = by (x.lost h.frame) (is_store w.purpose && not h.writable) refl e
  where
    by : (lost closed : Bool) → x.lost h.frame ≡ lost → (if lost then Err (DeadFrame (at_half h)) else if closed then Err NoStore else Ok (at_half h)) ≡ Err (DeadFrame at) → (g : Half) × (Some h ≡ Some g) × (at ≡ at_half g) × (x.lost g.frame ≡ true)
    by true closed is e = (h, refl, sym (dead-same (at_half h) at e), is)
    by false true is e = cc
    by false false is e = cc

reached-dead : (x : Sight) (w : Wanted) (at : Reached) → reached x w ≡ Err (DeadFrame at) → Losing x w at
reached-dead x w at e = aligned_case (w.address % w.unit == 0) refl e
  where
    found : (g : Segment) → segment x.user w.address ≡ g → g ≢ Outside → (w.address % w.unit == 0) ≡ true → through_half x w (find (is_of (w.address / 4096) x.asid) x.tlb) ≡ Err (DeadFrame at) → Losing x w at
    found g is inside fits e =
        let r = through-dead x w at (find (is_of (w.address / 4096) x.asid) x.tlb) e in
        let f = found-has (is_of (w.address / 4096) x.asid) x.tlb r.0 r.1 in
        record { half = r.0; aligned = fits; inside = λ out. inside (sym is ∙ out); has = f.0; is_for = f.1; reaches = r.2; lost = r.3 }

    by_segment : (g : Segment) → segment x.user w.address ≡ g → (w.address % w.unit == 0) ≡ true → in_segment x w g ≡ Err (DeadFrame at) → Losing x w at
    by_segment Mapped is fits e = found Mapped is (λ out. cc) fits e
    by_segment Direct is fits e = found Direct is (λ out. cc) fits e
    by_segment Outside is fits e = cc

    aligned_case : (b : Bool) → (w.address % w.unit == 0) ≡ b → (if b then in_segment x w (segment x.user w.address) else Err NoRange) ≡ Err (DeadFrame at) → Losing x w at
    aligned_case true fits e = by_segment (segment x.user w.address) refl fits e
    aligned_case false fits e = cc

-- a step traps so for its fetch, or for its data access
pub step-dead : (x : Sight) (pages : List Page) (regs : Regs) (at : Reached) (w : Wanted) → hardware_step x pages regs ≡ Err (Dead at w) → Losing x w at
step-dead x pages regs at w e = line x.line e
  where
    lost-by : (v : Wanted) (there : Reached) → reached x v ≡ Err (DeadFrame there) → ◌≡◌ {A = Result Done Trap} (Err (Dead there v)) (Err (Dead at w)) → Losing x w at
    lost-by v there is e =
        let same : there ≡ at = cc in
        let for_it : v ≡ w = cc in
        subst (λ (y : Wanted × Reached). Losing x y.0 y.1) (λ i. (for_it i, same i)) (reached-dead x v there is)

    by-lack : (k : ℕ) (v : Wanted) (lack : Lack) → reached x v ≡ Err lack → ◌≡◌ {A = Result Done Trap} (Err (data_trap k v lack)) (Err (Dead at w)) → Losing x w at
    by-lack k v NoRange is e = cc
    by-lack k v NoHalf is e = cc
    by-lack k v (DeadFrame there) is e = lost-by v there is e
    by-lack k v NoStore is e = cc

    reaches : (k : ℕ) (from : Reached) (does : Effect) (v : Wanted) (r : Result Reached Lack) → reached x v ≡ r → with_data k v from does r ≡ Err (Dead at w) → Losing x w at
    reaches k from does v (Err lack) is e = by-lack k v lack is e
    reaches k from does v (Ok there) is e = cc

    asks : (k : ℕ) (from : Reached) (does : Effect) (o : Option Wanted) → accesses x k from does o ≡ Err (Dead at w) → Losing x w at
    asks k from does None e = cc
    asks k from does (Some v) e = reaches k from does v (reached x v) refl e

    does-it : (k : ℕ) (from : Reached) (r : Result Effect Exception) → executes x k from r ≡ Err (Dead at w) → Losing x w at
    does-it k from (Err y) e = cc
    does-it k from (Ok does) e = asks k from (asks_of x does) (wanted (asks_of x does).request) e

    decides : (k : ℕ) (from : Reached) (b : Bool) → (if b then Err (Privileged k) else executes x k from (effect (decoded k) regs)) ≡ Err (Dead at w) → Losing x w at
    decides k from true e = cc
    decides k from false e = does-it k from (effect (decoded k) regs) e

    by-fetch : (lack : Lack) → reached x (fetch_at regs.pc) ≡ Err lack → ◌≡◌ {A = Result Done Trap} (Err (fetch_trap (fetch_at regs.pc) lack)) (Err (Dead at w)) → Losing x w at
    by-fetch NoRange is e = cc
    by-fetch NoHalf is e = cc
    by-fetch (DeadFrame there) is e = lost-by (fetch_at regs.pc) there is e
    by-fetch NoStore is e = cc

    fetch : (r : Result Reached Lack) → reached x (fetch_at regs.pc) ≡ r → fetches x pages regs r ≡ Err (Dead at w) → Losing x w at
    fetch (Err lack) is e = by-fetch lack is e
    fetch (Ok from) is e = decides (word_through pages from regs.pc) from (is_privileged (word_through pages from regs.pc)) e

    line : (b : Bool) → (if b then Err Line else fetches x pages regs (reached x (fetch_at regs.pc))) ≡ Err (Dead at w) → Losing x w at
    line true e = cc
    line false e = fetch (reached x (fetch_at regs.pc)) refl e

-- the frame is one of the page's replicas, as its master lives; so the page isn't shared
abbrev IsReplica : GuestState → Reached → Type 0
IsReplica s at = (at.page < length s.pages) × ((page s at.page).shared ≡ false) × ((c : Copy) × Has (page s at.page).replicas c × (c.frame ≡ at.frame))

lost-at : (s : GuestState) (p v : ℕ) (at : Reached) (w : Wanted) → Consistent s → UsesLive s → GoesOn s → (processor s p).loaded ≡ Some v → step_on s p v ≡ Err (Dead at w) → IsReplica s at
lost-at s p v at w co live on runs e =
    let u = with_inputs s v in
    let r = step-dead (sight u p v) u.pages (vcpu_of u v).registers at w e in
    let h = r.half in
    let g = page s h.page in
    let lt = co.within p h r.has in
    let on_page = co.on_page p h r.has in
    let lives = master-lives s h.page (goes-on-alive s live on) lt in
    let dead : is_dead s (cell_of_frame s.around h.frame) ≡ true = r.lost in
    let replica : Has g.replicas on_page.backed.0 = ⊎_elim
    (λ (same : g.master ≡ on_page.backed.0). absurd (true≢false (sym dead ∙ ap (λ (f : ℕ). is_dead s (cell_of_frame s.around f)) (sym on_page.backed.2 ∙ ap (λ (c : Copy). c.frame) (sym same)) ∙ lives)))
    (λ later. later)
    on_page.backed.1 in
    let own : (b : Bool) → g.shared ≡ b → b ≡ false = λ b. elim b as (λ b. g.shared ≡ b → b ≡ false) [
      | true ↦ λ shared. absurd (subst (λ (l : List Copy). Has l on_page.backed.0) ((co.by_page h.page lt).single shared) replica)
      | false ↦ λ shared. refl
    ] in
    subst (IsReplica s) (sym r.reaches) (lt, own g.shared refl, (on_page.backed.0, replica, on_page.backed.2))

pub lost-replica : (s : GuestState) (p v : ℕ) (at : Reached) (w : Wanted) → Consistent s → UsesLive s → GoesOn s → (processor s p).loaded ≡ Some v → step_on s p v ≡ Err (Dead at w) → (at.page < length s.pages) × ((page s at.page).shared ≡ false) × ((page s at.page).replicas ≢ [])
lost-replica s p v at w co live on runs e =
    let r = lost-at s p v at w co live on runs e in
    (r.0, r.1, λ none. subst (λ (l : List Copy). Has l r.2.0) none r.2.1)

pub lost-frame : (s : GuestState) (p v : ℕ) (at : Reached) (w : Wanted) → Consistent s → UsesLive s → GoesOn s → (processor s p).loaded ≡ Some v → step_on s p v ≡ Err (Dead at w) → (c : Copy) × Has (page s at.page).replicas c × (c.frame ≡ at.frame)
lost-frame s p v at w co live on runs e = (lost-at s p v at w co live on runs e).2

-- a half of the processor's TLB leads there
pub lost-half : (s : GuestState) (p v : ℕ) (at : Reached) (w : Wanted) → step_on s p v ≡ Err (Dead at w) → (h : Half) × Has (processor s p).tlb h × (h.page ≡ at.page) × (h.frame ≡ at.frame)
lost-half s p v at w e =
    let u = with_inputs s v in
    let r = step-dead (sight u p v) u.pages (vcpu_of u v).registers at w e in
    (r.half, r.has, ap (λ (a : Reached). a.page) (sym r.reaches), ap (λ (a : Reached). a.frame) (sym r.reaches))

-- the guest itself says that the access leads to this page, as a load
pub lost-leads : (s : GuestState) (p v : ℕ) (at : Reached) (w : Wanted) → Consistent s → (processor s p).loaded ≡ Some v → step_on s p v ≡ Err (Dead at w) → led (content s) v w.unit Load w.address ≡ Ok (Memory (at.page * 4096 + w.address % 4096))
lost-leads s p v at w co runs e =
    let u = with_inputs s v in
    let r = step-dead (sight u p v) u.pages (vcpu_of u v).registers at w e in
    let load : Wanted = record w { purpose = Load } in
    let by_half : ByHalf (sight u p v) load r.half = record { aligned = r.aligned; inside = r.inside; has = r.has; is_for = r.is_for; permits = λ stores. cc } in
    sym (led-joined (content s) v w.unit Load w.address)
    ∙ ap (λ (m : PrivateMachine). led m v w.unit Load w.address) (sym (content-inputs s v))
    ∙ led-through s p v load r.half co runs by_half
    ∙ ap (λ (a : Reached). Ok (Memory (a.page * 4096 + w.address % 4096))) (sym r.reaches)
