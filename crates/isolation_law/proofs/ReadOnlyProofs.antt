-- A store that the guest grants on memory, and that traps, is into a page that is shared or has replicas.
use Rattle.std.proofs.Common.{◌≡◌, ◌≢◌, ◌⊎◌, ℕ, ◌/◌, ◌%◌, ◌==◌, if◌then◌else◌, Bool, true, false, not, ◌&&◌, List, Option, Some, None, Result, Ok, Err, refl, sym, ◌∙◌, ap, subst, inl, inr}
use Rattle.std.proofs.Common.{⊎_elim, [], length}
use Rattle.std.proofs.lemmas.Bool.{eqb-true}
use Rattle.std.specs.Prelude.{find}
use Rattle.private_machine.specs.PrivateMachine.{PrivateMachine}
use Rattle.base_words.specs.declared.exception.Exception.{Exception}
use Rattle.base_words.specs.declared.exception.Use.{Use}
use Rattle.base_words.specs.declared.exception.Use.TheVariants.{Fetch, Load, Store}
use Rattle.base_words.specs.declared.place.Place.TheVariants.{Memory}
use Rattle.base_words.specs.declared.regs.Regs.{Regs}
use Rattle.base_words.specs.declared.tlb.Entry.{Entry}
use Rattle.base_words.specs.Halves.{Half, is_of}
use Rattle.base_words.specs.Instruction.{Effect, effect}
use Rattle.base_words.specs.Membership.{Has}
use Rattle.base_words.specs.OpcodeMap.{decoded}
use Rattle.base_words.specs.Place.{Segment, Mapped, Direct, Outside, segment, is_store}
use Rattle.private_machine.specs.Backing.{Page}
use Rattle.private_machine.specs.RegisterPage.{redirected}
use Rattle.private_machine.specs.OwnStep.{led, is_privileged}
use Rattle.private_machine.specs.Reaching.{Wanted, Lack, NoRange, NoHalf, DeadFrame, NoStore, Sight, Reached, at_half, wanted, fetch_at, through_half, in_segment, reached, is_open_to}
use Rattle.private_machine.specs.HardwareStep.{Trap, Line, ReadOnly, Privileged, Done, fetch_trap, data_trap, with_data, asks_of, accesses, executes, fetches, hardware_step, word_through}
use Rattle.isolation_law.specs.Given.{IsIn, given}
use Rattle.isolation_law.specs.GuestState.{GuestState, page, processor, vcpu_of}
use Rattle.isolation_law.specs.Content.{content}
use Rattle.isolation_law.specs.Coherence.{HalfInTlb, IsDenied, Consistent}
use Rattle.isolation_law.specs.DirectStep.{with_inputs, sight}
use Rattle.isolation_law.specs.Traps.{step_on}
use Rattle.isolation_law.proofs.DirectProofs.{found-has, is_of-in}
use Rattle.isolation_law.proofs.DirectContent.{tlb-inputs, content-inputs}
use Rattle.isolation_law.proofs.TrapProofs.{led-joined}
use Rattle.isolation_law.proofs.RefillFacts.{place-given, store-load}

-- the half by which an access isn't a store
pub record Refusing (x : Sight) (w : Wanted) (h : Half) : Type 0 where
  pub has : Has x.tlb h
  pub is_for : is_of (w.address / 4096) x.asid h ≡ true
  pub stores : is_store w.purpose ≡ true
  pub closed : h.writable ≡ false

through-closed : (x : Sight) (w : Wanted) (o : Option Half) → through_half x w o ≡ Err NoStore → (h : Half) × (o ≡ Some h) × (is_store w.purpose ≡ true) × (h.writable ≡ false)
through-closed x w None e = cc
through-closed x w (Some h) e = by (x.lost h.frame) (is_store w.purpose) h.writable refl refl e
  where
    by : (lost store writes : Bool) → is_store w.purpose ≡ store → h.writable ≡ writes → (if lost then Err (DeadFrame (at_half h)) else if store && not writes then Err NoStore else Ok (at_half h)) ≡ Err NoStore → (g : Half) × (Some h ≡ Some g) × (is_store w.purpose ≡ true) × (g.writable ≡ false)
    by true store writes stores is e = cc
    by false true true stores is e = cc
    by false true false stores is e = (h, refl, stores, is)
    by false false writes stores is e = cc

pub reached-closed : (x : Sight) (w : Wanted) → reached x w ≡ Err NoStore → (h : Half) × Refusing x w h
reached-closed x w e = aligned (w.address % w.unit == 0) e
  where
    found : through_half x w (find (is_of (w.address / 4096) x.asid) x.tlb) ≡ Err NoStore → (h : Half) × Refusing x w h
    found e =
        let r = through-closed x w (find (is_of (w.address / 4096) x.asid) x.tlb) e in
        let f = found-has (is_of (w.address / 4096) x.asid) x.tlb r.0 r.1 in
        (r.0, record { has = f.0; is_for = f.1; stores = r.2; closed = r.3 })

    by_segment : (g : Segment) → in_segment x w g ≡ Err NoStore → (h : Half) × Refusing x w h
    by_segment Mapped e = found e
    by_segment Direct e = found e
    by_segment Outside e = cc

    aligned : (b : Bool) → (if b then in_segment x w (segment x.user w.address) else Err NoRange) ≡ Err NoStore → (h : Half) × Refusing x w h
    aligned true e = by_segment (segment x.user w.address) e
    aligned false e = cc

-- what such a trap says: it comes for the data access of an instruction that the guest may do
pub record Stored (x : Sight) (regs : Regs) (word : ℕ) (w : Wanted) : Type 0 where
  pub line : x.line ≡ false
  pub unprivileged : is_privileged word ≡ false
  pub does : Effect
  pub effects : effect (decoded word) regs ≡ Ok does
  pub wants : wanted (redirected (is_open_to x) does.request) ≡ Some w
  pub reach : reached x w ≡ Err NoStore

pub stored : (x : Sight) (pages : List Page) (regs : Regs) (word : ℕ) (w : Wanted) → hardware_step x pages regs ≡ Err (ReadOnly word w) → Stored x regs word w
stored x pages regs word w e = at-line x.line refl e
  where
    by-lack : (k : ℕ) (v : Wanted) (does : Effect) (lack : Lack) → x.line ≡ false → is_privileged k ≡ false → effect (decoded k) regs ≡ Ok does → wanted (redirected (is_open_to x) does.request) ≡ Some v → reached x v ≡ Err lack
        → ◌≡◌ {A = Result Done Trap} (Err (data_trap k v lack)) (Err (ReadOnly word w)) → Stored x regs word w
    by-lack k v does NoRange line free is asks reach e = cc
    by-lack k v does NoHalf line free is asks reach e = cc
    by-lack k v does (DeadFrame there) line free is asks reach e = cc
    by-lack k v does NoStore line free is asks reach e =
        let same : v ≡ w = cc in
        let number : k ≡ word = cc in
        record {
          line = line;
          unprivileged = ap is_privileged (sym number) ∙ free;
          does = does;
          effects = ap (λ (n : ℕ). effect (decoded n) regs) (sym number) ∙ is;
          wants = asks ∙ ap Some same;
          reach = subst (λ (z : Wanted). reached x z ≡ Err NoStore) same reach;
        }

    reaches : (k : ℕ) (at : Reached) (v : Wanted) (does : Effect) (r : Result Reached Lack) → x.line ≡ false → is_privileged k ≡ false → effect (decoded k) regs ≡ Ok does → wanted (redirected (is_open_to x) does.request) ≡ Some v → reached x v ≡ r
        → with_data k v at (asks_of x does) r ≡ Err (ReadOnly word w) → Stored x regs word w
    reaches k at v does (Err lack) line free is asks reach e = by-lack k v does lack line free is asks reach e
    reaches k at v does (Ok there) line free is asks reach e = cc

    asks-for : (k : ℕ) (at : Reached) (does : Effect) (o : Option Wanted) → x.line ≡ false → is_privileged k ≡ false → effect (decoded k) regs ≡ Ok does → wanted (redirected (is_open_to x) does.request) ≡ o
        → accesses x k at (asks_of x does) o ≡ Err (ReadOnly word w) → Stored x regs word w
    asks-for k at does None line free is asks e = cc
    asks-for k at does (Some v) line free is asks e = reaches k at v does (reached x v) line free is asks refl e

    does-it : (k : ℕ) (at : Reached) (r : Result Effect Exception) → x.line ≡ false → is_privileged k ≡ false → effect (decoded k) regs ≡ r → executes x k at r ≡ Err (ReadOnly word w) → Stored x regs word w
    does-it k at (Err y) line free is e = cc
    does-it k at (Ok does) line free is e = asks-for k at does (wanted (redirected (is_open_to x) does.request)) line free is refl e

    decides : (k : ℕ) (at : Reached) (b : Bool) → is_privileged k ≡ b → x.line ≡ false → (if b then Err (Privileged k) else executes x k at (effect (decoded k) regs)) ≡ Err (ReadOnly word w) → Stored x regs word w
    decides k at true free line e = cc
    decides k at false free line e = does-it k at (effect (decoded k) regs) line free refl e

    by-fetch : (lack : Lack) → ◌≡◌ {A = Result Done Trap} (Err (fetch_trap (fetch_at regs.pc) lack)) (Err (ReadOnly word w)) → Stored x regs word w
    by-fetch NoRange e = cc
    by-fetch NoHalf e = cc
    by-fetch (DeadFrame there) e = cc
    by-fetch NoStore e = cc

    fetch : (r : Result Reached Lack) → x.line ≡ false → fetches x pages regs r ≡ Err (ReadOnly word w) → Stored x regs word w
    fetch (Err lack) line e = by-fetch lack e
    fetch (Ok at) line e = decides (word_through pages at regs.pc) at (is_privileged (word_through pages at regs.pc)) refl line e

    at-line : (b : Bool) → x.line ≡ b → (if b then Err Line else fetches x pages regs (reached x (fetch_at regs.pc))) ≡ Err (ReadOnly word w) → Stored x regs word w
    at-line true line e = cc
    at-line false line e = fetch (reached x (fetch_at regs.pc)) line e

store-purpose : (purpose : Use) → is_store purpose ≡ true → purpose ≡ Store
store-purpose Fetch e = cc
store-purpose Load e = cc
store-purpose Store e = refl

-- what a half's own address space says of a store, another that it is of says too
said-in : (pages : ℕ) (tlb : List Entry) (h : Half) (asid : ℕ) → HalfInTlb pages tlb h → IsIn h.global h.asid asid → given pages tlb h.asid Store h.number ≡ given pages tlb asid Store h.number
said-in pages tlb h asid rule is = by h.global refl is
  where
    by : (b : Bool) → h.global ≡ b → IsIn b h.asid asid → given pages tlb h.asid Store h.number ≡ given pages tlb asid Store h.number
    by true global is = rule.alike global h.asid asid Store
    by false global is = ap (λ (n : ℕ). given pages tlb n Store h.number) (eqb-true h.asid asid is)

pub read-only : (s : GuestState) (p v word : ℕ) (w : Wanted) (offset : ℕ) → Consistent s → (processor s p).loaded ≡ Some v → step_on s p v ≡ Err (ReadOnly word w)
    → led (content s) v w.unit w.purpose w.address ≡ Ok (Memory offset) → ((page s (offset / 4096)).shared ≡ true) ⊎ ((page s (offset / 4096)).replicas ≢ [])
read-only s p v word w offset co runs e leads =
    let u = with_inputs s v in
    let x = sight u p v in
    let r = reached-closed x w (stored x u.pages (vcpu_of u v).registers word w e).reach in
    let h = r.0 in
    let tlb = (vcpu_of u v).tlb in
    let pages = length s.pages in
    let is = is_of-in (w.address / 4096) x.asid h r.1.is_for in
    let rule : HalfInTlb pages tlb h = subst (λ (l : List Entry). HalfInTlb pages l h) (tlb-inputs s v) (co.in_tlb p v h r.1.has runs) in
    let denied : IsDenied pages tlb (page s h.page) h = subst (λ (l : List Entry). IsDenied pages l (page s h.page) h) (tlb-inputs s v) (co.exact p v h r.1.has runs r.1.closed) in
    let purpose = store-purpose w.purpose r.1.stores in
    let there : led (content u) v w.unit Store w.address ≡ Ok (Memory offset) =
    ap (λ (z : PrivateMachine). led z v w.unit Store w.address) (content-inputs s v) ∙ led-joined (content s) v w.unit Store w.address
    ∙ subst (λ (z : Use). led (content s) v w.unit z w.address ≡ Ok (Memory offset)) purpose leads in
    let stored : given pages tlb x.asid Store h.number ≡ Some (offset / 4096) =
    subst (λ (n : ℕ). given pages tlb x.asid Store n ≡ Some (offset / 4096)) (sym is.0) (place-given x.user tlb x.asid pages w.unit Store w.address offset there) in
    let same : h.page ≡ offset / 4096 = some-same h.page (offset / 4096) (sym (rule.readable x.asid is.1) ∙ store-load tlb x.asid pages h.number (offset / 4096) stored) in
    subst (λ (q : ℕ). ((page s q).shared ≡ true) ⊎ ((page s q).replicas ≢ [])) same
    (⊎_elim
    (λ (shared : (page s h.page).shared ≡ true). inl shared)
    (λ (rest : ((page s h.page).replicas ≢ []) ⊎ (given pages tlb h.asid Store h.number ≡ None)). ⊎_elim
    (λ (some : (page s h.page).replicas ≢ []). inr some)
    (λ (none : given pages tlb h.asid Store h.number ≡ None). absurd (some-none (offset / 4096) (sym stored ∙ sym (said-in pages tlb h x.asid rule is.1) ∙ none)))
    rest)
    denied)
  where
    some-same : (a b : ℕ) → Some a ≡ Some b → a ≡ b
    some-same a b e = cc

    some-none : (a : ℕ) → Some a ≡ None → ⊥
    some-none a e = cc
