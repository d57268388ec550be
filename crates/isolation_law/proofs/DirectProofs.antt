-- A step through the TLB is the guest's own step.
use Rattle.std.proofs.Common.{Result, ◌&&◌, not, ◌≡◌, ◌≢◌, ℕ, suc, ◌+◌, ◌-◌, ◌*◌, ◌/◌, ◌%◌, ◌<◌, ◌≤◌, ◌==◌, Bool, true, false, if◌then◌else◌, cond, inl, inr, ⊎_elim, Option, Some, None, Ok, Err, List, [], ◌∷◌, length, get_or, refl, sym, ap, ◌∙◌, subst, arith, true≢false}
use Rattle.std.specs.Prelude.{find}
use Rattle.std.proofs.lemmas.Bool.{eqb-true, eq-eqb}
use Rattle.base_words.specs.declared.exception.Exception.TheVariants.{AddressError}
use Rattle.base_words.specs.declared.exception.Use.{Use}
use Rattle.base_words.specs.declared.exception.Use.TheVariants.{Fetch, Load, Store}
use Rattle.base_words.specs.declared.place.Place.TheVariants.{Memory}
use Rattle.base_words.specs.declared.tlb.Entry.{Entry}
use Rattle.base_words.specs.declared.tlb.TlbAnswer.{TlbAnswer}
use Rattle.base_words.specs.declared.tlb.TlbAnswer.TheVariants.{Hit, Miss, Invalid, ReadOnly}
use Rattle.base_words.specs.Memory.{word_at}
use Rattle.base_words.specs.Tlb.{looked_up}
use Rattle.base_words.specs.Place.{Segment, Mapped, Direct, Outside, segment, is_store, physical, through_tlb, translated, place}
use Rattle.base_words.specs.Halves.{Half, is_of}
use Rattle.base_words.specs.Membership.{Has}
use Rattle.private_machine.specs.Backing.{Copy, Page, copies, bytes_in, bytes_through, no_page}
use Rattle.private_machine.specs.Reaching.{Lack, Reached, at_half, DeadFrame, NoStore, Wanted, NoRange, Sight, through_half, in_segment, reached}
use Rattle.private_machine.specs.HardwareStep.{word_through}
use Rattle.private_machine.specs.Links.{word_offset}
use Rattle.isolation_law.specs.Coherence.{HalfInTlb, HalfOnPage, Consistent}
use Rattle.isolation_law.specs.Given.{page_of, given, IsIn}
use Rattle.isolation_law.specs.Content.{content}
use Rattle.isolation_law.specs.GuestState.{GuestState, page, processor}
use Rattle.isolation_law.proofs.Memory.{Even, flat_big}
use Rattle.isolation_law.proofs.PlaceProofs.{given-place, user-place}

-- what is found is in the list and passes
pub found-has : (test : Half → Bool) (hs : List Half) (h : Half) → find test hs ≡ Some h → Has hs h × (test h ≡ true)
found-has test [] h e = cc
found-has test (x ∷ xs) h e = (elim (test x) as (λ b. test x ≡ b → cond b (Some x) (find test xs) ≡ Some h → Has (x ∷ xs) h × (test h ≡ true)) [
  | true ↦ λ yes e. let same : x ≡ h = cc in (inl same, subst (λ (z : Half). test z ≡ true) same yes)
  | false ↦ λ not_it e. let r = found-has test xs h e in (inr r.0, r.1)
]) refl e

-- what is known of the half by which an access was made
pub record ByHalf (x : Sight) (w : Wanted) (h : Half) : Type 0 where
  pub aligned : (w.address % w.unit == 0) ≡ true
  pub inside : segment x.user w.address ≢ Outside
  pub has : Has x.tlb h
  pub is_for : is_of (w.address / 4096) x.asid h ≡ true
  pub permits : is_store w.purpose ≡ true → h.writable ≡ true

ok-same : (a b : Reached) → ◌≡◌ {A = Result Reached Lack} (Ok a) (Ok b) → a ≡ b
ok-same a b e = cc

through-ok : (x : Sight) (w : Wanted) (o : Option Half) (at : Reached) → through_half x w o ≡ Ok at → (h : Half) × (o ≡ Some h) × (at ≡ at_half h) × (is_store w.purpose ≡ true → h.writable ≡ true)
through-ok x w None at e = cc
through-ok x w (Some g) at e = by (x.lost g.frame) (is_store w.purpose) g.writable refl e
  where
    by : (lost store : Bool) (b : Bool) → g.writable ≡ b → (if lost then Err (DeadFrame (at_half g)) else if store && not b then Err NoStore else Ok (at_half g)) ≡ Ok at → (h : Half) × (Some g ≡ Some h) × (at ≡ at_half h) × (store ≡ true → h.writable ≡ true)
    by true store b is e = cc
    by false true true is e = (g, refl, sym (ok-same (at_half g) at e), λ yes. is)
    by false true false is e = cc
    by false false b is e = (g, refl, sym (ok-same (at_half g) at e), λ yes. absurd (true≢false (sym yes)))

pub reached-ok : (x : Sight) (w : Wanted) (at : Reached) → reached x w ≡ Ok at → (h : Half) × (at ≡ at_half h) × ByHalf x w h
reached-ok x w at e = aligned_case (w.address % w.unit == 0) refl e
  where
    found : (g : Segment) → segment x.user w.address ≡ g → g ≢ Outside → (w.address % w.unit == 0) ≡ true → through_half x w (find (is_of (w.address / 4096) x.asid) x.tlb) ≡ Ok at → (h : Half) × (at ≡ at_half h) × ByHalf x w h
    found g is inside fits e =
        let r = through-ok x w (find (is_of (w.address / 4096) x.asid) x.tlb) at e in
        let f = found-has (is_of (w.address / 4096) x.asid) x.tlb r.0 r.1 in
        (r.0, r.2, record { aligned = fits; inside = λ out. inside (sym is ∙ out); has = f.0; is_for = f.1; permits = r.3 })

    by_segment : (g : Segment) → segment x.user w.address ≡ g → (w.address % w.unit == 0) ≡ true → in_segment x w g ≡ Ok at → (h : Half) × (at ≡ at_half h) × ByHalf x w h
    by_segment Mapped is fits e = found Mapped is (λ out. cc) fits e
    by_segment Direct is fits e = found Direct is (λ out. cc) fits e
    by_segment Outside is fits e = cc

    aligned_case : (b : Bool) → (w.address % w.unit == 0) ≡ b → (if b then in_segment x w (segment x.user w.address) else Err NoRange) ≡ Ok at → (h : Half) × (at ≡ at_half h) × ByHalf x w h
    aligned_case true fits e = by_segment (segment x.user w.address) refl fits e
    aligned_case false fits e = cc

-- the address spaces that a half is of
pub is_of-in : (number asid : ℕ) (h : Half) → is_of number asid h ≡ true → (h.number ≡ number) × IsIn h.global h.asid asid
is_of-in number asid h e = grind (arith, eqb-true h.number number)

-- a fetch is granted where a load is
physical-fetch : (pages a : ℕ) → page_of (physical pages Fetch a) ≡ page_of (physical pages Load a)
physical-fetch pages a = grind arith

tlb-fetch : (pages a : ℕ) (answer : TlbAnswer) → page_of (through_tlb pages Fetch a answer) ≡ page_of (through_tlb pages Load a answer)
tlb-fetch pages a (Hit frame) = physical-fetch pages (frame * 4096 + a % 4096)
tlb-fetch pages a Miss = refl
tlb-fetch pages a Invalid = refl
tlb-fetch pages a ReadOnly = refl

segment-fetch : (entries : List Entry) (asid pages a : ℕ) (g : Segment) → page_of (translated (record { user = false; asid = asid; entries = entries }) pages Fetch a g) ≡ page_of (translated (record { user = false; asid = asid; entries = entries }) pages Load a g)
segment-fetch entries asid pages a Mapped = tlb-fetch pages a (looked_up entries a asid false)
segment-fetch entries asid pages a Direct = physical-fetch pages (a - 0xC000_0000)
segment-fetch entries asid pages a Outside = refl

pub given-fetch : (entries : List Entry) (asid pages number : ℕ) → given pages entries asid Fetch number ≡ given pages entries asid Load number
given-fetch entries asid pages number =
    elim (number * 4096 % 4096 == 0) as (λ b. page_of (if b then translated (record { user = false; asid = asid; entries = entries }) pages Fetch (number * 4096) (segment false (number * 4096)) else Err (AddressError Fetch (number * 4096))) ≡ page_of (if b then translated (record { user = false; asid = asid; entries = entries }) pages Load (number * 4096) (segment false (number * 4096)) else Err (AddressError Load (number * 4096)))) [
      | true ↦ segment-fetch entries asid pages (number * 4096) (segment false (number * 4096))
      | false ↦ refl
    ]

-- a half against the guest's TLB, for each use
pub half-given : (pages : ℕ) (tlb : List Entry) (h : Half) (purpose : Use) (asid : ℕ) → HalfInTlb pages tlb h → IsIn h.global h.asid asid → (is_store purpose ≡ true → h.writable ≡ true) → given pages tlb asid purpose h.number ≡ Some h.page
half-given pages tlb h Fetch asid rule is permits = given-fetch tlb asid pages h.number ∙ rule.readable asid is
half-given pages tlb h Load asid rule is permits = rule.readable asid is
half-given pages tlb h Store asid rule is permits = rule.granted (permits refl) asid is

-- where an access through a half leads, for the guest
pub reached-place : (x : Sight) (pages : ℕ) (tlb : List Entry) (w : Wanted) (h : Half) → ByHalf x w h → HalfInTlb pages tlb h
    → place (record { user = x.user; asid = x.asid; entries = tlb }) pages w.unit w.purpose w.address ≡ Ok (Memory (h.page * 4096 + w.address % 4096))
reached-place x pages tlb w h r rule =
    let o = is_of-in (w.address / 4096) x.asid h r.is_for in
    user-place x.user tlb x.asid pages w.unit w.purpose w.address r.inside
    ∙ given-place tlb x.asid pages w.unit w.purpose w.address h.page r.aligned
    (subst (λ n. given pages tlb x.asid w.purpose n ≡ Some h.page) o.0 (half-given pages tlb h w.purpose x.asid rule o.1 r.permits))

-- the bytes behind a half are the master's
bytes_in-equal : (cs : List Copy) (frame : ℕ) (bytes : List ℕ) → ((c : Copy) → Has cs c → c.bytes ≡ bytes) → (c : Copy) → Has cs c → c.frame ≡ frame → bytes_in cs frame ≡ bytes
bytes_in-equal [] frame bytes all c has e = absurd has
bytes_in-equal (d ∷ ds) frame bytes all c has e = (elim (d.frame == frame) as (λ b. (d.frame == frame) ≡ b → (if b then d.bytes else bytes_in ds frame) ≡ bytes) [
  | true ↦ λ yes. all d (inl refl)
  | false ↦ λ other. ⊎_elim
      (λ (same : d ≡ c). absurd (true≢false (sym (eq-eqb d.frame frame (ap (λ (z : Copy). z.frame) same ∙ e)) ∙ other)))
      (λ later. bytes_in-equal ds frame bytes (λ z h. all z (inr h)) c later e)
      has
]) refl

pub bytes_through-master : (g : Page) (p : ℕ) (h : Half) → ((c : Copy) → Has g.replicas c → c.bytes ≡ g.master.bytes) → HalfOnPage g p h → bytes_through g h.frame ≡ g.master.bytes
bytes_through-master g p h equal on =
    bytes_in-equal (copies g) h.frame g.master.bytes (λ c has. ⊎_elim (λ (same : g.master ≡ c). ap (λ (z : Copy). z.bytes) (sym same)) (equal c) has) on.backed.0 on.backed.1 on.backed.2

-- the pages are all whole
pub even : (s : GuestState) → Consistent s → Even 4096 (λ (g : Page). g.master.bytes) s.pages
even s co = all s.pages (λ q lt. (co.by_page q lt).whole)
  where
    all : (gs : List Page) → ((q : ℕ) → q < length gs → length (get_or gs q no_page).master.bytes ≡ 4096) → Even 4096 (λ (g : Page). g.master.bytes) gs
    all [] h = tt
    all (g ∷ gs) h = (h 0 (omega arith), all gs (λ q lt. h (suc q) (omega arith)))

-- the word around an address behind a half is the guest's
pub word-through : (s : GuestState) (p : ℕ) (h : Half) (a : ℕ) → Consistent s → Has (processor s p).tlb h → word_at (content s).memory (word_offset (h.page * 4096 + a % 4096)) ≡ word_through s.pages (at_half h) a
word-through s p h a co has =
    let lt = co.within p h has in
    let rule = co.by_page h.page lt in
    let o = word_offset (a % 4096) in
    let at : word_offset (h.page * 4096 + a % 4096) ≡ h.page * 4096 + o = omega arith in
    let room : o + 4 ≤ 4096 = omega arith in
    ap (λ n. word_at (content s).memory n) at
    ∙ flat_big (λ (g : Page). g.master.bytes) 4096 s.pages h.page o 4 no_page (even s co) lt room
    ∙ ap (λ (b : List ℕ). word_at b o) (sym (bytes_through-master (page s h.page) p h rule.equal (co.on_page p h has)))
