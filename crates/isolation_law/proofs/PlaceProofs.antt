-- Where an address leads, by what the guest's TLB says of its page.
use Rattle.std.proofs.Common.{◌≡◌, ◌≢◌, ℕ, ◌+◌, ◌-◌, ◌*◌, ◌/◌, ◌%◌, ◌<◌, ◌≤◌, ◌==◌, Bool, true, false, if◌then◌else◌, ⊎_elim, Option, Some, None, Ok, Err, List, refl, ap, ◌∙◌, subst, arith}
use Rattle.std.specs.Prelude.{find}
use Rattle.base_words.specs.declared.exception.Exception.TheVariants.{AddressError}
use Rattle.std.proofs.lemmas.Bool.{ltb-true, lt-ltb, cases_lt}
use Rattle.base_words.specs.declared.exception.Use.{Use}
use Rattle.base_words.specs.declared.place.Place.TheVariants.{Memory}
use Rattle.base_words.specs.declared.tlb.Entry.{Entry}
use Rattle.base_words.specs.declared.tlb.TlbAnswer.{TlbAnswer}
use Rattle.base_words.specs.declared.tlb.TlbAnswer.TheVariants.{Hit, Miss, Invalid, ReadOnly}
use Rattle.base_words.specs.Tlb.{page_pair, is_odd, matches, permitted, answer, looked_up}
use Rattle.base_words.specs.Place.{Segment, Mapped, Direct, Outside, segment, physical, is_store, through_tlb, translated, place}
use Rattle.isolation_law.specs.Given.{page_of, given}

-- the first address of the page
abbrev pub base : ℕ → ℕ
base address = address / 4096 * 4096

pub pair-base : (a : ℕ) → page_pair (base a) ≡ page_pair a
pair-base a = ap (λ n. n % 524288) (omega arith)

odd-base : (a : ℕ) → is_odd (base a) ≡ is_odd a
odd-base a = ap (λ n. n % 2 == 1) (omega arith)

answer-base : (a : ℕ) (store : Bool) (o : Option Entry) → answer (base a) store o ≡ answer a store o
answer-base a store None = refl
answer-base a store (Some e) = ap (λ b. permitted store (if b then e.lo1 else e.lo0)) (odd-base a)

pub looked_up-base : (entries : List Entry) (a asid : ℕ) (store : Bool) → looked_up entries (base a) asid store ≡ looked_up entries a asid store
looked_up-base entries a asid store =
    answer-base a store (find (matches (page_pair (base a)) asid) entries)
    ∙ ap (λ n. answer a store (find (matches n asid) entries)) (pair-base a)

pub segment-base : (a : ℕ) → segment false (base a) ≡ segment false a
segment-base a = grind (arith, ltb-true a 0x8000_0000, ltb-true (base a) 0x8000_0000)

-- by a physical address
page_of-physical : (pages : ℕ) (purpose : Use) (a q : ℕ) → page_of (physical pages purpose (base a)) ≡ Some q → physical pages purpose a ≡ Ok (Memory a) × (q ≡ a / 4096)
page_of-physical pages purpose a q e =
    let same : base a / 4096 ≡ a / 4096 = omega arith in
    grind arith

-- the place of an address, by that of its page
physical-place : (pages : ℕ) (purpose : Use) (frame a q : ℕ) → page_of (physical pages purpose (frame * 4096 + base a % 4096)) ≡ Some q → physical pages purpose (frame * 4096 + a % 4096) ≡ Ok (Memory (q * 4096 + a % 4096))
physical-place pages purpose frame a q e =
    let b = frame * 4096 + a % 4096 in
    let low : frame * 4096 + base a % 4096 ≡ base b = omega arith in
    let r = page_of-physical pages purpose b q (subst (λ n. page_of (physical pages purpose n) ≡ Some q) low e) in
    let whole : b ≡ q * 4096 + a % 4096 = let at = r.1 in omega arith in
    r.0 ∙ ap (λ n. Ok (Memory n)) whole

tlb-place : (pages : ℕ) (purpose : Use) (answer : TlbAnswer) (a q : ℕ) → page_of (through_tlb pages purpose (base a) answer) ≡ Some q → through_tlb pages purpose a answer ≡ Ok (Memory (q * 4096 + a % 4096))
tlb-place pages purpose (Hit frame) a q e = physical-place pages purpose frame a q e
tlb-place pages purpose Miss a q e = cc
tlb-place pages purpose Invalid a q e = cc
tlb-place pages purpose ReadOnly a q e = cc

direct-place : (pages : ℕ) (purpose : Use) (a q : ℕ) → 0xC000_0000 ≤ a → page_of (physical pages purpose (base a - 0xC000_0000)) ≡ Some q → physical pages purpose (a - 0xC000_0000) ≡ Ok (Memory (q * 4096 + a % 4096))
direct-place pages purpose a q above e =
    let b = a - 0xC000_0000 in
    let low : base a - 0xC000_0000 ≡ base b = omega arith in
    let r = page_of-physical pages purpose b q (subst (λ n. page_of (physical pages purpose n) ≡ Some q) low e) in
    let whole : b ≡ q * 4096 + a % 4096 = let at = r.1 in omega arith in
    r.0 ∙ ap (λ n. Ok (Memory n)) whole

pub direct-above : (a : ℕ) → segment false a ≡ Direct → 0xC000_0000 ≤ a
direct-above a is = ⊎_elim (λ (lt : a < 0xC000_0000). grind (arith, lt-ltb a 0xC000_0000)) (λ (ge : 0xC000_0000 ≤ a). ge) (cases_lt a 0xC000_0000)

translated-place : (entries : List Entry) (asid pages : ℕ) (purpose : Use) (a q : ℕ) (g : Segment) → segment false a ≡ g
    → page_of (translated (record { user = false; asid = asid; entries = entries }) pages purpose (base a) g) ≡ Some q
    → translated (record { user = false; asid = asid; entries = entries }) pages purpose a g ≡ Ok (Memory (q * 4096 + a % 4096))
translated-place entries asid pages purpose a q Mapped is e =
    tlb-place pages purpose (looked_up entries a asid (is_store purpose)) a q (subst (λ x. page_of (through_tlb pages purpose (base a) x) ≡ Some q) (looked_up-base entries a asid (is_store purpose)) e)
translated-place entries asid pages purpose a q Direct is e = direct-place pages purpose a q (direct-above a is) e
translated-place entries asid pages purpose a q Outside is e = cc

-- what the guest's TLB and direct segment say of a page number is where each address of the page leads, where the mode may use it
pub given-place : (entries : List Entry) (asid pages unit : ℕ) (purpose : Use) (a q : ℕ) → (a % unit == 0) ≡ true
    → given pages entries asid purpose (a / 4096) ≡ Some q
    → place (record { user = false; asid = asid; entries = entries }) pages unit purpose a ≡ Ok (Memory (q * 4096 + a % 4096))
given-place entries asid pages unit purpose a q fits e =
    let low : base a % 4096 ≡ 0 = omega arith in
    let whole : (base a % 4096 == 0) ≡ true = ap (λ n. n == 0) low in
    let here = translated-place entries asid pages purpose a q (segment false a) refl
    (subst (λ g. page_of (translated (record { user = false; asid = asid; entries = entries }) pages purpose (base a) g) ≡ Some q) (segment-base a)
    (subst (λ b. page_of (if b then translated (record { user = false; asid = asid; entries = entries }) pages purpose (base a) (segment false (base a)) else Err (AddressError purpose (base a))) ≡ Some q) whole e)) in
    rw fits here

-- where the mode may use an address, it leads where it does in kernel mode
pub user-place : (user : Bool) (entries : List Entry) (asid pages unit : ℕ) (purpose : Use) (a : ℕ) → segment user a ≢ Outside
    → place (record { user = user; asid = asid; entries = entries }) pages unit purpose a ≡ place (record { user = false; asid = asid; entries = entries }) pages unit purpose a
user-place true entries asid pages unit purpose a inside = grind arith
user-place false entries asid pages unit purpose a inside = refl
