-- What a refill puts into the TLB is what the guest's own TLB and direct segment say.
use Rattle.std.proofs.Common.{◌≡◌, ◌≢◌, ℕ, ◌+◌, ◌-◌, ◌*◌, ◌/◌, ◌%◌, ◌<◌, ◌≤◌, ◌==◌, Bool, true, false, if◌then◌else◌, Option, Some, None, Ok, Err, List, length, refl, sym, ap, ◌∙◌, subst, arith}
use Rattle.std.specs.Prelude.{find, filter}
use Rattle.std.proofs.lemmas.Bool.{eqb-true, ltb-true, and_parts}
use Rattle.base_words.specs.declared.exception.Exception.TheVariants.{AddressError}
use Rattle.base_words.specs.declared.exception.Use.{Use}
use Rattle.base_words.specs.declared.exception.Use.TheVariants.{Fetch, Load, Store}
use Rattle.base_words.specs.declared.place.Place.TheVariants.{Memory}
use Rattle.base_words.specs.declared.tlb.Entry.{Entry}
use Rattle.base_words.specs.declared.tlb.TlbAnswer.{TlbAnswer}
use Rattle.base_words.specs.declared.tlb.TlbAnswer.TheVariants.{Hit, Miss, Invalid, ReadOnly}
use Rattle.base_words.specs.Tlb.{page_pair, half, matches, permitted, answer, looked_up}
use Rattle.base_words.specs.Place.{Segment, Mapped, Direct, Outside, segment, is_store, physical, through_tlb, translated, place}
use Rattle.private_machine.specs.declared.vcpu.Vcpu.{Vcpu}
use Rattle.isolation_law.specs.Given.{page_of, given, IsIn}
use Rattle.guest_tlb.specs.Everywhere.{is_global_entry}
use Rattle.private_machine.specs.Everywhere.{is_everywhere}
use Rattle.isolation_law.proofs.PlaceProofs.{base, pair-base, looked_up-base, segment-base, direct-above, user-place}
use Rattle.isolation_law.proofs.GlobalProofs.{of_pair, same-everywhere}
use Rattle.isolation_law.proofs.DirectProofs.{given-fetch}

physical-given : (pages : ℕ) (purpose : Use) (b o : ℕ) → physical pages purpose b ≡ Ok (Memory o) → page_of (physical pages purpose (base b)) ≡ Some (o / 4096)
physical-given pages purpose b o e =
    let same : base b / 4096 ≡ b / 4096 = omega arith in
    grind arith

tlb-given : (pages : ℕ) (purpose : Use) (answer : TlbAnswer) (a o : ℕ) → through_tlb pages purpose a answer ≡ Ok (Memory o) → page_of (through_tlb pages purpose (base a) answer) ≡ Some (o / 4096)
tlb-given pages purpose (Hit frame) a o e =
    let low : base (frame * 4096 + a % 4096) ≡ frame * 4096 + base a % 4096 = omega arith in
    subst (λ n. page_of (physical pages purpose n) ≡ Some (o / 4096)) low (physical-given pages purpose (frame * 4096 + a % 4096) o e)
tlb-given pages purpose Miss a o e = cc
tlb-given pages purpose Invalid a o e = cc
tlb-given pages purpose ReadOnly a o e = cc

translated-given : (entries : List Entry) (asid pages : ℕ) (purpose : Use) (a o : ℕ) (g : Segment) → (g ≡ Direct → 0xC000_0000 ≤ a)
    → translated (record { user = false; asid = asid; entries = entries }) pages purpose a g ≡ Ok (Memory o)
    → page_of (translated (record { user = false; asid = asid; entries = entries }) pages purpose (base a) g) ≡ Some (o / 4096)
translated-given entries asid pages purpose a o Mapped above e =
    subst (λ x. page_of (through_tlb pages purpose (base a) x) ≡ Some (o / 4096)) (sym (looked_up-base entries a asid (is_store purpose))) (tlb-given pages purpose (looked_up entries a asid (is_store purpose)) a o e)
translated-given entries asid pages purpose a o Direct above e =
    let high = above refl in
    let low : base (a - 0xC000_0000) ≡ base a - 0xC000_0000 = omega arith in
    subst (λ n. page_of (physical pages purpose n) ≡ Some (o / 4096)) low (physical-given pages purpose (a - 0xC000_0000) o e)
translated-given entries asid pages purpose a o Outside above e = cc

-- an address that leads to memory tells what is given of its page
pub place-given : (user : Bool) (entries : List Entry) (asid pages unit : ℕ) (purpose : Use) (a o : ℕ) → place (record { user = user; asid = asid; entries = entries }) pages unit purpose a ≡ Ok (Memory o)
    → given pages entries asid purpose (a / 4096) ≡ Some (o / 4096)
place-given user entries asid pages unit purpose a o e =
    let low : base a % 4096 ≡ 0 = omega arith in
    let whole : (base a % 4096 == 0) ≡ true = ap (λ n. n == 0) low in
    let kernel = sym (user-place user entries asid pages unit purpose a (inside user (segment user a) refl)) ∙ e in
    let here = translated-given entries asid pages purpose a o (segment false a) (direct-above a) (aligned (a % unit == 0) kernel) in
    rw whole (subst (λ g. page_of (translated (record { user = false; asid = asid; entries = entries }) pages purpose (base a) g) ≡ Some (o / 4096)) (sym (segment-base a)) here)
  where
    aligned : (b : Bool) → (if b then translated (record { user = false; asid = asid; entries = entries }) pages purpose a (segment false a) else Err (AddressError purpose a)) ≡ Ok (Memory o)
        → translated (record { user = false; asid = asid; entries = entries }) pages purpose a (segment false a) ≡ Ok (Memory o)
    aligned true e = e
    aligned false e = cc

    inside : (u : Bool) (g : Segment) → segment u a ≡ g → segment user a ≢ Outside
    inside u g is out = grind arith

-- a store that is granted is a load that is
hit-load : (pages a lo q : ℕ) → page_of (through_tlb pages Store a (permitted true lo)) ≡ Some q → page_of (through_tlb pages Load a (permitted false lo)) ≡ Some q
hit-load pages a lo q e = grind arith

answer-load : (pages a q : ℕ) (o : Option Entry) → page_of (through_tlb pages Store a (answer a true o)) ≡ Some q → page_of (through_tlb pages Load a (answer a false o)) ≡ Some q
answer-load pages a q None e = cc
answer-load pages a q (Some entry) e = hit-load pages a (half a entry) q e

physical-load : (pages a q : ℕ) → page_of (physical pages Store a) ≡ Some q → page_of (physical pages Load a) ≡ Some q
physical-load pages a q e = grind arith

segment-load : (entries : List Entry) (asid pages a q : ℕ) (g : Segment) → page_of (translated (record { user = false; asid = asid; entries = entries }) pages Store a g) ≡ Some q → page_of (translated (record { user = false; asid = asid; entries = entries }) pages Load a g) ≡ Some q
segment-load entries asid pages a q Mapped e = answer-load pages a q (find (matches (page_pair a) asid) entries) e
segment-load entries asid pages a q Direct e = physical-load pages (a - 0xC000_0000) q e
segment-load entries asid pages a q Outside e = cc

pub store-load : (entries : List Entry) (asid pages number q : ℕ) → given pages entries asid Store number ≡ Some q → given pages entries asid Load number ≡ Some q
store-load entries asid pages number q e =
    (elim (number * 4096 % 4096 == 0) as (λ b. page_of (if b then translated (record { user = false; asid = asid; entries = entries }) pages Store (number * 4096) (segment false (number * 4096)) else Err (AddressError Store (number * 4096))) ≡ Some q
    → page_of (if b then translated (record { user = false; asid = asid; entries = entries }) pages Load (number * 4096) (segment false (number * 4096)) else Err (AddressError Load (number * 4096))) ≡ Some q) [
      | true ↦ λ e. segment-load entries asid pages (number * 4096) q (segment false (number * 4096)) e
      | false ↦ λ e. cc
    ]) e

pub any-load : (entries : List Entry) (asid pages : ℕ) (purpose : Use) (number q : ℕ) → given pages entries asid purpose number ≡ Some q → given pages entries asid Load number ≡ Some q
any-load entries asid pages Fetch number q e = sym (given-fetch entries asid pages number) ∙ e
any-load entries asid pages Load number q e = e
any-load entries asid pages Store number q e = store-load entries asid pages number q e

-- what is everywhere is given in each address space
segment-everywhere : (c : Vcpu) (other pages : ℕ) (purpose : Use) (a : ℕ) (g : Segment) → is_everywhere c.tlb c.cp0.entry_hi.asid a g ≡ true
    → translated (record { user = false; asid = other; entries = c.tlb }) pages purpose (base a) g ≡ translated (record { user = false; asid = c.cp0.entry_hi.asid; entries = c.tlb }) pages purpose (base a) g
segment-everywhere c other pages purpose a Mapped e =
    let both : (is_global_entry (find (matches (page_pair a) c.cp0.entry_hi.asid) c.tlb) ≡ true) × ((length (filter (of_pair (page_pair a)) c.tlb) == 1) ≡ true) = and_parts (is_global_entry (find (matches (page_pair a) c.cp0.entry_hi.asid) c.tlb)) (length (filter (of_pair (page_pair a)) c.tlb) == 1) e in
    let one : length (filter (of_pair (page_pair a)) c.tlb) ≡ 1 = eqb-true (length (filter (of_pair (page_pair a)) c.tlb)) 1 both.1 in
    let found : find (matches (page_pair (base a)) other) c.tlb ≡ find (matches (page_pair (base a)) c.cp0.entry_hi.asid) c.tlb =
    subst (λ (n : ℕ). find (matches n other) c.tlb ≡ find (matches n c.cp0.entry_hi.asid) c.tlb) (sym (pair-base a)) (same-everywhere (page_pair a) c.cp0.entry_hi.asid other c.tlb both.0 one) in
    ap (λ (o : Option Entry). through_tlb pages purpose (base a) (answer (base a) (is_store purpose) o)) found
segment-everywhere c other pages purpose a Direct e = refl
segment-everywhere c other pages purpose a Outside e = cc

pub everywhere : (c : Vcpu) (other pages : ℕ) (purpose : Use) (a : ℕ) → is_everywhere c.tlb c.cp0.entry_hi.asid a (segment false a) ≡ true → given pages c.tlb other purpose (a / 4096) ≡ given pages c.tlb c.cp0.entry_hi.asid purpose (a / 4096)
everywhere c other pages purpose a e =
    let here = segment-everywhere c other pages purpose a (segment false a) e in
    let there = subst (λ (g : Segment). translated (record { user = false; asid = other; entries = c.tlb }) pages purpose (base a) g ≡ translated (record { user = false; asid = c.cp0.entry_hi.asid; entries = c.tlb }) pages purpose (base a) g) (sym (segment-base a)) here in
    elim (base a % 4096 == 0) as (λ b. page_of (if b then translated (record { user = false; asid = other; entries = c.tlb }) pages purpose (base a) (segment false (base a)) else Err (AddressError purpose (base a)))
    ≡ page_of (if b then translated (record { user = false; asid = c.cp0.entry_hi.asid; entries = c.tlb }) pages purpose (base a) (segment false (base a)) else Err (AddressError purpose (base a)))) [
      | true ↦ ap page_of there
      | false ↦ refl
    ]

-- in each address space that an entry is of, made for an address, is given what is in the present one
pub given-in : (c : Vcpu) (other pages : ℕ) (purpose : Use) (a : ℕ) → IsIn (is_everywhere c.tlb c.cp0.entry_hi.asid a (segment false a)) c.cp0.entry_hi.asid other → given pages c.tlb other purpose (a / 4096) ≡ given pages c.tlb c.cp0.entry_hi.asid purpose (a / 4096)
given-in c other pages purpose a is = by (is_everywhere c.tlb c.cp0.entry_hi.asid a (segment false a)) refl is
  where
    by : (b : Bool) → is_everywhere c.tlb c.cp0.entry_hi.asid a (segment false a) ≡ b → IsIn b c.cp0.entry_hi.asid other → given pages c.tlb other purpose (a / 4096) ≡ given pages c.tlb c.cp0.entry_hi.asid purpose (a / 4096)
    by true e is = everywhere c other pages purpose a e
    by false e is = ap (λ (n : ℕ). given pages c.tlb n purpose (a / 4096)) (sym (eqb-true c.cp0.entry_hi.asid other is))

-- memory is below the guest's pages
physical-in : (pages : ℕ) (purpose : Use) (b o : ℕ) → physical pages purpose b ≡ Ok (Memory o) → o / 4096 < pages
physical-in pages purpose b o e = grind (arith, ltb-true (b / 4096) pages)

tlb-in : (pages : ℕ) (purpose : Use) (answer : TlbAnswer) (a o : ℕ) → through_tlb pages purpose a answer ≡ Ok (Memory o) → o / 4096 < pages
tlb-in pages purpose (Hit frame) a o e = physical-in pages purpose (frame * 4096 + a % 4096) o e
tlb-in pages purpose Miss a o e = cc
tlb-in pages purpose Invalid a o e = cc
tlb-in pages purpose ReadOnly a o e = cc

translated-in : (user : Bool) (entries : List Entry) (asid pages : ℕ) (purpose : Use) (a o : ℕ) (g : Segment) → translated (record { user = user; asid = asid; entries = entries }) pages purpose a g ≡ Ok (Memory o) → o / 4096 < pages
translated-in user entries asid pages purpose a o Mapped e = tlb-in pages purpose (looked_up entries a asid (is_store purpose)) a o e
translated-in user entries asid pages purpose a o Direct e = physical-in pages purpose (a - 0xC000_0000) o e
translated-in user entries asid pages purpose a o Outside e = cc

pub place-in : (user : Bool) (entries : List Entry) (asid pages unit : ℕ) (purpose : Use) (a o : ℕ) → place (record { user = user; asid = asid; entries = entries }) pages unit purpose a ≡ Ok (Memory o) → o / 4096 < pages
place-in user entries asid pages unit purpose a o e = by (a % unit == 0) e
  where
    by : (b : Bool) → (if b then translated (record { user = user; asid = asid; entries = entries }) pages purpose a (segment user a) else Err (AddressError purpose a)) ≡ Ok (Memory o) → o / 4096 < pages
    by true e = translated-in user entries asid pages purpose a o (segment user a) e
    by false e = cc
