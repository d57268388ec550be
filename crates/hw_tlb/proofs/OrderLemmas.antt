-- Halves stand in order after a fill and after some have gone.
use Rattle.std.proofs.Common.{◌≡◌, inl, inr, ℕ, ◌+◌, ◌-◌, ◌*◌, ◌<◌, Bool, true, false, not, List, length, map, Option, Some, None, refl, arith}
use Rattle.std.proofs.lemmas.Bool.{cases_eq, both_ways}
use Rattle.std.proofs.lemmas.List.{get_or-set_same, get_or-set_other, length-map}
use Rattle.base_words.specs.Halves.{Half, clash}
use Rattle.hw_tlb.specs.Tlb.{half_at, side, are_beside, AreSided, ArePaired}
use Rattle.hw_tlb.specs.Dropping.{emptied}
use Rattle.hw_tlb.specs.Filling.{placed}
use Rattle.hw_tlb.specs.Rooms.{AreInOrder}
use Rattle.hw_tlb.proofs.FillLemmas.{Keeps, stays, cleared, clear-cleared, in_place, apart-keeps, apart-placed}

abbrev Places : Type 0
Places = List (Option Half)

pub order-keeps : (ps qs : Places) → AreInOrder ps → Keeps ps qs → AreInOrder qs
order-keeps ps qs order keeps = record {
  apart = apart-keeps ps qs order.apart keeps;
  sided = λ k h e. order.sided k h (keeps k h e);
  paired = λ e a b ea eb. order.paired e a b (keeps (2 * e) a ea) (keeps (2 * e + 1) b eb);
}

pub order-empty : (ps : Places) → ((k : ℕ) → half_at ps k ≡ None) → AreInOrder ps
order-empty ps none = record {
  apart = λ i j a b ne ea eb. let never = rw (none i) at ea in absurd (cc);
  sided = λ k h e. let never = rw (none k) at e in absurd (cc);
  paired = λ e a b ea eb. let never = rw (none (2 * e)) at ea in absurd (cc);
}

beside_sym : (a b : Half) → are_beside a b ≡ true → are_beside b a ≡ true
beside_sym a b h = grind arith

not_false : (b : Bool) → not b ≡ false → b ≡ true
not_false true e = refl
not_false false e = absurd (both_ways _ e refl)

-- what a new half finds in its entry's other place may share the entry
beside_other : (new h : Half) (entry : ℕ) (ps : Places) → entry < 48 → length ps ≡ 96 → half_at (cleared new entry ps) (2 * entry + (1 - side new)) ≡ Some h → are_beside new h ≡ true
beside_other new h entry ps small long e =
    let qs = map (emptied (clash new)) ps in
    let other = 2 * entry + (1 - side new) in
    let found = rw (get_or-set_same qs other (emptied (λ h. not (are_beside new h)) (half_at qs other)) None (rw (length-map ps (emptied (clash new)), long) (omega arith))) at e in
    let s = stays (λ h. not (are_beside new h)) (half_at qs other) h found in
    not_false (are_beside new h) s.other

-- a place of another entry, or the entry's other place
pub elsewhere : (new h : Half) (entry k : ℕ) (ps : Places) → (k ≡ 2 * entry + side new → ⊥) → half_at (placed new entry ps) k ≡ Some h → half_at (cleared new entry ps) k ≡ Some h
elsewhere new h entry k ps ne e = rw (get_or-set_other (cleared new entry ps) (2 * entry + side new) k (Some new) None ne) at e

own_place : (new h : Half) (entry : ℕ) (ps : Places) → entry < 48 → length ps ≡ 96 → half_at (placed new entry ps) (2 * entry + side new) ≡ Some h → new ≡ h
own_place new h entry ps small long e =
    let own = rw (get_or-set_same (cleared new entry ps) (2 * entry + side new) (Some new) None (in_place new entry ps small long)) at e in
    cc

sided-placed : (new : Half) (entry : ℕ) (ps : Places) → entry < 48 → length ps ≡ 96 → AreSided ps → AreSided (placed new entry ps)
sided-placed new entry ps small long sided k h e =
    elim (cases_eq k (2 * entry + side new)) [
      | inl is ↦
          let same = own_place new h entry ps small long (rw is at e) in
          rw (is, ← same) (omega arith)
      | inr ne ↦ sided k h ((clear-cleared new entry ps small long k h (elsewhere new h entry k ps ne e)).was)
    ]

paired-placed : (new : Half) (entry : ℕ) (ps : Places) → entry < 48 → length ps ≡ 96 → ArePaired ps → ArePaired (placed new entry ps)
paired-placed new entry ps small long paired k a b ea eb =
    elim (cases_eq k entry) [
      | inl here ↦ elim (cases_eq (side new) 0) [
        | inl even ↦
            let own : 2 * k ≡ 2 * entry + side new = omega arith in
            let other : 2 * k + 1 ≡ 2 * entry + (1 - side new) = omega arith in
            let same = own_place new a entry ps small long (rw own at ea) in
            rw (← same) (beside_other new b entry ps small long (elsewhere new b entry (2 * entry + (1 - side new)) ps (λ z. omega arith) (rw other at eb)))
        | inr odd ↦
            let own : 2 * k + 1 ≡ 2 * entry + side new = omega arith in
            let other : 2 * k ≡ 2 * entry + (1 - side new) = omega arith in
            let same = own_place new b entry ps small long (rw own at eb) in
            rw (← same) (beside_sym new a (beside_other new a entry ps small long (elsewhere new a entry (2 * entry + (1 - side new)) ps (λ z. omega arith) (rw other at ea))))
      ]
      | inr away ↦ paired k a b
          ((clear-cleared new entry ps small long (2 * k) a (elsewhere new a entry (2 * k) ps (λ z. omega arith) ea)).was)
          ((clear-cleared new entry ps small long (2 * k + 1) b (elsewhere new b entry (2 * k + 1) ps (λ z. omega arith) eb)).was)
    ]

pub order-placed : (new : Half) (entry : ℕ) (ps : Places) → entry < 48 → length ps ≡ 96 → AreInOrder ps → AreInOrder (placed new entry ps)
order-placed new entry ps small long order = record {
  apart = apart-placed new entry ps small long order.apart;
  sided = sided-placed new entry ps small long order.sided;
  paired = paired-placed new entry ps small long order.paired;
}
