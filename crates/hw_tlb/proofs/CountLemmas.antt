-- How a count changes with a place, and what it says of the places.
use Rattle.std.proofs.Common.{◌≡◌, ◌≢◌, inl, inr, ℕ, ◌+◌, ◌-◌, ◌<◌, ◌≤◌, ◌==◌, suc, zero, Bool, true, false, cond, ◌&&◌, List, [], ◌∷◌, length, get_or, set, replicate, Option, Some, None, refl, sym, ap, ◌∙◌, arith}
use Rattle.std.proofs.lemmas.Bool.{cases_eq, both_ways, eq-eqb, ne_eqb}
use Rattle.std.proofs.lemmas.List.{get_or-set_same, get_or-set_other, get_or-replicate, length-set, length-replicate}
use Rattle.std.proofs.lemmas.List.Sums.{sum_by-cons, sum_by-set}
use Rattle.base_words.specs.Halves.{Half}
use Rattle.hw_tlb.specs.Tlb.{half_at}
use Rattle.hw_tlb.specs.Filling.{has_such}
use Rattle.hw_tlb.specs.Counts.{count, AreCounts, HasNoSuch}

abbrev Places : Type 0
Places = List (Option Half)

-- a place counts or not
abbrev pub bit : Bool → ℕ
bit b = cond b 1 0

bit-zero : (b : Bool) → bit b ≡ 0 → b ≡ false
bit-zero true e = absurd (omega arith)
bit-zero false e = refl

count-cons : (q : Half → Bool) (p : Option Half) (ps : Places) → count q (p ∷ ps) ≡ bit (has_such q p) + count q ps
count-cons q p ps = sum_by-cons (λ (x : Option Half). cond (has_such q x) 1 0) p ps

pub count-set : (q : Half → Bool) (ps : Places) (k : ℕ) (p : Option Half) → k < length ps → count q (set ps k p) + bit (has_such q (half_at ps k)) ≡ count q ps + bit (has_such q p)
count-set q ps k p within = sum_by-set (λ (x : Option Half). cond (has_such q x) 1 0) ps k p None within

-- none counts
pub count-zero : (q : Half → Bool) (ps : Places) → count q ps ≡ 0 → HasNoSuch q ps
count-zero q [] e k = refl
count-zero q (p ∷ ps) e zero = let s = count-cons q p ps in bit-zero (has_such q p) (omega arith)
count-zero q (p ∷ ps) e (suc k) = let s = count-cons q p ps in count-zero q ps (omega arith) k

count-pos : (q : Half → Bool) (ps : Places) (k : ℕ) → has_such q (half_at ps k) ≡ true → 0 < count q ps
count-pos q ps k here =
    elim (cases_eq (count q ps) 0) [
      | inl none ↦ absurd (both_ways _ (count-zero q ps none k) here)
      | inr some ↦ omega arith
    ]

-- one counts, and it stands here
pub count-sole : (q : Half → Bool) (ps : Places) (k : ℕ) → count q ps ≤ 1 → has_such q (half_at ps k) ≡ true → (j : ℕ) → j ≢ k → has_such q (half_at ps j) ≡ false
count-sole q [] k few here j ne = refl
count-sole q (p ∷ ps) zero few here zero ne = absurd (ne refl)
count-sole q (p ∷ ps) zero few here (suc j) ne =
    let s = count-cons q p ps in
    let one : bit (has_such q p) ≡ 1 = ap bit here in
    count-zero q ps (omega arith) j
count-sole q (p ∷ ps) (suc k) few here zero ne =
    let s = count-cons q p ps in
    let some = count-pos q ps k here in
    bit-zero (has_such q p) (omega arith)
count-sole q (p ∷ ps) (suc k) few here (suc j) ne =
    let s = count-cons q p ps in
    count-sole q ps k (omega arith) here j (λ e. ne (ap suc e))

bit-hit : (is t : Bool) → t ≡ true → bit (is && t) ≡ bit is
bit-hit true t e = ap bit e
bit-hit false t e = refl

bit-away : (is t : Bool) → t ≡ false → bit (is && t) ≡ 0
bit-away true t e = ap bit e
bit-away false t e = refl

-- a half that stands somewhere is counted
pub enough : {q : ℕ → Half → Bool} {cs : List ℕ} {ps : Places} → AreCounts q cs ps → (k : ℕ) (h : Half) → half_at ps k ≡ Some h → (b : ℕ) (is : Bool) → b < 256 → q b h ≡ (is && (b == b)) → bit is ≤ get_or cs b 0
enough {q} {cs} {ps} counts k h there b true within test =
    let e = counts.exact b within in
    let here : has_such (q b) (half_at ps k) ≡ true = ap (has_such (q b)) there ∙ test ∙ eq-eqb b b refl in
    let some = count-pos (q b) ps k here in
    omega arith
enough {q} {cs} {ps} counts k h there b false within test = omega arith

-- a list where one number is set
changed : (cs : List ℕ) → length cs ≡ 256 → (c b v m : ℕ) → b < 256 → (c ≡ b → v ≡ m) → ((c ≡ b → ⊥) → get_or cs c 0 ≡ m) → get_or (set cs b v) c 0 ≡ m
changed cs wide c b v m small hit miss =
    elim (cases_eq c b) [
      | inl here ↦ rw here (get_or-set_same cs b v 0 (rw wide small)) ∙ hit here
      | inr away ↦ get_or-set_other cs b c v 0 away ∙ miss away
    ]

-- a half joins where none stood
pub raised : {q : ℕ → Half → Bool} {cs : List ℕ} {ps : Places} → AreCounts q cs ps → (k : ℕ) (new : Half) (b : ℕ) (is : Bool) (n : ℕ) → k < length ps → half_at ps k ≡ None → ((c : ℕ) → q c new ≡ (is && (b == c))) → b < 256 → n ≡ bit is → AreCounts q (set cs b (get_or cs b 0 + n)) (set ps k (Some new))
raised {q} {cs} {ps} counts k new b is n within free test small amount = record {
  wide = length-set cs b (get_or cs b 0 + n) ∙ counts.wide;
  exact = λ c lt.
      let s = count-set (q c) ps k (Some new) within in
      let before : bit (has_such (q c) (half_at ps k)) ≡ 0 = ap (λ (p : Option Half). bit (has_such (q c) p)) free in
      let after : bit (has_such (q c) (Some new)) ≡ bit (is && (b == c)) = ap bit (test c) in
      changed cs counts.wide c b (get_or cs b 0 + n) (count (q c) (set ps k (Some new))) small
      (λ here.
      let hit = bit-hit is (b == c) (eq-eqb b c (sym here)) in
      let e = counts.exact c lt in
      let same : get_or cs c 0 ≡ get_or cs b 0 = ap (λ (m : ℕ). get_or cs m 0) here in
      omega arith)
      (λ away.
      let miss = bit-away is (b == c) (ne_eqb b c (λ (x : b ≡ c). away (sym x))) in
      let e = counts.exact c lt in
      omega arith);
}

-- a half goes
pub lowered : {q : ℕ → Half → Bool} {cs : List ℕ} {ps : Places} → AreCounts q cs ps → (k : ℕ) (h : Half) (b : ℕ) (is : Bool) (n : ℕ) → k < length ps → half_at ps k ≡ Some h → ((c : ℕ) → q c h ≡ (is && (b == c))) → b < 256 → n ≡ bit is → AreCounts q (set cs b (get_or cs b 0 - n)) (set ps k None)
lowered {q} {cs} {ps} counts k h b is n within there test small amount = record {
  wide = length-set cs b (get_or cs b 0 - n) ∙ counts.wide;
  exact = λ c lt.
      let s = count-set (q c) ps k None within in
      let before : bit (has_such (q c) (half_at ps k)) ≡ bit (is && (b == c)) = ap (λ (p : Option Half). bit (has_such (q c) p)) there ∙ ap bit (test c) in
      let after : bit (has_such (q c) None) ≡ 0 = refl in
      changed cs counts.wide c b (get_or cs b 0 - n) (count (q c) (set ps k None)) small
      (λ here.
      let hit = bit-hit is (b == c) (eq-eqb b c (sym here)) in
      let e = counts.exact c lt in
      let same : get_or cs c 0 ≡ get_or cs b 0 = ap (λ (m : ℕ). get_or cs m 0) here in
      omega arith)
      (λ away.
      let miss = bit-away is (b == c) (ne_eqb b c (λ (x : b ≡ c). away (sym x))) in
      let e = counts.exact c lt in
      omega arith);
}

-- no half anywhere
count-none : (q : Half → Bool) (n : ℕ) → count q (replicate n None) ≡ 0
count-none q zero = refl
count-none q (suc n) = let s = count-cons q None (replicate n None) in let e = count-none q n in omega arith

pub counts-none : (q : ℕ → Half → Bool) → AreCounts q (replicate 256 0) (replicate 96 None)
counts-none q = record {
  wide = length-replicate {A = ℕ} 256 0;
  exact = λ c lt. get_or-replicate {A = ℕ} 256 c 0 0 lt ∙ sym (count-none (q c) 96);
}
