-- What the counts say of the halves of a bucket.
use Rattle.std.proofs.Common.{◌≡◌, ◌≢◌, inl, inr, ℕ, ◌≤◌, ◌==◌, Bool, true, false, List, set, map, Option, None, refl, sym, ap, ◌∙◌, arith}
use mir.Val.{bool_byte}
use Rattle.std.proofs.lemmas.Bool.{cases_eq, both_ways, eq-eqb, ne_eqb}
use Rattle.base_words.specs.Halves.{Half}
use Rattle.hw_tlb.specs.Tlb.{half_at}
use Rattle.hw_tlb.specs.Dropping.{emptied}
use Rattle.hw_tlb.specs.Filling.{has_such}
use Rattle.hw_tlb.specs.Counts.{count, bucket_of_number, is_numbered, HasNoSuchBut}
use Rattle.hw_tlb.proofs.CountLemmas.{count-zero, count-sole}
use Rattle.hw_tlb.proofs.ScanLemmas.{weaken, swept_none, swept_sole}

abbrev Places : Type 0
Places = List (Option Half)

-- halves of another bucket are of other virtual pages
pub number_apart : (b n m : ℕ) → b ≡ bucket_of_number n → (bucket_of_number m == b) ≡ false → m ≡ n → ⊥
number_apart b n m b_is e is = both_ways _ e (eq-eqb (bucket_of_number m) b (ap bucket_of_number is ∙ sym b_is))

pub numbered_less : (b n : ℕ) → b ≡ bucket_of_number n → (h : Half) → is_numbered b h ≡ false → (h.number == n) ≡ false
numbered_less b n b_is h e = ne_eqb h.number n (number_apart b n h.number b_is e)

-- the count is met by what stands here
pub none_but : (q : Half → Bool) (ps : Places) (k n one : ℕ) → n ≡ count q ps → one ≡ bool_byte (has_such q (half_at ps k)) → n ≤ one → HasNoSuchBut q ps k
none_but q ps k n one n_is one_is le = by (has_such q (half_at ps k)) refl one_is
  where
    by : (t : Bool) → has_such q (half_at ps k) ≡ t → one ≡ bool_byte t → HasNoSuchBut q ps k
    by true here is = count-sole q ps k (let o : one ≡ 1 = is in omega arith) here
    by false here is = λ j ne. count-zero q ps (let o : one ≡ 0 = is in omega arith) j

-- the halves of a number, where its bucket's count is 0, or 1 and this place has that one
pub number_none : (ps : Places) (b n : ℕ) → b ≡ bucket_of_number n → count (is_numbered b) ps ≡ 0 → ps ≡ map (emptied (λ h. h.number == n)) ps
number_none ps b n b_is none =
    sym (swept_none (λ h. h.number == n) ps (λ j. weaken (is_numbered b) (λ h. h.number == n) (numbered_less b n b_is) (half_at ps j) (count-zero (is_numbered b) ps none j)))

number_away : (ps : Places) (b n place : ℕ) → b ≡ bucket_of_number n → count (is_numbered b) ps ≤ 1 → has_such (is_numbered b) (half_at ps place) ≡ true → (j : ℕ) → j ≢ place → has_such (λ h. h.number == n) (half_at ps j) ≡ false
number_away ps b n place b_is few here j ne =
    weaken (is_numbered b) (λ h. h.number == n) (numbered_less b n b_is) (half_at ps j) (count-sole (is_numbered b) ps place few here j ne)

pub number_gone : (ps : Places) (b n place : ℕ) (p : Option Half) → p ≡ half_at ps place → b ≡ bucket_of_number n → count (is_numbered b) ps ≤ 1 → has_such (is_numbered b) p ≡ true → emptied (λ h. h.number == n) p ≡ None → set ps place None ≡ map (emptied (λ h. h.number == n)) ps
number_gone ps b n place p p_is b_is few here goes =
    swept_sole (λ h. h.number == n) ps place (ap (emptied (λ h. h.number == n)) (sym p_is) ∙ goes) (number_away ps b n place b_is few (ap (has_such (is_numbered b)) (sym p_is) ∙ here))

pub number_kept : (ps : Places) (b n place : ℕ) (p : Option Half) → p ≡ half_at ps place → b ≡ bucket_of_number n → count (is_numbered b) ps ≤ 1 → has_such (is_numbered b) p ≡ true → has_such (λ h. h.number == n) p ≡ false → ps ≡ map (emptied (λ h. h.number == n)) ps
number_kept ps b n place p p_is b_is few here stays =
    sym (swept_none (λ h. h.number == n) ps (λ j. elim (cases_eq j place) [
      | inl is ↦ rw is (ap (has_such (λ h. h.number == n)) (sym p_is) ∙ stays)
      | inr ne ↦ number_away ps b n place b_is few (ap (has_such (is_numbered b)) (sym p_is) ∙ here) j ne
    ]))
