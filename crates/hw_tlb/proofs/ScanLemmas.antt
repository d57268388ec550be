-- What is known of the places after a look through some or all of them, and how halves of a kind go.
use Rattle.std.proofs.Common.{◌≡◌, ◌≢◌, inl, inr, ℕ, ◌+◌, ◌*◌, ◌/◌, ◌<◌, ◌≤◌, ◌==◌, suc, zero, Bool, true, false, List, [], ◌∷◌, length, get_or, set, map, take, drop, ◌++◌, find, Option, Some, None, refl, sym, ap, ◌∙◌, append-nil, arith}
use Rattle.std.specs.List.{range_with_len}
use Rattle.std.proofs.lemmas.Bool.{cases_eq, cases_Bool, both_ways, eq-eqb, ne_eqb}
use Rattle.std.proofs.lemmas.List.{set-get_or, take_all, drop_all}
use Rattle.std.proofs.lemmas.List.Edits.{map_over_more}
use Rattle.base_words.specs.Halves.{Half}
use Rattle.hw_tlb.specs.Tlb.{half_at}
use Rattle.hw_tlb.specs.Dropping.{emptied}
use Rattle.hw_tlb.specs.Filling.{has_such, first_entry}
use Rattle.hw_tlb.specs.Counts.{HasNoSuch, HasNoSuchOn, IsOnlyOn}

abbrev Places : Type 0
Places = List (Option Half)

pub gone_such : (q : Half → Bool) (p : Option Half) → has_such q p ≡ true → emptied q p ≡ None
gone_such q None e = refl
gone_such q (Some h) e = rw e refl

pub kept_such : (q : Half → Bool) (p : Option Half) → has_such q p ≡ false → emptied q p ≡ p
kept_such q None e = refl
kept_such q (Some h) e = rw e refl

-- a place that has no such half has none of fewer
pub weaken : (q r : Half → Bool) → ((h : Half) → q h ≡ false → r h ≡ false) → (p : Option Half) → has_such q p ≡ false → has_such r p ≡ false
weaken q r less None e = refl
weaken q r less (Some h) e = less h e

-- the places once the first of them are swept
abbrev pub Swept : (Half → Bool) → Places → Places → ℕ → Type 0
Swept q xs ys i = ys ≡ map (emptied q) (take i xs) ++ drop i xs

swept_more : (q : Half → Bool) (xs ys : Places) (i : ℕ) (p : Option Half) → i < length xs → Swept q xs ys i → emptied q (half_at ys i) ≡ p → half_at ys i ≡ get_or ys i (half_at ys i) → Swept q xs (set ys i p) (i + 1)
swept_more q xs ys i p within h is same = rw (← is) (map_over_more (emptied q) xs ys i (half_at ys i) within h same)

at_any : (ys : Places) (i : ℕ) → half_at ys i ≡ get_or ys i (half_at ys i)
at_any [] i = refl
at_any (y ∷ ys) zero = refl
at_any (y ∷ ys) (suc i) = at_any ys i

pub swept_gone : (q : Half → Bool) (xs ys : Places) (i : ℕ) (p : Option Half) → i < length xs → Swept q xs ys i → p ≡ half_at ys i → emptied q p ≡ None → Swept q xs (set ys i None) (i + 1)
swept_gone q xs ys i p within h is goes = swept_more q xs ys i None within h (ap (emptied q) (sym is) ∙ goes) (at_any ys i)

pub swept_kept : (q : Half → Bool) (xs ys : Places) (i : ℕ) (p : Option Half) → i < length xs → Swept q xs ys i → p ≡ half_at ys i → emptied q p ≡ p → Swept q xs ys (i + 1)
swept_kept q xs ys i p within h is stays =
    sym (set-get_or ys i None) ∙ swept_more q xs ys i (half_at ys i) within h (ap (emptied q) (sym is) ∙ stays ∙ is) (at_any ys i)

pub swept_all : (q : Half → Bool) (xs ys : Places) (i : ℕ) → length xs ≡ 96 → 96 ≤ i → Swept q xs ys i → ys ≡ map (emptied q) xs
swept_all q xs ys i long past h =
    rw (h, take_all i xs (omega arith), drop_all i xs (omega arith)) (append-nil (map (emptied q) xs))

-- where none is such, none goes
pub swept_none : (q : Half → Bool) (ps : Places) → HasNoSuch q ps → map (emptied q) ps ≡ ps
swept_none q [] none = refl
swept_none q (p ∷ ps) none = rw (kept_such q p (none zero), swept_none q ps (λ j. none (suc j))) refl

-- where one alone is such, that one goes
pub swept_sole : (q : Half → Bool) (ps : Places) (k : ℕ) → emptied q (half_at ps k) ≡ None → ((j : ℕ) → j ≢ k → has_such q (half_at ps j) ≡ false) → set ps k None ≡ map (emptied q) ps
swept_sole q [] k here away = refl
swept_sole q (p ∷ ps) zero here away = rw (here, swept_none q ps (λ j. away (suc j) (λ e. omega arith))) refl
swept_sole q (p ∷ ps) (suc k) here away =
    rw (kept_such q p (away zero (λ e. omega arith)), swept_sole q ps k here (λ j ne. away (suc j) (λ e. ne (omega arith)))) refl

-- what stands elsewhere stays, so a place may be set before or after
pub swept_set : (q : Half → Bool) (ps : Places) (k : ℕ) (x : Option Half) → ((j : ℕ) → j ≢ k → has_such q (half_at ps j) ≡ false) → set (map (emptied q) ps) k x ≡ set ps k x
swept_set q [] k x away = refl
swept_set q (p ∷ ps) zero x away = rw (swept_none q ps (λ j. away (suc j) (λ e. omega arith))) refl
swept_set q (p ∷ ps) (suc k) x away =
    rw (kept_such q p (away zero (λ e. omega arith)), swept_set q ps k x (λ j ne. away (suc j) (λ e. ne (omega arith)))) refl

-- the two of a pair go one after the other
pair_test : (n v : ℕ) → (n == 2 * v) ≡ false → (n == 2 * v + 1) ≡ (n / 2 == v)
pair_test n v e =
    elim (cases_eq (n / 2) v) [
      | inl is ↦ elim (cases_eq n (2 * v)) [
        | inl even ↦ absurd (both_ways _ e (eq-eqb n (2 * v) even))
        | inr odd ↦ eq-eqb n (2 * v + 1) (omega arith) ∙ sym (eq-eqb (n / 2) v is)
      ]
      | inr ne ↦ ne_eqb n (2 * v + 1) (λ z. ne (omega arith)) ∙ sym (ne_eqb (n / 2) v ne)
    ]

even_test : (n v : ℕ) → (n == 2 * v) ≡ true → (n / 2 == v) ≡ true
even_test n v e =
    elim (cases_eq n (2 * v)) [
      | inl is ↦ eq-eqb (n / 2) v (omega arith)
      | inr ne ↦ absurd (both_ways _ (ne_eqb n (2 * v) ne) e)
    ]

pair_one : (v : ℕ) (p : Option Half) → emptied (λ h. h.number == 2 * v + 1) (emptied (λ h. h.number == 2 * v) p) ≡ emptied (λ h. h.number / 2 == v) p
pair_one v None = refl
pair_one v (Some h) =
    elim (cases_Bool (h.number == 2 * v)) [
      | inl e ↦ rw (e, even_test h.number v e) refl
      | inr e ↦ rw (e, pair_test h.number v e) refl
    ]

pub swept_pair : (v : ℕ) (ps : Places) → map (emptied (λ h. h.number == 2 * v + 1)) (map (emptied (λ h. h.number == 2 * v)) ps) ≡ map (emptied (λ h. h.number / 2 == v)) ps
swept_pair v [] = refl
swept_pair v (p ∷ ps) = rw (pair_one v p, swept_pair v ps) refl

-- the first number that is such, of some in order
find-range : (p : ℕ → Bool) (a n e : ℕ) → a ≤ e → e < a + n → ((k : ℕ) → a ≤ k → k < e → p k ≡ false) → p e ≡ true → find p (range_with_len a n) ≡ Some e
find-range p a zero e low high before here = absurd (omega arith)
find-range p a (suc n) e low high before here =
    elim (cases_eq a e) [
      | inl is ↦ rw (is, here) refl
      | inr ne ↦ rw (before a (omega arith) (omega arith)) (find-range p (a + 1) n e (omega arith) (omega arith) (λ k x y. before k (omega arith) y) here)
    ]

find-range_none : (p : ℕ → Bool) (a n : ℕ) → ((k : ℕ) → a ≤ k → k < a + n → p k ≡ false) → find p (range_with_len a n) ≡ None
find-range_none p a zero away = refl
find-range_none p a (suc n) away = rw (away a (omega arith) (omega arith)) (find-range_none p (a + 1) n (λ k x y. away k (omega arith) (omega arith)))

-- a number that is such, where some one is
pub record Found (p : ℕ → Bool) (all : Option ℕ) : Type 0 where
  pub first : ℕ
  pub is : all ≡ Some first
  pub such : p first ≡ true

find-some : (p : ℕ → Bool) (a n k : ℕ) → a ≤ k → k < a + n → p k ≡ true → Found p (find p (range_with_len a n))
find-some p a zero k low high here = absurd (omega arith)
find-some p a (suc n) k low high here =
    elim (cases_Bool (p a)) [
      | inl e ↦ record { first = a; is = rw e refl; such = e }
      | inr e ↦ rw e (find-some p (a + 1) n k (elim (cases_eq a k) [ inl is ↦ absurd (both_ways _ (ap p (sym is) ∙ e) here) | inr ne ↦ omega arith ]) (omega arith) here)
    ]

-- no entry before this one has such a half on this side
abbrev pub NoneBefore : (Half → Bool) → ℕ → Places → ℕ → Type 0
NoneBefore q side ps entry = (k : ℕ) → k < entry → has_such q (half_at ps (2 * k + side)) ≡ false

pub first_entry-here : (q : Half → Bool) (side : ℕ) (ps : Places) (entry : ℕ) → entry < 48 → NoneBefore q side ps entry → has_such q (half_at ps (2 * entry + side)) ≡ true → first_entry q side ps ≡ Some entry
unfolding first_entry
first_entry-here q side ps entry within before here = find-range (λ k. has_such q (half_at ps (2 * k + side))) 0 48 entry (omega arith) within (λ k x y. before k y) here

pub first_entry-none : (q : Half → Bool) (side : ℕ) (ps : Places) → NoneBefore q side ps 48 → first_entry q side ps ≡ None
unfolding first_entry
first_entry-none q side ps before = find-range_none (λ k. has_such q (half_at ps (2 * k + side))) 0 48 (λ k x y. before k y)

pub first_entry-some : (q : Half → Bool) (side : ℕ) (ps : Places) (entry : ℕ) → entry < 48 → has_such q (half_at ps (2 * entry + side)) ≡ true → Found (λ k. has_such q (half_at ps (2 * k + side))) (first_entry q side ps)
unfolding first_entry
first_entry-some q side ps entry within here = find-some (λ k. has_such q (half_at ps (2 * k + side))) 0 48 entry (omega arith) (omega arith) here

pub none_more : (q : Half → Bool) (side : ℕ) (ps : Places) (entry : ℕ) → NoneBefore q side ps entry → has_such q (half_at ps (2 * entry + side)) ≡ false → NoneBefore q side ps (entry + 1)
none_more q side ps entry before here k lt =
    elim (cases_eq k entry) [
      | inl is ↦ rw is here
      | inr ne ↦ before k (omega arith)
    ]

pub none_beyond : (q : Half → Bool) (ps : Places) (place : ℕ) → ((k : ℕ) → k < place → has_such q (half_at ps k) ≡ false) → has_such q (half_at ps place) ≡ false → (k : ℕ) → k < place + 1 → has_such q (half_at ps k) ≡ false
none_beyond q ps place before here k lt =
    elim (cases_eq k place) [
      | inl is ↦ rw is here
      | inr ne ↦ before k (omega arith)
    ]

pub found_here : (q : Half → Bool) (s side : ℕ) (ps : Places) (entry : ℕ) → s ≡ side → entry < 48 → NoneBefore q s ps entry → has_such q (half_at ps (2 * entry + s)) ≡ true → Some entry ≡ first_entry q side ps
found_here q s side ps entry is small before here =
    rw (← is) (sym (first_entry-here q s ps entry small before here))

pub found_none : (q : Half → Bool) (s side : ℕ) (ps : Places) (entry : ℕ) → s ≡ side → 48 ≤ entry → NoneBefore q s ps entry → None ≡ first_entry q side ps
found_none q s side ps entry is past before =
    rw (← is) (sym (first_entry-none q s ps (λ k lt. before k (omega arith))))

-- the only place on this side, and none on this side
pub found_only : (q : Half → Bool) (side : ℕ) (ps : Places) (place : ℕ) → side < 2 → place < 96 → IsOnlyOn q side ps place → Some (place / 2) ≡ first_entry q side ps
found_only q side ps place low small only =
    let at : 2 * (place / 2) + side ≡ place = let on = only.on in omega arith in
    sym (first_entry-here q side ps (place / 2) (omega arith) (λ k lt. only.away k (λ e. omega arith)) (rw at only.here))

pub found_nowhere : (q : Half → Bool) (side : ℕ) (ps : Places) → HasNoSuchOn q side ps → None ≡ first_entry q side ps
found_nowhere q side ps none = sym (first_entry-none q side ps (λ k lt. none k))
