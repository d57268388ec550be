-- Membership, and a list after one element is replaced.
use Rattle.std.proofs.Common.{◌≡◌, ◌≢◌, ℕ, suc, zero, ◌+◌, ◌<◌, ◌≤◌, Bool, true, false, cond, ◌⊎◌, inl, inr, ⊎_elim, List, [], ◌∷◌, length, set, get_or, refl, sym, ap, ◌∙◌, subst, get_or-set_same, get_or-set_other, length-set}
use Rattle.std.proofs.lemmas.Bool.{cases_eq, cases_lt}
use Rattle.std.proofs.lemmas.List.{get_or_past}
use Rattle.std.proofs.lemmas.List.Sums.{sum_by-set}
use Rattle.std.specs.Prelude.{filter, count_by}
use Rattle.base_words.specs.Membership.{Has}

pub Has-filter : {A : Type 0} (test : A → Bool) (xs : List A) (x : A) → Has (filter test xs) x → Has xs x × (test x ≡ true)
Has-filter test [] x h = absurd h
Has-filter {A} test (y ∷ ys) x h =
    (elim (test y) as (λ b. test y ≡ b → Has (cond b (y ∷ filter test ys) (filter test ys)) x → ((y ≡ x) ⊎ Has ys x) × (test x ≡ true)) [
      | true ↦ λ e g. ⊎_elim (λ (same : y ≡ x). (inl same, subst (λ (z : A). test z ≡ true) same e)) (λ later. let r = Has-filter test ys x later in (inr r.0, r.1)) g
      | false ↦ λ e g. let r = Has-filter test ys x g in (inr r.0, r.1)
    ]) refl h

-- the element at r after the one at p is replaced, where a place past the end has d
pub at_set : {A : Type 0} (xs : List A) (p : ℕ) (new d : A) (r : ℕ) → ((r ≡ p) × (p < length xs) × (get_or (set xs p new) r d ≡ new)) ⊎ (((r ≡ p) → length xs ≤ p) × (get_or (set xs p new) r d ≡ get_or xs r d))
at_set {A} xs p new d r =
    ⊎_elim
    (λ (e : r ≡ p). ⊎_elim
    (λ (lt : p < length xs). inl (e, lt, ap (λ (k : ℕ). get_or (set xs p new) k d) e ∙ get_or-set_same xs p new d lt))
    (λ (ge : length xs ≤ p). inr ((λ _. ge), subst (λ (k : ℕ). get_or (set xs p new) k d ≡ get_or xs k d) (sym e) (get_or_past (set xs p new) p d (rw length-set ge) ∙ sym (get_or_past xs p d ge))))
    (cases_lt p (length xs)))
    (λ (ne : r ≢ p). inr ((λ e. absurd (ne e)), get_or-set_other xs p r new d ne))
    (cases_eq r p)

pub count_by-set : {A : Type 0} (test : A → Bool) (xs : List A) (i : ℕ) (y d : A) → i < length xs → count_by test (set xs i y) + cond (test (get_or xs i d)) 1 0 ≡ count_by test xs + cond (test y) 1 0
count_by-set test xs i y d lt = sum_by-set (λ x. cond (test x) 1 0) xs i y d lt

-- what is in a list after one place is replaced
pub Has-set : {A : Type 0} (xs : List A) (i : ℕ) (new x : A) → Has (set xs i new) x → (new ≡ x) ⊎ Has xs x
Has-set [] i new x h = absurd h
Has-set (y ∷ ys) zero new x h = elim h [ inl e ↦ inl e | inr later ↦ inr (inr later) ]
Has-set (y ∷ ys) (suc i) new x h = elim h [ inl e ↦ inr (inl e) | inr later ↦ ⊎_elim (λ (e : new ≡ x). inl e) (λ old. inr (inr old)) (Has-set ys i new x later) ]
