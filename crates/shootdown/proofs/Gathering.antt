-- Lists that come to one place, one after another.
use Rattle.std.proofs.Common.{◌≡◌, ℕ, zero, suc, ◌<◌, List, [], ◌∷◌, ◌++◌, length, map, get_or, sym, refl, ap, ◌∙◌, arith, append_assoc}
use Rattle.std.proofs.lemmas.List.{append-nil}
use mathlib.Core.Option.{some}
use lib.ListN.{get_elem?}

-- one more came, which was the first of those to come
pub comes : {A B : Type 0} (of : A → B) (was now own all : List B) (x : A) (before after : List A) → was ++ map of before ≡ all → before ≡ x ∷ after → now ≡ was ++ own → own ≡ of x ∷ []
    → now ++ map of after ≡ all
comes of was now own all x before after so_far first is one =
    ap (λ l. l ++ map of after) (is ∙ ap (λ l. was ++ l) one) ∙ append_assoc was (of x ∷ []) (map of after) ∙ ap (λ l. was ++ map of l) (sym first) ∙ so_far

-- none came
pub stays : {B : Type 0} (was now own all : List B) → was ≡ all → now ≡ was ++ own → own ≡ [] → now ≡ all
stays was now own all so_far is none = is ∙ ap (λ l. was ++ l) none ∙ append-nil was ∙ so_far

none_left : {A : Type 0} (xs : List A) → length xs ≡ 0 → xs ≡ []
none_left [] e = refl
none_left (x ∷ xs) e = absurd (omega arith)

-- all came
pub all_came : {A B : Type 0} (of : A → B) (now all : List B) (left : List A) → now ++ map of left ≡ all → length left ≡ 0 → now ≡ all
all_came of now all left so_far none = sym (append-nil now) ∙ ap (λ l. now ++ map of l) (sym (none_left left none)) ∙ so_far

-- what comes of an item stands where the item does
pub place_of : {A B : Type 0} (of : A → B) (xs : List A) (i : ℕ) (d : A) → i < length xs → get_elem? (map of xs) i ≡ some (of (get_or xs i d))
place_of of [] i d within = absurd (omega arith)
place_of of (x ∷ xs) zero d within = refl
place_of of (x ∷ xs) (suc i) d within = place_of of xs i d (omega arith)
