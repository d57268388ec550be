-- Tables of optional entries: one entry after another changes, and all have as many rows as places in each.
use Rattle.std.proofs.Common.{◌≡◌, ◌≢◌, ℕ, zero, suc, ◌<◌, ◌⊎◌, List, [], ◌∷◌, map, length, get_or, set, replicate, Option, None, refl, sym, ap, ◌∙◌, inl, inr, arith}
use Rattle.std.proofs.lemmas.Bool.{cases_eq, cases_lt}
use Rattle.std.proofs.lemmas.List.{get_or-set_same, get_or-set_other, get_or-replicate, get_or-map, get_or_past, length-set, length-replicate, map-set}
use Rattle.wire_queue.specs.Between.{entry}
use Rattle.wire_queue.specs.PassTables.{with_entry, IsSquare}

pub entry-with_entry_same : {A : Type 0} (rows : List (List (Option A))) (i j : ℕ) (o : Option A) → i < length rows → j < length (get_or rows i []) → entry (with_entry rows i j o) i j ≡ o
entry-with_entry_same rows i j o row place =
    ap (λ r. get_or r j None) (get_or-set_same rows i (set (get_or rows i []) j o) [] row) ∙ get_or-set_same (get_or rows i []) j o None place

pub entry-with_entry_row : {A : Type 0} (rows : List (List (Option A))) (i j k l : ℕ) (o : Option A) → k ≢ i → entry (with_entry rows i j o) k l ≡ entry rows k l
entry-with_entry_row rows i j k l o other = ap (λ r. get_or r l None) (get_or-set_other rows i k (set (get_or rows i []) j o) [] other)

pub entry-with_entry_place : {A : Type 0} (rows : List (List (Option A))) (i j k l : ℕ) (o : Option A) → l ≢ j → entry (with_entry rows i j o) k l ≡ entry rows k l
entry-with_entry_place [] i j k l o other = refl
entry-with_entry_place (r ∷ rs) zero j zero l o other = get_or-set_other r j l o None other
entry-with_entry_place (r ∷ rs) zero j (suc k) l o other = refl
entry-with_entry_place (r ∷ rs) (suc i) j zero l o other = refl
entry-with_entry_place (r ∷ rs) (suc i) j (suc k) l o other = entry-with_entry_place rs i j k l o other

pub entry-with_entry_other : {A : Type 0} (rows : List (List (Option A))) (i j k l : ℕ) (o : Option A) → ((k ≡ i) × (l ≡ j) → ⊥) → entry (with_entry rows i j o) k l ≡ entry rows k l
entry-with_entry_other rows i j k l o other = elim (cases_eq k i) [
  | inl same ↦ entry-with_entry_place rows i j k l o (λ here. other (same, here))
  | inr apart ↦ entry-with_entry_row rows i j k l o apart
]

-- an entry is the one that changed, or another
pub entry_cases : {A : Type 0} (rows : List (List (Option A))) (i j k l : ℕ) (o : Option A) → i < length rows → j < length (get_or rows i [])
    → ((k ≡ i) × (l ≡ j) × (entry (with_entry rows i j o) k l ≡ o)) ⊎ (((k ≡ i) × (l ≡ j) → ⊥) × (entry (with_entry rows i j o) k l ≡ entry rows k l))
entry_cases rows i j k l o row place = elim (cases_eq k i) [
  | inl same ↦ elim (cases_eq l j) [
    | inl here ↦ inl (same, here, ap (λ n. entry (with_entry rows i j o) n l) same ∙ ap (λ n. entry (with_entry rows i j o) i n) here ∙ entry-with_entry_same rows i j o row place)
    | inr other ↦ inr ((λ both. other both.1), entry-with_entry_place rows i j k l o other)
  ]
  | inr other ↦ inr ((λ both. other both.0), entry-with_entry_row rows i j k l o other)
]

pub square-with_entry : {A : Type 0} (n : ℕ) (rows : List (List (Option A))) (i j : ℕ) (o : Option A) → IsSquare n rows → IsSquare n (with_entry rows i j o)
square-with_entry n rows i j o is = record {
  rows_all = length-set rows i (set (get_or rows i []) j o) ∙ is.rows_all;
  places_all = λ k lt. row_kept rows i j k o ∙ is.places_all k lt;
}
  where
    row_kept : {A : Type 0} (rows : List (List (Option A))) (i j k : ℕ) (o : Option A) → length (get_or (with_entry rows i j o) k []) ≡ length (get_or rows k [])
    row_kept [] i j k o = refl
    row_kept (r ∷ rs) zero j zero o = length-set r j o
    row_kept (r ∷ rs) zero j (suc k) o = refl
    row_kept (r ∷ rs) (suc i) j zero o = refl
    row_kept (r ∷ rs) (suc i) j (suc k) o = row_kept rs i j k o

pub square-replicate : {A : Type 0} (n : ℕ) → IsSquare {A = A} n (replicate n (replicate n None))
square-replicate {A} n = record {
  rows_all = length-replicate n _;
  places_all = λ k lt. ap length (get_or-replicate n k (replicate n None) [] lt) ∙ length-replicate n None;
}

pub entry-replicate : {A : Type 0} (n m i j : ℕ) → entry {A = A} (replicate n (replicate m None)) i j ≡ None
entry-replicate {A = A} n m i j = elim (cases_lt i n) [
  | inl within ↦ ap (λ r. get_or r j None) (get_or-replicate n i (replicate m None) [] within) ∙ nothing m j
  | inr past ↦ ap (λ r. get_or r j None) (get_or_past (replicate n (replicate m None)) i [] (omega (arith, length-replicate n (replicate {A = Option A} m None))))
]
  where
    nothing : {A : Type 0} (m j : ℕ) → get_or {A = Option A} (replicate m None) j None ≡ None
    nothing zero j = refl
    nothing (suc m) zero = refl
    nothing (suc m) (suc j) = nothing m j

-- a list of rows in other words, of which one changes
pub kept : {X Y : Type 0} (f : X → Y) (xs : List X) (k : ℕ) (x n : X) → x ≡ get_or xs k x → f n ≡ f x → map f (set xs k n) ≡ map f xs
kept f [] k x n at same = refl
kept f (y ∷ ys) zero x n at same = ap (λ z. z ∷ map f ys) (same ∙ ap f at)
kept f (y ∷ ys) (suc k) x n at same = ap (λ l. f y ∷ l) (kept f ys k x n at same)

pub changed : {X A : Type 0} (f : X → List (Option A)) (xs : List X) (i j : ℕ) (x n : X) (o : Option A) → i < length xs → x ≡ get_or xs i x → f n ≡ set (f x) j o → map f (set xs i n) ≡ with_entry (map f xs) i j o
changed f xs i j x n o within at new =
    map-set f xs i n ∙ ap (set (map f xs) i) (new ∙ ap (λ r. set r j o) (ap f at ∙ sym (get_or-map f xs i x [] within)))
