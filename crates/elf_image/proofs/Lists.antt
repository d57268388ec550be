-- Lists with a part replaced, and lists joined, place by place.
use Rattle.std.proofs.Common.{◌≡◌, ℕ, ◌+◌, ◌-◌, ◌<◌, ◌≤◌, List, ◌++◌, length, get_or, take, drop, map, refl, ap, ◌∙◌, arith, inl, inr}
use Rattle.std.specs.List.{range_with_len}
use Rattle.std.proofs.lemmas.Bool.{cases_lt}
use Rattle.std.proofs.lemmas.List.{length-append, length-take, length-drop, get_or-take, get_or-drop, get_or_append_left, get_or-append_right}
use Rattle.std.proofs.lemmas.List.FromFn.{fill_by_all, get_or-map-range_with_len, length-map-range_with_len}

-- the list with the elements from place o on replaced by others
abbrev pub replaced : List ℕ → ℕ → List ℕ → List ℕ
replaced xs o ys = take o xs ++ (ys ++ drop (o + length ys) xs)

pub length-replaced : (xs : List ℕ) (o : ℕ) (ys : List ℕ) → o + length ys ≤ length xs → length (replaced xs o ys) ≡ length xs
length-replaced xs o ys fits = simp (length-append, length-take, length-drop) (omega arith)

pub replaced-below : (xs : List ℕ) (o : ℕ) (ys : List ℕ) (k : ℕ) → o + length ys ≤ length xs → k < o → get_or (replaced xs o ys) k 0 ≡ get_or xs k 0
replaced-below xs o ys k fits lt =
    let front : k < length (take o xs) = simp length-take (omega arith) in
    get_or_append_left (take o xs) (ys ++ drop (o + length ys) xs) 0 k front ∙ get_or-take o xs k 0 lt

pub replaced-within : (xs : List ℕ) (o : ℕ) (ys : List ℕ) (k : ℕ) → o + length ys ≤ length xs → o ≤ k → k < o + length ys → get_or (replaced xs o ys) k 0 ≡ get_or ys (k - o) 0
replaced-within xs o ys k fits le lt =
    let front : length (take o xs) ≡ o = simp length-take (omega arith) in
    get_or-append_right (take o xs) (ys ++ drop (o + length ys) xs) o k 0 front le ∙ get_or_append_left ys (drop (o + length ys) xs) 0 (k - o) (omega arith)

pub replaced-above : (xs : List ℕ) (o : ℕ) (ys : List ℕ) (k : ℕ) → o + length ys ≤ length xs → o + length ys ≤ k → get_or (replaced xs o ys) k 0 ≡ get_or xs k 0
replaced-above xs o ys k fits le =
    let front : length (take o xs) ≡ o = simp length-take (omega arith) in
    let place : (o + length ys) + (k - o - length ys) ≡ k = omega arith in
    get_or-append_right (take o xs) (ys ++ drop (o + length ys) xs) o k 0 front (omega arith)
    ∙ get_or-append_right ys (drop (o + length ys) xs) (length ys) (k - o) 0 refl (omega arith)
    ∙ get_or-drop (o + length ys) xs (k - o - length ys) 0 ∙ ap (λ i. get_or xs i 0) place

-- two lists that a function of the place gives, one behind the other
pub map-range_with_len-append : (f : ℕ → ℕ) (m n : ℕ) (xs ys : List ℕ) → xs ≡ map f (range_with_len 0 m) → length ys ≡ n → ((k : ℕ) → k < n → get_or ys k 0 ≡ f (m + k)) → xs ++ ys ≡ map f (range_with_len 0 (m + n))
map-range_with_len-append f m n xs ys first len each =
    let front : length xs ≡ m = ap length first ∙ length-map-range_with_len f 0 m in
    fill_by_all f (xs ++ ys) (m + n) 0 (length-append xs ys ∙ omega arith) (λ k lt.
    elim (cases_lt k m) [
      | inl below ↦ get_or_append_left xs ys 0 k (omega arith) ∙ ap (λ l. get_or l k 0) first ∙ get_or-map-range_with_len f 0 m k k 0 below (omega arith)
      | inr above ↦
          let rest : k - m < n = omega arith in
          let place : m + (k - m) ≡ k = omega arith in
          get_or-append_right xs ys m k 0 front above ∙ each (k - m) rest ∙ ap f place
    ])
