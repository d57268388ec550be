-- Lists that are joined, place by place.
use Rattle.std.proofs.Common.{◌≡◌, ℕ, ◌+◌, List, [], ◌∷◌, ◌++◌, map-id, ap, sym, ◌<◌, length, get_or, drop, add-one, drop-cons, ◌∙◌, arith}
use Rattle.std.specs.List.{flat_map, range_with_len}
use Rattle.std.proofs.lemmas.List.{flat_map_more}
use Rattle.std.proofs.lemmas.List.FromFn.{map-range_with_len_more}

range_more : (n : ℕ) → range_with_len 0 (n + 1) ≡ range_with_len 0 n ++ n ∷ []
range_more n =
    let same : ℕ → ℕ = λ i. i in
    sym (map-id (range_with_len 0 (n + 1))) ∙ map-range_with_len_more same 0 n n (omega arith) ∙ ap (λ (xs : List ℕ). xs ++ n ∷ []) (map-id (range_with_len 0 n))

-- one more place
pub joined_more : {A : Type 0} (f : ℕ → List A) (n : ℕ) → flat_map f (range_with_len 0 (n + 1)) ≡ flat_map f (range_with_len 0 n) ++ f n
joined_more f n = ap (flat_map f) (range_more n) ∙ sym (flat_map_more f [] (range_with_len 0 n) n)

-- a list from a place on begins with what stands there
pub drop_next : {X : Type 0} (xs : List X) (i : ℕ) (d : X) → i < length xs → drop i xs ≡ get_or xs i d ∷ drop (i + 1) xs
drop_next xs i d there = rw (add-one, drop-cons xs i d)
