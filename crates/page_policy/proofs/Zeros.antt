-- All counters but one are 0 where those before it and those behind it are.
use Rattle.std.proofs.Common.{◌≡◌, ℕ, suc, ◌+◌, ◌<◌, ◌==◌, ◌&&◌, List, length, take, drop, ap, ◌∙◌, arith}
use Rattle.std.proofs.lemmas.List.{set_split}
use Rattle.std.proofs.lemmas.List.Folds.{list_all-append}
use Rattle.std.specs.List.{list_all}
use Rattle.private_machine.specs.Policy.{alone_misses}

pub alone-by_parts : (i : ℕ) (xs : List ℕ) → i < length xs → alone_misses i xs ≡ (list_all (λ n. n == 0) (take i xs) && list_all (λ n. n == 0) (drop (i + 1) xs))
alone-by_parts i xs lt =
    let one : suc i ≡ i + 1 = omega arith in
    ap (list_all (λ n. n == 0)) (set_split xs i 0 lt)
    ∙ list_all-append (λ n. n == 0) (take i xs) _
    ∙ ap (λ k. list_all (λ n. n == 0) (take i xs) && list_all (λ n. n == 0) (drop k xs)) one
