-- An entry that is global and alone of its pair counts in each address space.
use Rattle.std.proofs.Common.{◌≡◌, ℕ, ◌==◌, Bool, true, false, ◌&&◌, ◌||◌, cond, Some, None, List, [], ◌∷◌, length, refl, arith}
use Rattle.std.specs.Prelude.{find, filter}
use Rattle.base_words.specs.declared.tlb.Entry.{Entry}
use Rattle.base_words.specs.Tlb.{page_pair, address_space, is_global, matches}
use Rattle.guest_tlb.specs.Everywhere.{is_global_entry}

abbrev pub of_pair : ℕ → Entry → Bool
of_pair pair e = page_pair e.hi == pair

none-of : (pair asid : ℕ) (es : List Entry) → length (filter (of_pair pair) es) ≡ 0 → find (matches pair asid) es ≡ None
none-of pair asid [] count = refl
none-of pair asid (e ∷ es) count = (elim (page_pair e.hi == pair) as (λ b. length (cond b (e ∷ filter (of_pair pair) es) (filter (of_pair pair) es)) ≡ 0 → cond (b && (is_global e || (address_space e.hi == asid))) (Some e) (find (matches pair asid) es) ≡ None) [
  | true ↦ λ c. cc
  | false ↦ λ c. none-of pair asid es c
]) count

pub same-everywhere : (pair asid other : ℕ) (es : List Entry) → is_global_entry (find (matches pair asid) es) ≡ true → length (filter (of_pair pair) es) ≡ 1 → find (matches pair other) es ≡ find (matches pair asid) es
same-everywhere pair asid other [] global count = refl
same-everywhere pair asid other (e ∷ es) global count = (elim (page_pair e.hi == pair) as (λ b.
    is_global_entry (cond (b && (is_global e || (address_space e.hi == asid))) (Some e) (find (matches pair asid) es)) ≡ true
    → length (cond b (e ∷ filter (of_pair pair) es) (filter (of_pair pair) es)) ≡ 1
    → cond (b && (is_global e || (address_space e.hi == other))) (Some e) (find (matches pair other) es) ≡ cond (b && (is_global e || (address_space e.hi == asid))) (Some e) (find (matches pair asid) es)) [
      | true ↦ λ g c. let none : length (filter (of_pair pair) es) ≡ 0 = omega arith in here g (none-of pair asid es none) (none-of pair other es none)
      | false ↦ λ g c. same-everywhere pair asid other es g c
    ]) global count
  where
    here : is_global_entry (cond (is_global e || (address_space e.hi == asid)) (Some e) (find (matches pair asid) es)) ≡ true → find (matches pair asid) es ≡ None → find (matches pair other) es ≡ None
        → cond (is_global e || (address_space e.hi == other)) (Some e) (find (matches pair other) es) ≡ cond (is_global e || (address_space e.hi == asid)) (Some e) (find (matches pair asid) es)
    here g a b = grind arith
