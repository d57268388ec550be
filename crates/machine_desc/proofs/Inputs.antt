-- The lists of the guests, one after the other.
use Rattle.std.proofs.Common.{◌≡◌, ℕ, suc, ◌+◌, List, [], ◌∷◌, ◌++◌, length, subst, ap, ◌∙◌, refl, arith}
use Rattle.std.proofs.lemmas.List.{length_push}
use Rattle.base_words.specs.declared.input.InputEntry.{InputEntry}
use Rattle.machine_desc.specs.declared.sheet.InputTable.{InputTable}
use Rattle.machine_desc.specs.Input.{IsInputOf, AreInputsFrom, AreInputs}

last : (i : ℕ) (tables : List InputTable) (lists : List (List InputEntry)) (list : List InputEntry) → AreInputsFrom i tables lists → IsInputOf (i + length lists) tables list → AreInputsFrom i tables (lists ++ list ∷ [])
last i tables [] list are is =
    let same : i + 0 ≡ i = omega arith in
    (subst (λ (k : ℕ). IsInputOf k tables list) same is, tt)
last i tables (first ∷ lists) list are is =
    let same : i + suc (length lists) ≡ suc i + length lists = omega arith in
    (are.0, last (suc i) tables lists list are.1 (subst (λ (k : ℕ). IsInputOf k tables list) same is))

pub no_lists : (tables : List InputTable) → AreInputs 0 tables []
no_lists tables = record { as_many = refl; each = tt }

pub one_more_list : (guest : ℕ) (tables : List InputTable) (lists : List (List InputEntry)) (list : List InputEntry) → AreInputs guest tables lists → IsInputOf guest tables list → AreInputs (guest + 1) tables (lists ++ list ∷ [])
one_more_list guest tables lists list are is =
    let same : guest ≡ 0 + length lists = omega (arith, are.as_many) in
    record {
      as_many = length_push lists list ∙ ap (λ n. n + 1) are.as_many;
      each = last 0 tables lists list are.each (subst (λ (k : ℕ). IsInputOf k tables list) same is);
    }

pub ruleset input_lists = (no_lists, one_more_list)
