-- The input of all guests, as a function of the tables, and within its bounds.
use Rattle.std.proofs.Common.{◌≡◌, ℕ, zero, suc, ◌+◌, ◌≤◌, ◌==◌, List, [], ◌∷◌, length, map, true, false, nat_le, if◌then◌else◌, cond, refl, ap, ap₂, ◌∙◌, subst, arith}
use Rattle.std.specs.Prelude.{All, filter, sum_by, count_by}
use Rattle.std.specs.List.{range_with_len}
use Rattle.std.proofs.lemmas.Bool.Decides.{nat_tests}
use Rattle.std.proofs.lemmas.List.{length-map}
use Rattle.std.proofs.lemmas.List.Elements.{All-nil, All-cons, All-head, All-tail, All-map, All-filter, All-weaker}
use Rattle.std.proofs.lemmas.List.Sums.{sum_by-cons, length-filter, count_by-le-length}
use Rattle.base_words.specs.declared.input.InputEntry.{InputEntry}
use Rattle.machine_desc.specs.declared.sheet.InputTable.{InputTable}
use Rattle.machine_desc.specs.Input.{entry_of, entries_for, with_entry, in_order, AreInputsFrom, AreInputs, inputs_of}
use Rattle.machine_desc.specs.Bounds.{IsEntry, IsInput}
use Rattle.machine_desc.proofs.TableSizes.{IsInputTable}
use Rattle.machine_desc.proofs.InputOrder.{Rises-in_order, IsNonDecreasingBy-rises, in_order-is}

-- the lists of the guests from this number on are those of the function
inputs-from : (guest count : ℕ) (tables : List InputTable) (lists : List (List InputEntry)) → length lists ≡ count → AreInputsFrom guest tables lists → lists ≡ map (λ g. in_order (entries_for g tables)) (range_with_len guest count)
inputs-from guest zero tables [] many are = refl
inputs-from guest (suc count) tables [] many are = absurd (omega (arith, many))
inputs-from guest zero tables (list ∷ lists) many are = absurd (omega (arith, many))
inputs-from guest (suc count) tables (list ∷ lists) many are =
    ap₂ (λ (l : List InputEntry) (ls : List (List InputEntry)). l ∷ ls) (in_order-is guest tables list are.0) (subst (λ (k : ℕ). lists ≡ map (λ g. in_order (entries_for g tables)) (range_with_len k count)) (omega arith) (inputs-from (suc guest) count tables lists (omega (arith, many)) are.1))

pub inputs_of-is : (count : ℕ) (tables : List InputTable) (lists : List (List InputEntry)) → AreInputs count tables lists → lists ≡ inputs_of count tables
inputs_of-is count tables lists are = inputs-from 0 count tables lists are.as_many are.each

-- ---- sizes

All-with : (P : InputEntry → Type 0) (e : InputEntry) (es : List InputEntry) → P e → All P es → All P (with_entry e es)
All-with P e [] one all = All-cons P e [] one all
All-with P e (f ∷ fs) one all = elim (nat_le e.at f.at) as (λ b. All P (let l : List InputEntry = if b then e ∷ f ∷ fs else f ∷ with_entry e fs in l)) [
  | true ↦ All-cons P e (f ∷ fs) one all
  | false ↦ All-cons P f (with_entry e fs) (All-head P f fs all) (All-with P e fs one (All-tail P f fs all))
]

All-in_order : (P : InputEntry → Type 0) (es : List InputEntry) → All P es → All P (in_order es)
All-in_order P [] all = all
All-in_order P (e ∷ es) all = All-with P e (in_order es) (All-head P e es all) (All-in_order P es (All-tail P e es all))

length-with : (e : InputEntry) (es : List InputEntry) → length (with_entry e es) ≡ suc (length es)
length-with e [] = refl
length-with e (f ∷ fs) = elim (nat_le e.at f.at) as (λ b. length (let l : List InputEntry = if b then e ∷ f ∷ fs else f ∷ with_entry e fs in l) ≡ suc (suc (length fs))) [
  | true ↦ refl
  | false ↦ ap suc (length-with e fs)
]

length-in_order : (es : List InputEntry) → length (in_order es) ≡ length es
length-in_order [] = refl
length-in_order (e ∷ es) = length-with e (in_order es) ∙ ap suc (length-in_order es)

entry-within : (table : InputTable) → IsInputTable table → IsEntry (entry_of table)
entry-within table within = record { early = within.early; some = within.some; few = within.few }

input-within : (guest : ℕ) (tables : List InputTable) → All IsInputTable tables → IsInput (in_order (entries_for guest tables))
input-within guest tables within = record {
  entries = All-in_order IsEntry (entries_for guest tables)
      (All-map IsEntry entry_of (filter (λ table. table.guest.0 == guest) tables)
      (All-weaker IsInputTable (λ table. IsEntry (entry_of table)) entry-within (filter (λ table. table.guest.0 == guest) tables)
      (All-filter (λ table. table.guest.0 == guest) IsInputTable tables within)));
  in_order = IsNonDecreasingBy-rises (in_order (entries_for guest tables)) (Rises-in_order (entries_for guest tables));
}

inputs-within-from : (guest count : ℕ) (tables : List InputTable) → All IsInputTable tables → All IsInput (map (λ g. in_order (entries_for g tables)) (range_with_len guest count))
inputs-within-from guest zero tables within = All-nil IsInput
inputs-within-from guest (suc count) tables within = All-cons IsInput _ _ (input-within guest tables within) (inputs-within-from (guest + 1) count tables within)

pub inputs-within : (count : ℕ) (tables : List InputTable) → All IsInputTable tables → All IsInput (inputs_of count tables)
inputs-within count tables within = inputs-within-from 0 count tables within

-- how many entries a guest has
length-entries : (guest : ℕ) (tables : List InputTable) → length (in_order (entries_for guest tables)) ≡ count_by (λ table. table.guest.0 == guest) tables
length-entries guest tables =
    length-in_order (entries_for guest tables) ∙ (length-map (filter (λ table. table.guest.0 == guest) tables) entry_of ∙ length-filter (λ table. table.guest.0 == guest) tables)

-- tables for a guest, and for those behind it, are tables for it or those behind
count-from : (guest : ℕ) (tables : List InputTable) → count_by (λ table. table.guest.0 == guest) tables + count_by (λ table. nat_le (guest + 1) table.guest.0) tables ≤ count_by (λ table. nat_le guest table.guest.0) tables
count-from guest [] = omega arith
count-from guest (t ∷ ts) =
    let first = sum_by-cons (λ (table : InputTable). cond (table.guest.0 == guest) 1 0) t ts in
    let second = sum_by-cons (λ (table : InputTable). cond (nat_le (guest + 1) table.guest.0) 1 0) t ts in
    let both = sum_by-cons (λ (table : InputTable). cond (nat_le guest table.guest.0) 1 0) t ts in
    let one : cond (t.guest.0 == guest) 1 0 + cond (nat_le (guest + 1) t.guest.0) 1 0 ≤ cond (nat_le guest t.guest.0) 1 0 = grind (arith, nat_tests) in
    omega (arith, first, second, both, one, count-from guest ts)

sum-from : (guest count : ℕ) (tables : List InputTable) → sum_by length (map (λ g. in_order (entries_for g tables)) (range_with_len guest count)) ≤ count_by (λ table. nat_le guest table.guest.0) tables
sum-from guest zero tables = omega arith
sum-from guest (suc count) tables =
    let first = sum_by-cons length (in_order (entries_for guest tables)) (map (λ g. in_order (entries_for g tables)) (range_with_len (guest + 1) count)) in
    omega (arith, first, length-entries guest tables, sum-from (guest + 1) count tables, count-from guest tables)

pub sum-inputs : (count : ℕ) (tables : List InputTable) → sum_by length (inputs_of count tables) ≤ length tables
sum-inputs count tables = omega (arith, sum-from 0 count tables, count_by-le-length (λ (table : InputTable). nat_le 0 table.guest.0) tables)
