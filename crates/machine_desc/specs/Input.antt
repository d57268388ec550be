-- The input of each guest: its entries in order of their `at`, ties in the order of the file.
use Rattle.std.specs.Prelude.{◌≡◌, ℕ, suc, ◌==◌, nat_le, if◌then◌else◌, List, [], ◌∷◌, length, map, filter}
use Rattle.std.specs.Ordering.{nat_cmp}
use Rattle.std.specs.List.{range_with_len}
use Rattle.std.specs.List.Sorted.{IsPermutation, IsSortedByKey, IsStableByKey}
use Rattle.base_words.specs.declared.input.InputEntry.{InputEntry}
use Rattle.machine_desc.specs.declared.sheet.InputTable.{InputTable}

abbrev pub entry_of : InputTable → InputEntry
entry_of table = record { at = table.at; text = table.text }

-- the input of a guest, in the order of the file
abbrev pub entries_for : ℕ → List InputTable → List InputEntry
entries_for guest tables = map entry_of (filter (λ table. table.guest.0 == guest) tables)

abbrev pub at_of : InputEntry → ℕ
at_of entry = entry.at

-- the list has the guest's entries in order of their `at`, and those of one `at` in the order of the file
pub record IsInputOf (guest : ℕ) (tables : List InputTable) (list : List InputEntry) : Type 0 where
  pub same : IsPermutation (entries_for guest tables) list
  pub in_order : IsSortedByKey at_of nat_cmp list
  pub ties : IsStableByKey at_of nat_cmp (entries_for guest tables) list

-- the lists of the guests from this number on
abbrev pub AreInputsFrom : ℕ → List InputTable → List (List InputEntry) → Type 0
AreInputsFrom guest tables [] = Unit {0}
AreInputsFrom guest tables (list ∷ lists) =
    IsInputOf guest tables list × AreInputsFrom (suc guest) tables lists

-- one list for each of so many guests
pub record AreInputs (count : ℕ) (tables : List InputTable) (lists : List (List InputEntry)) : Type 0 where
  pub as_many : length lists ≡ count
  pub each : AreInputsFrom 0 tables lists

-- an entry before the first of the others that comes no earlier
abbrev pub with_entry : InputEntry → List InputEntry → List InputEntry
with_entry entry [] = entry ∷ []
with_entry entry (other ∷ others) =
    if nat_le entry.at other.at then entry ∷ other ∷ others else other ∷ with_entry entry others

-- entries in order of their `at`, ties in the order in which they stand
abbrev pub in_order : List InputEntry → List InputEntry
in_order [] = []
in_order (entry ∷ entries) = with_entry entry (in_order entries)

-- the input of each of so many guests
abbrev pub inputs_of : ℕ → List InputTable → List (List InputEntry)
inputs_of count tables = map (λ guest. in_order (entries_for guest tables)) (range_with_len 0 count)
