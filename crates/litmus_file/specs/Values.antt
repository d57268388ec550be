-- The value of a key: of the kind that is asked for, and within its range; else a fault.
use Rattle.std.specs.Prelude.{ℕ, ℤ, pos, negsuc, List, [], ◌∷◌, length, ◌==◌, ◌%◌, ◌&&◌, nat_le, if◌then◌else◌, Option, Some, None, Ok, Err}
use Rattle.toml.specs.Data.{Data, Items, no_items, item, Members, as_integer, as_array, as_table}
use Rattle.litmus_file.specs.declared.fault.LitmusFault.TheVariants as fault
use Rattle.litmus_file.specs.declared.fault.Amount.TheVariants.{Number, Length}
use Rattle.litmus_file.specs.Reads.{Read, ◌>>=◌, each}

-- the value of the kind that is asked for, if it is one
abbrev pub of_kind : {A : Type 0} → List ℕ → Option A → Read A
of_kind key None = Err (fault.Kind key)
of_kind key (Some x) = Ok x

-- a length within its range
abbrev pub long : {A : Type 0} → List ℕ → ℕ → ℕ → ℕ → A → Read A
long key low high n x = if nat_le low n && nat_le n high then Ok x else Err (fault.Range key (Length n))

-- an integer within its range
abbrev pub in_range : List ℕ → ℕ → ℕ → ℤ → Read ℕ
in_range key low high (pos n) =
    if nat_le low n && nat_le n high then Ok n else Err (fault.Range key (Number (pos n)))
in_range key low high (negsuc n) = Err (fault.Range key (Number (negsuc n)))

-- an integer within a range
abbrev pub number_in : List ℕ → ℕ → ℕ → Data → Read ℕ
number_in key low high d = of_kind key (as_integer d) >>= in_range key low high

-- the items of an array
abbrev pub list_of : Items → List Data
list_of no_items = []
list_of (item d ds) = d ∷ list_of ds

-- an array of so many to so many items
abbrev pub array_in : List ℕ → ℕ → ℕ → Data → Read (List Data)
array_in key low high d =
    of_kind key (as_array d) >>= λ ds. long key low high (length (list_of ds)) (list_of ds)

-- an array of so many to so many tables
abbrev pub tables_in : List ℕ → ℕ → ℕ → Data → Read (List Members)
tables_in key low high d = array_in key low high d >>= each (λ i e. of_kind key (as_table e)) 0

-- a multiple of 4
abbrev pub aligned : List ℕ → ℕ → Read ℕ
aligned key n = if n % 4 == 0 then Ok n else Err (fault.Range key (Number (pos n)))

-- an offset: first from 0 to 4092, then a multiple of 4
abbrev pub offset_in : List ℕ → Data → Read ℕ
offset_in key d = number_in key 0 4092 d >>= aligned key
