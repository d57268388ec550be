-- A table has no key but those that its rows know.
use Rattle.std.specs.Prelude.{ℕ, List, [], ◌∷◌, Bool, bytes_eq, if◌then◌else◌, Option, Some, None, Ok, Err}
use Rattle.std.specs.List.{list_any}
use Rattle.std.specs.Ordering.{nat_cmp, is_lt}
use Rattle.std.specs.Cmp.Lexicographic.{slice_cmp}
use Rattle.toml.specs.Data.{Members, no_members, member}
use Rattle.machine_desc.specs.declared.fault.DescFault.TheVariants as fault
use Rattle.machine_desc.specs.declared.place.Place.{Place}
use Rattle.machine_desc.specs.Paths.{path}
use Rattle.machine_desc.specs.Reads.{Read}

-- the keys of a table
abbrev pub keys_in : Members → List (List ℕ)
keys_in no_members = []
keys_in (member key d ms) = key ∷ keys_in ms

-- the key is one of these
abbrev pub is_among : List (List ℕ) → List ℕ → Bool
is_among known key = list_any (λ k. bytes_eq k key) known

-- the lesser of two keys, by their bytes
abbrev pub lesser : List ℕ → Option (List ℕ) → List ℕ
lesser key None = key
lesser key (Some other) = if is_lt (slice_cmp nat_cmp other key) then other else key

-- the least key that is not known
abbrev pub least_unknown : List (List ℕ) → List (List ℕ) → Option (List ℕ)
least_unknown known [] = None
least_unknown known (key ∷ keys) =
    if is_among known key then least_unknown known keys else Some (lesser key (least_unknown known keys))

-- the fault of an unknown key, if there is one
abbrev pub refused : Place → Option (List ℕ) → Read (Unit {0})
refused place None = Ok tt
refused place (Some key) = Err (fault.Unknown (path place key))

-- no key of the table is unknown; else the fault of the least one
unfoldable pub only : Place → List (List ℕ) → Members → Read (Unit {0})
only place known ms = refused place (least_unknown known (keys_in ms))
