-- How a key is told: as its path from the top of the description.
use Rattle.std.specs.Prelude.{ℕ, List, ◌++◌, codes, decimal}
use Rattle.machine_desc.specs.declared.key.Key.{Key}
use Rattle.machine_desc.specs.declared.place.Place.{Place}
use Rattle.machine_desc.specs.declared.place.Place.TheVariants.{Top, Machine, Cell, Guest, Policy, Work, Input}

-- the path of the key of a table: its name alone at the top, else the table, a dot and the name
abbrev pub path : Place → List ℕ → List ℕ
path Top key = key
path Machine key = codes "machine." ++ key
path (Cell i) key = codes "cell[" ++ (decimal i ++ (codes "]." ++ key))
path (Guest i) key = codes "guest[" ++ (decimal i ++ (codes "]." ++ key))
path Policy key = codes "policy." ++ key
path (Work i) key = codes "work[" ++ (decimal i ++ (codes "]." ++ key))
path (Input i) key = codes "input[" ++ (decimal i ++ (codes "]." ++ key))

-- the path of a key
abbrev pub path_of : Key → List ℕ
path_of key = path key.place key.name.now
