-- The cells of a table fit its rows.
use Rattle.std.proofs.Common.{◌≡◌, ◌⊎◌, ℕ, ◌≤◌, List, [], ◌∷◌, length, Bool, true, false, not, ◌&&◌, nat_le, Option, Some, None, Ok, refl, ap, sym, ◌∙◌, subst, inl, inr, ℤ, pos, negsuc}
use Rattle.std.specs.Prelude.{bytes_eq}
use Rattle.std.specs.List.{list_any}
use Rattle.std.proofs.lemmas.Slice.Eq.{bytes_eq-Decides}
use Rattle.toml.specs.Data.{Data, Members, get_member, as_integer, as_str, as_array, as_table}
use Rattle.machine_desc.specs.declared.place.Place.{Place}
use Rattle.machine_desc.specs.Paths.{path}
use Rattle.machine_desc.specs.Reads.{◌>>=◌, each}
use Rattle.machine_desc.specs.Kinds.{Kind, between, node_list, text_to, one_of, one_table, array_of, Cell, a_number, a_list, a_text, some_tables, nothing, Row}
use Rattle.machine_desc.specs.Values.{of_kind, long, in_range, number_in, text_in, nodes_in, node_in, tables_in, array_in, list_of as items_of}
use Rattle.machine_desc.specs.Cells.{cell_at, held, value_in, absent}
use Rattle.machine_desc.specs.Tables.{Cells, cells_at, table_at, cell_named, list_of, tables_of}
use Rattle.machine_desc.specs.Unknown.{only}
use Rattle.machine_desc.proofs.Stepwise.{bound, length-each, tested, two_tests, within, neither}

-- ---- cells of a kind

-- a number within its range
pub record HasNumber (low high : ℕ) (cell : Cell) : Type 0 where
  pub number : ℕ
  pub is : cell ≡ a_number number
  pub least : low ≤ number
  pub most : number ≤ high

-- a text of 1 to so many bytes
pub record HasText (most : ℕ) (cell : Cell) : Type 0 where
  pub text : List ℕ
  pub is : cell ≡ a_text text
  pub some : 1 ≤ length text
  pub few : length text ≤ most

-- the cell is of the kind, and within its range
abbrev pub Fits : Kind → Cell → Type 0
Fits (between low high) cell = HasNumber low high cell
Fits (node_list most) cell = (1 ≤ length (list_of cell)) × (length (list_of cell) ≤ most)
Fits (text_to most) cell = HasText most cell
Fits (one_of words) cell = Unit {0}
Fits one_table cell = Unit {0}
Fits (array_of low high) cell = (low ≤ length (tables_of cell)) × (length (tables_of cell) ≤ high)

in_range-within : (key : List ℕ) (low high : ℕ) (z : ℤ) (n : ℕ) → in_range key low high z ≡ Ok n → (low ≤ n) × (n ≤ high)
in_range-within key low high (pos m) n is =
    let t = tested (nat_le low m && nat_le m high) m n _ is in
    subst (λ (k : ℕ). (low ≤ k) × (k ≤ high)) t.1 (within low m high t.0)
in_range-within key low high (negsuc m) n is = absurd (cc)

array_in-within : (key : List ℕ) (low high : ℕ) (d : Data) (ds : List Data) → array_in key low high d ≡ Ok ds → (low ≤ length ds) × (length ds ≤ high)
array_in-within key low high d ds is =
    let items = bound (of_kind key (as_array d)) (λ es. long key low high (length (items_of es)) (items_of es)) ds is in
    let n : ℕ = length (items_of items.0) in
    let t = tested (nat_le low n && nat_le n high) (items_of items.0) ds _ items.2 in
    subst (λ (es : List Data). (low ≤ length es) × (length es ≤ high)) t.1 (within low n high t.0)

pub value_in-fits : (key : List ℕ) (kind : Kind) (d : Data) (cell : Cell) → value_in key kind d ≡ Ok cell → Fits kind cell
value_in-fits key (between low high) d cell is =
    let number = bound (number_in key low high d) (λ n. Ok (a_number n)) cell is in
    let z = bound (of_kind key (as_integer d)) (in_range key low high) number.0 number.1 in
    let e : cell ≡ a_number number.0 = let s = number.2 in cc in
    let fits = in_range-within key low high z.0 number.0 z.2 in
    record { number = number.0; is = e; least = fits.0; most = fits.1 }
value_in-fits key (node_list most) d cell is =
    let list = bound (nodes_in key most d) (λ ns. Ok (a_list ns)) cell is in
    let array = bound (array_in key 1 most d) (each (λ i e. node_in key e) 0) list.0 list.1 in
    let e : a_list list.0 ≡ cell = let s = list.2 in cc in
    let many = length-each (λ (i : ℕ) e. node_in key e) 0 array.0 list.0 array.2 in
    let fits : (1 ≤ length list.0) × (length list.0 ≤ most) = subst (λ (n : ℕ). (1 ≤ n) × (n ≤ most)) (sym many) (array_in-within key 1 most d array.0 array.1) in
    subst (λ (c : Cell). (1 ≤ length (list_of c)) × (length (list_of c) ≤ most)) e fits
value_in-fits key (text_to most) d cell is =
    let given = bound (text_in key most d) (λ s. Ok (a_text s)) cell is in
    let str = bound (of_kind key (as_str d)) (λ s. long key 1 most (length s) s) given.0 given.1 in
    let t = tested (nat_le 1 (length str.0) && nat_le (length str.0) most) str.0 given.0 _ str.2 in
    let fits : (1 ≤ length given.0) × (length given.0 ≤ most) = subst (λ (s : List ℕ). (1 ≤ length s) × (length s ≤ most)) t.1 (within 1 (length str.0) most t.0) in
    let e : cell ≡ a_text given.0 = let s = given.2 in cc in
    record { text = given.0; is = e; some = fits.0; few = fits.1 }
value_in-fits key (one_of words) d cell is = tt
value_in-fits key one_table d cell is = tt
value_in-fits key (array_of low high) d cell is =
    let given = bound (tables_in key low high d) (λ ts. Ok (some_tables ts)) cell is in
    let array = bound (array_in key low high d) (each (λ i e. of_kind key (as_table e)) 0) given.0 given.1 in
    let e : some_tables given.0 ≡ cell = let s = given.2 in cc in
    let many = length-each (λ (i : ℕ) e. of_kind key (as_table e)) 0 array.0 given.0 array.2 in
    let fits : (low ≤ length given.0) × (length given.0 ≤ high) = subst (λ (n : ℕ). (low ≤ n) × (n ≤ high)) (sym many) (array_in-within key low high d array.0 array.1) in
    subst (λ (c : Cell). (low ≤ length (tables_of c)) × (length (tables_of c) ≤ high)) e fits

-- ---- cells of rows

-- the cell fits the row, or is what stands for an absent key
abbrev pub FitsRow : Row → Cell → Type 0
FitsRow row cell = Fits row.kind cell ⊎ (row.default ≡ Some cell)

held-fits : (key : List ℕ) (row : Row) (d : Option Data) (cell : Cell) → held key row d ≡ Ok cell → FitsRow row cell
held-fits key row None cell is = by row.default refl
  where
    by : (x : Option Cell) → row.default ≡ x → FitsRow row cell
    by None e = let no : absent key None ≡ Ok cell = subst (λ (o : Option Cell). absent key o ≡ Ok cell) e is in absurd (cc)
    by (Some c) e = let same : absent key (Some c) ≡ Ok cell = subst (λ (o : Option Cell). absent key o ≡ Ok cell) e is in inr (let s : c ≡ cell = cc in e ∙ ap (λ (c : Cell). Some c) s)
held-fits key row (Some d) cell is = inl (value_in-fits key row.kind d cell is)

cell_at-fits : (place : Place) (row : Row) (ms : Members) (cell : Cell) → cell_at place row ms ≡ Ok cell → FitsRow row cell
unfolding cell_at
cell_at-fits place row ms cell is = held-fits (path place row.key) row (get_member row.key ms) cell is

-- the rows have keys of their own
abbrev pub are_apart : List Row → Bool
are_apart [] = true
are_apart (row ∷ rows) = not (list_any (λ r. bytes_eq r.key row.key) rows) && are_apart rows

-- each row's cell fits it
abbrev pub FitRows : List Row → Cells → Type 0
FitRows [] cells = Unit {0}
FitRows (row ∷ rows) cells = FitsRow row (cell_named row.key cells) × FitRows rows cells

not_true : (b : Bool) → not b ≡ true → b ≡ false
not_true true is = absurd (cc)
not_true false is = refl

-- a cell of another key before them changes nothing
FitRows-behind : (key : List ℕ) (cell : Cell) (cells : Cells) (rows : List Row) → list_any (λ r. bytes_eq r.key key) rows ≡ false → FitRows rows cells → FitRows rows ((key, cell) ∷ cells)
FitRows-behind key cell cells [] other fits = tt
FitRows-behind key cell cells (row ∷ rows) other fits =
    let both = neither (bytes_eq row.key key) (list_any (λ r. bytes_eq r.key key) rows) other in
    let same : cell_named row.key ((key, cell) ∷ cells) ≡ cell_named row.key cells = rw both.0 refl in
    (subst (λ (c : Cell). FitsRow row c) (sym same) fits.0, FitRows-behind key cell cells rows both.1 fits.1)

pub cells_at-fit : (place : Place) (rows : List Row) (ms : Members) (cells : Cells) → are_apart rows ≡ true → cells_at place rows ms ≡ Ok cells → FitRows rows cells
cells_at-fit place [] ms cells apart is = tt
cells_at-fit place (row ∷ rows) ms cells apart is =
    let both = two_tests (not (list_any (λ r. bytes_eq r.key row.key) rows)) (are_apart rows) apart in
    let one = bound (cell_at place row ms) (λ cell. cells_at place rows ms >>= λ cs. Ok ((row.key, cell) ∷ cs)) cells is in
    let rest = bound (cells_at place rows ms) (λ cs. Ok ((row.key, one.0) ∷ cs)) cells one.2 in
    let e : (row.key, one.0) ∷ rest.0 ≡ cells = let s = rest.2 in cc in
    let here : bytes_eq row.key row.key ≡ true = (bytes_eq-Decides row.key row.key).1 refl in
    let first : cell_named row.key ((row.key, one.0) ∷ rest.0) ≡ one.0 = rw here refl in
    let fits : FitRows (row ∷ rows) ((row.key, one.0) ∷ rest.0) =
    (subst (λ (c : Cell). FitsRow row c) (sym first) (cell_at-fits place row ms one.0 one.1), FitRows-behind row.key one.0 rest.0 rows (not_true _ both.0) (cells_at-fit place rows ms rest.0 both.1 rest.1)) in
    subst (λ (cs : Cells). FitRows (row ∷ rows) cs) e fits

-- no cell is of a key that no row has
pub cells_at-absent : (place : Place) (key : List ℕ) (rows : List Row) (ms : Members) (cells : Cells) → list_any (λ r. bytes_eq key r.key) rows ≡ false → cells_at place rows ms ≡ Ok cells → cell_named key cells ≡ nothing
cells_at-absent place key [] ms cells none is = let e : cells ≡ [] = cc in ap (cell_named key) e
cells_at-absent place key (row ∷ rows) ms cells none is =
    let both = neither (bytes_eq key row.key) (list_any (λ r. bytes_eq key r.key) rows) none in
    let one = bound (cell_at place row ms) (λ cell. cells_at place rows ms >>= λ cs. Ok ((row.key, cell) ∷ cs)) cells is in
    let rest = bound (cells_at place rows ms) (λ cs. Ok ((row.key, one.0) ∷ cs)) cells one.2 in
    let e : cells ≡ (row.key, one.0) ∷ rest.0 = let s = rest.2 in cc in
    let past : cell_named key ((row.key, one.0) ∷ rest.0) ≡ cell_named key rest.0 = rw both.0 refl in
    ap (cell_named key) e ∙ (past ∙ cells_at-absent place key rows ms rest.0 both.1 rest.1)

-- the cells of a table fit its rows
pub table_at-fit : (place : Place) (before rows : List Row) (ms : Members) (cells : Cells) → are_apart rows ≡ true → table_at place before rows ms ≡ Ok cells → FitRows rows cells
table_at-fit place before rows ms cells apart is =
    let known = bound (only place _ ms) (λ _. cells_at place rows ms) cells is in
    cells_at-fit place rows ms cells apart known.2
