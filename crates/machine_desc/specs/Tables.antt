-- What a table holds: a cell for each of its rows.
use Rattle.std.specs.Prelude.{ℕ, List, [], ◌∷◌, ◌++◌, map, bytes_eq, if◌then◌else◌, Option, Some, None, Ok}
use Rattle.base_words.specs.declared.ids.NodeId.{NodeId}
use Rattle.toml.specs.Data.{Members, no_members}
use Rattle.machine_desc.specs.declared.place.Place.{Place}
use Rattle.machine_desc.specs.Reads.{Read, ◌>>=◌}
use Rattle.machine_desc.specs.Kinds.{Row, Cell, a_number, a_list, a_text, a_table, some_tables, nothing}
use Rattle.machine_desc.specs.Cells.{cell_at}
use Rattle.machine_desc.specs.Unknown.{only}

-- cells, each with its key
abbrev pub Cells : Type 0
Cells = List (List ℕ × Cell)

-- the cells of these rows, or the first fault of one
abbrev pub cells_at : Place → List Row → Members → Read Cells
cells_at place [] ms = Ok []
cells_at place (row ∷ rows) ms =
    cell_at place row ms >>= λ cell. cells_at place rows ms >>= λ cells. Ok ((row.key, cell) ∷ cells)

-- a table knows the keys that were read before, and those of its rows, which are read in order
abbrev pub table_at : Place → List Row → List Row → Members → Read Cells
table_at place before rows ms =
    only place (map (λ row. row.key) (before ++ rows)) ms >>= λ _. cells_at place rows ms

-- the cell of a key
abbrev pub cell_named : List ℕ → Cells → Cell
cell_named key [] = nothing
cell_named key (c ∷ cells) = if bytes_eq key c.0 then c.1 else cell_named key cells

-- the number of a cell
abbrev pub number_of : Cell → ℕ
number_of (a_number n) = n
number_of _ = 0

-- its text, if it has one
abbrev pub text_of : Cell → Option (List ℕ)
text_of (a_text s) = Some s
text_of _ = None

-- its text
abbrev pub bytes_of : Cell → List ℕ
bytes_of (a_text s) = s
bytes_of _ = []

-- its node, if it has one
abbrev pub node_of : Cell → Option NodeId
node_of (a_number n) = Some (record { 0 = n })
node_of _ = None

-- its nodes
abbrev pub list_of : Cell → List NodeId
list_of (a_list ns) = ns
list_of _ = []

-- its table
abbrev pub members_of : Cell → Members
members_of (a_table ms) = ms
members_of _ = no_members

-- its tables
abbrev pub tables_of : Cell → List Members
tables_of (some_tables ts) = ts
tables_of _ = []

-- the number of a key
abbrev pub number : List ℕ → Cells → ℕ
number key cells = number_of (cell_named key cells)

-- the text of a key
abbrev pub text : List ℕ → Cells → List ℕ
text key cells = bytes_of (cell_named key cells)

-- the text of a key, if it is there
abbrev pub text_if_any : List ℕ → Cells → Option (List ℕ)
text_if_any key cells = text_of (cell_named key cells)

-- the node of a key, if it is there
abbrev pub node_if_any : List ℕ → Cells → Option NodeId
node_if_any key cells = node_of (cell_named key cells)

-- the nodes of a key
abbrev pub nodes : List ℕ → Cells → List NodeId
nodes key cells = list_of (cell_named key cells)

-- the table of a key
abbrev pub table : List ℕ → Cells → Members
table key cells = members_of (cell_named key cells)

-- the tables of a key
abbrev pub tables : List ℕ → Cells → List Members
tables key cells = tables_of (cell_named key cells)
