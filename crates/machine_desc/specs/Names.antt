-- What is named is there, and no node is in two cells; else the first fault, in the order of the tables.
use Rattle.std.specs.Prelude.{ℕ, List, Bool, ◌==◌, ◌||◌, nat_lt, is_some, if◌then◌else◌, take, position, codes, Option, Some, None, Ok, Err}
use Rattle.std.specs.List.{list_any, range_with_len}
use Rattle.base_words.specs.declared.ids.NodeId.{NodeId}
use Rattle.base_words.specs.declared.ids.CellId.{CellId}
use Rattle.machine_desc.specs.declared.fault.DescFault.TheVariants as fault
use Rattle.machine_desc.specs.declared.machine.GuestSpec.{GuestSpec}
use Rattle.machine_desc.specs.declared.place.Place.TheVariants as places
use Rattle.machine_desc.specs.declared.sheet.CellTable.{CellTable}
use Rattle.machine_desc.specs.declared.sheet.InputTable.{InputTable}
use Rattle.machine_desc.specs.Paths.{path}
use Rattle.machine_desc.specs.Reads.{Read, ◌>>=◌, each, all}

-- there are more things than this number, so that one has it
abbrev pub there : List ℕ → ℕ → ℕ → Read (Unit {0})
there key count n = if nat_lt n count then Ok tt else Err (fault.Names key n)

-- each processor lies on a node that is there
unfoldable pub processors_named : ℕ → List NodeId → Read (Unit {0})
processors_named count processors =
    all (λ i n. there (path places.Machine (codes "processors")) count n.0) 0 processors

-- the node is one of these
abbrev pub has_node : ℕ → List NodeId → Bool
has_node node nodes = list_any (λ n. n.0 == node) nodes

-- the first cell that has the node
abbrev pub cell_with : ℕ → List CellTable → Option ℕ
cell_with node cells = position (λ cell. has_node node cell.nodes) cells

-- a node of a cell is there, and neither has a cell before it, nor does the cell itself name it before
abbrev pub node_named : List ℕ → ℕ → List CellTable → List NodeId → ℕ → Read (Unit {0})
node_named key count cells own node =
    there key count node >>= λ _.
    if has_node node own || is_some (cell_with node cells) then Err (fault.Twice key node) else Ok tt

-- each node of a cell is there, and has no cell before
unfoldable pub cell_named : ℕ → ℕ → List CellTable → List NodeId → Read (Unit {0})
cell_named count i cells nodes =
    all (λ j n. node_named (path (places.Cell i) (codes "nodes")) count cells (take j nodes) n.0) 0 nodes

-- the same of all cells
unfoldable pub cells_named : ℕ → List CellTable → Read (Unit {0})
cells_named count cells = all (λ i cell. cell_named count i (take i cells) cell.nodes) 0 cells

-- the cell that was found for a node, if any
abbrev pub home_from : ℕ → Option ℕ → Read CellId
home_from node None = Err (fault.Names (path places.Machine (codes "nodes")) node)
home_from node (Some cell) = Ok (record { 0 = cell })

-- the cell of a node, which has to have one
abbrev pub home : List CellTable → ℕ → Read CellId
home cells node = home_from node (cell_with node cells)

-- the cell of each node, from node 0 on
unfoldable pub homes : ℕ → List CellTable → Read (List CellId)
homes count cells = each (λ i node. home cells node) 0 (range_with_len 0 count)

-- each guest's home node is there
unfoldable pub guests_named : ℕ → List GuestSpec → Read (Unit {0})
guests_named count guests =
    all (λ i guest. there (path (places.Guest i) (codes "node")) count guest.node.0) 0 guests

-- each input is for a guest that is there
unfoldable pub input_named : ℕ → List InputTable → Read (Unit {0})
input_named count input =
    all (λ i entry. there (path (places.Input i) (codes "guest")) count entry.guest.0) 0 input
