-- What each table of a description but those of work says, or its first fault.
use Rattle.std.specs.Prelude.{ℕ, [], bytes_eq, codes, Ok}
use Rattle.toml.specs.Data.{Members}
use Rattle.machine_desc.specs.declared.machine.GuestSpec.{GuestSpec}
use Rattle.base_words.specs.declared.moves.Policy.{Policy}
use Rattle.machine_desc.specs.declared.place.Place.TheVariants as places
use Rattle.machine_desc.specs.declared.sheet.MachineTable.{MachineTable}
use Rattle.machine_desc.specs.declared.sheet.CellTable.{CellTable}
use Rattle.machine_desc.specs.declared.sheet.InputTable.{InputTable}
use Rattle.machine_desc.specs.Reads.{Read, ◌>>=◌}
use Rattle.machine_desc.specs.Rows.{machine_rows, cell_rows, guest_rows, policy_rows, input_rows}
use Rattle.machine_desc.specs.Tables.{Cells, table_at, number, text, text_if_any, nodes}

-- the machine, from the cells of its table
abbrev pub machine_of : Cells → MachineTable
machine_of cells = record {
  nodes = number (codes "nodes") cells;
  frames = number (codes "frames") cells;
  processors = nodes (codes "processors") cells;
  cache = number (codes "cache") cells;
}

-- the table `machine`, or its first fault
unfoldable pub machine_at : Members → Read MachineTable
machine_at ms = table_at places.Machine [] machine_rows ms >>= λ cells. Ok (machine_of cells)

-- a cell
abbrev pub cell_of : Cells → CellTable
cell_of cells = record { nodes = nodes (codes "nodes") cells; lend = number (codes "lend") cells }

-- a table `cell` by its number, or its first fault
unfoldable pub cell_table_at : ℕ → Members → Read CellTable
cell_table_at i ms = table_at (places.Cell i) [] cell_rows ms >>= λ cells. Ok (cell_of cells)

-- a guest
abbrev pub guest_of : Cells → GuestSpec
guest_of cells = record {
  image = text (codes "image") cells;
  raw = bytes_eq (text (codes "form") cells) (codes "raw");
  pages = number (codes "pages") cells;
  vcpus = number (codes "vcpus") cells;
  node = record { 0 = number (codes "node") cells };
  disk = text_if_any (codes "disk") cells;
  profile = number (codes "profile") cells;
}

-- a table `guest` by its number, or its first fault
unfoldable pub guest_at : ℕ → Members → Read GuestSpec
guest_at i ms = table_at (places.Guest i) [] guest_rows ms >>= λ cells. Ok (guest_of cells)

-- the policy
abbrev pub policy_of : Cells → Policy
policy_of cells =
    record { migrate = number (codes "migrate") cells; replicate = number (codes "replicate") cells }

-- the table `policy`, or its first fault
unfoldable pub policy_at : Members → Read Policy
policy_at ms = table_at places.Policy [] policy_rows ms >>= λ cells. Ok (policy_of cells)

-- an entry of the input
abbrev pub input_of : Cells → InputTable
input_of cells = record {
  guest = record { 0 = number (codes "guest") cells };
  at = number (codes "at") cells;
  text = text (codes "text") cells;
}

-- a table `input` by its number, or its first fault
unfoldable pub input_at : ℕ → Members → Read InputTable
input_at i ms = table_at (places.Input i) [] input_rows ms >>= λ cells. Ok (input_of cells)
