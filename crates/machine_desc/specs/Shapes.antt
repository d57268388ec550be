-- The shape of a description: what all its tables say in order, or the first fault.
use Rattle.std.specs.Prelude.{ℕ, ◌<◌, ◌≤◌, List, [], ◌∷◌, length, map, codes, Ok}
use Rattle.std.specs.List.{range_with_len}
use Rattle.toml.specs.Data.{Members}
use Rattle.machine_desc.specs.declared.place.Place.TheVariants.{Top}
use Rattle.machine_desc.specs.declared.sheet.CellTable.{CellTable}
use Rattle.machine_desc.specs.declared.sheet.Sheet.{Sheet}
use Rattle.machine_desc.specs.Reads.{Read, ◌>>=◌, each}
use Rattle.machine_desc.specs.Rows.{top_rows}
use Rattle.machine_desc.specs.Tables.{Cells, table_at, table, tables}
use Rattle.machine_desc.specs.Sheet.{machine_at, cell_table_at, guest_at, policy_at, input_at}
use Rattle.machine_desc.specs.Work.{work_at}

-- the keys of the top level, or the first fault of one
unfoldable pub top_at : Members → Read Cells
top_at ms = table_at Top [] top_rows ms

-- without a table `cell` there is one cell of all nodes, which lends nothing
abbrev pub one_cell : ℕ → CellTable
one_cell count = record { nodes = map (λ n. record { 0 = n }) (range_with_len 0 count); lend = 0 }

abbrev pub or_one_cell : ℕ → List CellTable → List CellTable
or_one_cell count [] = one_cell count ∷ []
or_one_cell count (cell ∷ cells) = cell ∷ cells

-- the tables of a description in order, or the first fault of the shape
unfoldable pub sheet_at : Members → Read Sheet
sheet_at ms = do
  top ← top_at ms
  machine ← machine_at (table (codes "machine") top)
  cells ← each cell_table_at 0 (tables (codes "cell") top)
  guests ← each guest_at 0 (tables (codes "guest") top)
  policy ← policy_at (table (codes "policy") top)
  work ← each work_at 0 (tables (codes "work") top)
  input ← each input_at 0 (tables (codes "input") top)
  Ok (record {
    machine = machine;
    cells = or_one_cell machine.nodes cells;
    guests = guests;
    policy = policy;
    work = work;
    input = input;
  })

-- the sizes that the tables' rows allow
pub record IsSized (s : Sheet) : Type 0 where
  pub few_nodes : s.machine.nodes ≤ 8
  pub has_frames : 0 < s.machine.frames
  pub few_cells : length s.cells ≤ 8
  pub few_work : length s.work ≤ 4096
