-- All that is named, looked up in order, and last the sum of the steps; else the first fault.
use Rattle.std.specs.Prelude.{length, Ok}
use Rattle.machine_desc.specs.declared.sheet.Named.{Named}
use Rattle.machine_desc.specs.declared.sheet.Sheet.{Sheet}
use Rattle.machine_desc.specs.Reads.{Read, ◌>>=◌}
use Rattle.machine_desc.specs.Names.{processors_named, cells_named, homes, guests_named, input_named}
use Rattle.machine_desc.specs.Items.{items_at, total_steps, few_steps}

-- what is looked up, table by table
unfoldable pub named_at : Sheet → Read Named
named_at s = do
  _ ← processors_named s.machine.nodes s.machine.processors
  _ ← cells_named s.machine.nodes s.cells
  cell_of ← homes s.machine.nodes s.cells
  _ ← guests_named s.machine.nodes s.guests
  work ← items_at s
  _ ← input_named (length s.guests) s.input
  _ ← few_steps (total_steps s.work)
  Ok (record { homes = cell_of; items = work })
