use Rattle.std.proofs.Common.{◌≡◌, take}
use Rattle.machine_desc.specs.Input.{entries_for}
use Rattle.machine_desc.proofs.input.entries_for.Given as goal

abbrev pub invariant-loop-table : goal.invariant-loop-table
invariant-loop-table l = l.entries.items ≡ entries_for l.guest (take l.table-index l.tables)
