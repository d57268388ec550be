use Rattle.std.proofs.Common.{◌≡◌, drop}
use Rattle.std.specs.List.{list_any}
use Rattle.private_machine.specs.Backing.{lies_on}
use Rattle.pmap_table.specs.Replicas.{copies_in}
use Rattle.pmap_table.proofs.replicas.Replicas.is_on.Given as goal

-- one is among them just where one is among the rest
abbrev pub invariant-loop-place : goal.invariant-loop-place
invariant-loop-place l = list_any (lies_on l.frames l.node.0) (copies_in (drop l.place-index l.place-items)) ≡ list_any (lies_on l.frames l.node.0) (copies_in l.place-items)
