use Rattle.std.proofs.Common.{codes}
use Rattle.machine_desc.specs.declared.place.Place.TheVariants as places
use Rattle.machine_desc.specs.Paths.{path}
use Rattle.machine_desc.specs.Names.{there}
use Rattle.machine_desc.proofs.Plain.{IsCheckedTo}
use Rattle.machine_desc.proofs.names.guests_named.Given as goal

abbrev pub invariant-loop-i : goal.invariant-loop-i
invariant-loop-i l = IsCheckedTo (λ i guest. there (path (places.Guest i) (codes "node")) l.count guest.node.0) l.guests l.i
