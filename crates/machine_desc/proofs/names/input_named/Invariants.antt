use Rattle.std.proofs.Common.{codes}
use Rattle.machine_desc.specs.declared.place.Place.TheVariants as places
use Rattle.machine_desc.specs.Paths.{path}
use Rattle.machine_desc.specs.Names.{there}
use Rattle.machine_desc.proofs.Plain.{IsCheckedTo}
use Rattle.machine_desc.proofs.names.input_named.Given as goal

abbrev pub invariant-loop-i : goal.invariant-loop-i
invariant-loop-i l = IsCheckedTo (λ i entry. there (path (places.Input i) (codes "guest")) l.count entry.guest.0) l.input l.i
