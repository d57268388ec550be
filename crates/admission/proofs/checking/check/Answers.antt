use Rattle.std.proofs.Common.{◌<◌, List, sym, subst}
use Rattle.std.specs.Prelude.{All}
use Rattle.machine_desc.specs.Bounds.{IsGuest}
use Rattle.machine_desc.specs.declared.machine.GuestSpec.{GuestSpec}
use Rattle.boot_frames.specs.declared.needs.Need.{Need}
use Rattle.admission.proofs.checking.check.Goals as goal

-- each guest is at home on a node that is there
pub admit-requires-clause-nodes : goal.admit-requires-clause-nodes
admit-requires-clause-nodes c =
    let nodes = c.args.machine.now.shape.nodes in
    let guests = subst (λ (l : List GuestSpec). All (IsGuest nodes) l) (sym c.as_slice.ensures) c.requires.guests in
    subst (λ (l : List Need). All (λ (need : Need). need.node.0 < nodes) l) (sym c.as_slice-3.ensures.value) (c.in_ok-needs.ensures.at_home nodes guests)
