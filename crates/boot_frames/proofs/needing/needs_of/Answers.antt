use Rattle.std.proofs.Common.{◌<◌, List, take, sym, subst}
use Rattle.std.specs.Prelude.{All}
use Rattle.std.proofs.lemmas.List.Elements.{All-map, All-take, All-weaker}
use Rattle.machine_desc.specs.Bounds.{IsGuest}
use Rattle.machine_desc.specs.declared.machine.GuestSpec.{GuestSpec}
use Rattle.boot_frames.specs.Needs.{need_of}
use Rattle.boot_frames.specs.declared.needs.Need.{Need}
use Rattle.boot_frames.proofs.needing.needs_of.Goals as goal

pub returns-clause-at_home : goal.returns-clause-at_home
returns-clause-at_home c nodes accepted =
    let IsThere = (λ (need : Need). need.node.0 < nodes) in
    let seen = take c.loop-spec.spec-index c.args.specs.now in
    let homes = All-weaker (IsGuest nodes) (λ (spec : GuestSpec). spec.node.0 < nodes) (λ spec is. is.home) seen (All-take (IsGuest nodes) c.loop-spec.spec-index c.args.specs.now accepted) in
    subst (λ (needs : List Need). All IsThere needs) (sym c.loop-spec.invariant) (All-map IsThere need_of seen homes)
