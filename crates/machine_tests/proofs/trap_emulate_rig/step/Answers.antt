-- The copy is the virtual processor itself.
use Rattle.std.proofs.Common.{rules, ◌≡◌, IfSome, Option, refl, subst, false}
use Rattle.base_words.specs.declared.trap.TrapCause.{TrapCause}
use Rattle.machine_tests.specs.StandIn.{Traps}
use Rattle.machine_tests.proofs.trap_emulate_rig.step.Goals as goal

pub emulate-told-requires-clause-traps : goal.emulate-told-requires-clause-traps
emulate-told-requires-clause-traps g c =
    let same : c.in-Ok.copy ≡ c.args.vcpu.now = search rules in
    let traps = subst (λ (o : Option TrapCause). IfSome o (Traps c.args.vcpu.now 16 c.args.needs)) c.in-Some.is c.trap.ensures in
    traps (record { pages = 16; memory = _; vcpus = _; devices = _; disk = _; register_page = false }) 1 same refl
