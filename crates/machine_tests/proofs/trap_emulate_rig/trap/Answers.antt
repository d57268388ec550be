-- The copy is the virtual processor itself.
use Rattle.std.proofs.Common.{rules, ◌≡◌, sym}
use Rattle.machine_tests.proofs.trap_emulate_rig.trap.Goals as goal

pub returns-in-Ok : goal.returns-in-Ok
returns-in-Ok g c =
    let same : c.in-Ok.copy ≡ c.args.vcpu.now = search rules in
    rw (sym same) c.trap_at_word.ensures
