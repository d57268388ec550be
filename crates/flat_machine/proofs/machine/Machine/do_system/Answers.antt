use Rattle.std.proofs.Common.{ap, ◌∙◌}
use Rattle.mips_alu.specs.Execution.{passed_system}
use Rattle.private_machine.specs.Showing.{shown_by}
use Rattle.flat_machine.proofs.SoundLemmas.{IsSound-with_item}
use Rattle.flat_machine.proofs.machine.Machine.do_system.Goals as goal

pub returns-clause-sound : goal.returns-clause-sound
returns-clause-sound c =
    IsSound-with_item c.args.self.now c.args.vcpu.0 c.do_system.new.vcpu c.index_mut.result.now c.requires.sound c.index_mut.ensures.value
    (ap shown_by c.do_system.ensures ∙ c.shown_stays.ensures.system c.index_mut.result.now c.args.op (passed_system c.args.op c.index_mut.result.now.registers))
