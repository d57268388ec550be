use Rattle.std.proofs.Common.{ap, ◌∙◌}
use Rattle.base_words.specs.Instruction.{advanced}
use Rattle.base_words.specs.Coprocessor.{register_at}
use Rattle.private_machine.specs.Vcpu.{with_registers}
use Rattle.private_machine.specs.Showing.{shown_by}
use Rattle.flat_machine.proofs.SoundLemmas.{IsSound-with_item}
use Rattle.flat_machine.proofs.machine.Machine.write_cp0.Goals as goal

pub returns-clause-sound : goal.returns-clause-sound
returns-clause-sound c =
    IsSound-with_item c.args.self.now c.args.vcpu.0 c.write_cp0.new.vcpu c.index_mut.result.now c.requires.sound c.index_mut.ensures.value
    (ap shown_by c.write_cp0.ensures ∙ c.shown_stays.ensures.written (with_registers (advanced c.index_mut.result.now.registers) c.index_mut.result.now) (register_at c.args.number) c.args.value)
