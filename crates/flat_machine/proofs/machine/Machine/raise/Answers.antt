use Rattle.std.proofs.Common.{ap, ◌∙◌}
use Rattle.private_machine.specs.Showing.{shown_by}
use Rattle.flat_machine.proofs.SoundLemmas.{IsSound-with_item}
use Rattle.flat_machine.proofs.machine.Machine.raise.Goals as goal

pub returns-clause-sound : goal.returns-clause-sound
returns-clause-sound c =
    IsSound-with_item c.args.self.now c.args.vcpu.0 c.raise.new.self c.index_mut.result.now c.requires.sound c.index_mut.ensures.value
    (ap shown_by c.raise.ensures ∙ c.shown_stays.ensures.raised c.index_mut.result.now c.args.exception)
