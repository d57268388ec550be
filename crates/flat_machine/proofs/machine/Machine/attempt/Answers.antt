-- What the instruction did by itself kept them.
use Rattle.flat_machine.specs.FlatView.{machine_of}
use Rattle.flat_machine.proofs.WindowLemmas.{keeps-then}
use Rattle.flat_machine.proofs.machine.Machine.attempt.Goals as goal

pub returns-clause-keeps : goal.returns-clause-keeps
returns-clause-keeps c is = keeps-then (machine_of c.args.self.now) (machine_of c.begin.new.self) (machine_of c.answer.new.self) c.args.vcpu.0 c.begin.ensures.keeps (c.answer.ensures.keeps is)
