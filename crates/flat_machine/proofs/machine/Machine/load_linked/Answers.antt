use Rattle.std.proofs.Common.{◌≡◌, ap, sym, ◌∙◌, Ok}
use Rattle.base_words.specs.declared.exception.Use.TheVariants.{Load}
use Rattle.base_words.specs.declared.place.Place.TheVariants.{Memory}
use Rattle.base_words.specs.Instruction.{advanced}
use Rattle.base_words.specs.Place.{place}
use Rattle.private_machine.specs.declared.vcpu.Vcpu.{Vcpu}
use Rattle.private_machine.specs.Vcpu.{space_of}
use Rattle.private_machine.specs.PrivateMachine.{vcpu}
use Rattle.private_machine.specs.OwnStep.{led}
use Rattle.private_machine.specs.Access.{linked_load}
use Rattle.flat_machine.specs.FlatView.{machine_of}
use Rattle.flat_machine.proofs.MachineLemmas.{linked_load-once}
use Rattle.flat_machine.proofs.machine.Machine.load_linked.Goals as goal

pub returns-in-Ok-Memory-clause-attempts : goal.returns-in-Ok-Memory-clause-attempts
returns-in-Ok-Memory-clause-attempts c =
    let m = machine_of c.args.self.now in
    let v = c.args.vcpu.0 in
    let offset = c.in-Ok-Memory.offset in
    let leads : led m v 4 Load c.args.address ≡ Ok (Memory offset) = ap (λ (x : Vcpu). place (space_of x) m.pages 4 Load c.args.address) (sym c.vcpu.ensures) ∙ sym (rw c.in-Ok-Memory.field-0-is at c.in-Ok-Memory.ensures.place) in
    ap (linked_load m v (advanced (vcpu m v).registers) c.args.target) leads
    ∙ linked_load-once m v c.args.target offset c.word_around-word.result c.line_of.result c.requires.there (rw c.in-Ok-Memory.field-0-is at c.in-Ok-Memory.ensures.aligned) c.word_around-word.ensures c.line_of.ensures
    ∙ ap Ok (sym c.put_linked.ensures.put)
