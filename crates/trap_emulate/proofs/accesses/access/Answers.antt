use Rattle.std.proofs.Common.{Ok, ap, sym, ◌∙◌}
use Rattle.base_words.specs.declared.place.Place.{Place}
use Rattle.base_words.specs.declared.place.Place.TheVariants.{Device}
use Rattle.base_words.specs.Instruction.{advanced}
use Rattle.private_machine.specs.PrivateMachine.{vcpu}
use Rattle.trap_emulate.specs.Requests.{wanted_of}
use Rattle.trap_emulate.proofs.AccessLemmas.{Means-at}
use Rattle.trap_emulate.proofs.accesses.access.Goals as goal

pub returns-in-Ok-Device-clause-means : goal.returns-in-Ok-Device-clause-means
returns-in-Ok-Device-clause-means c m v at =
    Means-at m v c.args.vcpu.now c.args.pages c.args.needs (advanced (vcpu m v).registers) c.args.request (wanted_of c.access_of-purpose.result) (Ok (Device c.in-Ok-Device.offset)) c.access_device.result at
    c.access_of-purpose.ensures.access (sym c.place.ensures.place ∙ c.in-Ok-Device.is ∙ ap (λ (p : Place). Ok p) c.in-Ok-Device.field-0-is) (c.access_device.ensures.means m v c.args.needs)
