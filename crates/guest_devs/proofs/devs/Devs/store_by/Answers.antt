use Rattle.std.proofs.Common.{ap, ◌∙◌}
use Rattle.private_machine.specs.DevicePage.{device_register}
use Rattle.guest_devs.specs.DeviceState.{DeviceState}
use Rattle.guest_devs.specs.Shown.{brought_up}
use Rattle.guest_devs.proofs.ShowingLemmas.{brought_up-stored}
use Rattle.guest_devs.proofs.devs.Devs.store_by.Goals as goal

pub returns-clause-signalled : goal.returns-clause-signalled
returns-clause-signalled c =
    c.show.ensures.shown
    ∙ ap (λ (d : DeviceState). brought_up d c.args.vcpus.now) c.store.ensures.stored
    ∙ brought_up-stored c.args.vcpu.0 c.args.value c.args.self.now.state (device_register c.args.offset) c.args.vcpus.now c.requires.agree
