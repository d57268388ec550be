use Rattle.std.proofs.Common.{true, ap, ◌∙◌}
use Rattle.guest_devs.specs.DeviceState.{DeviceState}
use Rattle.guest_devs.specs.Shown.{brought_up}
use Rattle.guest_devs.proofs.ShowingLemmas.{showing-packet}
use Rattle.guest_devs.proofs.devs.Devs.packet_by.Goals as goal

pub returns-clause-line : goal.returns-clause-line
returns-clause-line c =
    let d = c.args.self.now.state in
    c.show.ensures.shown
    ∙ ap (λ (d : DeviceState). brought_up d c.args.vcpus.now) c.packet.ensures.noted
    ∙ showing-packet true d.packet d.halted d.called c.args.vcpus.now c.requires.agree
