use Rattle.std.proofs.Common.{ap, sym, subst}
use Rattle.guest_devs.specs.DeviceState.{DeviceState}
use Rattle.guest_devs.specs.Shown.{Agree}
use Rattle.private_machine.specs.DevicePage.{device_register}
use Rattle.private_machine.specs.Showing.{shown_by}
use Rattle.trap_emulate.specs.GuestView.{Fits}
use Rattle.trap_emulate.proofs.FitLemmas.{Fits-one, Fits-taken}
use Rattle.trap_emulate.proofs.making.load_device.Goals as goal

pub returns-clause-fits : goal.returns-clause-fits
returns-clause-fits c =
    let pages = c.args.devs.now.state.pages in
    let r = device_register c.args.offset in
    let old = c.args.devs.now.state in
    let vcpus = c.load_by.new.vcpus in
    let agree = subst (λ (d : DeviceState). Agree d vcpus) c.load_by.ensures.taken c.load_by.ensures.agree in
    let loaded = Fits-taken pages c.args.vcpus.now vcpus old r c.requires.fits c.load_by.auto.vcpus agree in
    Fits-one pages vcpus c.load_by.new.self.state c.args.vcpu.0 c.put.new.vcpu c.index-vcpus-vcpu.result
    (subst (λ (d : DeviceState). Fits pages vcpus d) (sym c.load_by.ensures.taken) loaded)
    (ap shown_by c.put.ensures)
