use Rattle.std.proofs.Common.{ap}
use Rattle.private_machine.specs.Showing.{shown_by}
use Rattle.trap_emulate.proofs.FitLemmas.{Fits-one}
use Rattle.trap_emulate.proofs.making.store_device.Goals as goal

pub store_by-requires-clause-agree : goal.store_by-requires-clause-agree
store_by-requires-clause-agree c =
    (Fits-one c.args.devs.now.state.pages c.args.vcpus.now c.args.devs.now.state c.args.vcpu.0 c.pass.new.vcpu c.index-vcpus-vcpu.result c.requires.fits (ap shown_by c.pass.ensures)).agree
