use Rattle.std.proofs.Common.{get_or, ap, ◌∙◌}
use Rattle.private_machine.specs.Showing.{shown_by}
use Rattle.trap_emulate.proofs.FitLemmas.{Fits-one}
use Rattle.trap_emulate.proofs.making.tick.Goals as goal

pub returns-clause-fits : goal.returns-clause-fits
returns-clause-fits c =
    Fits-one c.args.devs.now.state.pages c.args.vcpus.now c.args.devs.now.state c.args.vcpu.0 c.tick.new.self c.index-vcpus-vcpu.result c.requires.fits
    (ap shown_by c.tick.ensures ∙ c.shown_stays.ensures.ticked (get_or c.args.vcpus.now c.args.vcpu.0 c.index-vcpus-vcpu.result))
