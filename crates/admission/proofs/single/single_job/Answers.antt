use Rattle.std.proofs.Common.{◌∙◌, ap, sym, subst, length}
use Rattle.machine_desc.specs.Accepted.{IsAccepted}
use Rattle.machine_desc.specs.Described.{Described}
use Rattle.admission.specs.Jobs.{short_in}
use Rattle.admission.proofs.SingleLemmas.{single-accepted, single-served}
use Rattle.admission.proofs.StartLemmas.{AreStarted-single}
use Rattle.admission.proofs.single.single_job.Goals as goal

pub returns-clause-ready : goal.returns-clause-ready
returns-clause-ready c =
    let is = c.in_ok-machine.ensures in
    let guests = ap (λ (d : Described). length d.guests) is in
    record {
      described = subst IsAccepted (sym is) (single-accepted c.args.raw c.args.steps c.requires.few);
      images = ap length c.in_ok-one.ensures ∙ sym guests;
      numbers = ap length c.in_ok-one-2.ensures ∙ sym guests;
      started = AreStarted-single _ _ _ _ c.args.raw c.args.image (ap (λ (d : Described). d.guests) is) c.in_ok-one.ensures c.in_ok-one-2.ensures c.requires.started;
      served = ap short_in is ∙ single-served c.args.raw c.args.steps;
    }
