use Rattle.std.proofs.Common.{◌∙◌, sym, ap}
use Rattle.hw_tlb.specs.Filling.{has_such}
use Rattle.hw_tlb.specs.Rooms.{is_naming}
use Rattle.hw_tlb.proofs.ScanLemmas.{none_beyond}
use Rattle.hw_tlb.proofs.scans.place_of_frame.Goals as goal

pub loop-place-preserved : goal.loop-place-preserved
loop-place-preserved c =
    none_beyond (is_naming c.args.frame.0) _ _ c.loop-place.invariant (sym (ap (has_such (is_naming c.args.frame.0)) c.at.ensures) ∙ (sym c.leads_to.ensures ∙ c.if-leads_to.false))
