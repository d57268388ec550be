use Rattle.std.proofs.Common.{◌∙◌, sym, ap}
use Rattle.hw_tlb.specs.Filling.{has_such}
use Rattle.hw_tlb.specs.Rooms.{is_keyed}
use Rattle.hw_tlb.proofs.ScanLemmas.{none_beyond}
use Rattle.hw_tlb.proofs.scans.place_of_key.Goals as goal

pub loop-place-preserved : goal.loop-place-preserved
loop-place-preserved c =
    none_beyond (is_keyed c.args.key) _ _ c.loop-place.invariant (sym (ap (has_such (is_keyed c.args.key)) c.at.ensures) ∙ (sym c.matches.ensures ∙ c.if-matches.false))
