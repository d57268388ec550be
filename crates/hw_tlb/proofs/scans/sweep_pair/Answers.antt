use Rattle.std.proofs.Common.{sym, ◌∙◌, ◌/◌, ◌==◌, arith}
use Rattle.base_words.specs.Halves.{Half}
use Rattle.hw_tlb.proofs.RoomLemmas.{gone, kept}
use Rattle.hw_tlb.proofs.ScanLemmas.{swept_gone, swept_kept, swept_all}
use Rattle.hw_tlb.proofs.scans.sweep_pair.Goals as goal
use Rattle.hw_tlb.proofs.scans.sweep_pair.Goals.{then-is_of_pair, else-is_of_pair}

pub loop-place-preserved : goal.loop-place-preserved
loop-place-preserved c =
    elim c.if-is_of_pair.branch [
      | then-is_of_pair w ↦ rw (w.rooms-is, w.clear.ensures) (swept_gone (λ (h : Half). h.number / 2 == c.args.pair) _ _ _ _ (omega arith) c.loop-place.invariant c.at.ensures (gone (λ (h : Half). h.number / 2 == c.args.pair) _ (sym c.is_of_pair.ensures ∙ w.if-is_of_pair.true)))
      | else-is_of_pair w ↦ rw w.rooms-is (swept_kept (λ (h : Half). h.number / 2 == c.args.pair) _ _ _ _ (omega arith) c.loop-place.invariant c.at.ensures (kept (λ (h : Half). h.number / 2 == c.args.pair) _ (sym c.is_of_pair.ensures ∙ w.if-is_of_pair.false)))
    ]

pub returns : goal.returns
returns c = swept_all (λ (h : Half). h.number / 2 == c.args.pair) _ _ _ c.requires c.loop-place-test.false c.loop-place.invariant
