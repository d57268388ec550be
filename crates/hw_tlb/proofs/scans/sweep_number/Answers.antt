use Rattle.std.proofs.Common.{sym, ◌∙◌, ◌==◌, arith}
use Rattle.base_words.specs.Halves.{Half}
use Rattle.hw_tlb.proofs.RoomLemmas.{gone, kept}
use Rattle.hw_tlb.proofs.ScanLemmas.{swept_gone, swept_kept, swept_all}
use Rattle.hw_tlb.proofs.scans.sweep_number.Goals as goal
use Rattle.hw_tlb.proofs.scans.sweep_number.Goals.{then-is_of_number, else-is_of_number}

pub loop-place-preserved : goal.loop-place-preserved
loop-place-preserved c =
    elim c.if-is_of_number.branch [
      | then-is_of_number w ↦ rw (w.rooms-is, w.clear.ensures) (swept_gone (λ (h : Half). h.number == c.args.number) _ _ _ _ (omega arith) c.loop-place.invariant c.at.ensures (gone (λ (h : Half). h.number == c.args.number) _ (sym c.is_of_number.ensures ∙ w.if-is_of_number.true)))
      | else-is_of_number w ↦ rw w.rooms-is (swept_kept (λ (h : Half). h.number == c.args.number) _ _ _ _ (omega arith) c.loop-place.invariant c.at.ensures (kept (λ (h : Half). h.number == c.args.number) _ (sym c.is_of_number.ensures ∙ w.if-is_of_number.false)))
    ]

pub returns : goal.returns
returns c = swept_all (λ (h : Half). h.number == c.args.number) _ _ _ c.requires c.loop-place-test.false c.loop-place.invariant
