use Rattle.std.proofs.Common.{sym, ◌∙◌, ◌==◌, arith}
use Rattle.base_words.specs.Halves.{Half}
use Rattle.hw_tlb.proofs.RoomLemmas.{gone, kept}
use Rattle.hw_tlb.proofs.ScanLemmas.{swept_gone, swept_kept, swept_all}
use Rattle.hw_tlb.proofs.scans.drop_named.Goals as goal
use Rattle.hw_tlb.proofs.scans.drop_named.Goals.{then-names, else-names}

pub loop-place-preserved : goal.loop-place-preserved
loop-place-preserved c =
    elim c.if-names.branch [
      | then-names w ↦ rw (w.rooms-is, w.clear.ensures) (swept_gone (λ (h : Half). h.page == c.args.page.0) _ _ _ _ (omega arith) c.loop-place.invariant c.at.ensures (gone (λ (h : Half). h.page == c.args.page.0) _ (sym c.names.ensures ∙ w.if-names.true)))
      | else-names w ↦ rw w.rooms-is (swept_kept (λ (h : Half). h.page == c.args.page.0) _ _ _ _ (omega arith) c.loop-place.invariant c.at.ensures (kept (λ (h : Half). h.page == c.args.page.0) _ (sym c.names.ensures ∙ w.if-names.false)))
    ]

pub returns : goal.returns
returns c = swept_all (λ (h : Half). h.page == c.args.page.0) _ _ _ c.requires c.loop-place-test.false c.loop-place.invariant
