use Rattle.std.proofs.Common.{sym, ◌∙◌, arith}
use Rattle.base_words.specs.Halves.{clash}
use Rattle.hw_tlb.specs.Rooms.{half_of}
use Rattle.hw_tlb.proofs.ScanLemmas.{swept_gone, swept_kept, swept_all, gone_such, kept_such}
use Rattle.hw_tlb.proofs.scans.drop_clashing.Goals as goal
use Rattle.hw_tlb.proofs.scans.drop_clashing.Goals.{then-clashes, else-clashes}

pub loop-place-preserved : goal.loop-place-preserved
loop-place-preserved c =
    elim c.if-clashes.branch [
      | then-clashes w ↦ rw (w.rooms-is, w.clear.ensures) (swept_gone (clash (half_of c.args.new.now)) _ _ _ _ (omega arith) c.loop-place.invariant c.at.ensures (gone_such (clash (half_of c.args.new.now)) _ (sym c.clashes.ensures ∙ w.if-clashes.true)))
      | else-clashes w ↦ rw w.rooms-is (swept_kept (clash (half_of c.args.new.now)) _ _ _ _ (omega arith) c.loop-place.invariant c.at.ensures (kept_such (clash (half_of c.args.new.now)) _ (sym c.clashes.ensures ∙ w.if-clashes.false)))
    ]

pub returns : goal.returns
returns c = swept_all (clash (half_of c.args.new.now)) _ _ _ c.requires.long c.loop-place-test.false c.loop-place.invariant
