use Rattle.std.proofs.Common.{◌∙◌, sym}
use Rattle.guest_asm.proofs.RowSearch.{row_past}
use Rattle.guest_asm.proofs.mnemonics.find_row.Goals as goal

pub loop-row-preserved : goal.loop-row-preserved
loop-row-preserved c =
    row_past c.args.rows.now c.loop-row.row-index _ c.args.name.now c.loop-row-test.true (sym c.eq.ensures ∙ c.if-eq.false) ∙ c.loop-row.invariant
