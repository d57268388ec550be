use Rattle.guest_asm.specs.Mnemonics.{mnemonics, row_named}
use Rattle.guest_asm.proofs.mnemonics.row_of.Goals as goal

pub returns : goal.returns
unfolding mnemonics row_named
returns c = c.find_row.ensures
