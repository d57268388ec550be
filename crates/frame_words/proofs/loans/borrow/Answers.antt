use Rattle.std.proofs.Common.{◌∙◌, arith}
use Rattle.frame_words.proofs.Opened.{CellWithin, fits_table, cell_within}
use Rattle.frame_words.proofs.Moves.{borrows}
use Rattle.frame_words.proofs.loans.borrow.Goals as goal

pub compare_exchange-found-requires : goal.compare_exchange-found-requires
compare_exchange-found-requires c =
    let w : CellWithin c.table.inside _ c.word_of_cell-word.result = cell_within c.table.inside _ c.word_of_cell-word.result c.table.view_is c.table.invariant (omega arith) in (
      c.load_loans-seen.ensures.same.0 ∙ fits_table c.table.inside c.holder.inside _ _ c.table.view_is c.holder.view_is c.requires.made,
      omega arith,
      borrows _ _ _ _ _ _ (omega arith) (omega arith) (omega arith),
    )
