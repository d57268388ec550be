use Rattle.std.proofs.Common.{◌∙◌, inl, arith}
use Rattle.frame_words.proofs.Opened.{fits_table, frame_within}
use Rattle.frame_words.proofs.Moves.{loads, takes}
use Rattle.frame_words.proofs.Told.{finds_held}
use Rattle.frame_words.proofs.frames.take.Goals as goal

pub load-seen-requires : goal.load-seen-requires
load-seen-requires c =
    let w = frame_within c.table.inside _ _ c.table.view_is c.table.invariant c.requires.within in
    (fits_table c.table.inside c.holder.inside _ _ c.table.view_is c.holder.view_is c.requires.made, omega arith, loads _ _ _ _ _ (omega arith))

pub compare_exchange-found-requires : goal.compare_exchange-found-requires
compare_exchange-found-requires c =
    let w = frame_within c.table.inside _ _ c.table.view_is c.table.invariant c.requires.within in
    (c.load-seen.ensures.0 ∙ fits_table c.table.inside c.holder.inside _ _ c.table.view_is c.holder.view_is c.requires.made, omega arith, takes _ _ _ _ _ _ (omega arith) (omega arith) (omega arith))

pub returns-then-count_of-gt0-clause-answer : goal.returns-then-count_of-gt0-clause-answer
returns-then-count_of-gt0-clause-answer c = inl (finds_held c.holder.inside _ c.table.inside.table.shared.table_id.slots _ _ _ _ c.holder.view_is c.word_of_frame-word.ensures c.load-seen.ensures.2 (omega arith))
