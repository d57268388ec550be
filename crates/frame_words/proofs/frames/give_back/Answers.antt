use Rattle.std.proofs.Common.{arith}
use Rattle.frame_words.proofs.Opened.{fits_table, frame_within, held_within}
use Rattle.frame_words.proofs.Moves.{gives}
use Rattle.frame_words.proofs.Told.{gives_up}
use Rattle.frame_words.specs.declared.view.StepKind.TheVariants.{GiveBack}
use Rattle.frame_words.proofs.frames.give_back.Goals as goal

pub fetch_sub-requires : goal.fetch_sub-requires
fetch_sub-requires c =
    let w = frame_within c.table.inside _ _ c.table.view_is c.table.invariant c.requires.within in (
      fits_table c.table.inside c.holder.inside _ _ c.table.view_is c.holder.view_is c.requires.made,
      omega arith,
      gives _ _ _ _ GiveBack _ (omega arith) (held_within c.holder.inside _ _ _ c.holder.view_is c.word_of_frame-word.ensures c.requires.holds),
    )

pub returns-clause-given : goal.returns-clause-given
returns-clause-given c = gives_up c.holder.inside _ c.table.inside.table.shared.table_id.slots _ _ c.fetch_sub.result GiveBack c.fetch_sub.new.seat.me c.holder.view_is c.word_of_frame-word.ensures c.fetch_sub.ensures.2 c.requires.holds
