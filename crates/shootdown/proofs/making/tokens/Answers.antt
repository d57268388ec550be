use Rattle.std.proofs.Common.{ap, ◌∙◌}
use Rattle.atomic_table.specs.Seated.{TableId}
use Rattle.shootdown.specs.Making.{numbered, fresh_seat}
use Rattle.shootdown.proofs.Blanks.{fresh}
use Rattle.shootdown.proofs.making.tokens.Goals as goal

pub returns : goal.returns
returns c = fresh _ _ c.in_ok-board.all.table_id _ _ (c.from_vec.ensures ∙ c.in_ok-tokens.ensures.tokens)
    (c.from_vec-2.ensures ∙ c.in_ok-seats.ensures.seats ∙ ap (λ (board : TableId). numbered (fresh_seat board) 0 c.args.guests) c.in_ok-tokens.ensures.board)
