use Rattle.std.proofs.Common.{rules}
use Rattle.shootdown.proofs.Moves.{takes_token}
use Rattle.shootdown.proofs.making.cut_token.Goals as goal

pub split_seat-place-requires : goal.split_seat-place-requires
split_seat-place-requires c = (search rules, search rules, takes_token _ _)
