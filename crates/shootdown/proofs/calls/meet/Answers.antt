use Rattle.std.proofs.Common.{rules}
use Rattle.shootdown.proofs.Moves.{leaves, meets}
use Rattle.shootdown.proofs.calls.meet.Goals as goal

pub split_seat-moved-requires : goal.split_seat-moved-requires
split_seat-moved-requires c = (search rules, search rules, leaves _ _)

pub join_seat-requires : goal.join_seat-requires
join_seat-requires c = (search rules, search rules, search rules, search rules, meets _ _ _ _)
