use Rattle.std.proofs.Common.{◌<◌, arith, length}
use Rattle.run_balance.specs.Shares.{flat, share_at, whose_at}
use Rattle.run_balance.specs.Sides.{one_below}
use Rattle.run_balance.specs.Owners.{taken_from, reached_of, log_of}
use Rattle.run_balance.proofs.Closing.{part_in_turn}
use Rattle.run_balance.proofs.laws.what_is_taken_stands_in_order.Goals as goal

pub returns : goal.returns
returns c deques shares owner d is less =
    part_in_turn (share_at (flat shares) d) (one_below d (reached_of owner (whose_at (flat shares) d))) (taken_from d owner) (log_of owner d) (is.parts d (let m = is.many in let e : d < length deques = omega arith in e))
