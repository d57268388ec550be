-- The guests so far have taken all that is left for them; behind them the others stand.
use Rattle.std.proofs.Common.{◌++◌, length}
use Rattle.guest_lock.specs.Guests.{GuestsFrom}
use Rattle.run_workers.proofs.SettledLemmas.{AreSettled}
use Rattle.run_workers.proofs.draining.settle_all.Given as goal

abbrev pub invariant-loop-alloc : goal.invariant-loop-alloc
invariant-loop-alloc g l = GuestsFrom g.N.Starts.starts g.N.Starts.board g.N.Starts.shared 0 (l.done.items ++ l.rest.items) × AreSettled l.done.items l.rest.items

abbrev pub decreases-loop-alloc : goal.decreases-loop-alloc
decreases-loop-alloc g l = length l.rest.items
