use Rattle.std.proofs.Common.{◌≡◌, ◌+◌, length}
use Rattle.frame_tests.proofs.shootdown_races.work.Given as goal

abbrev pub invariant-loop-turn : goal.invariant-loop-turn
invariant-loop-turn g l = (l.token.board ≡ l.initial.token.board) × (length l.token.notes ≡ length l.initial.token.notes + l.turn)
