use Rattle.guest_asm.proofs.Segment.{Laid}
use Rattle.guest_asm.proofs.image.segment_of.Given as goal

-- the bytes so far, and what is left behind them
abbrev pub invariant-loop-placed : goal.invariant-loop-placed
invariant-loop-placed l = Laid l.bytes.items l.words l.placed-index
