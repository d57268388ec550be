use Rattle.std.proofs.Common.{◌≡◌}
use Rattle.mips_cp0.specs.Quiet.{ticked_often}
use Rattle.mips_cp0.proofs.coprocessor.Cp0.tick_each.Given as goal

abbrev pub invariant-loop-step : goal.invariant-loop-step
invariant-loop-step l = l.self ≡ ticked_often l._step l.fn.self
