-- What a put to an output in memory leaves is what a put may do.
use Rattle.std.proofs.Common.{ℕ, List, Result, Ok, Err, refl, arith}
use Rattle.outside_io.specs.declared.sink.SinkFault.{SinkFault}
use Rattle.outside_io.specs.declared.sink.SinkFault.TheVariants.{Failed, Memory}
use Rattle.outside_io.specs.Writing.{Puts}
use Rattle.outside_io.specs.Collected.{SinkState, sink_view, PutLeaves}
use Rattle.outside_io.proofs.WritingLemmas.{GrowsWithin-nothing}

pub put_left : (old new : SinkState) (text : List ℕ) (result : Result (Unit {0}) SinkFault) → PutLeaves old new text result → Puts (sink_view old) (sink_view new) text result
put_left old new text (Ok done) left = rw left (record { grows = refl; counts = omega arith })
put_left old new text (Err Failed) left = rw left (record { within = GrowsWithin-nothing _ _ _ refl; rose = omega arith })
put_left old new text (Err Memory) left = rw left (record { within = GrowsWithin-nothing _ _ _ refl; counts = omega arith })
