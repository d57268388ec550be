-- Packets may have come to the guest, and the others were only asked.
use Rattle.run_workers.specs.Draining.{Receives, AreKept}
use Rattle.run_workers.proofs.draining.settle.Given as goal

abbrev pub invariant-loop : goal.invariant-loop
invariant-loop g l = Receives l.initial.guest l.guest × AreKept l.initial.before l.before × AreKept l.initial.after l.after
