use Rattle.std.proofs.Common.{◌/◌, ◌==◌}
use Rattle.hw_tlb.proofs.ScanLemmas.{Swept}
use Rattle.hw_tlb.proofs.scans.sweep_pair.Given as goal

abbrev pub invariant-loop-place : goal.invariant-loop-place
invariant-loop-place l = Swept (λ h. h.number / 2 == l.pair) l.initial.rooms l.rooms l.place
