use Rattle.std.proofs.Common.{◌==◌}
use Rattle.hw_tlb.proofs.ScanLemmas.{Swept}
use Rattle.hw_tlb.proofs.scans.sweep_number.Given as goal

abbrev pub invariant-loop-place : goal.invariant-loop-place
invariant-loop-place l = Swept (λ h. h.number == l.number) l.initial.rooms l.rooms l.place
