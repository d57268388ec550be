use Rattle.std.proofs.Common.{◌==◌}
use Rattle.hw_tlb.proofs.ScanLemmas.{Swept}
use Rattle.hw_tlb.proofs.scans.drop_named.Given as goal

abbrev pub invariant-loop-place : goal.invariant-loop-place
invariant-loop-place l = Swept (λ h. h.page == l.page.0) l.initial.rooms l.rooms l.place
