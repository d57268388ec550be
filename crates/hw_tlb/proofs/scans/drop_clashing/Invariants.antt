use Rattle.base_words.specs.Halves.{clash}
use Rattle.hw_tlb.specs.Rooms.{half_of}
use Rattle.hw_tlb.proofs.ScanLemmas.{Swept}
use Rattle.hw_tlb.proofs.scans.drop_clashing.Given as goal

abbrev pub invariant-loop-place : goal.invariant-loop-place
invariant-loop-place l = Swept (clash (half_of l.new)) l.initial.rooms l.rooms l.place
