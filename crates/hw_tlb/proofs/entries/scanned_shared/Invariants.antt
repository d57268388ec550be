use Rattle.hw_tlb.specs.Tlb.{are_beside}
use Rattle.hw_tlb.specs.Rooms.{half_of}
use Rattle.hw_tlb.proofs.ScanLemmas.{NoneBefore}
use Rattle.hw_tlb.proofs.entries.scanned_shared.Given as goal

abbrev pub invariant-loop-entry : goal.invariant-loop-entry
invariant-loop-entry l = NoneBefore (are_beside (half_of l.new)) l.side l.rooms l.entry
