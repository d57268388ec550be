use Rattle.base_words.specs.Halves.{clash}
use Rattle.hw_tlb.specs.Rooms.{half_of}
use Rattle.hw_tlb.proofs.ScanLemmas.{NoneBefore}
use Rattle.hw_tlb.proofs.entries.scanned_clash.Given as goal

abbrev pub invariant-loop-entry : goal.invariant-loop-entry
invariant-loop-entry l = NoneBefore (clash (half_of l.new)) l.side l.rooms l.entry
