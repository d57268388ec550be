use Rattle.hw_tlb.proofs.CountedLemmas.{counted-new}
use Rattle.hw_tlb.proofs.rooms.Rooms.new.Goals as goal

pub invariant_of-result : goal.invariant_of-result
invariant_of-result c = counted-new _ c.empty.ensures
