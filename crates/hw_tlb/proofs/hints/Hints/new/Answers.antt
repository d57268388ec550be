use Rattle.hw_tlb.proofs.CountedLemmas.{hints-new}
use Rattle.hw_tlb.proofs.hints.Hints.new.Goals as goal

pub invariant_of-result : goal.invariant_of-result
invariant_of-result c = hints-new
