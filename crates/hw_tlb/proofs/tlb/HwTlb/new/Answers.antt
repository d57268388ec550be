use Rattle.hw_tlb.proofs.SoundLemmas.{sound-new, consistent}
use Rattle.hw_tlb.proofs.tlb.HwTlb.new.Goals as goal

pub invariant_of-result : goal.invariant_of-result
invariant_of-result c = rw c.new.ensures sound-new

pub returns-clause-consistent : goal.returns-clause-consistent
returns-clause-consistent c = rw c.new.ensures (consistent sound-new)
