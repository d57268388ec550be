use Rattle.hw_tlb.proofs.SoundLemmas.{sound-empty, consistent}
use Rattle.hw_tlb.proofs.tlb.HwTlb.flush.Goals as goal

pub invariant_of-self : goal.invariant_of-self
invariant_of-self c = rw c.new-self-inside.ensures (sound-empty _ c.self.invariant.turn)

pub returns-clause-consistent : goal.returns-clause-consistent
returns-clause-consistent c = rw c.new-self-inside.ensures (consistent (sound-empty _ c.self.invariant.turn))
