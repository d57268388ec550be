use Rattle.std.proofs.Common.{◌/◌, ◌==◌}
use Rattle.base_words.specs.Halves.{Half}
use Rattle.hw_tlb.proofs.PlaceLemmas.{standing-emptied}
use Rattle.hw_tlb.proofs.SoundLemmas.{sound-swept, consistent}
use Rattle.hw_tlb.proofs.tlb.HwTlb.drop_pair.Goals as goal

pub invariant_of-self : goal.invariant_of-self
invariant_of-self c = sound-swept (λ (h : Half). h.number / 2 == c.args.vpn2) c.self.invariant _ c.drop_paired.ensures

pub returns-clause-halves : goal.returns-clause-halves
returns-clause-halves c = rw (c.drop_paired.ensures, ← c.self.view_is) (standing-emptied (λ (h : Half). h.number / 2 == c.args.vpn2) c.self.inside.rooms)

pub returns-clause-consistent : goal.returns-clause-consistent
returns-clause-consistent c = consistent (sound-swept (λ (h : Half). h.number / 2 == c.args.vpn2) c.self.invariant _ c.drop_paired.ensures)
