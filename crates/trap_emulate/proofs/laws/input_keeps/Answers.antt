use Rattle.trap_emulate.proofs.JoinLemmas.{joined-tlb, joined-entry}
use Rattle.trap_emulate.proofs.laws.input_keeps.Goals as goal

pub returns-clause-tlb : goal.returns-clause-tlb
returns-clause-tlb c m v = joined-tlb m v

pub returns-clause-entry : goal.returns-clause-entry
returns-clause-entry c m v = joined-entry m v
