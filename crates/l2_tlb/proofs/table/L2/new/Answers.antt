use Rattle.std.proofs.Common.{refl}
use Rattle.l2_tlb.proofs.Places.{in_place-none, marked-none}
use Rattle.l2_tlb.proofs.table.L2.new.Goals as goal

pub invariant_of-result : goal.invariant_of-result
invariant_of-result c = (in_place-none, marked-none _ refl)

pub returns-clause-places : goal.returns-clause-places
returns-clause-places c = in_place-none
