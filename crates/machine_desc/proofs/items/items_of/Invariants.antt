use Rattle.std.proofs.Common.{take}
use Rattle.machine_desc.specs.Items.{item_at}
use Rattle.machine_desc.proofs.Plain.{IsReadUpTo}
use Rattle.machine_desc.proofs.items.items_of.Given as goal

abbrev pub invariant-loop-number : goal.invariant-loop-number
invariant-loop-number l = IsReadUpTo (λ i w. item_at l.sheet i (take i l.work) w) l.work l.items l.number
