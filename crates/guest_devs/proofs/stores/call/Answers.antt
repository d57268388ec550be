use Rattle.std.proofs.Common.{◌≡◌, ◌∙◌, ◌||◌, get_or, false, arith}
use Rattle.std.proofs.lemmas.Grind.{common_steps}
use Rattle.std.proofs.lemmas.Bool.Decides.{nat_tests}
use Rattle.base_words.specs.Bits.{flag}
use Rattle.guest_devs.proofs.Calling.{called_by-next}
use Rattle.guest_devs.proofs.stores.call.Goals.{then-bits-eq1, else-bits-eq1}
use Rattle.guest_devs.proofs.stores.call.Goals as goal

pub loop-line-preserved : goal.loop-line-preserved
loop-line-preserved c =
    let x = c.if-bits-eq1.line in
    let is : x ≡ (flag 0 c.loop-line.bits || get_or c.loop-line.called c.loop-line.line-index false) = elim c.if-bits-eq1.branch [ then-bits-eq1 w ↦ grind (arith, common_steps, nat_tests) | else-bits-eq1 w ↦ grind (arith, common_steps, nat_tests) ] in
    called_by-next c.loop-line.called c.loop-line.line-index c.loop-line.bits x (omega arith) is ∙ c.loop-line.invariant
