use Rattle.std.proofs.Common.{◌≡◌, drop, map}
use Rattle.guest_asm.specs.Characters.{trimmed}
use Rattle.guest_asm.specs.Operands.{each_operand}
use Rattle.guest_asm.specs.Sites.{address_in}
use Rattle.guest_asm.proofs.Joined.{joined}
use Rattle.guest_asm.proofs.operand.each_operand.Given as goal

-- the operands so far, and those of the texts that are left
abbrev pub invariant-loop-part : goal.invariant-loop-part
invariant-loop-part l =
    joined l.operands.items (each_operand (address_in l.labels) (map (λ part. trimmed part.now) (drop l.part-index l.parts)))
    ≡ each_operand (address_in l.labels) (map (λ part. trimmed part.now) l.parts)
