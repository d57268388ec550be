use Rattle.std.proofs.Common.{map}
use Rattle.guest_asm.proofs.SoFar.{SoFar}
use Rattle.guest_asm.proofs.assembler.words_of.Given as goal

-- the words of the lines so far, none of which is refused, and the address of the next line
abbrev pub invariant-loop-number : goal.invariant-loop-number
invariant-loop-number l = SoFar (map (λ line. line.now) l.lines) l.number l.address l.words.items
