use Rattle.std.proofs.Common.{◌≡◌, take}
use Rattle.guest_asm.specs.Numbers.{held, digits_value}
use Rattle.guest_asm.proofs.number.digits_value.Given as goal

-- the number of the digits so far
abbrev pub invariant-loop-byte : goal.invariant-loop-byte
invariant-loop-byte l = l.number ≡ held (digits_value l.radix (take l.byte-index l.digits))
