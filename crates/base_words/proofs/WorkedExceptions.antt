-- What an exception leaves in the registers, computed from the definitions alone.
use Rattle.std.proofs.Common.{◌≡◌, ℕ, true, false, refl}
use Rattle.base_words.specs.declared.exception.Use.TheVariants.{Load}
use Rattle.base_words.specs.declared.exception.Exception.TheVariants.{TlbRefill, CoprocessorUnusable, Overflow}
use Rattle.base_words.specs.declared.coprocessor.Cp0Registers.{Cp0Registers}
use Rattle.base_words.specs.Coprocessor.{at_reset, register_at, reads, writes, ticked, interrupts}
use Rattle.base_words.specs.Exception.{entered, vector, handling}

-- what the register at a number reads
abbrev read : ℕ → Cp0Registers → ℕ
read number c = reads c (register_at number)

-- an overflow in the delay slot of the branch at C0000200
abbrev in_slot : Cp0Registers
in_slot = entered Overflow 0xC000_0204 true at_reset

in_slot_epc : read 14 in_slot ≡ 0xC000_0200
in_slot_epc = refl

in_slot_cause : read 13 in_slot ≡ 0x8000_0030
in_slot_cause = refl

in_slot_status : read 12 in_slot ≡ 2
in_slot_status = refl

in_slot_vector : vector Overflow at_reset ≡ 0xC000_0180
in_slot_vector = refl

-- an instruction of coprocessor 0 in user mode at 00400000
abbrev user_mode : Cp0Registers
user_mode = writes at_reset (register_at 12) 0x10

abbrev not_allowed : Cp0Registers
not_allowed = entered (CoprocessorUnusable 0) 0x0040_0000 false user_mode

not_allowed_epc : read 14 not_allowed ≡ 0x0040_0000
not_allowed_epc = refl

not_allowed_cause : read 13 not_allowed ≡ 0x2C
not_allowed_cause = refl

not_allowed_status : read 12 not_allowed ≡ 0x12
not_allowed_status = refl

returned_status : read 12 (handling false not_allowed) ≡ 0x10
returned_status = refl

-- a load of D0002000 that no entry maps, and then a second while it is handled
abbrev missed : Cp0Registers
missed = entered (TlbRefill Load 0xD000_2000) 0xC000_0204 false at_reset

missed_vector : vector (TlbRefill Load 0xD000_2000) at_reset ≡ 0xC000_0000
missed_vector = refl

missed_address : read 8 missed ≡ 0xD000_2000
missed_address = refl

missed_context : read 4 missed ≡ 0x0068_0010
missed_context = refl

missed_pair : read 10 missed ≡ 0xD000_2000
missed_pair = refl

second_vector : vector (TlbRefill Load 0) missed ≡ 0xC000_0180
second_vector = refl

second_epc : read 14 (entered (TlbRefill Load 0) 0xC000_0010 true missed) ≡ 0xC000_0204
second_epc = refl

second_cause : read 13 (entered (TlbRefill Load 0) 0xC000_0010 true missed) ≡ 8
second_cause = refl

-- the timer at 1, let through and enabled: IM7 and IE
abbrev before_timer : Cp0Registers
before_timer = writes (writes at_reset (register_at 11) 1) (register_at 12) 0x8001

timer_waits : interrupts before_timer ≡ false
timer_waits = refl

timer_comes : interrupts (ticked before_timer) ≡ true
timer_comes = refl
