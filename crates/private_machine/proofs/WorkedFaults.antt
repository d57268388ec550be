-- Steps that raise an exception, refill the TLB or take an interrupt: what coprocessor 0 holds afterwards, and where it goes on.
use Rattle.std.proofs.Common.{◌≡◌, ℕ, List, [], ◌∷◌, ◌++◌, Some, None, Ok, slice_index, refl, replicate}
use Rattle.base_words.specs.declared.exception.Use.TheVariants.{Load}
use Rattle.base_words.specs.declared.place.Place.TheVariants.{Memory}
use Rattle.private_machine.specs.Vcpu.{with_link}
use Rattle.private_machine.specs.PrivateMachine.{PrivateMachine, on_vcpu}
use Rattle.private_machine.specs.OwnStep.{led}
use Rattle.private_machine.proofs.WorkedGuests.{bytes, guest, running, stepped, at, with_general, with_cp0_word, with_entry, after, cp0_word}

-- At 200 a branch, and in its delay slot ADD 3, 1, 2, which overflows: EPC is the branch, BD is on, and register 3 stays.
abbrev slot_overflows : List ℕ → PrivateMachine
slot_overflows rest =
    at 0xC000_0200 (with_general (0 ∷ 0x7FFF_FFFF ∷ 1 ∷ 5 ∷ replicate 28 0) (guest 1 (replicate 512 0 ++ (bytes (0x1000_0004 ∷ 0x0022_1820 ∷ []) ++ rest))))

slot_overflow : (rest : List ℕ) → let c = after 2 (slot_overflows rest) in
    c.registers.pc ∷ cp0_word 14 c ∷ cp0_word 13 c ∷ cp0_word 12 c ∷ slice_index c.registers.general 3 ∷ []
    ≡ 0xC000_0180 ∷ 0xC000_0200 ∷ 0x8000_0030 ∷ 0x0000_0002 ∷ 5 ∷ []
slot_overflow rest = refl

-- User code at 00400000 is mapped to page 1, where MFC0 8, Status stands; so is a reserved word of coprocessor 0 behind it.
abbrev user_code : List ℕ → PrivateMachine
user_code rest =
    at 0x0040_0000 (with_cp0_word 12 0x10 (with_entry 5 (record { hi = 0x0040_0000; lo0 = 0x42; lo1 = 0 })
    (guest 1 (replicate 4096 0 ++ (bytes (0x4008_6000 ∷ 0x4200_0003 ∷ []) ++ rest)))))

unusable_in_user_mode : (rest : List ℕ) → let c = after 1 (user_code rest) in
    c.registers.pc ∷ cp0_word 14 c ∷ cp0_word 13 c ∷ cp0_word 12 c ∷ [] ≡ 0xC000_0180 ∷ 0x0040_0000 ∷ 0x0000_002C ∷ 0x0000_0012 ∷ []
unusable_in_user_mode rest = refl

reserved_in_user_mode : (rest : List ℕ) → cp0_word 13 (after 1 (at 0x0040_0004 (user_code rest))) ≡ 0x0000_002C
reserved_in_user_mode rest = refl

-- in the kernel the first is done and the second is reserved
usable_in_kernel_mode : (rest : List ℕ) → let c = after 1 (at 0x0040_0000 (with_cp0_word 12 0 (user_code rest))) in
    c.registers.pc ∷ slice_index c.registers.general 8 ∷ [] ≡ 0x0040_0004 ∷ 0 ∷ []
usable_in_kernel_mode rest = refl

reserved_in_kernel_mode : (rest : List ℕ) → cp0_word 13 (after 1 (at 0x0040_0004 (with_cp0_word 12 0 (user_code rest)))) ≡ 0x0000_0028
reserved_in_kernel_mode rest = refl

-- LWL at D0001FFD, in page 2, succeeds, and LWR at D0002000 finds no entry: the register keeps what LWL made of it.
abbrev over_a_boundary : List ℕ → PrivateMachine
over_a_boundary rest =
    with_general (0 ∷ 0xAABB_CCDD ∷ 0xD000_1FFD ∷ replicate 29 0) (with_entry 0 (record { hi = 0xD000_0000; lo0 = 0; lo1 = 0x82 })
    (guest 1 (bytes (0x8841_0000 ∷ 0x9841_0003 ∷ []) ++ (replicate 12276 0 ++ (bytes (0x1122_3344 ∷ []) ++ rest)))))

boundary : (rest : List ℕ) → let c = after 2 (over_a_boundary rest) in
    slice_index c.registers.general 1 ∷ c.registers.pc ∷ cp0_word 8 c ∷ cp0_word 13 c ∷ cp0_word 4 c ∷ []
    ≡ 0x2233_44DD ∷ 0xC000_0000 ∷ 0xD000_2000 ∷ 0x0000_0008 ∷ 0x0068_0010 ∷ []
boundary rest = refl

-- a miss while an exception is being handled goes to the general vector, and EPC stays; BadVAddr and EntryHi are set
nested_miss : (rest : List ℕ) → let c = after 1 (with_cp0_word 14 0x1234 (with_cp0_word 12 2 (running (0x8C01_3000 ∷ []) rest))) in
    c.registers.pc ∷ cp0_word 14 c ∷ cp0_word 13 c ∷ cp0_word 8 c ∷ cp0_word 10 c ∷ [] ≡ 0xC000_0180 ∷ 0x1234 ∷ 0x0000_0008 ∷ 0x3000 ∷ 0x2000 ∷ []
nested_miss rest = refl

-- entries 3 and 9 match one address; TLBWI to entry 1 with PFN 7 for the same address counts from then on
abbrev twice_mapped : List ℕ → PrivateMachine
twice_mapped rest =
    with_cp0_word 0 1 (with_cp0_word 2 0x1C2 (with_cp0_word 10 0x0040_0000
    (with_entry 3 (record { hi = 0x0040_0000; lo0 = 0x142; lo1 = 0 }) (with_entry 9 (record { hi = 0x0040_0000; lo0 = 0x182; lo1 = 0 })
    (running (0x4200_0002 ∷ []) rest)))))

lowest_counts : (rest : List ℕ) → led (twice_mapped rest) 0 4 Load 0x0040_0010 ≡ Ok (Memory 0x5010)
lowest_counts rest = refl

written_counts : (rest : List ℕ) → led (stepped 1 (twice_mapped rest)) 0 4 Load 0x0040_0010 ≡ Ok (Memory 0x7010)
written_counts rest = refl

-- software interrupt 0 is enabled and pending in the delay slot of the branch at C0000000: EPC is the branch, BD is on
abbrev at_a_slot : List ℕ → PrivateMachine
at_a_slot rest =
    on_vcpu (with_cp0_word 13 0x100 (with_cp0_word 12 0x101 (running (0x1000_0004 ∷ 0x0000_0000 ∷ []) rest))) 0
    (λ c. record c { registers = record c.registers { pc = 0xC000_0004; slot = Some 0xC000_0014 } })

interrupt_in_slot : (rest : List ℕ) → let c = after 1 (at_a_slot rest) in
    c.registers.pc ∷ cp0_word 14 c ∷ cp0_word 13 c ∷ cp0_word 12 c ∷ [] ≡ 0xC000_0180 ∷ 0xC000_0000 ∷ 0x8000_0100 ∷ 0x0000_0103 ∷ []
interrupt_in_slot rest = refl

interrupt_leaves_the_slot : (rest : List ℕ) → (after 1 (at_a_slot rest)).registers.slot ≡ None
interrupt_leaves_the_slot rest = refl

-- ERET returns to EPC, and clears EXL and the link; in a delay slot it is reserved
abbrev returns : List ℕ → PrivateMachine
returns rest = on_vcpu (with_cp0_word 14 0xC000_0100 (with_cp0_word 12 2 (running (0x4200_0018 ∷ []) rest))) 0 (with_link (Some 7))

eret_returns : (rest : List ℕ) → let c = after 1 (returns rest) in c.registers.pc ∷ cp0_word 12 c ∷ [] ≡ 0xC000_0100 ∷ 0 ∷ []
eret_returns rest = refl

eret_unlinks : (rest : List ℕ) → (after 1 (returns rest)).link ≡ None
eret_unlinks rest = refl

eret_in_slot : (rest : List ℕ) → let m = on_vcpu (returns rest) 0 (λ c. record c { registers = record c.registers { slot = Some 0xC000_0008 } }) in
    cp0_word 13 (after 1 m) ≡ 0x0000_0028
eret_in_slot rest = refl
