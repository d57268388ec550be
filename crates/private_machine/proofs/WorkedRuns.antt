-- Short runs: the private machine prints and halts as the processor's manual has it.
use Rattle.std.proofs.Common.{◌≡◌, ℕ, List, [], ◌∷◌, ◌++◌, true, false, refl, replicate}
use Rattle.private_machine.specs.PrivateMachine.{PrivateMachine}
use Rattle.private_machine.proofs.WorkedGuests.{bytes, guest, running, stepped, after, cp0_word}

-- LUI 1, CFFF; ORI 1, 1, F000; ADDIU 2, 0, 41; SW 2, 0(1); SW 2, 4(1)
abbrev prints_and_halts : List ℕ
prints_and_halts = 0x3C01_CFFF ∷ 0x3421_F000 ∷ 0x2402_0041 ∷ 0xAC22_0000 ∷ 0xAC22_0004 ∷ []

-- LUI 1, CFFF; ORI 1, 1, F000; ADDIU 2, 0, 42; SW 2, 0(1); J back to the store; ADDIU 0, 0, 0
abbrev prints_again : List ℕ
prints_again = 0x3C01_CFFF ∷ 0x3421_F000 ∷ 0x2402_0042 ∷ 0xAC22_0000 ∷ 0x0800_0003 ∷ 0x2400_0000 ∷ []

-- BNEL 0, 0, which isn't taken
abbrev likely_not_taken : List ℕ
likely_not_taken = 0x5400_0002 ∷ []

five_steps_print : (rest : List ℕ) → (stepped 5 (running prints_and_halts rest)).devices.console ≡ 0x41 ∷ []
five_steps_print rest = refl

five_steps_halt : (rest : List ℕ) → (after 5 (running prints_and_halts rest)).halted ≡ true
five_steps_halt rest = refl

-- a halted virtual processor makes no more steps
six_steps_are_five : (rest : List ℕ) → (after 6 (running prints_and_halts rest)).steps ≡ 5
six_steps_are_five rest = refl

four_steps_print : (rest : List ℕ) → (stepped 4 (running prints_and_halts rest)).devices.console ≡ 0x41 ∷ []
four_steps_print rest = refl

four_steps_go_on : (rest : List ℕ) → (after 4 (running prints_and_halts rest)).halted ≡ false
four_steps_go_on rest = refl

no_steps_print_nothing : (rest : List ℕ) → (stepped 0 (running prints_and_halts rest)).devices.console ≡ []
no_steps_print_nothing rest = refl

nine_steps_print_twice : (rest : List ℕ) → (stepped 9 (running prints_again rest)).devices.console ≡ 0x42 ∷ 0x42 ∷ []
nine_steps_print_twice rest = refl

-- the delay slot is passed over
likely_branch_passes_its_slot : (rest : List ℕ) → (after 1 (running likely_not_taken rest)).registers.pc ≡ 0xC000_0008
likely_branch_passes_its_slot rest = refl

-- ADDIU 8, 0, 14; MTC0 8, Compare; ORI 8, 0, 8001; MTC0 8, Status; BEQ 0, 0 to itself; SLL 0, 0, 0; zeros; and at 180
-- LUI 16, CFFF; ORI 16, 16, F000; ADDIU 9, 0, 54; SW 9, 0(16); SW 0, 4(16)
abbrev timed : List ℕ → PrivateMachine
timed rest =
    guest 1 (bytes (0x2408_0014 ∷ 0x4088_5800 ∷ 0x3408_8001 ∷ 0x4088_6000 ∷ 0x1000_FFFF ∷ 0x0000_0000 ∷ [])
    ++ (replicate 360 0 ++ (bytes (0x3C10_CFFF ∷ 0x3610_F000 ∷ 0x2409_0054 ∷ 0xAE09_0000 ∷ 0xAE00_0004 ∷ []) ++ rest)))

-- Count comes to Compare with the twentieth step, and the twenty-first takes the interrupt
timer_rises : (rest : List ℕ) → cp0_word 13 (after 20 (timed rest)) ≡ 0x8000
timer_rises rest = refl

timer_interrupts : (rest : List ℕ) → (after 21 (timed rest)).registers.pc ≡ 0xC000_0180
timer_interrupts rest = refl

timer_returns_to : (rest : List ℕ) → cp0_word 14 (after 21 (timed rest)) ≡ 0xC000_0010
timer_returns_to rest = refl

timer_prints_nothing_yet : (rest : List ℕ) → (stepped 24 (timed rest)).devices.console ≡ []
timer_prints_nothing_yet rest = refl

timer_prints : (rest : List ℕ) → (stepped 25 (timed rest)).devices.console ≡ 0x54 ∷ []
timer_prints rest = refl

timer_halts : (rest : List ℕ) → (after 26 (timed rest)).halted ≡ true
timer_halts rest = refl
