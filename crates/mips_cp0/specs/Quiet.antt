-- Steps that only let Random and Count move on, and before which no interrupt comes.
use Rattle.std.specs.Prelude.{◌≡◌, ℕ, zero, suc, ◌<◌, false}
use Rattle.base_words.specs.declared.coprocessor.Cp0Registers.{Cp0Registers}
use Rattle.base_words.specs.Coprocessor.{ticked, interrupts}

-- after so many steps that change nothing else
abbrev pub ticked_often : ℕ → Cp0Registers → Cp0Registers
ticked_often zero c = c
ticked_often (suc n) c = ticked_often n (ticked c)

-- no interrupt is enabled and pending before the first of so many steps, nor before any other of them
abbrev pub IsQuiet : ℕ → Cp0Registers → Type 0
IsQuiet n c = (k : ℕ) → k < n → interrupts (ticked_often k c) ≡ false
