-- Coprocessor 0 as it is kept: Random, Count and the timer as they were some steps ago, and how many steps that is.
use Rattle.std.specs.Prelude.{◌≡◌, ℕ, zero, suc, ◌<◌, ◌≤◌, ◌^◌}
use Rattle.base_words.specs.declared.coprocessor.Cp0Registers.{Cp0Registers}
use Rattle.base_words.specs.Fields.{sum}
use Rattle.base_words.specs.Coprocessor.{next_random}
use Rattle.mips_cp0.specs.declared.coprocessor.Cp0.TheInside.{Inside}

-- Random so many steps later
abbrev pub random_after : ℕ → ℕ → ℕ → ℕ
random_after zero random wired = random
random_after (suc steps) random wired = next_random (random_after steps random wired) wired

-- the registers so many steps later, of which none brought Count to Compare
abbrev pub later : ℕ → Cp0Registers → Cp0Registers
later steps c = record c { random = random_after steps c.random c.wired; count = sum c.count steps }

-- what it holds now
abbrev pub held_now : Inside → Cp0Registers
held_now c = later c.ticks c.registers

-- Count comes to Compare after so many steps, and not before
pub record Meets (count compare left : ℕ) : Type 0 where
  pub some : 0 < left
  pub few : left ≤ 2 ^ 32
  pub at : sum count left ≡ compare

-- the timer hasn't come since
pub record IsBehind (c : Inside) : Type 0 where
  pub before : c.ticks < c.left
  pub meets : Meets c.registers.count c.registers.compare c.left
