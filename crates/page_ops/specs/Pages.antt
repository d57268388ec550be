-- Instructions of one page, one after the other, as long as each does all by itself.
use Rattle.std.specs.Prelude.{◌≡◌, ◌<◌, ◌≤◌, ℕ, ◌+◌, ◌*◌, ◌/◌, ◌%◌, ◌^◌, zero, suc, Bool, true, false, List, Result, Ok}
use Rattle.base_words.specs.declared.regs.Regs.{Regs}
use Rattle.base_words.specs.declared.exception.Exception.{Exception}
use Rattle.base_words.specs.declared.effect.Request.{Request}
use Rattle.base_words.specs.declared.effect.Request.TheVariants as asks
use Rattle.base_words.specs.Memory.{word_at}
use Rattle.base_words.specs.OpcodeMap.{decoded}
use Rattle.base_words.specs.Instruction.{Effect, effect}
use Rattle.page_ops.specs.Ops.{Runs}
use Rattle.page_ops.specs.declared.stretch.Stop.{Stop}

-- the next instruction is a whole word of the page of this number
pub record IsInPage (number : ℕ) (regs : Regs) : Type 0 where
  pub page : regs.pc / 4096 ≡ number
  pub aligned : regs.pc % 4 ≡ 0

-- the word at the program counter, in a page of these bytes
abbrev pub word_in : List ℕ → Regs → ℕ
word_in bytes regs = word_at bytes (regs.pc % 4096)

-- what the instruction at the program counter does
abbrev pub effect_in : List ℕ → Regs → Result Effect Exception
effect_in bytes regs = effect (decoded (word_in bytes regs)) regs

-- one instruction of a page, which asks nothing
pub record IsPlain (bytes : List ℕ) (number : ℕ) (from : Regs) (to : Regs) : Type 0 where
  pub there : IsInPage number from
  pub done : effect_in bytes from ≡ Ok (record { registers = to; request = asks.Nothing })

-- so many of them, one after the other
abbrev pub Goes : List ℕ → ℕ → ℕ → Regs → Regs → Type 0
Goes bytes number zero from to = to ≡ from
Goes bytes number (suc n) from to = (mid : Regs) × Goes bytes number n from mid × IsPlain bytes number mid to

-- an instruction of the page asks something, with the registers as they are, or is left to the caller
pub record StopsAt (bytes : List ℕ) (number : ℕ) (regs : Regs) (stop : Stop) : Type 0 where
  pub there : IsInPage number regs
  pub word : stop.word ≡ word_in bytes regs
  pub runs : Runs (effect_in bytes regs) regs regs stop.asks

-- an offset in the page of this number, which begins there
pub record IsAt (number first at : ℕ) : Type 0 where
  pub starts : first ≡ number * 4096
  pub fits : first + 4096 ≤ 2 ^ 32
  pub within : at < 4096
  pub aligned : at % 4 ≡ 0

-- an instruction asks nothing of coprocessor 0
abbrev pub leaves_cp0 : Request → Bool
leaves_cp0 asks.Nothing = true
leaves_cp0 (asks.Load kind address target) = true
leaves_cp0 (asks.Store kind address value) = true
leaves_cp0 (asks.LoadLinked address target) = true
leaves_cp0 (asks.StoreConditional address value target) = true
leaves_cp0 (asks.ReadCp0 number target) = false
leaves_cp0 (asks.WriteCp0 number value) = false
leaves_cp0 (asks.System op) = false
