-- A page of memory, and what an instruction asks that ends a stretch.
use Rattle.std.specs.Prelude.{◌≡◌, ℕ, ◌+◌, ◌%◌, ◌<◌, Bool, true, false, List, IfSome, Ok}
use Rattle.base_words.specs.declared.effect.Request.{Request}
use Rattle.base_words.specs.declared.effect.Request.TheVariants as asks
use Rattle.base_words.specs.Instruction.{effect}
use Rattle.base_words.specs.OpcodeMap.{decoded}
use Rattle.mips_alu.specs.Execution.{Executes}
use Rattle.page_ops.specs.declared.stretch.Stop.{Stop}
use Rattle.private_machine.specs.OwnStep.{fetched}
use Rattle.base_words.specs.Memory.{word_at}
use Rattle.private_machine.specs.PrivateMachine.{PrivateMachine, vcpu}
use Rattle.flat_machine.specs.declared.window.KeptPage.{KeptPage}

-- these bytes are a page of memory, word for word
abbrev pub ShowsPage : PrivateMachine → KeptPage → List ℕ → Type 0
ShowsPage m page bytes = (offset : ℕ) → offset < 4096 → offset % 4 ≡ 0 → word_at bytes offset ≡ word_at m.memory (page.start + offset)

-- an instruction asks for a load or a store
abbrev pub is_of_memory : Request → Bool
is_of_memory asks.Nothing = false
is_of_memory (asks.Load kind address target) = true
is_of_memory (asks.Store kind address value) = true
is_of_memory (asks.LoadLinked address target) = false
is_of_memory (asks.StoreConditional address value target) = false
is_of_memory (asks.ReadCp0 number target) = false
is_of_memory (asks.WriteCp0 number value) = false
is_of_memory (asks.System op) = false

abbrev pub IsOfMemory : Request → Type 0
IsOfMemory request = is_of_memory request ≡ true

-- the next instruction of a virtual processor waits for what it asks
pub record Asks (m : PrivateMachine) (v : ℕ) (word : ℕ) (request : Request) : Type 0 where
  pub fetched : fetched m v ≡ Ok word
  pub waits : Executes (effect (decoded word) (vcpu m v).registers) (vcpu m v).registers (vcpu m v).registers (Ok request)

-- what ended a stretch is the next instruction, where it asks something
abbrev pub IsStop : PrivateMachine → ℕ → Stop → Type 0
IsStop m v stop = IfSome stop.asks (Asks m v stop.word)
