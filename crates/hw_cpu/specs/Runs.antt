-- Steps of the hardware, one after the other, that leave nothing to note.
use Rattle.std.specs.Prelude.{◌≡◌, ℕ, zero, suc, Bool, true, false, not, ◌&&◌, Option, Ok, is_some}
use Rattle.base_words.specs.declared.regs.Regs.{Regs}
use Rattle.base_words.specs.declared.effect.Request.{Request}
use Rattle.base_words.specs.declared.effect.Request.TheVariants as asks
use Rattle.base_words.specs.declared.trap.Access.{Access}
use Rattle.base_words.specs.declared.trap.DataAccess.{DataAccess}
use Rattle.base_words.specs.declared.trap.DataAccess.TheVariants.{NoData, Load, Store}
use Rattle.mips_alu.specs.Execution.{passed}
use Rattle.private_machine.specs.Backing.{Held}
use Rattle.private_machine.specs.Reaching.{Sight, Reached, wanted}
use Rattle.private_machine.specs.HardwareStep.{accesses}
use Rattle.private_machine.specs.DirectAccess.{hardware_outcome, outcome_of}
use Rattle.private_machine.specs.declared.register_page.RegBlock.{RegBlock}
use Rattle.hw_cpu.specs.Steps.{left_by, with_page}

-- a data access leaves nothing to note, by what tells of which pages on which frames a load or a store doesn't
abbrev pub IsUnnoted : (ℕ → ℕ → Bool → Bool) → DataAccess → Type 0
IsUnnoted unnoted NoData = Unit {0}
IsUnnoted unnoted (Load page frame) = unnoted page.0 frame.0 false ≡ true
IsUnnoted unnoted (Store page frame) = unnoted page.0 frame.0 true ≡ true

-- a step that leaves the register page as it is, and nothing to note
pub record StepsQuietly (unnoted : ℕ → ℕ → Bool → Bool) (x : Sight) (v : ℕ) (regs : Regs) (held : Held) (regs' : Regs) (held' : Held) : Type 0 where
  pub access : Access
  pub makes : hardware_outcome x v held regs ≡ Ok (record { access = access; after = left_by regs' x.block held' })
  pub quiet : IsUnnoted unnoted access.«data»

-- so many
abbrev pub Runs : (ℕ → ℕ → Bool → Bool) → ℕ → Sight → ℕ → Regs → Held → Regs → Held → Type 0
Runs unnoted zero x v regs held regs' held' = (regs' ≡ regs) × (held' ≡ held)
Runs unnoted (suc n) x v regs held regs' held' = (mid : Regs) × (between : Held) × Runs unnoted n x v regs held mid between × StepsQuietly unnoted x v mid between regs' held'

-- the same, whatever register page there is, if it is as open as this
abbrev pub RunsOpen : (ℕ → ℕ → Bool → Bool) → ℕ → Sight → Bool → ℕ → Regs → Held → Regs → Held → Type 0
RunsOpen unnoted n x is_open v regs held regs' held' = (block : Option RegBlock) → (is_some block && not x.user) ≡ is_open → Runs unnoted n (with_page block x) v regs held regs' held'

-- a load or a store is asked for
abbrev pub IsPlainAccess : Request → Type 0
IsPlainAccess asks.Nothing = ⊥
IsPlainAccess (asks.Load kind address target) = Unit {0}
IsPlainAccess (asks.Store kind address value) = Unit {0}
IsPlainAccess (asks.LoadLinked address target) = ⊥
IsPlainAccess (asks.StoreConditional address value target) = ⊥
IsPlainAccess (asks.ReadCp0 number target) = ⊥
IsPlainAccess (asks.WriteCp0 number value) = ⊥
IsPlainAccess (asks.System op) = ⊥

-- what an instruction asks of memory is done so, whatever its word is and wherever it was fetched
pub record Touched (unnoted : ℕ → ℕ → Bool → Bool) (x : Sight) (v word : ℕ) (fetched : Reached) (block : Option RegBlock) (request : Request) (regs : Regs) (held : Held) (regs' : Regs) (held' : Held) : Type 0 where
  pub access : Access
  pub makes : outcome_of v block held (accesses x word fetched (record { registers = passed request regs; request = request }) (wanted request)) ≡ Ok (record { access = access; after = left_by regs' block held' })
  pub quiet : IsUnnoted unnoted access.«data»

abbrev pub Touches : (ℕ → ℕ → Bool → Bool) → Sight → ℕ → Request → Regs → Held → Regs → Held → Type 0
Touches unnoted x v request regs held regs' held' = (word : ℕ) (fetched : Reached) (block : Option RegBlock) → Touched unnoted x v word fetched block request regs held regs' held'
