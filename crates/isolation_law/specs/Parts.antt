-- The parts of which a guest under the monitor consists, beside its pages and its virtual processors.
use Rattle.std.specs.Prelude.{ℕ, List, Option}
use Rattle.base_words.specs.declared.moves.By.{By}
use Rattle.base_words.specs.declared.moves.MoveKind.{MoveKind}
use Rattle.base_words.specs.Halves.{Half}

-- a move that a processor asks for
pub record Wish : Type 0 where
  pub page : ℕ
  pub kind : MoveKind
  pub node : ℕ

-- a processor, as far as it serves this guest: what is loaded on it, and the valid halves of its TLB
pub record Processor : Type 0 where
  pub loaded : Option ℕ
  pub tlb : List Half

-- what a node without a frame showed
pub data Shown : Type 0 where
  AllHeld : Shown
  AtLimit : (seen : ℕ) → Shown
  Lost : (seen : ℕ) → Shown

-- why a move isn't begun, in the order in which the causes are tested
pub data Cause : Type 0 where
  Ended : Cause
  DeadCell : (cell : ℕ) → Cause
  Shared : Cause
  Replicated : Cause
  SameNode : Cause
  NoReplica : Cause
  NoFrame : List Shown → Cause

-- a move that wasn't begun: what was asked, by whom, and why not
pub record SkipEntry : Type 0 where
  pub wish : Wish
  pub by : By
  pub cause : Cause
