-- How the command ends, by what its file asks for: the exit status, and what the output got.
use Rattle.std.specs.Prelude.{◌≡◌, ◌⊎◌, ℕ, List, Ok, Err}
use Rattle.outside_io.specs.Writing.{SinkView, Settles, Breaks, Starves}
use Rattle.page_slots.specs.declared.op.Litmus.{Litmus}
use Rattle.litmus_file.specs.declared.fault.LitmusFault.{LitmusFault}
use Rattle.litmus_file.specs.Reads.{Read}
use Rattle.litmus_run.specs.Ends.{IsOutcomeText}
use Rattle.litmus_run.specs.FaultLine.{fault_line}

-- the file is carried out, and an outcome of it is put and settled
pub record Completes (litmus : Litmus) (old new : SinkView) (status : ℕ) : Type 0 where
  pub answer : status ≡ 0
  pub text : List ℕ
  pub outcome : IsOutcomeText litmus text
  pub sink : Settles old new text

-- the file is carried out, and the output failed within an outcome of it
pub record Unwritten (litmus : Litmus) (old new : SinkView) (status : ℕ) : Type 0 where
  pub answer : status ≡ 4
  pub text : List ℕ
  pub outcome : IsOutcomeText litmus text
  pub sink : Breaks old new text

-- the file is carried out, and memory was wanting within an outcome of it
pub record Unfinished (litmus : Litmus) (old new : SinkView) (status : ℕ) : Type 0 where
  pub answer : status ≡ 1
  pub text : List ℕ
  pub outcome : IsOutcomeText litmus text
  pub sink : Starves old new text

-- the file is refused, with one line; an output that fails within it changes no status
pub record Refuses (fault : LitmusFault) (old new : SinkView) (status : ℕ) : Type 0 where
  pub answer : status ≡ 10
  pub sink : Settles old new (fault_line fault) ⊎ Breaks old new (fault_line fault)

-- the file is refused, and memory was wanting for its line or within it
pub record Untold (fault : LitmusFault) (old new : SinkView) (status : ℕ) : Type 0 where
  pub answer : status ≡ 1
  pub sink : Starves old new (fault_line fault)

-- memory was wanting before anything was put
pub record Wants (old new : SinkView) (status : ℕ) : Type 0 where
  pub answer : status ≡ 1
  pub sink : new ≡ old

-- a fault of the file is told
abbrev pub Tells : LitmusFault → SinkView → SinkView → ℕ → Type 0
Tells fault old new status = Refuses fault old new status ⊎ Untold fault old new status

-- by what the file asks for, or its first fault
abbrev pub Answers : Read Litmus → SinkView → SinkView → ℕ → Type 0
Answers (Ok litmus) old new status =
    Completes litmus old new status ⊎ (Unwritten litmus old new status ⊎ (Unfinished litmus old new status ⊎ Wants old new status))
Answers (Err fault) old new status = Tells fault old new status ⊎ Wants old new status
