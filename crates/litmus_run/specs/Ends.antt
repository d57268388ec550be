-- What the output got of a run, and the exit status.
use Rattle.std.specs.Prelude.{◌≡◌, ◌⊎◌, ℕ, List, Result, Ok, Err}
use Rattle.outside_io.specs.Writing.{SinkView, Settles, Breaks, Starves}
use Rattle.outside_io.specs.declared.sink.SinkFault.{SinkFault}
use Rattle.outside_io.specs.declared.sink.SinkFault.TheVariants.{Failed, Memory}
use Rattle.page_slots.specs.declared.access.Entry.{Entry}
use Rattle.page_slots.specs.declared.op.Litmus.{Litmus}
use Rattle.page_slots.specs.Litmus.{IsOutcome}
use Rattle.litmus_run.specs.Texts.{histories_text}

-- a text is an outcome of the file: that of histories that are one
pub record IsOutcomeText (litmus : Litmus) (text : List ℕ) : Type 0 where
  pub histories : List (List Entry)
  pub outcome : IsOutcome litmus histories
  pub is : text ≡ histories_text histories

-- the output grew by an outcome of the file, or broke within one; or memory was wanting, before or within one
abbrev pub Ends : Litmus → SinkView → SinkView → Result (Unit {0}) SinkFault → Type 0
Ends litmus old new (Ok done) = (text : List ℕ) × IsOutcomeText litmus text × Settles old new text
Ends litmus old new (Err Failed) = (text : List ℕ) × IsOutcomeText litmus text × Breaks old new text
Ends litmus old new (Err Memory) = (new ≡ old) ⊎ ((text : List ℕ) × IsOutcomeText litmus text × Starves old new text)

-- the exit status of a run, by what became of its text
abbrev pub status_put : Result (Unit {0}) SinkFault → ℕ
status_put (Ok done) = 0
status_put (Err Failed) = 4
status_put (Err Memory) = 1
