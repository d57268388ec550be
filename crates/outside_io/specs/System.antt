-- The system's files and its output, as far as a contract sees them: what they count.
use Rattle.std.specs.Prelude.{◌≡◌, ℕ, List, Bool, false, None, Result, Ok, Err}
use Rattle.outside_io.specs.declared.shelf.ShelfFault.{ShelfFault}
use Rattle.outside_io.specs.declared.shelf.ShelfFault.TheVariants.{Failed, Long, Memory}
use Rattle.outside_io.specs.declared.sink.SinkFault.{SinkFault}
use Rattle.outside_io.specs.declared.sink.SinkFault.TheVariants.{Failed as Broken, Memory as Starved}
use Rattle.base_words.specs.Counts.{counted}
use Rattle.outside_io.specs.Reading.{Untold, ShelfView}
use Rattle.outside_io.specs.Writing.{SinkView}

-- the system's files: how many reads failed, and the name of the last one
pub record FilesState : Type 0 where
  pub faults : ℕ
  pub failed : List ℕ

-- they tell nothing of what a name holds
abbrev pub files_view : FilesState → ShelfView
files_view s = record { told = λ _. Untold; faults = s.faults; failed = s.failed }

-- what a read of the system's files leaves: a failed one is a fault at its name
abbrev pub FilesLeave : FilesState → FilesState → List ℕ → Result (List ℕ) ShelfFault → Type 0
FilesLeave old new name (Ok bytes) = new ≡ old
FilesLeave old new name (Err Failed) = new ≡ record { faults = counted old.faults; failed = name }
FilesLeave old new name (Err Long) = new ≡ old
FilesLeave old new name (Err Memory) = new ≡ old

-- the system's output: how many puts failed, and whether it was finished since the last one
pub record OutputState : Type 0 where
  pub faults : ℕ
  pub settled : Bool

-- it tells nothing of its bytes
abbrev pub output_view : OutputState → SinkView
output_view s = record { holds = None; faults = s.faults; settled = s.settled }

-- what a put to the system's output leaves; it takes no memory
abbrev pub OutputLeaves : OutputState → OutputState → Result (Unit {0}) SinkFault → Type 0
OutputLeaves old new (Ok done) = new ≡ record { faults = old.faults; settled = false }
OutputLeaves old new (Err Broken) = new ≡ record { faults = counted old.faults; settled = false }
OutputLeaves old new (Err Starved) = ⊥
