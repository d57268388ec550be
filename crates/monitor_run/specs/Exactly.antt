-- When each status comes, gathered from the claim.
use Rattle.std.specs.Prelude.{◌≡◌, ◌⊎◌, ℕ, List, Option, Some, None, Result, Ok, Err}
use Rattle.base_words.specs.Counts.{Rose}
use Rattle.outside_io.specs.Reading.{ShelfView, Holds}
use Rattle.outside_io.specs.Writing.{SinkView}
use Rattle.admission.specs.declared.faults.Fault.{Fault}
use Rattle.guest_asm.specs.declared.fault.AsmCause.{AsmCause}
use Rattle.admission.specs.declared.faults.Fault.TheVariants.{Read}
use Rattle.admission.specs.Chain.{Files}
use Rattle.admission.specs.Jobs.{Job, Monitored, Alone, Print, Litmus, Listing, job_of}
use Rattle.admission.specs.Ready.{AreGiven}
use Rattle.admission.specs.Stages.{FailedAt}
use Rattle.admission.specs.Texts.{RefusesLine}
use Rattle.admission.specs.Words.{Form, Raw, Machine, Private, Make, Load, Litmus as LitmusForm, Asm, AsmSteps}
use Rattle.page_slots.specs.declared.op.Litmus.{Litmus as Accesses}
use Rattle.litmus_file.specs.declared.fault.LitmusFault.{LitmusFault}
use Rattle.litmus_file.specs.Reads.{Read as LitmusRead}
use Rattle.litmus_file.specs.File.{litmus_of}
use Rattle.monitor_run.specs.FaultLines.{status_of}

-- a shelf tells that it holds these files
abbrev pub AreTold : ShelfView → Files → Type 0
AreTold shelf files = (name bytes : List ℕ) → files name ≡ Some bytes → shelf.told name ≡ Holds bytes

-- the status of a litmus file that is carried out, or refused
abbrev pub litmus_status : LitmusRead Accesses → ℕ
litmus_status (Ok accesses) = 0
litmus_status (Err fault) = 10

-- the status of a job that is done, or refused
abbrev pub due_status : Result Job Fault → ℕ
due_status (Ok (Monitored d starts sums)) = 0
due_status (Ok (Alone d starts)) = 0
due_status (Ok (Print made)) = 0
due_status (Ok (Listing assembly)) = 0
due_status (Ok (Litmus bytes)) = litmus_status (litmus_of bytes)
due_status (Err fault) = status_of fault

-- the status that is due, or want of memory, or a failed output
abbrev pub OrFails : ℕ → SinkView → SinkView → ℕ → Type 0
OrFails due sink sink_after status = (status ≡ due) ⊎ ((status ≡ 1) ⊎ ((status ≡ 4) × Rose sink.faults sink_after.faults))

-- the shelf failed at some name
abbrev pub Failed : ShelfView → ShelfView → Type 0
Failed old new = (name : List ℕ) × FailedAt old new name

-- it failed at a file for which the words asked, and which is the one that is told
pub record FailedFile (words : List (List ℕ)) (old new : ShelfView) : Type 0 where
  pub files : Files
  pub given : AreGiven old new files
  pub name : List ℕ
  pub asked : job_of words files ≡ Err (Read name)
  pub failed : FailedAt old new name

-- the words asked for a litmus file that the shelf gave, and it has a fault
pub record RefusedLitmus (words : List (List ℕ)) (old new : ShelfView) : Type 0 where
  pub files : Files
  pub given : AreGiven old new files
  pub bytes : List ℕ
  pub asked : job_of words files ≡ Ok (Litmus bytes)
  pub fault : LitmusFault
  pub refused : litmus_of bytes ≡ Err fault

-- the words named a text that the shelf gave, and a line of it is refused
pub record RefusedText (words : List (List ℕ)) (old new : ShelfView) : Type 0 where
  pub files : Files
  pub given : AreGiven old new files
  pub line : ℕ
  pub cause : AsmCause
  pub refused : RefusesLine words files line cause

-- the status that is due, or want of memory, or a fault that the shelf or the sink counted
abbrev pub IsExactly : ℕ → ShelfView → ShelfView → SinkView → SinkView → ℕ → Type 0
IsExactly due shelf shelf_after sink sink_after status =
    (status ≡ due) ⊎ ((status ≡ 1) ⊎ (((status ≡ 3) × Failed shelf shelf_after) ⊎ ((status ≡ 4) × Rose sink.faults sink_after.faults)))

-- a form that takes a number, from which all is made, and names no file
abbrev pub IsMade : Option Form → Type 0
IsMade (Some (Make seed)) = Unit {0}
IsMade (Some (Load seed)) = Unit {0}
IsMade (Some (Raw file steps)) = ⊥
IsMade (Some (Machine file)) = ⊥
IsMade (Some (Private file)) = ⊥
IsMade (Some (LitmusForm file)) = ⊥
IsMade (Some (Asm file)) = ⊥
IsMade (Some (AsmSteps file steps)) = ⊥
IsMade None = ⊥
