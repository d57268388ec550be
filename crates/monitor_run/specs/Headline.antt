-- The claim: what the top call's status, output and record say.
use Rattle.std.specs.Prelude.{◌≡◌, ◌≢◌, ◌≤◌, ℕ, List, Result, Ok, Err}
use Rattle.outside_io.specs.Reading.{ShelfView, IsCalm}
use Rattle.outside_io.specs.Writing.{SinkView}
use Rattle.guest_core.specs.declared.records.RunRecord.{RunRecord}
use Rattle.admission.specs.declared.faults.Fault.{Fault}
use Rattle.admission.specs.Chain.{Files}
use Rattle.admission.specs.Jobs.{Job, job_of}
use Rattle.admission.specs.Ready.{AreGiven}
use Rattle.admission.specs.Stages.{IsCaused}
use Rattle.monitor_run.specs.Ends.{Ends}

-- a read that failed was the shelf's fault at that name, and with any other end no read has failed
abbrev pub IsRead : Result Job Fault → ShelfView → ShelfView → Type 0
IsRead (Ok job) old new = IsCalm old new
IsRead (Err fault) old new = IsCaused old new fault

-- the top call, by its words, the shelf and the sink before and after, the record and the status: there are files that the shelf gave,
-- and the call ends as the words and these files ask for
pub record Answers (words : List (List ℕ)) (shelf shelf_after : ShelfView) (sink sink_after : SinkView) (out : RunRecord) (status : ℕ) : Type 0 where
  pub files : Files
  pub given : AreGiven shelf shelf_after files
  pub read : status ≢ 1 → IsRead (job_of words files) shelf shelf_after
  pub told : shelf_after.told ≡ shelf.told
  pub counts : shelf.faults ≤ shelf_after.faults
  pub ends : Ends (job_of words files) sink sink_after out status
