-- How a call may end: by what is to be done, what the sink holds, the record and the exit status.
use Rattle.std.specs.Prelude.{◌≡◌, ◌⊎◌, ℕ, List, [], Result, Ok, Err}
use Rattle.outside_io.specs.declared.sink.SinkFault.{SinkFault}
use Rattle.outside_io.specs.declared.sink.SinkFault.TheVariants.{Failed, Memory}
use Rattle.outside_io.specs.Writing.{SinkView, Settles, Breaks, Starves}
use Rattle.guest_core.specs.declared.records.RunRecord.{RunRecord}
use Rattle.admission.specs.declared.faults.Fault.{Fault}
use Rattle.guest_asm.specs.Listing.{listing_of}
use Rattle.admission.specs.Jobs.{Job, Monitored, Alone, Print, Litmus, Listing}
use Rattle.litmus_file.specs.File.{litmus_of}
use Rattle.litmus_run.specs.Command.{Answers}
use Rattle.run_report.specs.MadeText.{made_text}
use Rattle.run_report.specs.Report.{report_text, alone_report}
use Rattle.monitor_run.specs.Alone.{alone_of}
use Rattle.monitor_run.specs.FaultLines.{fault_line, status_of}
use Rattle.monitor_run.specs.Monitored.{IsRun}

-- a record that holds nothing
abbrev pub nothing : RunRecord
nothing = record { guests = []; slices = []; failures = [] }

-- the record of a job that is done; guests that run alone leave none, and nor does what is printed
abbrev pub IsDone : Job → RunRecord → Type 0
IsDone (Monitored d starts sums) out = IsRun d starts out
IsDone (Alone d starts) out = out ≡ nothing
IsDone (Print made) out = out ≡ nothing
IsDone (Litmus bytes) out = ⊥
IsDone (Listing assembly) out = out ≡ nothing

-- its report
abbrev pub report : Job → RunRecord → List ℕ
report (Monitored d starts sums) out = report_text sums out
report (Alone d starts) out = alone_report (alone_of d starts)
report (Print made) out = made_text made
report (Litmus bytes) out = []
report (Listing assembly) out = listing_of assembly

-- the job is done, and its report is put and settled
pub record Completes (job : Job) (old new : SinkView) (out : RunRecord) (status : ℕ) : Type 0 where
  pub answer : status ≡ 0
  pub done : IsDone job out
  pub sink : Settles old new (report job out)

-- the job is done, and the output failed
pub record Unwritten (job : Job) (old new : SinkView) (out : RunRecord) (status : ℕ) : Type 0 where
  pub answer : status ≡ 4
  pub done : IsDone job out
  pub sink : Breaks old new (report job out)

-- memory was wanting, before a text was put or within it
pub record Wants (text : List ℕ) (old new : SinkView) (status : ℕ) : Type 0 where
  pub answer : status ≡ 1
  pub sink : Starves old new text

-- the status of a job that is done, by what became of its report
abbrev pub status_put : Result (Unit {0}) SinkFault → ℕ
status_put (Ok done) = 0
status_put (Err Failed) = 4
status_put (Err Memory) = 1

-- the job is refused, with one line
pub record Refuses (fault : Fault) (old new : SinkView) (status : ℕ) : Type 0 where
  pub answer : status ≡ status_of fault
  pub sink : Settles old new (fault_line fault) ⊎ Breaks old new (fault_line fault)

-- a refusal is told, or memory was wanting
abbrev pub Tells : Fault → SinkView → SinkView → ℕ → Type 0
Tells fault old new status = Refuses fault old new status ⊎ Wants (fault_line fault) old new status

-- guests run, under the monitor or alone, or what is made or assembled is printed
abbrev pub Runs : Job → SinkView → SinkView → RunRecord → ℕ → Type 0
Runs job old new out status =
    Completes job old new out status ⊎ (Unwritten job old new out status
    ⊎ ((IsDone job out ⊎ (out ≡ nothing)) × Wants (report job out) old new status))

-- a litmus file is carried out or refused by its bytes, and leaves no record
abbrev pub Ends : Result Job Fault → SinkView → SinkView → RunRecord → ℕ → Type 0
Ends (Ok (Monitored d starts sums)) old new out status = Runs (Monitored d starts sums) old new out status
Ends (Ok (Alone d starts)) old new out status = Runs (Alone d starts) old new out status
Ends (Ok (Print made)) old new out status = Runs (Print made) old new out status
Ends (Ok (Listing assembly)) old new out status = Runs (Listing assembly) old new out status
Ends (Ok (Litmus bytes)) old new out status = (out ≡ nothing) × Answers (litmus_of bytes) old new status
Ends (Err fault) old new out status = (out ≡ nothing) × Tells fault old new status
