-- How a call ends: as its report was put, or starved before anything was put.
use Rattle.std.proofs.Common.{◌≡◌, ℕ, List, Result, Ok, Err, refl, inl, inr, arith}
use Rattle.outside_io.specs.Reading.{ShelfView}
use Rattle.outside_io.specs.declared.sink.SinkFault.{SinkFault}
use Rattle.outside_io.specs.declared.sink.SinkFault.TheVariants.{Failed, Memory}
use Rattle.outside_io.specs.Pieces.{StarvesBeforeAny}
use Rattle.outside_io.specs.Writing.{SinkView, Writes}
use Rattle.guest_core.specs.declared.records.RunRecord.{RunRecord}
use Rattle.admission.specs.declared.faults.Fault.{Fault}
use Rattle.admission.specs.declared.faults.Refusal.{Refusal}
use Rattle.admission.specs.Jobs.{Job, Monitored, Alone, Print, Litmus, Listing, job_of}
use Rattle.admission.specs.Ready.{ReadsAs}
use Rattle.page_slots.specs.declared.op.Litmus.{Litmus as Accesses}
use Rattle.litmus_file.specs.Reads.{Read as LitmusRead}
use Rattle.litmus_file.specs.File.{litmus_of}
use Rattle.litmus_run.specs.Command.{Answers as LitmusAnswers}
use Rattle.monitor_run.specs.Ends.{Completes, Ends, IsDone, Runs, nothing, report, status_put}
use Rattle.monitor_run.specs.FaultLines.{fault_line}
use Rattle.monitor_run.specs.Headline.{Answers}

-- a job that is done ends as its report was put
pub Runs-written : (job : Job) (old new : SinkView) (out : RunRecord) (put : Result (Unit {0}) SinkFault) → IsDone job out → Writes old new (report job out) put → Runs job old new out (status_put put)
Runs-written job old new out (Ok put) is written = inl (record { answer = refl; done = is; sink = written })
Runs-written job old new out (Err Failed) is written = inr (inl (record { answer = refl; done = is; sink = written }))
Runs-written job old new out (Err Memory) is written = inr (inr (inl is, record { answer = refl; sink = written }))

-- what ended with status 0 is done, and its report is put and settled
pub Runs-completed : (job : Job) (old new : SinkView) (out : RunRecord) (status : ℕ) → status ≡ 0 → Runs job old new out status → Completes job old new out status
Runs-completed job old new out status zero (inl completes) = completes
Runs-completed job old new out status zero (inr (inl unwritten)) = absurd (let four : status ≡ 4 = unwritten.answer in omega (arith, four, zero))
Runs-completed job old new out status zero (inr (inr wants)) = absurd (let one : status ≡ 1 = wants.1.answer in omega (arith, one, zero))

-- memory was wanting before anything was put
Runs-starved : StarvesBeforeAny → (job : Job) (sink : SinkView) (out : RunRecord) → out ≡ nothing → Runs job sink sink out 1
Runs-starved starves job sink out empty = inr (inr (inr empty, record { answer = refl; sink = starves sink (report job out) }))

litmus-starved : (r : LitmusRead Accesses) (sink : SinkView) → LitmusAnswers r sink sink 1
litmus-starved (Ok accesses) sink = inr (inr (inr (record { answer = refl; sink = refl })))
litmus-starved (Err fault) sink = inr (record { answer = refl; sink = refl })

pub Ends-starved : StarvesBeforeAny → (r : Result Job Fault) (sink : SinkView) (out : RunRecord) → out ≡ nothing → Ends r sink sink out 1
Ends-starved starves (Ok (Monitored d starts sums)) sink out empty = Runs-starved starves (Monitored d starts sums) sink out empty
Ends-starved starves (Ok (Alone d starts)) sink out empty = Runs-starved starves (Alone d starts) sink out empty
Ends-starved starves (Ok (Print made)) sink out empty = Runs-starved starves (Print made) sink out empty
Ends-starved starves (Ok (Listing assembly)) sink out empty = Runs-starved starves (Listing assembly) sink out empty
Ends-starved starves (Ok (Litmus bytes)) sink out empty = (empty, litmus-starved (litmus_of bytes) sink)
Ends-starved starves (Err fault) sink out empty = (empty, inr (record { answer = refl; sink = starves sink (fault_line fault) }))

pub Answers-starved : StarvesBeforeAny → (words : List (List ℕ)) (old new : ShelfView) (sink : SinkView) (out : RunRecord) (answer : Result Job Refusal) → ReadsAs old new (λ files. job_of words files) answer → out ≡ nothing
    → Answers words old new sink sink out 1
Answers-starved starves words old new sink out answer reads empty = record {
  files = reads.files;
  given = reads.given;
  read = λ other. absurd (other refl);
  told = reads.told;
  counts = reads.counts;
  ends = Ends-starved starves (job_of words reads.files) sink out empty;
}
