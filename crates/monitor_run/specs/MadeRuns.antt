-- What a call that is given a number did, where it ended with status 0.
use Rattle.std.specs.Prelude.{◌≡◌, ℕ, true}
use Rattle.outside_io.specs.Writing.{SinkView, Settles}
use Rattle.guest_core.specs.declared.records.RunRecord.{RunRecord}
use Rattle.guest_gen.specs.Made.{made_of}
use Rattle.admission.specs.Generated.{generated}
use Rattle.admission.specs.MadeRun.{made_starts}
use Rattle.run_report.specs.MadeText.{made_text}
use Rattle.run_report.specs.Report.{report_text}
use Rattle.monitor_run.specs.Ends.{nothing}
use Rattle.monitor_run.specs.Monitored.{IsRun}

-- the guests that are made from the number ran from their images and their disk, and their report, with sums, is put and settled
pub record RunsMade (seed : ℕ) (old new : SinkView) (out : RunRecord) : Type 0 where
  pub run : IsRun (generated 4 50000) (made_starts seed) out
  pub sink : Settles old new (report_text true out)

-- what is made from the number is put and settled, and no record is kept
pub record PrintsMade (seed : ℕ) (old new : SinkView) (out : RunRecord) : Type 0 where
  pub empty : out ≡ nothing
  pub sink : Settles old new (made_text (made_of seed 4 50000))
