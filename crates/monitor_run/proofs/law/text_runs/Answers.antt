use Rattle.monitor_run.proofs.TextRuns.{RunsText-from}
use Rattle.monitor_run.proofs.law.text_runs.Goals as goal

pub returns : goal.returns
returns c = RunsText-from c.images_are_loaded.ensures.definitions
