use Rattle.std.proofs.Common.{refl}
use Rattle.std.specs.Fmt.{digits}
use Rattle.monitor_run.proofs.law.examples.Goals as goal

pub returns : goal.returns
unfolding digits
returns c = refl
