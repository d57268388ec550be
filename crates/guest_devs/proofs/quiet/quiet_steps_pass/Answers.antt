-- As for each.
use Rattle.guest_devs.proofs.QuietLemmas.{quiet-ticked}
use Rattle.guest_devs.proofs.quiet.quiet_steps_pass.Goals as goal

pub returns : goal.returns
returns c n v cs page there quiet = quiet-ticked n v cs page there quiet
