-- What the step at hand of a virtual processor does with a page.
use Rattle.std.specs.Prelude.{ℕ}
use Rattle.private_machine.specs.OwnStep.{joined}
use Rattle.private_machine.specs.DeviceAct.{Act}
use Rattle.private_machine.specs.StepAct.{act_next}
use Rattle.isolation_law.specs.GuestState.{GuestState}
use Rattle.isolation_law.specs.Content.{content}

abbrev pub at_hand : GuestState → ℕ → Act
at_hand s v = act_next (joined (content s) v) v
