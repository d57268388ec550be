-- The hardware's step of a virtual processor on a processor, and what the guest says of an access for which it trapped.
use Rattle.std.specs.Prelude.{ℕ, Bool, Option, Result}
use Rattle.private_machine.specs.Reaching.{Wanted}
use Rattle.private_machine.specs.HardwareStep.{Trap, Done, hardware_step}
use Rattle.private_machine.specs.TrapAccess.{grants}
use Rattle.isolation_law.specs.GuestState.{GuestState, vcpu_of}
use Rattle.isolation_law.specs.Content.{content}
use Rattle.isolation_law.specs.DirectStep.{with_inputs, sight}

abbrev pub step_on : GuestState → ℕ → ℕ → Result Done Trap
step_on s p v = let u = with_inputs s v in hardware_step (sight u p v) u.pages (vcpu_of u v).registers

-- the guest itself grants the access, on memory
abbrev pub is_granted : GuestState → ℕ → Option Wanted → Bool
is_granted s v access = grants (content s) v access
