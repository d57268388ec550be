-- Steps of a virtual processor before which nothing comes.
use Rattle.std.specs.Prelude.{◌≡◌, ℕ, ◌+◌, ◌<◌, List, slice_index_or}
use Rattle.mips_cp0.specs.Quiet.{IsQuiet}
use Rattle.private_machine.specs.declared.vcpu.Vcpu.{Vcpu}
use Rattle.private_machine.specs.Vcpu.{no_vcpu}
use Rattle.private_machine.specs.DevicePage.{DevicePage}
use Rattle.private_machine.specs.PrivateMachine.{input_waits}
use Rattle.guest_devs.specs.Arrivals.{NoneJoins}

-- no input joins before so many steps of the first virtual processor, and its line shows whether some waits
pub record InputRests (n : ℕ) (c : Vcpu) (page : DevicePage) : Type 0 where
  pub none : NoneJoins (c.steps + n) page
  pub line : c.cp0.cause.pending.input ≡ input_waits page

-- before so many steps of a virtual processor no interrupt is due, and no input joins
pub record AreQuiet (n v : ℕ) (vcpus : List Vcpu) (page : DevicePage) : Type 0 where
  pub interrupts : IsQuiet n (slice_index_or vcpus v no_vcpu).cp0
  pub input : v ≡ 0 → 0 < n → InputRests n (slice_index_or vcpus 0 no_vcpu) page
