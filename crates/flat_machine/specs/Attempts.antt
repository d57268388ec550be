-- What an attempt at an instruction leaves, by its answer; and which events may come.
use Rattle.std.specs.Prelude.{◌≡◌, ◌≢◌, ℕ, ◌<◌, ◌≤◌, List, length, None, Result, Ok, Err}
use Rattle.base_words.specs.declared.exception.Exception.{Exception}
use Rattle.base_words.specs.declared.events.OwnEvent.{OwnEvent}
use Rattle.base_words.specs.declared.events.OwnEvent.TheVariants.{Step, Packet}
use Rattle.base_words.specs.declared.effect.Request.{Request}
use Rattle.base_words.specs.Instruction.{Effect}
use Rattle.mips_alu.specs.Execution.{passed}
use Rattle.private_machine.specs.PrivateMachine.{PrivateMachine, vcpu}
use Rattle.private_machine.specs.DevicePage.{transfer_of}
use Rattle.private_machine.specs.Devices.{commanded, disk_status}
use Rattle.private_machine.specs.OwnStep.{answered, executed}

-- the machine goes where the definition says, or stays, and the exception is told
abbrev pub Attempts : {A : Type 0} → Result PrivateMachine Exception → PrivateMachine → PrivateMachine → Result A Exception → Type 0
Attempts goes old new (Ok done) = goes ≡ Ok new
Attempts goes old new (Err exception) = (goes ≡ Err exception) × (new ≡ old)

-- what a virtual processor's request asks is done, and the instruction is passed
abbrev pub requested : PrivateMachine → ℕ → Request → Result PrivateMachine Exception
requested m v request = answered m v (passed request (vcpu m v).registers) request

-- an instruction has done its part by itself, and asks what leads where the whole leads; or it raised an exception
abbrev pub Begins : PrivateMachine → ℕ → Result Effect Exception → PrivateMachine → Result Request Exception → Type 0
Begins old v does new (Ok request) = (executed old v does ≡ requested new v request) × ((x : Exception) → requested new v request ≡ Err x → new ≡ old)
Begins old v does new (Err exception) = (does ≡ Err exception) × (new ≡ old)

-- a packet has 1 to 4096 bytes, and comes where a page is armed
pub record MayArrive (m : PrivateMachine) (bytes : List ℕ) : Type 0 where
  pub armed : m.devices.armed ≢ None
  pub some : 0 < length bytes
  pub few : length bytes ≤ 4096

-- a step is of a virtual processor of the guest
abbrev pub MayCome : PrivateMachine → OwnEvent → Type 0
MayCome m (Step v) = v.0 < length m.vcpus
MayCome m (Packet from bytes) = MayArrive m bytes

-- a virtual processor's disk command, with its status
abbrev pub disk_done : PrivateMachine → ℕ → ℕ → PrivateMachine
disk_done m v command = let t = transfer_of m.devices v in commanded m v t command (disk_status m t command)
