-- A machine in parts: one virtual processor, those before it and behind it, and memory; and what steps of that one leave of them.
use Rattle.std.specs.Prelude.{◌≡◌, ℕ, ◌-◌, ◌≤◌, ◌++◌, ◌∷◌, Bool, false, List, length, Ok, replicate}
use Rattle.base_words.specs.declared.ids.VcpuId.{VcpuId}
use Rattle.base_words.specs.declared.regs.Regs.{Regs}
use Rattle.base_words.specs.declared.effect.Request.{Request}
use Rattle.base_words.specs.declared.events.OwnEvent.TheVariants.{Step}
use Rattle.base_words.specs.Place.{AddressSpace}
use Rattle.private_machine.specs.declared.vcpu.Vcpu.{Vcpu}
use Rattle.private_machine.specs.Vcpu.{space_of, with_registers}
use Rattle.private_machine.specs.Ticking.{ticking_often}
use Rattle.private_machine.specs.PrivateMachine.{PrivateMachine, vcpu, is_open}
use Rattle.private_machine.specs.PrivateRun.{private_run}
use Rattle.guest_devs.specs.Quiet.{AreQuiet}
use Rattle.flat_machine.specs.Attempts.{requested}

-- what steps of the virtual processor between the others may change
pub record Parts : Type 0 where
  pub before : List Vcpu
  pub registers : Regs
  pub behind : List Vcpu
  pub memory : List ℕ

-- a machine of these parts, by the one between as it is but for its registers
abbrev pub put_together : PrivateMachine → Vcpu → Parts → PrivateMachine
put_together m c parts = record m { memory = parts.memory; vcpus = parts.before ++ (with_registers parts.registers c ∷ parts.behind) }

-- a request leaves these parts, in each machine of so many pages and for each virtual processor in this address space
abbrev pub Answers : ℕ → AddressSpace → Request → Parts → Parts → Type 0
Answers pages space request parts parts' =
    (m : PrivateMachine) (c : Vcpu) → m.pages ≡ pages → space_of c ≡ space
    → requested (put_together m c parts) (length parts.before) request ≡ Ok (put_together m c parts')

-- so many steps of a virtual processor lead from one machine to another, whose next steps are as quiet as is left
pub record Went (v : VcpuId) (total made : ℕ) (from to : PrivateMachine) : Type 0 where
  pub run : to ≡ private_run from (replicate made (Step v))
  pub quiet : AreQuiet (total - made) v.0 to.vcpus to.devices
  pub running : (vcpu to v.0).halted ≡ false

-- a machine may make so many quiet steps of a virtual processor, with a register page that is as open as this
pub record MayGo (v total count : ℕ) (is_so : Bool) (m : PrivateMachine) : Type 0 where
  pub quiet : AreQuiet total v m.vcpus m.devices
  pub running : (vcpu m v).halted ≡ false
  pub pages : m.pages ≡ count
  pub opens : is_open m v ≡ is_so

-- so many steps of the virtual processor between the others leave these parts, in each machine that may make them; it has ticked as often
abbrev pub Goes : ℕ → Bool → Vcpu → ℕ → Parts → Parts → Type 0
Goes pages opens c made parts parts' =
    (m : PrivateMachine) (v : VcpuId) (quiet : ℕ) → v.0 ≡ length parts.before → made ≤ quiet → MayGo v.0 quiet pages opens (put_together m c parts)
    → Went v quiet made (put_together m c parts) (put_together m (ticking_often made c) parts')

-- the same of a virtual processor of a list, with its ticks
abbrev pub GoesAt : ℕ → Bool → ℕ → ℕ → List Vcpu → List ℕ → List Vcpu → List ℕ → Type 0
GoesAt pages opens at made vcpus memory vcpus' memory' =
    (m : PrivateMachine) (v : VcpuId) (quiet : ℕ) → v.0 ≡ at → made ≤ quiet → MayGo v.0 quiet pages opens (record m { memory = memory; vcpus = vcpus })
    → Went v quiet made (record m { memory = memory; vcpus = vcpus }) (record m { memory = memory'; vcpus = vcpus' })
