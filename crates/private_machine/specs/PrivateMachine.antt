-- A guest as it sees itself: its pages in one list of bytes, its virtual processors, the device page, the blocks of its disk, of
-- which there are none where it has no disk, and whether its kernel has a register page.
use Rattle.std.specs.Prelude.{ℕ, ◌==◌, not, ◌&&◌, List, Bool, length, slice_index_or, slice_set}
use Rattle.base_words.specs.declared.regs.Regs.{Regs}
use Rattle.base_words.specs.Coprocessor.{in_user_mode}
use Rattle.private_machine.specs.declared.vcpu.Vcpu.{Vcpu}
use Rattle.private_machine.specs.Vcpu.{no_vcpu, with_registers, with_line_on}
use Rattle.private_machine.specs.DevicePage.{DevicePage}

pub record PrivateMachine : Type 0 where
  pub pages : ℕ
  pub memory : List ℕ
  pub vcpus : List Vcpu
  pub devices : DevicePage
  pub disk : List (List ℕ)
  pub register_page : Bool

abbrev pub vcpu : PrivateMachine → ℕ → Vcpu
vcpu m v = slice_index_or m.vcpus v no_vcpu

-- a virtual processor is changed
abbrev pub on_vcpu : PrivateMachine → ℕ → (Vcpu → Vcpu) → PrivateMachine
on_vcpu m v change = record m { vcpus = slice_set m.vcpus v (change (vcpu m v)) }

-- an instruction leaves these registers
abbrev pub left : PrivateMachine → ℕ → Regs → PrivateMachine
left m v regs = on_vcpu m v (with_registers regs)

abbrev pub with_devices : PrivateMachine → DevicePage → PrivateMachine
with_devices m new = record m { devices = new }

-- IP2 of virtual processor 0 is on exactly while input waits
abbrev pub input_waits : DevicePage → Bool
input_waits d = not (length d.queue == 0)

abbrev pub with_input_line : PrivateMachine → PrivateMachine
with_input_line m = on_vcpu m 0 (with_line_on 2 (input_waits m.devices))

-- the register page is open to a virtual processor in kernel mode
abbrev pub is_open : PrivateMachine → ℕ → Bool
is_open m v = m.register_page && not (in_user_mode (vcpu m v).cp0.status)
