-- The virtual processors beside the devices, which keep their halts and lines of interrupts.
use Rattle.std.specs.Prelude.{◌≡◌, ℕ, List, map, Option, Some, None}
use Rattle.base_words.specs.declared.device.DeviceRegister.{DeviceRegister}
use Rattle.private_machine.specs.declared.vcpu.Vcpu.{Vcpu}
use Rattle.private_machine.specs.Vcpu.{with_line_on}
use Rattle.private_machine.specs.DevicePage.{DevicePage}
use Rattle.private_machine.specs.PrivateMachine.{input_waits}
use Rattle.private_machine.specs.Signals.{changed, signalled}
use Rattle.private_machine.specs.Showing.{shown_by, shown_from, showing_from}
use Rattle.guest_devs.specs.DeviceState.{DeviceState}

-- the virtual processors show what the devices keep
abbrev pub Agree : DeviceState → List Vcpu → Type 0
Agree d vcpus = map shown_by vcpus ≡ shown_from d.packet d.halted d.called

-- they are made to
abbrev pub brought_up : DeviceState → List Vcpu → List Vcpu
brought_up d vcpus = showing_from d.packet d.halted d.called vcpus

-- the virtual processors after a store at a register, or at none
abbrev pub signalled_at : ℕ → ℕ → List Vcpu → Option DeviceRegister → List Vcpu
signalled_at v value vcpus None = vcpus
signalled_at v value vcpus (Some r) = signalled v value vcpus r

-- and after a load, with which IP2 of the first one shows whether input waits
abbrev pub waiting_at : DevicePage → List Vcpu → Option DeviceRegister → List Vcpu
waiting_at page vcpus None = vcpus
waiting_at page vcpus (Some r) = changed 0 (with_line_on 2 (input_waits page)) vcpus
