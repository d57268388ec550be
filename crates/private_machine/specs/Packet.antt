-- A packet that comes into a guest's memory.
use Rattle.std.specs.Prelude.{ℕ, List, Option, Some, None, length, true}
use Rattle.private_machine.specs.Vcpu.{with_line_on}
use Rattle.private_machine.specs.DeviceRegisters.{packet_noted}
use Rattle.private_machine.specs.PrivateMachine.{PrivateMachine, on_vcpu, with_devices}
use Rattle.private_machine.specs.Links.{page_filled}

-- its bytes come into the page that is armed, and IP3 of virtual processor 0 goes on; where no page is armed nothing changes
abbrev pub came_into : PrivateMachine → ℕ → List ℕ → Option ℕ → PrivateMachine
came_into m from bytes None = m
came_into m from bytes (Some page) =
    on_vcpu (with_devices (page_filled m page bytes) (packet_noted from (length bytes) m.devices)) 0 (with_line_on 3 true)

abbrev pub own_packet : PrivateMachine → ℕ → List ℕ → PrivateMachine
own_packet m from bytes = came_into m from bytes m.devices.armed
