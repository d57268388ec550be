-- What a load or a store of the device page does to the machine: registers, disk commands and sends.
use Rattle.std.specs.Prelude.{ℕ, ◌==◌, nat_lt, nat_le, if◌then◌else◌, List, [], ◌∷◌, ◌++◌, Bool, not, ◌&&◌, ◌||◌, length, slice_index_or, slice_set}
use Rattle.base_words.specs.declared.device.DeviceRegister.{DeviceRegister}
use Rattle.base_words.specs.declared.device.DeviceRegister.TheVariants.{Console, Halt, Input, Queued, Number, Vcpus, Call, Answered, DiskBlock, DiskPage, DiskCommand, DiskStatus, SendPage, SendLength, Send, Armed, PacketLength, PacketSender, PacketTaken}
use Rattle.base_words.specs.declared.device.Transfer.{Transfer}
use Rattle.private_machine.specs.DevicePage.{DevicePage, transfer_of}
use Rattle.private_machine.specs.DeviceRegisters.{register_taken, register_written, with_status}
use Rattle.private_machine.specs.PrivateMachine.{PrivateMachine, with_devices, with_input_line}
use Rattle.private_machine.specs.Links.{page_bytes, page_filled}
use Rattle.private_machine.specs.Signals.{signalled}

-- after a load of a register, of which one takes a byte of input
abbrev pub device_taken : PrivateMachine → DeviceRegister → PrivateMachine
device_taken m r = with_input_line (with_devices m (register_taken m.devices r))

-- the status of a disk command, by the first of these that holds
abbrev pub disk_status : PrivateMachine → Transfer → ℕ → ℕ
disk_status m t command =
    if not ((command == 1) || (command == 2)) then 3
    else if not (nat_lt t.block (length m.disk)) then 1
    else if not (nat_lt t.page m.pages) then 2
    else 0

-- a read puts the block into the page, and a write the page into the block
abbrev pub disk_read : PrivateMachine → Transfer → PrivateMachine
disk_read m t = page_filled m t.page (slice_index_or m.disk t.block [])

abbrev pub disk_written : PrivateMachine → Transfer → PrivateMachine
disk_written m t = record m { disk = slice_set m.disk t.block (page_bytes m t.page 4096) }

abbrev pub transferred : PrivateMachine → Transfer → ℕ → PrivateMachine
transferred m t command = if command == 1 then disk_read m t else disk_written m t

abbrev pub with_status_of : ℕ → ℕ → PrivateMachine → PrivateMachine
with_status_of v status m = with_devices m (with_status v status m.devices)

abbrev pub commanded : PrivateMachine → ℕ → Transfer → ℕ → ℕ → PrivateMachine
commanded m v t command status = with_status_of v status (if status == 0 then transferred m t command else m)

-- a send is made of a page that is there, and of 1 to 4096 bytes
abbrev pub may_send : PrivateMachine → Transfer → Bool
may_send m t = nat_lt t.send_page m.pages && (nat_lt 0 t.send_length && nat_le t.send_length 4096)

abbrev pub with_sent : DevicePage → ℕ → List ℕ → DevicePage
with_sent d receiver bytes = record d { sent = d.sent ++ record { to = receiver; bytes = bytes } ∷ [] }

abbrev pub sending : PrivateMachine → Transfer → ℕ → PrivateMachine
sending m t receiver =
    if may_send m t
    then with_devices m (with_sent m.devices receiver (page_bytes m t.send_page t.send_length))
    else m

-- what the registers hold and the virtual processors show after a store
abbrev pub noted : PrivateMachine → ℕ → ℕ → DeviceRegister → PrivateMachine
noted m v value r = record m { devices = register_written m.pages v value m.devices r; vcpus = signalled v value m.vcpus r }

-- after a store to a register, by a virtual processor
abbrev pub device_done : PrivateMachine → ℕ → ℕ → DeviceRegister → PrivateMachine
device_done m v value Console = noted m v value Console
device_done m v value Halt = noted m v value Halt
device_done m v value Input = noted m v value Input
device_done m v value Queued = noted m v value Queued
device_done m v value Number = noted m v value Number
device_done m v value Vcpus = noted m v value Vcpus
device_done m v value Call = noted m v value Call
device_done m v value Answered = noted m v value Answered
device_done m v value DiskBlock = noted m v value DiskBlock
device_done m v value DiskPage = noted m v value DiskPage
device_done m v value DiskCommand = let t = transfer_of m.devices v in commanded m v t value (disk_status m t value)
device_done m v value DiskStatus = noted m v value DiskStatus
device_done m v value SendPage = noted m v value SendPage
device_done m v value SendLength = noted m v value SendLength
device_done m v value Send = sending m (transfer_of m.devices v) value
device_done m v value Armed = noted m v value Armed
device_done m v value PacketLength = noted m v value PacketLength
device_done m v value PacketSender = noted m v value PacketSender
device_done m v value PacketTaken = noted m v value PacketTaken
