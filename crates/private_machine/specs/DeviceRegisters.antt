-- What loads and stores of the device page's registers answer and change, but for its commands and the lines of interrupts.
use Rattle.std.specs.Prelude.{ℕ, ◌%◌, ◌^◌, nat_lt, nat_le, if◌then◌else◌, List, [], ◌∷◌, ◌++◌, Some, None, length, drop, unwrap_or, slice_index_or, slice_set}
use Rattle.base_words.specs.declared.device.DeviceRegister.{DeviceRegister}
use Rattle.base_words.specs.declared.device.DeviceRegister.TheVariants.{Console, Halt, Input, Queued, Number, Vcpus, Call, Answered, DiskBlock, DiskPage, DiskCommand, DiskStatus, SendPage, SendLength, Send, Armed, PacketLength, PacketSender, PacketTaken}
use Rattle.base_words.specs.declared.device.Transfer.{Transfer}
use Rattle.base_words.specs.declared.input.InputEntry.{InputEntry}
use Rattle.private_machine.specs.DevicePage.{DevicePage, transfer_of}

abbrev pub with_transfer : ℕ → Transfer → DevicePage → DevicePage
with_transfer v new d = record d { transfers = slice_set d.transfers v new }

-- what a load of a register answers to a virtual processor; each has a transfer, and so their number is the number of transfers
abbrev pub register_read : ℕ → DevicePage → DeviceRegister → ℕ
register_read v d Console = 0
register_read v d Halt = 0
register_read v d Input = slice_index_or d.queue 0 0xFFFF_FFFF
register_read v d Queued = length d.queue % 2 ^ 32
register_read v d Number = v
register_read v d Vcpus = length d.transfers
register_read v d Call = 0
register_read v d Answered = 0
register_read v d DiskBlock = (transfer_of d v).block
register_read v d DiskPage = (transfer_of d v).page
register_read v d DiskCommand = 0
register_read v d DiskStatus = (transfer_of d v).status
register_read v d SendPage = (transfer_of d v).send_page
register_read v d SendLength = (transfer_of d v).send_length
register_read v d Send = 0
register_read v d Armed = unwrap_or d.armed 0xFFFF_FFFF
register_read v d PacketLength = d.last_length
register_read v d PacketSender = d.last_sender
register_read v d PacketTaken = 0

-- what a load of a register changes: one takes the first byte that waits
abbrev pub register_taken : DevicePage → DeviceRegister → DevicePage
register_taken d Console = d
register_taken d Halt = d
register_taken d Input = record d { queue = drop 1 d.queue }
register_taken d Queued = d
register_taken d Number = d
register_taken d Vcpus = d
register_taken d Call = d
register_taken d Answered = d
register_taken d DiskBlock = d
register_taken d DiskPage = d
register_taken d DiskCommand = d
register_taken d DiskStatus = d
register_taken d SendPage = d
register_taken d SendLength = d
register_taken d Send = d
register_taken d Armed = d
register_taken d PacketLength = d
register_taken d PacketSender = d
register_taken d PacketTaken = d

-- what a store to a register puts there, in a guest of so many pages
abbrev pub register_written : ℕ → ℕ → ℕ → DevicePage → DeviceRegister → DevicePage
register_written pages v value d Console = record d { console = d.console ++ value % 256 ∷ [] }
register_written pages v value d Halt = d
register_written pages v value d Input = d
register_written pages v value d Queued = d
register_written pages v value d Number = d
register_written pages v value d Vcpus = d
register_written pages v value d Call = d
register_written pages v value d Answered = d
register_written pages v value d DiskBlock = with_transfer v (record (transfer_of d v) { block = value }) d
register_written pages v value d DiskPage = with_transfer v (record (transfer_of d v) { page = value }) d
register_written pages v value d DiskCommand = d
register_written pages v value d DiskStatus = d
register_written pages v value d SendPage = with_transfer v (record (transfer_of d v) { send_page = value }) d
register_written pages v value d SendLength = with_transfer v (record (transfer_of d v) { send_length = value }) d
register_written pages v value d Send = d
register_written pages v value d Armed = record d { armed = if nat_lt value pages then Some value else None }
register_written pages v value d PacketLength = d
register_written pages v value d PacketSender = d
register_written pages v value d PacketTaken = d

-- the status of a virtual processor's last disk command
abbrev pub with_status : ℕ → ℕ → DevicePage → DevicePage
with_status v status d = with_transfer v (record (transfer_of d v) { status = status }) d

-- The input whose time has come after so many steps, and the rest. Input comes in its order.
abbrev pub arrived : ℕ → List InputEntry → List ℕ
arrived steps [] = []
arrived steps (e ∷ input) = if nat_le e.at steps then e.text ++ arrived steps input else []

abbrev pub still_coming : ℕ → List InputEntry → List InputEntry
still_coming steps [] = []
still_coming steps (e ∷ input) = if nat_le e.at steps then still_coming steps input else e ∷ input

abbrev pub with_arrived : ℕ → DevicePage → DevicePage
with_arrived steps d = record d { queue = d.queue ++ arrived steps d.coming; coming = still_coming steps d.coming }

-- a packet of so many bytes has come, and no page is armed any more
abbrev pub packet_noted : ℕ → ℕ → DevicePage → DevicePage
packet_noted from bytes d = record d { armed = None; last_length = bytes; last_sender = from }
