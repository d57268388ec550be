-- What a step does with a page: the cases, and what a store to the device page does.
use Rattle.std.specs.Prelude.{ℕ, ◌==◌, if◌then◌else◌, not, Option, Some, None}
use Rattle.base_words.specs.declared.instr.StoreKind.{StoreKind}
use Rattle.base_words.specs.declared.instr.StoreKind.TheVariants as stores
use Rattle.base_words.specs.declared.device.DeviceRegister.{DeviceRegister}
use Rattle.base_words.specs.declared.device.DeviceRegister.TheVariants.{Console, Halt, Input, Queued, Number, Vcpus, Call, Answered, DiskBlock, DiskPage, DiskCommand, DiskStatus, SendPage, SendLength, Send, Armed, PacketLength, PacketSender, PacketTaken}
use Rattle.private_machine.specs.DevicePage.{device_register}
use Rattle.base_words.specs.declared.device.Transfer.{Transfer}
use Rattle.private_machine.specs.Devices.{disk_status, may_send}
use Rattle.private_machine.specs.PrivateMachine.{PrivateMachine}

-- what a step does with a page
pub data Act : Type 0 where
  StoresTo : (page : ℕ) → Act
  ReadsDisk : (block page : ℕ) → Act
  WritesDisk : (block page : ℕ) → Act
  SendsPage : (page length receiver : ℕ) → Act
  WritesEntry : (index : ℕ) → Act
  NoAct : Act

-- a disk command and a send that are carried out
abbrev pub commands : PrivateMachine → Transfer → ℕ → Act
commands m t command =
    if not (disk_status m t command == 0) then NoAct
    else if command == 1 then ReadsDisk t.block t.page
    else WritesDisk t.block t.page

abbrev pub sends : PrivateMachine → Transfer → ℕ → Act
sends m t receiver =
    if may_send m t then SendsPage t.send_page t.send_length receiver else NoAct

-- a store to a register of the device page
abbrev pub at_register : PrivateMachine → Transfer → ℕ → DeviceRegister → Act
at_register m t value Console = NoAct
at_register m t value Halt = NoAct
at_register m t value Input = NoAct
at_register m t value Queued = NoAct
at_register m t value Number = NoAct
at_register m t value Vcpus = NoAct
at_register m t value Call = NoAct
at_register m t value Answered = NoAct
at_register m t value DiskBlock = NoAct
at_register m t value DiskPage = NoAct
at_register m t value DiskCommand = commands m t value
at_register m t value DiskStatus = NoAct
at_register m t value SendPage = NoAct
at_register m t value SendLength = NoAct
at_register m t value Send = sends m t value
at_register m t value Armed = NoAct
at_register m t value PacketLength = NoAct
at_register m t value PacketSender = NoAct
at_register m t value PacketTaken = NoAct

abbrev pub at_offset : PrivateMachine → Transfer → ℕ → Option DeviceRegister → Act
at_offset m t value None = NoAct
at_offset m t value (Some r) = at_register m t value r

-- a store to the device page, of a whole word
abbrev pub stores_to_device : PrivateMachine → Transfer → StoreKind → ℕ → ℕ → Act
stores_to_device m t stores.Byte offset value = NoAct
stores_to_device m t stores.HalfWord offset value = NoAct
stores_to_device m t stores.Word offset value = at_offset m t value (device_register offset)
stores_to_device m t stores.WordLeft offset value = NoAct
stores_to_device m t stores.WordRight offset value = NoAct
