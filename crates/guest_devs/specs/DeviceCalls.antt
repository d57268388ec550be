-- What a load and a store at the device page do to a guest's devices, and what a store asks of the rest of the guest.
use Rattle.std.specs.Prelude.{ℕ, ◌/◌, ◌==◌, if◌then◌else◌, List, [], ◌∷◌, Bool, true, false, ◌&&◌, ◌||◌, Option, Some, None, slice_index_or, slice_set}
use Rattle.base_words.specs.declared.device.DeviceRegister.{DeviceRegister}
use Rattle.base_words.specs.declared.device.DeviceRegister.TheVariants.{Console, Halt, Input, Queued, Number, Vcpus, Call, Answered, DiskBlock, DiskPage, DiskCommand, DiskStatus, SendPage, SendLength, Send, Armed, PacketLength, PacketSender, PacketTaken}
use Rattle.base_words.specs.Bits.{flag}
use Rattle.private_machine.specs.DevicePage.{DevicePage}
use Rattle.private_machine.specs.DeviceRegisters.{register_taken, register_written, with_status}
use Rattle.guest_devs.specs.DeviceState.{DeviceState}
use Rattle.guest_devs.specs.declared.act.DevAct.{DevAct}
use Rattle.guest_devs.specs.declared.act.DevAct.TheVariants as acts

abbrev pub on_page : DeviceState → DevicePage → DeviceState
on_page d new = record d { page = new }

-- after a load
abbrev pub taken : DeviceState → Option DeviceRegister → DeviceState
taken d None = d
taken d (Some r) = on_page d (register_taken d.page r)

-- IP4 goes on where the bit of the virtual processor is on
abbrev pub called_by : ℕ → List Bool → List Bool
called_by word [] = []
called_by word (on ∷ lines) = (flag 0 word || on) ∷ called_by (word / 2) lines

-- a disk command that is neither a read nor a write has the status 3
abbrev pub is_command : ℕ → Bool
is_command value = (value == 1) || (value == 2)

abbrev pub refused_command : ℕ → ℕ → DeviceState → DeviceState
refused_command v value d = if is_command value then d else on_page d (with_status v 3 d.page)

abbrev pub kept : ℕ → ℕ → DeviceState → DeviceRegister → DeviceState
kept v value d r = on_page d (register_written d.pages v value d.page r)

-- after a store of a value by a virtual processor
abbrev pub stored_at : ℕ → ℕ → DeviceState → DeviceRegister → DeviceState
stored_at v value d Console = kept v value d Console
stored_at v value d Halt = record d { halted = slice_set d.halted v true }
stored_at v value d Input = d
stored_at v value d Queued = d
stored_at v value d Number = d
stored_at v value d Vcpus = d
stored_at v value d Call = record d { called = called_by value d.called }
stored_at v value d Answered = record d { called = slice_set d.called v false }
stored_at v value d DiskBlock = kept v value d DiskBlock
stored_at v value d DiskPage = kept v value d DiskPage
stored_at v value d DiskCommand = refused_command v value d
stored_at v value d DiskStatus = d
stored_at v value d SendPage = kept v value d SendPage
stored_at v value d SendLength = kept v value d SendLength
stored_at v value d Send = d
stored_at v value d Armed = kept v value d Armed
stored_at v value d PacketLength = d
stored_at v value d PacketSender = d
stored_at v value d PacketTaken = record d { packet = false }

abbrev pub stored : ℕ → ℕ → DeviceState → Option DeviceRegister → DeviceState
stored v value d None = d
stored v value d (Some r) = stored_at v value d r

-- what is left to do for a store
abbrev pub act_at : ℕ → DeviceRegister → DevAct
act_at value Console = acts.Done
act_at value Halt = acts.Done
act_at value Input = acts.Done
act_at value Queued = acts.Done
act_at value Number = acts.Done
act_at value Vcpus = acts.Done
act_at value Call = acts.Done
act_at value Answered = acts.Done
act_at value DiskBlock = acts.Done
act_at value DiskPage = acts.Done
act_at value DiskCommand = if value == 1 then acts.DiskRead else if value == 2 then acts.DiskWrite else acts.Done
act_at value DiskStatus = acts.Done
act_at value SendPage = acts.Done
act_at value SendLength = acts.Done
act_at value Send = acts.Send value
act_at value Armed = acts.Done
act_at value PacketLength = acts.Done
act_at value PacketSender = acts.Done
act_at value PacketTaken = acts.Done

-- IP3 is of virtual processor 0 alone
abbrev pub is_raised : DeviceState → ℕ → ℕ → Bool
is_raised d v ip = if ip == 3 then (v == 0) && d.packet else if ip == 4 then slice_index_or d.called v false else false
