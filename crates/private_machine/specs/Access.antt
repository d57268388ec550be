-- What an instruction's access leaves, by where its address leads, or the exception that it raises (MIPS R4000 User's Manual,
-- appendix A, "Load and Store Instructions").
use Rattle.std.specs.Prelude.{ℕ, ◌%◌, Bool, true, false, Option, Some, None, Result, Ok, Err}
use Rattle.base_words.specs.declared.regs.Regs.{Regs}
use Rattle.base_words.specs.declared.exception.Exception.{Exception}
use Rattle.base_words.specs.declared.exception.Exception.TheVariants.{BusError}
use Rattle.base_words.specs.declared.exception.Use.TheVariants.{Load, Store}
use Rattle.base_words.specs.declared.instr.LoadKind.{LoadKind}
use Rattle.base_words.specs.declared.instr.LoadKind.TheVariants as loads
use Rattle.base_words.specs.declared.instr.StoreKind.{StoreKind}
use Rattle.base_words.specs.declared.instr.StoreKind.TheVariants as stores
use Rattle.base_words.specs.declared.place.Place.{Place}
use Rattle.base_words.specs.declared.place.Place.TheVariants.{Memory, Device}
use Rattle.base_words.specs.declared.device.DeviceRegister.{DeviceRegister}
use Rattle.base_words.specs.Memory.{word_at}
use Rattle.base_words.specs.Merging.{loaded_value, stored_word}
use Rattle.base_words.specs.Instruction.{register, with_register}
use Rattle.private_machine.specs.Vcpu.{with_link}
use Rattle.private_machine.specs.DevicePage.{device_register}
use Rattle.private_machine.specs.DeviceRegisters.{register_read}
use Rattle.private_machine.specs.PrivateMachine.{PrivateMachine, vcpu, on_vcpu, left}
use Rattle.private_machine.specs.Links.{line_of, is_linked, word_around, written}
use Rattle.private_machine.specs.Devices.{device_taken, device_done}

-- a load and a store at an offset of the device page: of a whole word, at one of its registers
abbrev pub device_loaded : PrivateMachine → ℕ → Regs → ℕ → Option DeviceRegister → Result PrivateMachine Exception
device_loaded m v regs target (Some r) = Ok (left (device_taken m r) v (with_register regs target (register_read v m.devices r)))
device_loaded m v regs target None = Err (BusError Load)

abbrev pub device_stored : PrivateMachine → ℕ → Regs → ℕ → Option DeviceRegister → Result PrivateMachine Exception
device_stored m v regs value (Some r) = Ok (device_done (left m v regs) v value r)
device_stored m v regs value None = Err (BusError Store)

abbrev pub loaded_from_device : PrivateMachine → ℕ → Regs → LoadKind → ℕ → ℕ → Result PrivateMachine Exception
loaded_from_device m v regs loads.Byte target offset = Err (BusError Load)
loaded_from_device m v regs loads.ByteUnsigned target offset = Err (BusError Load)
loaded_from_device m v regs loads.HalfWord target offset = Err (BusError Load)
loaded_from_device m v regs loads.HalfWordUnsigned target offset = Err (BusError Load)
loaded_from_device m v regs loads.Word target offset = device_loaded m v regs target (device_register offset)
loaded_from_device m v regs loads.WordLeft target offset = Err (BusError Load)
loaded_from_device m v regs loads.WordRight target offset = Err (BusError Load)

abbrev pub stored_to_device : PrivateMachine → ℕ → Regs → StoreKind → ℕ → ℕ → Result PrivateMachine Exception
stored_to_device m v regs stores.Byte value offset = Err (BusError Store)
stored_to_device m v regs stores.HalfWord value offset = Err (BusError Store)
stored_to_device m v regs stores.Word value offset = device_stored m v regs value (device_register offset)
stored_to_device m v regs stores.WordLeft value offset = Err (BusError Store)
stored_to_device m v regs stores.WordRight value offset = Err (BusError Store)

-- a load
abbrev pub loaded : PrivateMachine → ℕ → Regs → LoadKind → ℕ → Result Place Exception → Result PrivateMachine Exception
loaded m v regs kind target (Err x) = Err x
loaded m v regs kind target (Ok (Memory offset)) =
    Ok (left m v (with_register regs target (loaded_value kind (word_around m offset) (register regs target) (offset % 4))))
loaded m v regs kind target (Ok (Device offset)) = loaded_from_device m v regs kind target offset

-- a store
abbrev pub stored : PrivateMachine → ℕ → Regs → StoreKind → ℕ → Result Place Exception → Result PrivateMachine Exception
stored m v regs kind value (Err x) = Err x
stored m v regs kind value (Ok (Memory offset)) =
    Ok (left (written m v offset (stored_word kind (word_around m offset) value (offset % 4))) v regs)
stored m v regs kind value (Ok (Device offset)) = stored_to_device m v regs kind value offset

-- a linked load
abbrev pub linked_load : PrivateMachine → ℕ → Regs → ℕ → Result Place Exception → Result PrivateMachine Exception
linked_load m v regs target (Err x) = Err x
linked_load m v regs target (Ok (Memory offset)) =
    Ok (on_vcpu (left m v (with_register regs target (word_at m.memory offset))) v (with_link (Some (line_of offset))))
linked_load m v regs target (Ok (Device offset)) = Err (BusError Load)

-- a conditional store: it is made where its line is linked, tells whether it was made, and clears the link
abbrev pub if_linked : Bool → PrivateMachine → ℕ → Regs → ℕ → ℕ → ℕ → PrivateMachine
if_linked true m v regs target value offset = on_vcpu (left (written m v offset value) v (with_register regs target 1)) v (with_link None)
if_linked false m v regs target value offset = on_vcpu (left m v (with_register regs target 0)) v (with_link None)

abbrev pub conditional_store : PrivateMachine → ℕ → Regs → ℕ → ℕ → Result Place Exception → Result PrivateMachine Exception
conditional_store m v regs target value (Err x) = Err x
conditional_store m v regs target value (Ok (Memory offset)) = Ok (if_linked (is_linked (vcpu m v).link (line_of offset)) m v regs target value offset)
conditional_store m v regs target value (Ok (Device offset)) = Err (BusError Store)
