-- What an own step does to pages, memory and disk is what its act says.
use Rattle.std.proofs.Common.{◌≡◌, ℕ, true, false, if◌then◌else◌, Option, Some, None, Result, Ok, Err, [], length, refl, arith}
use Rattle.std.specs.Prelude.{slice_set, slice_index_or}
use Rattle.base_words.specs.declared.exception.Exception.{Exception}
use Rattle.base_words.specs.declared.exception.Exception.TheVariants.{Interrupt, BusError}
use Rattle.base_words.specs.declared.exception.Use.TheVariants.{Load, Store}
use Rattle.base_words.specs.declared.instr.Cp0Op.{Cp0Op}
use Rattle.base_words.specs.declared.instr.Cp0Op.TheVariants.{TlbRead, TlbWriteIndexed, TlbWriteRandom, TlbProbe, ExceptionReturn}
use Rattle.base_words.specs.declared.instr.LoadKind.{LoadKind}
use Rattle.base_words.specs.declared.instr.LoadKind.TheVariants as loads
use Rattle.base_words.specs.declared.instr.StoreKind.{StoreKind}
use Rattle.base_words.specs.declared.instr.StoreKind.TheVariants as stores
use Rattle.base_words.specs.declared.place.Place.{Place}
use Rattle.base_words.specs.declared.place.Place.TheVariants.{Memory, Device}
use Rattle.base_words.specs.declared.regs.Regs.{Regs}
use Rattle.base_words.specs.Coprocessor.{interrupts, in_user_mode}
use Rattle.base_words.specs.Merging.{load_unit, store_unit}
use Rattle.base_words.specs.OpcodeMap.{decoded}
use Rattle.base_words.specs.Instruction.{Effect, effect}
use Rattle.private_machine.specs.Access.{device_loaded, device_stored, loaded_from_device, stored_to_device, loaded, stored, linked_load, conditional_store}
use Rattle.private_machine.specs.DevicePage.{device_register, transfer_of}
use Rattle.private_machine.specs.Devices.{device_done}
use Rattle.private_machine.specs.Links.{page_filled, page_bytes}
use Rattle.private_machine.specs.OwnStep.{led, answered, fetched, usable, executed, decided, attempted, settled, acted, own_step, joined, is_usable}
use Rattle.private_machine.specs.PrivateMachine.{PrivateMachine, vcpu, left, on_vcpu, is_open}
use Rattle.private_machine.specs.RegisterPage.{redirected}
use Rattle.private_machine.specs.Vcpu.{raising, ticking}
use Rattle.private_machine.specs.StepAct.{stores_at, stores_linked, writes_entry, system_act, act_of, act_executed, act_decided, act_next}
use Rattle.private_machine.specs.DeviceAct.{Act, StoresTo, ReadsDisk, WritesDisk, SendsPage, WritesEntry, NoAct, commands, sends, at_register, at_offset, stores_to_device}
use Rattle.base_words.specs.declared.device.DeviceRegister.{DeviceRegister}
use Rattle.base_words.specs.declared.device.DeviceRegister.TheVariants.{Console, Halt, Input, Queued, Number, Vcpus, Call, Answered, DiskBlock, DiskPage, DiskCommand, DiskStatus, SendPage, SendLength, Send, Armed, PacketLength, PacketSender, PacketTaken}
use Rattle.base_words.specs.declared.effect.Request.{Request}
use Rattle.base_words.specs.declared.effect.Request.TheVariants as asks

-- pages, memory and disk after an act; of a store nothing is said
pub record Same (m n : PrivateMachine) : Type 0 where
  pub pages : n.pages ≡ m.pages
  pub memory : n.memory ≡ m.memory
  pub disk : n.disk ≡ m.disk
  pub paged : n.register_page ≡ m.register_page

abbrev pub After : PrivateMachine → Act → PrivateMachine → Type 0
After m (StoresTo q) n = Unit {0}
After m (ReadsDisk b q) n = Same (page_filled m q (slice_index_or m.disk b [])) n
After m (WritesDisk b q) n = Same (record m { disk = slice_set m.disk b (page_bytes m q 4096) }) n
After m (SendsPage q length to) n = Same m n
After m (WritesEntry index) n = Same m n
After m NoAct n = Same m n

command-after : (m : PrivateMachine) (v : ℕ) (regs : Regs) (value : ℕ) → After m (commands m (transfer_of m.devices v) value) (device_done (left m v regs) v value DiskCommand)
command-after m v regs value = grind arith

send-after : (m : PrivateMachine) (v : ℕ) (regs : Regs) (value : ℕ) → After m (sends m (transfer_of m.devices v) value) (device_done (left m v regs) v value Send)
send-after m v regs value = grind arith

register-after : (m : PrivateMachine) (v : ℕ) (regs : Regs) (value : ℕ) (r : DeviceRegister) → After m (at_register m (transfer_of m.devices v) value r) (device_done (left m v regs) v value r)
register-after m v regs value Console = record { pages = refl; memory = refl; disk = refl; paged = refl }
register-after m v regs value Halt = record { pages = refl; memory = refl; disk = refl; paged = refl }
register-after m v regs value Input = record { pages = refl; memory = refl; disk = refl; paged = refl }
register-after m v regs value Queued = record { pages = refl; memory = refl; disk = refl; paged = refl }
register-after m v regs value Number = record { pages = refl; memory = refl; disk = refl; paged = refl }
register-after m v regs value Vcpus = record { pages = refl; memory = refl; disk = refl; paged = refl }
register-after m v regs value Call = record { pages = refl; memory = refl; disk = refl; paged = refl }
register-after m v regs value Answered = record { pages = refl; memory = refl; disk = refl; paged = refl }
register-after m v regs value DiskBlock = record { pages = refl; memory = refl; disk = refl; paged = refl }
register-after m v regs value DiskPage = record { pages = refl; memory = refl; disk = refl; paged = refl }
register-after m v regs value DiskCommand = command-after m v regs value
register-after m v regs value DiskStatus = record { pages = refl; memory = refl; disk = refl; paged = refl }
register-after m v regs value SendPage = record { pages = refl; memory = refl; disk = refl; paged = refl }
register-after m v regs value SendLength = record { pages = refl; memory = refl; disk = refl; paged = refl }
register-after m v regs value Send = send-after m v regs value
register-after m v regs value Armed = record { pages = refl; memory = refl; disk = refl; paged = refl }
register-after m v regs value PacketLength = record { pages = refl; memory = refl; disk = refl; paged = refl }
register-after m v regs value PacketSender = record { pages = refl; memory = refl; disk = refl; paged = refl }
register-after m v regs value PacketTaken = record { pages = refl; memory = refl; disk = refl; paged = refl }

-- an exception
raised-after : (m : PrivateMachine) (v : ℕ) (x : Exception) → Same m (settled m v (Err x))
raised-after m v x = record { pages = refl; memory = refl; disk = refl; paged = refl }

offset-after : (m : PrivateMachine) (v : ℕ) (regs : Regs) (value : ℕ) (o : Option DeviceRegister) → After m (at_offset m (transfer_of m.devices v) value o) (settled m v (device_stored m v regs value o))
offset-after m v regs value None = raised-after m v (BusError Store)
offset-after m v regs value (Some r) = register-after m v regs value r

device-after : (m : PrivateMachine) (v : ℕ) (regs : Regs) (kind : StoreKind) (value offset : ℕ) → After m (stores_to_device m (transfer_of m.devices v) kind offset value) (settled m v (stored_to_device m v regs kind value offset))
device-after m v regs stores.Byte value offset = raised-after m v (BusError Store)
device-after m v regs stores.HalfWord value offset = raised-after m v (BusError Store)
device-after m v regs stores.Word value offset = offset-after m v regs value (device_register offset)
device-after m v regs stores.WordLeft value offset = raised-after m v (BusError Store)
device-after m v regs stores.WordRight value offset = raised-after m v (BusError Store)

stored-after : (m : PrivateMachine) (v : ℕ) (regs : Regs) (kind : StoreKind) (value : ℕ) (place : Result Place Exception) → After m (stores_at m (transfer_of m.devices v) kind value place) (settled m v (stored m v regs kind value place))
stored-after m v regs kind value (Err x) = raised-after m v x
stored-after m v regs kind value (Ok (Memory offset)) = tt
stored-after m v regs kind value (Ok (Device offset)) = device-after m v regs kind value offset

register-read : (m : PrivateMachine) (v : ℕ) (regs : Regs) (target : ℕ) (r : DeviceRegister) → Same m (settled m v (device_loaded m v regs target (Some r)))
register-read m v regs target r = grind arith

offset-read : (m : PrivateMachine) (v : ℕ) (regs : Regs) (target : ℕ) (o : Option DeviceRegister) → Same m (settled m v (device_loaded m v regs target o))
offset-read m v regs target None = raised-after m v (BusError Load)
offset-read m v regs target (Some r) = register-read m v regs target r

device-read : (m : PrivateMachine) (v : ℕ) (regs : Regs) (kind : LoadKind) (target offset : ℕ) → Same m (settled m v (loaded_from_device m v regs kind target offset))
device-read m v regs loads.Byte target offset = raised-after m v (BusError Load)
device-read m v regs loads.ByteUnsigned target offset = raised-after m v (BusError Load)
device-read m v regs loads.HalfWord target offset = raised-after m v (BusError Load)
device-read m v regs loads.HalfWordUnsigned target offset = raised-after m v (BusError Load)
device-read m v regs loads.Word target offset = offset-read m v regs target (device_register offset)
device-read m v regs loads.WordLeft target offset = raised-after m v (BusError Load)
device-read m v regs loads.WordRight target offset = raised-after m v (BusError Load)

loaded-after : (m : PrivateMachine) (v : ℕ) (regs : Regs) (kind : LoadKind) (target : ℕ) (place : Result Place Exception) → Same m (settled m v (loaded m v regs kind target place))
loaded-after m v regs kind target (Err x) = raised-after m v x
loaded-after m v regs kind target (Ok (Memory offset)) = record { pages = refl; memory = refl; disk = refl; paged = refl }
loaded-after m v regs kind target (Ok (Device offset)) = device-read m v regs kind target offset

linked-after : (m : PrivateMachine) (v : ℕ) (regs : Regs) (target : ℕ) (place : Result Place Exception) → Same m (settled m v (linked_load m v regs target place))
linked-after m v regs target (Err x) = raised-after m v x
linked-after m v regs target (Ok (Memory offset)) = record { pages = refl; memory = refl; disk = refl; paged = refl }
linked-after m v regs target (Ok (Device offset)) = raised-after m v (BusError Load)

conditional-after : (m : PrivateMachine) (v : ℕ) (regs : Regs) (target value : ℕ) (place : Result Place Exception) → After m (stores_linked place) (settled m v (conditional_store m v regs target value place))
conditional-after m v regs target value (Err x) = raised-after m v x
conditional-after m v regs target value (Ok (Memory offset)) = tt
conditional-after m v regs target value (Ok (Device offset)) = raised-after m v (BusError Store)

entry-after : (m n : PrivateMachine) (v index : ℕ) → Same m n → After m (writes_entry m v index) n
entry-after m n v index same = grind arith

system-after : (m : PrivateMachine) (v : ℕ) (regs : Regs) (op : Cp0Op) → After m (system_act m v op) (settled m v (answered m v regs (asks.System op)))
system-after m v regs TlbRead = record { pages = refl; memory = refl; disk = refl; paged = refl }
system-after m v regs TlbWriteIndexed = entry-after m (settled m v (answered m v regs (asks.System TlbWriteIndexed))) v (vcpu m v).cp0.index.entry (record { pages = refl; memory = refl; disk = refl; paged = refl })
system-after m v regs TlbWriteRandom = entry-after m (settled m v (answered m v regs (asks.System TlbWriteRandom))) v (vcpu m v).cp0.random (record { pages = refl; memory = refl; disk = refl; paged = refl })
system-after m v regs TlbProbe = record { pages = refl; memory = refl; disk = refl; paged = refl }
system-after m v regs ExceptionReturn = record { pages = refl; memory = refl; disk = refl; paged = refl }

request-after : (m : PrivateMachine) (v : ℕ) (regs : Regs) (r : Request) → After m (act_of m v r) (settled m v (answered m v regs r))
request-after m v regs asks.Nothing = record { pages = refl; memory = refl; disk = refl; paged = refl }
request-after m v regs (asks.Load kind address target) = loaded-after m v regs kind target (led m v (load_unit kind) Load address)
request-after m v regs (asks.Store kind address value) = stored-after m v regs kind value (led m v (store_unit kind) Store address)
request-after m v regs (asks.LoadLinked address target) = linked-after m v regs target (led m v 4 Load address)
request-after m v regs (asks.StoreConditional address value target) = conditional-after m v regs target value (led m v 4 Store address)
request-after m v regs (asks.ReadCp0 number target) = record { pages = refl; memory = refl; disk = refl; paged = refl }
request-after m v regs (asks.WriteCp0 number value) = record { pages = refl; memory = refl; disk = refl; paged = refl }
request-after m v regs (asks.System op) = system-after m v regs op

executed-after : (m : PrivateMachine) (v : ℕ) (does : Result Effect Exception) → After m (act_executed m v does) (settled m v (executed m v does))
executed-after m v (Err x) = raised-after m v x
executed-after m v (Ok does) = request-after m v does.registers (redirected (is_open m v) does.request)

decided-after : (m : PrivateMachine) (v : ℕ) (word : Result ℕ Exception) → After m (act_decided m v word) (settled m v (decided m v word))
decided-after m v (Err x) = raised-after m v x
decided-after m v (Ok word) = executed-after m v (usable (is_usable word (in_user_mode (vcpu m v).cp0.status)) (effect (decoded word) (vcpu m v).registers))

acted-after : (m : PrivateMachine) (v : ℕ) → After m (act_next m v) (acted m v)
acted-after m v = elim (interrupts (vcpu m v).cp0) as (λ b. After m (if b then NoAct else act_decided m v (fetched m v)) (if b then on_vcpu m v (raising Interrupt) else settled m v (attempted m v))) [
  | true ↦ record { pages = refl; memory = refl; disk = refl; paged = refl }
  | false ↦ decided-after m v (fetched m v)
]

ticked-after : (m n : PrivateMachine) (v : ℕ) (act : Act) → After m act n → After m act (on_vcpu n v ticking)
ticked-after m n v (StoresTo q) after = tt
ticked-after m n v (ReadsDisk b q) after = record { pages = after.pages; memory = after.memory; disk = after.disk; paged = after.paged }
ticked-after m n v (WritesDisk b q) after = record { pages = after.pages; memory = after.memory; disk = after.disk; paged = after.paged }
ticked-after m n v (SendsPage q length to) after = record { pages = after.pages; memory = after.memory; disk = after.disk; paged = after.paged }
ticked-after m n v (WritesEntry index) after = record { pages = after.pages; memory = after.memory; disk = after.disk; paged = after.paged }
ticked-after m n v NoAct after = record { pages = after.pages; memory = after.memory; disk = after.disk; paged = after.paged }

-- one own step of a virtual processor that hasn't halted
pub step-after : (m : PrivateMachine) (v : ℕ) → (vcpu m v).halted ≡ false → After (joined m v) (act_next (joined m v) v) (own_step m v)
step-after m v running =
    let j = joined m v in
    let both = ticked-after j (acted j v) v (act_next j v) (acted-after j v) in
    rw running both
