-- What the step at hand does is within the guest's pages and blocks.
use Rattle.std.proofs.Common.{ℕ, ◌<◌, true, false, if◌then◌else◌, Option, Some, None, Result, Ok, Err, length, arith}
use Rattle.std.proofs.lemmas.Bool.{ltb-true}
use Rattle.base_words.specs.declared.exception.Exception.{Exception}
use Rattle.base_words.specs.declared.exception.Use.TheVariants.{Store}
use Rattle.base_words.specs.declared.instr.Cp0Op.{Cp0Op}
use Rattle.base_words.specs.declared.instr.Cp0Op.TheVariants.{TlbRead, TlbWriteIndexed, TlbWriteRandom, TlbProbe, ExceptionReturn}
use Rattle.base_words.specs.declared.instr.StoreKind.{StoreKind}
use Rattle.base_words.specs.declared.instr.StoreKind.TheVariants as stores
use Rattle.base_words.specs.declared.place.Place.{Place}
use Rattle.base_words.specs.declared.place.Place.TheVariants.{Memory, Device}
use Rattle.base_words.specs.Coprocessor.{interrupts, in_user_mode}
use Rattle.base_words.specs.Merging.{store_unit}
use Rattle.base_words.specs.OpcodeMap.{decoded}
use Rattle.base_words.specs.Instruction.{Effect, effect}
use Rattle.base_words.specs.declared.device.Transfer.{Transfer}
use Rattle.private_machine.specs.DevicePage.{device_register, transfer_of}
use Rattle.private_machine.specs.OwnStep.{led, fetched, usable, is_usable}
use Rattle.private_machine.specs.PrivateMachine.{PrivateMachine, vcpu, is_open}
use Rattle.private_machine.specs.RegisterPage.{redirected}
use Rattle.private_machine.specs.StepAct.{stores_at, stores_linked, writes_entry, system_act, act_of, act_executed, act_decided, act_next}
use Rattle.private_machine.specs.DeviceAct.{Act, StoresTo, ReadsDisk, WritesDisk, SendsPage, WritesEntry, NoAct, commands, sends, at_register, at_offset, stores_to_device}
use Rattle.base_words.specs.declared.device.DeviceRegister.{DeviceRegister}
use Rattle.base_words.specs.declared.effect.Request.{Request}
use Rattle.base_words.specs.declared.effect.Request.TheVariants as asks

-- the block and the page of a disk read are there
abbrev pub Reads : ℕ → ℕ → Act → Type 0
Reads pages blocks (StoresTo q) = Unit {0}
Reads pages blocks (ReadsDisk b q) = (b < blocks) × (q < pages)
Reads pages blocks (WritesDisk b q) = (b < blocks) × (q < pages)
Reads pages blocks (SendsPage q length to) = q < pages
Reads pages blocks (WritesEntry index) = Unit {0}
Reads pages blocks NoAct = Unit {0}

abbrev In : PrivateMachine → Act → Type 0
In m act = Reads m.pages (length m.disk) act

commands-in : (m : PrivateMachine) (t : Transfer) (command : ℕ) → In m (commands m t command)
commands-in m t command = grind (arith, ltb-true t.block (length m.disk), ltb-true t.page m.pages)

sends-in : (m : PrivateMachine) (t : Transfer) (to : ℕ) → In m (sends m t to)
sends-in m t to = grind (arith, ltb-true t.send_page m.pages)

at_register-in : (m : PrivateMachine) (t : Transfer) (value : ℕ) (r : DeviceRegister) → In m (at_register m t value r)
at_register-in m t value r = grind (arith, commands-in m t value, sends-in m t value)

at_offset-in : (m : PrivateMachine) (t : Transfer) (value : ℕ) (o : Option DeviceRegister) → In m (at_offset m t value o)
at_offset-in m t value None = tt
at_offset-in m t value (Some r) = at_register-in m t value r

device-in : (m : PrivateMachine) (t : Transfer) (kind : StoreKind) (offset value : ℕ) → In m (stores_to_device m t kind offset value)
device-in m t stores.Byte offset value = tt
device-in m t stores.HalfWord offset value = tt
device-in m t stores.Word offset value = at_offset-in m t value (device_register offset)
device-in m t stores.WordLeft offset value = tt
device-in m t stores.WordRight offset value = tt

stores-in : (m : PrivateMachine) (t : Transfer) (kind : StoreKind) (value : ℕ) (place : Result Place Exception) → In m (stores_at m t kind value place)
stores-in m t kind value (Err x) = tt
stores-in m t kind value (Ok (Memory offset)) = tt
stores-in m t kind value (Ok (Device offset)) = device-in m t kind offset value

linked-in : (m : PrivateMachine) (place : Result Place Exception) → In m (stores_linked place)
linked-in m (Err x) = tt
linked-in m (Ok (Memory offset)) = tt
linked-in m (Ok (Device offset)) = tt

entry-in : (m : PrivateMachine) (v index : ℕ) → In m (writes_entry m v index)
entry-in m v index = grind arith

system-in : (m : PrivateMachine) (v : ℕ) (op : Cp0Op) → In m (system_act m v op)
system-in m v TlbRead = tt
system-in m v TlbWriteIndexed = entry-in m v (vcpu m v).cp0.index.entry
system-in m v TlbWriteRandom = entry-in m v (vcpu m v).cp0.random
system-in m v TlbProbe = tt
system-in m v ExceptionReturn = tt

request-in : (m : PrivateMachine) (v : ℕ) (r : Request) → In m (act_of m v r)
request-in m v asks.Nothing = tt
request-in m v (asks.Load kind address target) = tt
request-in m v (asks.Store kind address value) = stores-in m (transfer_of m.devices v) kind value (led m v (store_unit kind) Store address)
request-in m v (asks.LoadLinked address target) = tt
request-in m v (asks.StoreConditional address value target) = linked-in m (led m v 4 Store address)
request-in m v (asks.ReadCp0 number target) = tt
request-in m v (asks.WriteCp0 number value) = tt
request-in m v (asks.System op) = system-in m v op

executed-in : (m : PrivateMachine) (v : ℕ) (does : Result Effect Exception) → In m (act_executed m v does)
executed-in m v (Err x) = tt
executed-in m v (Ok does) = request-in m v (redirected (is_open m v) does.request)

decided-in : (m : PrivateMachine) (v : ℕ) (word : Result ℕ Exception) → In m (act_decided m v word)
decided-in m v (Err x) = tt
decided-in m v (Ok word) = executed-in m v (usable (is_usable word (in_user_mode (vcpu m v).cp0.status)) (effect (decoded word) (vcpu m v).registers))

pub next-in : (m : PrivateMachine) (v : ℕ) → In m (act_next m v)
next-in m v = elim (interrupts (vcpu m v).cp0) as (λ b. In m (if b then NoAct else act_decided m v (fetched m v))) [ true ↦ tt | false ↦ decided-in m v (fetched m v) ]
