-- A virtual processor that has halted stays so in an own step of any of them, and where a packet comes.
use Rattle.std.proofs.Common.{◌≡◌, ℕ, zero, suc, ◌/◌, ◌%◌, ◌==◌, true, false, if◌then◌else◌, Option, Some, None, Result, Ok, Err, List, [], ◌∷◌, map, set, get_or, refl}
use Rattle.std.specs.Prelude.{slice_index_or}
use Rattle.base_words.specs.Bits.{flag}
use Rattle.base_words.specs.Coprocessor.{interrupts, in_user_mode, register_at, reads, writes}
use Rattle.base_words.specs.Instruction.{Effect, register, with_register, effect}
use Rattle.base_words.specs.Memory.{word_at}
use Rattle.base_words.specs.Merging.{loaded_value, stored_word, load_unit, store_unit}
use Rattle.base_words.specs.OpcodeMap.{decoded}
use Rattle.base_words.specs.declared.device.DeviceRegister.{DeviceRegister}
use Rattle.base_words.specs.declared.device.DeviceRegister.TheVariants.{Halt, Call, Answered, DiskCommand, Send, PacketTaken}
use Rattle.base_words.specs.declared.device.Transfer.{Transfer}
use Rattle.base_words.specs.declared.effect.Request.{Request}
use Rattle.base_words.specs.declared.effect.Request.TheVariants as asks
use Rattle.base_words.specs.declared.exception.Exception.{Exception}
use Rattle.base_words.specs.declared.exception.Exception.TheVariants.{Interrupt, BusError}
use Rattle.base_words.specs.declared.exception.Use.TheVariants.{Load, Store}
use Rattle.base_words.specs.declared.instr.Cp0Op.{Cp0Op}
use Rattle.base_words.specs.declared.instr.Cp0Op.TheVariants.{TlbRead, TlbWriteIndexed, TlbWriteRandom, TlbProbe, ExceptionReturn}
use Rattle.base_words.specs.declared.instr.LoadKind.{LoadKind}
use Rattle.base_words.specs.declared.instr.LoadKind.TheVariants as loads
use Rattle.base_words.specs.declared.instr.StoreKind.{StoreKind}
use Rattle.base_words.specs.declared.instr.StoreKind.TheVariants as stores
use Rattle.base_words.specs.declared.place.Place.{Place}
use Rattle.base_words.specs.declared.place.Place.TheVariants.{Memory, Device}
use Rattle.base_words.specs.declared.regs.Regs.{Regs}
use Rattle.private_machine.specs.Access.{device_loaded, device_stored, loaded_from_device, stored_to_device, loaded, stored, linked_load, conditional_store, if_linked}
use Rattle.private_machine.specs.DevicePage.{device_register, transfer_of}
use Rattle.private_machine.specs.DeviceRegisters.{register_read, register_taken}
use Rattle.private_machine.specs.Devices.{disk_status, commanded, transferred, sending, device_taken, device_done, disk_read, disk_written, may_send, with_sent}
use Rattle.private_machine.specs.Links.{unlinked, unlinked_page, unlinked_others, written, page_filled, page_bytes, word_around, is_linked, line_of}
use Rattle.private_machine.specs.OwnStep.{led, answered, fetched, usable, executed, decided, attempted, settled, acted, own_step, input_joined, joined, made, is_usable}
use Rattle.private_machine.specs.Packet.{came_into}
use Rattle.private_machine.specs.PrivateMachine.{PrivateMachine, vcpu, with_devices, left, on_vcpu, input_waits, is_open}
use Rattle.private_machine.specs.RegisterPage.{redirected}
use Rattle.private_machine.specs.Signals.{called, signalled}
use Rattle.private_machine.specs.Vcpu.{no_vcpu, with_registers, with_cp0, with_link, with_line_on, system_done, raising, ticking, halting}
use Rattle.private_machine.specs.declared.vcpu.Vcpu.{Vcpu}

-- those of the first list that have halted have halted in the second
abbrev pub KeepHalts : List Vcpu → List Vcpu → Type 0
KeepHalts cs ds = (v : ℕ) → (get_or cs v no_vcpu).halted ≡ true → (get_or ds v no_vcpu).halted ≡ true

pub set-keep : (cs : List Vcpu) (v : ℕ) (c : Vcpu) → ((get_or cs v no_vcpu).halted ≡ true → c.halted ≡ true) → KeepHalts cs (set cs v c)
set-keep [] v c own u e = e
set-keep (d ∷ cs) zero c own zero e = own e
set-keep (d ∷ cs) zero c own (suc u) e = e
set-keep (d ∷ cs) (suc v) c own zero e = e
set-keep (d ∷ cs) (suc v) c own (suc u) e = set-keep cs v c own u e

map-keep : (f : Vcpu → Vcpu) (each : (c : Vcpu) → c.halted ≡ true → (f c).halted ≡ true) (cs : List Vcpu) → KeepHalts cs (map f cs)
map-keep f each [] v e = e
map-keep f each (c ∷ cs) zero e = each c e
map-keep f each (c ∷ cs) (suc v) e = map-keep f each cs v e

called-keep : (word : ℕ) (cs : List Vcpu) → KeepHalts cs (called word cs)
called-keep word [] v e = e
called-keep word (c ∷ cs) zero e = elim (flag 0 word) as (λ b. (if b then with_line_on 4 true c else c).halted ≡ true) [ true ↦ e | false ↦ e ]
called-keep word (c ∷ cs) (suc v) e = called-keep (word / 2) cs v e

others-keep : (line : ℕ) (cs : List Vcpu) (v : ℕ) → KeepHalts cs (unlinked_others line v cs)
others-keep line [] v u e = e
others-keep line (c ∷ cs) zero zero e = e
others-keep line (c ∷ cs) zero (suc u) e = map-keep (unlinked line) (λ d halted. halted) cs u e
others-keep line (c ∷ cs) (suc v) zero e = e
others-keep line (c ∷ cs) (suc v) (suc u) e = others-keep line cs v u e

-- what a store to a register changes in them
signalled-keep : (v value : ℕ) (cs : List Vcpu) (r : DeviceRegister) → KeepHalts cs (signalled v value cs r)
signalled-keep v value cs Halt = set-keep cs v (halting (get_or cs v no_vcpu)) (λ e. refl)
signalled-keep v value cs Call = called-keep value cs
signalled-keep v value cs Answered = set-keep cs v (with_line_on 4 false (get_or cs v no_vcpu)) (λ e. e)
signalled-keep v value cs PacketTaken = set-keep cs 0 (with_line_on 3 false (get_or cs 0 no_vcpu)) (λ e. e)
signalled-keep v value cs r = λ u e. e

-- the same of two machines
abbrev Keep : PrivateMachine → PrivateMachine → Type 0
Keep m n = KeepHalts m.vcpus n.vcpus

keep-on : (m n : PrivateMachine) (v : ℕ) (f : Vcpu → Vcpu) → Keep m n → ((vcpu n v).halted ≡ true → (f (vcpu n v)).halted ≡ true) → Keep m (on_vcpu n v f)
keep-on m n v f keep own u e = set-keep n.vcpus v (f (vcpu n v)) own u (keep u e)

keep-left : (m n : PrivateMachine) (v : ℕ) (regs : Regs) → Keep m n → Keep m (left n v regs)
keep-left m n v regs keep = keep-on m n v (with_registers regs) keep (λ e. e)

keep-written : (m : PrivateMachine) (v offset word : ℕ) → Keep m (written m v offset word)
keep-written m v offset word = others-keep (line_of offset) m.vcpus v

keep-filled : (m : PrivateMachine) (q : ℕ) (bytes : List ℕ) → Keep m (page_filled m q bytes)
keep-filled m q bytes = map-keep (unlinked_page q) (λ c halted. halted) m.vcpus

transferred-keep : (m : PrivateMachine) (t : Transfer) (command : ℕ) → Keep m (transferred m t command)
transferred-keep m t command = elim (command == 1) as (λ b. Keep m (if b then disk_read m t else disk_written m t)) [
  | true ↦ keep-filled m t.page (slice_index_or m.disk t.block [])
  | false ↦ λ u e. e
]

commanded-keep : (m : PrivateMachine) (v : ℕ) (t : Transfer) (command status : ℕ) → Keep m (commanded m v t command status)
commanded-keep m v t command status = elim (status == 0) as (λ b. Keep m (if b then transferred m t command else m)) [ true ↦ transferred-keep m t command | false ↦ λ u e. e ]

sending-keep : (m : PrivateMachine) (t : Transfer) (to : ℕ) → Keep m (sending m t to)
sending-keep m t to = elim (may_send m t) as (λ b. Keep m (if b then with_devices m (with_sent m.devices to (page_bytes m t.send_page t.send_length)) else m)) [ true ↦ λ u e. e | false ↦ λ u e. e ]

-- a store to a register, and a load of one
done-keep : (m : PrivateMachine) (v value : ℕ) (r : DeviceRegister) → Keep m (device_done m v value r)
done-keep m v value DiskCommand = let t = transfer_of m.devices v in commanded-keep m v t value (disk_status m t value)
done-keep m v value Send = sending-keep m (transfer_of m.devices v) value
done-keep m v value r = signalled-keep v value m.vcpus r

taken-keep : (m : PrivateMachine) (r : DeviceRegister) → Keep m (device_taken m r)
taken-keep m r = set-keep m.vcpus 0 (with_line_on 2 (input_waits (register_taken m.devices r)) (vcpu m 0)) (λ e. e)

raised-keep : (m : PrivateMachine) (v : ℕ) (x : Exception) → Keep m (settled m v (Err x))
raised-keep m v x = set-keep m.vcpus v (raising x (vcpu m v)) (λ e. e)

device_stored-keep : (m : PrivateMachine) (v : ℕ) (regs : Regs) (value : ℕ) (o : Option DeviceRegister) → Keep m (settled m v (device_stored m v regs value o))
device_stored-keep m v regs value None = raised-keep m v (BusError Store)
device_stored-keep m v regs value (Some r) = λ u e. done-keep (left m v regs) v value r u (keep-left m m v regs (λ u e. e) u e)

to_device-keep : (m : PrivateMachine) (v : ℕ) (regs : Regs) (kind : StoreKind) (value offset : ℕ) → Keep m (settled m v (stored_to_device m v regs kind value offset))
to_device-keep m v regs stores.Word value offset = device_stored-keep m v regs value (device_register offset)
to_device-keep m v regs kind value offset = raised-keep m v (BusError Store)

stored-keep : (m : PrivateMachine) (v : ℕ) (regs : Regs) (kind : StoreKind) (value : ℕ) (place : Result Place Exception) → Keep m (settled m v (stored m v regs kind value place))
stored-keep m v regs kind value (Err x) = raised-keep m v x
stored-keep m v regs kind value (Ok (Memory offset)) = let word = stored_word kind (word_around m offset) value (offset % 4) in keep-left m (written m v offset word) v regs (keep-written m v offset word)
stored-keep m v regs kind value (Ok (Device offset)) = to_device-keep m v regs kind value offset

device_loaded-keep : (m : PrivateMachine) (v : ℕ) (regs : Regs) (target : ℕ) (o : Option DeviceRegister) → Keep m (settled m v (device_loaded m v regs target o))
device_loaded-keep m v regs target None = raised-keep m v (BusError Load)
device_loaded-keep m v regs target (Some r) = keep-left m (device_taken m r) v (with_register regs target (register_read v m.devices r)) (taken-keep m r)

from_device-keep : (m : PrivateMachine) (v : ℕ) (regs : Regs) (kind : LoadKind) (target offset : ℕ) → Keep m (settled m v (loaded_from_device m v regs kind target offset))
from_device-keep m v regs loads.Word target offset = device_loaded-keep m v regs target (device_register offset)
from_device-keep m v regs kind target offset = raised-keep m v (BusError Load)

loaded-keep : (m : PrivateMachine) (v : ℕ) (regs : Regs) (kind : LoadKind) (target : ℕ) (place : Result Place Exception) → Keep m (settled m v (loaded m v regs kind target place))
loaded-keep m v regs kind target (Err x) = raised-keep m v x
loaded-keep m v regs kind target (Ok (Memory offset)) = keep-left m m v (with_register regs target (loaded_value kind (word_around m offset) (register regs target) (offset % 4))) (λ u e. e)
loaded-keep m v regs kind target (Ok (Device offset)) = from_device-keep m v regs kind target offset

linked-keep : (m : PrivateMachine) (v : ℕ) (regs : Regs) (target : ℕ) (place : Result Place Exception) → Keep m (settled m v (linked_load m v regs target place))
linked-keep m v regs target (Err x) = raised-keep m v x
linked-keep m v regs target (Ok (Memory offset)) =
    let after = with_register regs target (word_at m.memory offset) in
    keep-on m (left m v after) v (with_link (Some (line_of offset))) (keep-left m m v after (λ u e. e)) (λ e. e)
linked-keep m v regs target (Ok (Device offset)) = raised-keep m v (BusError Load)

conditional-keep : (m : PrivateMachine) (v : ℕ) (regs : Regs) (target value : ℕ) (place : Result Place Exception) → Keep m (settled m v (conditional_store m v regs target value place))
conditional-keep m v regs target value (Err x) = raised-keep m v x
conditional-keep m v regs target value (Ok (Memory offset)) = elim (is_linked (vcpu m v).link (line_of offset)) as (λ b. Keep m (if_linked b m v regs target value offset)) [
  | true ↦ let n = written m v offset value in
      keep-on m (left n v (with_register regs target 1)) v (with_link None) (keep-left m n v (with_register regs target 1) (keep-written m v offset value)) (λ e. e)
  | false ↦ keep-on m (left m v (with_register regs target 0)) v (with_link None) (keep-left m m v (with_register regs target 0) (λ u e. e)) (λ e. e)
]
conditional-keep m v regs target value (Ok (Device offset)) = raised-keep m v (BusError Store)

system-own : (op : Cp0Op) (c : Vcpu) → c.halted ≡ true → (system_done op c).halted ≡ true
system-own TlbRead c e = e
system-own TlbWriteIndexed c e = e
system-own TlbWriteRandom c e = e
system-own TlbProbe c e = e
system-own ExceptionReturn c e = e

request-keep : (m : PrivateMachine) (v : ℕ) (regs : Regs) (r : Request) → Keep m (settled m v (answered m v regs r))
request-keep m v regs asks.Nothing = keep-left m m v regs (λ u e. e)
request-keep m v regs (asks.Load kind address target) = loaded-keep m v regs kind target (led m v (load_unit kind) Load address)
request-keep m v regs (asks.Store kind address value) = stored-keep m v regs kind value (led m v (store_unit kind) Store address)
request-keep m v regs (asks.LoadLinked address target) = linked-keep m v regs target (led m v 4 Load address)
request-keep m v regs (asks.StoreConditional address value target) = conditional-keep m v regs target value (led m v 4 Store address)
request-keep m v regs (asks.ReadCp0 number target) = keep-left m m v (with_register regs target (reads (vcpu m v).cp0 (register_at number))) (λ u e. e)
request-keep m v regs (asks.WriteCp0 number value) = keep-on m (left m v regs) v (λ c. with_cp0 (writes c.cp0 (register_at number) value) c) (keep-left m m v regs (λ u e. e)) (λ e. e)
request-keep m v regs (asks.System op) = keep-on m (left m v regs) v (system_done op) (keep-left m m v regs (λ u e. e)) (system-own op (vcpu (left m v regs) v))

executed-keep : (m : PrivateMachine) (v : ℕ) (does : Result Effect Exception) → Keep m (settled m v (executed m v does))
executed-keep m v (Err x) = raised-keep m v x
executed-keep m v (Ok does) = request-keep m v does.registers (redirected (is_open m v) does.request)

decided-keep : (m : PrivateMachine) (v : ℕ) (word : Result ℕ Exception) → Keep m (settled m v (decided m v word))
decided-keep m v (Err x) = raised-keep m v x
decided-keep m v (Ok word) = executed-keep m v (usable (is_usable word (in_user_mode (vcpu m v).cp0.status)) (effect (decoded word) (vcpu m v).registers))

acted-keep : (m : PrivateMachine) (v : ℕ) → Keep m (acted m v)
acted-keep m v = elim (interrupts (vcpu m v).cp0) as (λ b. Keep m (if b then on_vcpu m v (raising Interrupt) else settled m v (attempted m v))) [
  | true ↦ raised-keep m v Interrupt
  | false ↦ decided-keep m v (fetched m v)
]

-- the input that joins
pub joined-keep : (m : PrivateMachine) (v : ℕ) → Keep m (joined m v)
joined-keep m v = elim (v == 0) as (λ b. Keep m (if b then input_joined m else m)) [
  | true ↦ set-keep m.vcpus 0 (with_line_on 2 (input_waits (input_joined m).devices) (vcpu m 0)) (λ e. e)
  | false ↦ λ u e. e
]

-- one own step
pub own-keep : (m : PrivateMachine) (v : ℕ) → Keep m (own_step m v)
own-keep m v = elim (vcpu m v).halted as (λ b. Keep m (if b then m else made (joined m v) v)) [
  | true ↦ λ u e. e
  | false ↦ let j = joined m v in keep-on m (acted j v) v ticking (λ u e. acted-keep j v u (joined-keep m v u e)) (λ e. e)
]

-- a packet
pub packet-keep : (m : PrivateMachine) (from : ℕ) (bytes : List ℕ) (armed : Option ℕ) → Keep m (came_into m from bytes armed)
packet-keep m from bytes None = λ u e. e
packet-keep m from bytes (Some q) = keep-on m (page_filled m q bytes) 0 (with_line_on 3 true) (keep-filled m q bytes) (λ e. e)
