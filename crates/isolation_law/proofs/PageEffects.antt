-- What an own step and a packet change of the words of register pages: those of the virtual processor that steps, at most.
use Rattle.std.proofs.Common.{◌≡◌, ◌≢◌, ℕ, zero, suc, ◌/◌, ◌%◌, ◌==◌, Bool, true, false, if◌then◌else◌, Option, Some, None, Result, Ok, Err, List, [], ◌∷◌, map, set, get_or, refl, ap, ◌∙◌}
use Rattle.std.specs.Prelude.{slice_index_or}
use Rattle.base_words.specs.Bits.{flag}
use Rattle.base_words.specs.Coprocessor.{interrupts, in_user_mode, register_at, reads, writes}
use Rattle.base_words.specs.Instruction.{Effect, register, with_register, effect}
use Rattle.base_words.specs.Memory.{word_at}
use Rattle.base_words.specs.Merging.{loaded_value, stored_word, load_unit, store_unit}
use Rattle.base_words.specs.OpcodeMap.{decoded}
use Rattle.base_words.specs.declared.device.DeviceRegister.{DeviceRegister}
use Rattle.base_words.specs.declared.device.DeviceRegister.TheVariants.{Halt, Call, Answered, DiskCommand, Send, PacketTaken}
use Rattle.base_words.specs.declared.device.Transfer.{Transfer}
use Rattle.base_words.specs.declared.effect.Request.{Request}
use Rattle.base_words.specs.declared.effect.Request.TheVariants as asks
use Rattle.base_words.specs.declared.exception.Exception.{Exception}
use Rattle.base_words.specs.declared.exception.Exception.TheVariants.{Interrupt, BusError}
use Rattle.base_words.specs.declared.exception.Use.TheVariants.{Load, Store}
use Rattle.base_words.specs.declared.instr.LoadKind.{LoadKind}
use Rattle.base_words.specs.declared.instr.LoadKind.TheVariants as loads
use Rattle.base_words.specs.declared.instr.StoreKind.{StoreKind}
use Rattle.base_words.specs.declared.instr.StoreKind.TheVariants as stores
use Rattle.base_words.specs.declared.place.Place.{Place}
use Rattle.base_words.specs.declared.place.Place.TheVariants.{Memory, Device}
use Rattle.base_words.specs.declared.regs.Regs.{Regs}
use Rattle.private_machine.specs.Access.{device_loaded, device_stored, loaded_from_device, stored_to_device, loaded, stored, linked_load, conditional_store, if_linked}
use Rattle.private_machine.specs.DevicePage.{device_register, transfer_of}
use Rattle.private_machine.specs.DeviceRegisters.{register_read, register_taken}
use Rattle.private_machine.specs.Devices.{disk_status, commanded, transferred, sending, device_taken, device_done, disk_read, disk_written, may_send, with_sent}
use Rattle.private_machine.specs.Links.{unlinked, unlinked_page, unlinked_others, written, page_filled, page_bytes, word_around, is_linked, line_of}
use Rattle.private_machine.specs.OwnStep.{led, answered, fetched, usable, executed, decided, attempted, settled, acted, own_step, input_joined, joined, made, is_usable}
use Rattle.private_machine.specs.Packet.{came_into}
use Rattle.private_machine.specs.PrivateMachine.{PrivateMachine, vcpu, with_devices, left, on_vcpu, input_waits, is_open}
use Rattle.private_machine.specs.RegisterPage.{block_for, redirected}
use Rattle.private_machine.specs.Signals.{called, signalled}
use Rattle.private_machine.specs.Vcpu.{no_vcpu, with_registers, with_cp0, with_link, with_line_on, system_done, raising, ticking, halting}
use Rattle.private_machine.specs.declared.vcpu.Vcpu.{Vcpu}

-- a line that goes on or off, and halting, change no word
lined-words : (b : Bool) (n : ℕ) (on : Bool) (c : Vcpu) → block_for b (with_line_on n on c).cp0 ≡ block_for b c.cp0
lined-words true n on c = refl
lined-words false n on c = refl

-- all but one have in the second list the words that they have in the first
abbrev pub Others : Bool → ℕ → List Vcpu → List Vcpu → Type 0
Others b v cs ds = (u : ℕ) → u ≢ v → block_for b (get_or ds u no_vcpu).cp0 ≡ block_for b (get_or cs u no_vcpu).cp0

pub none-others : (b : Bool) (v : ℕ) (cs : List Vcpu) → Others b v cs cs
none-others b v cs u o = refl

pub then-others : (b : Bool) (v : ℕ) (cs ds es : List Vcpu) → Others b v cs ds → Others b v ds es → Others b v cs es
then-others b v cs ds es first next u o = next u o ∙ first u o

-- the one itself
pub set-own : (b : Bool) (cs : List Vcpu) (v : ℕ) (c : Vcpu) → Others b v cs (set cs v c)
set-own b [] v c u o = refl
set-own b (d ∷ cs) zero c zero o = absurd (o refl)
set-own b (d ∷ cs) zero c (suc u) o = refl
set-own b (d ∷ cs) (suc v) c zero o = refl
set-own b (d ∷ cs) (suc v) c (suc u) o = set-own b cs v c u (λ e. o (ap suc e))

-- any that keeps its words
set-word : (b : Bool) (cs : List Vcpu) (k : ℕ) (c : Vcpu) → block_for b c.cp0 ≡ block_for b (get_or cs k no_vcpu).cp0 → (u : ℕ) → block_for b (get_or (set cs k c) u no_vcpu).cp0 ≡ block_for b (get_or cs u no_vcpu).cp0
set-word b [] k c e u = refl
set-word b (d ∷ cs) zero c e zero = e
set-word b (d ∷ cs) zero c e (suc u) = refl
set-word b (d ∷ cs) (suc k) c e zero = refl
set-word b (d ∷ cs) (suc k) c e (suc u) = set-word b cs k c e u

map-word : (b : Bool) (f : Vcpu → Vcpu) → ((c : Vcpu) → block_for b (f c).cp0 ≡ block_for b c.cp0) → (cs : List Vcpu) (u : ℕ) → block_for b (get_or (map f cs) u no_vcpu).cp0 ≡ block_for b (get_or cs u no_vcpu).cp0
map-word b f each [] u = refl
map-word b f each (c ∷ cs) zero = each c
map-word b f each (c ∷ cs) (suc u) = map-word b f each cs u

called-word : (b : Bool) (word : ℕ) (cs : List Vcpu) (u : ℕ) → block_for b (get_or (called word cs) u no_vcpu).cp0 ≡ block_for b (get_or cs u no_vcpu).cp0
called-word b word [] u = refl
called-word b word (c ∷ cs) zero = elim (flag 0 word) as (λ z. block_for b (if z then with_line_on 4 true c else c).cp0 ≡ block_for b c.cp0) [ true ↦ lined-words b 4 true c | false ↦ refl ]
called-word b word (c ∷ cs) (suc u) = called-word b (word / 2) cs u

others-word : (b : Bool) (line : ℕ) (cs : List Vcpu) (v u : ℕ) → block_for b (get_or (unlinked_others line v cs) u no_vcpu).cp0 ≡ block_for b (get_or cs u no_vcpu).cp0
others-word b line [] v u = refl
others-word b line (c ∷ cs) zero zero = refl
others-word b line (c ∷ cs) zero (suc u) = map-word b (unlinked line) (λ d. refl) cs u
others-word b line (c ∷ cs) (suc v) zero = refl
others-word b line (c ∷ cs) (suc v) (suc u) = others-word b line cs v u

-- what a store to a register changes
signalled-word : (b : Bool) (v value : ℕ) (cs : List Vcpu) (r : DeviceRegister) (u : ℕ) → block_for b (get_or (signalled v value cs r) u no_vcpu).cp0 ≡ block_for b (get_or cs u no_vcpu).cp0
signalled-word b v value cs Halt = set-word b cs v (halting (get_or cs v no_vcpu)) refl
signalled-word b v value cs Call = called-word b value cs
signalled-word b v value cs Answered = set-word b cs v (with_line_on 4 false (get_or cs v no_vcpu)) (lined-words b 4 false (get_or cs v no_vcpu))
signalled-word b v value cs PacketTaken = set-word b cs 0 (with_line_on 3 false (get_or cs 0 no_vcpu)) (lined-words b 3 false (get_or cs 0 no_vcpu))
signalled-word b v value cs r = λ u. refl

-- the same of two machines
abbrev pub Keep : Bool → ℕ → PrivateMachine → PrivateMachine → Type 0
Keep b v m n = Others b v m.vcpus n.vcpus

-- every word stays
abbrev Stay : Bool → PrivateMachine → PrivateMachine → Type 0
Stay b m n = (u : ℕ) → block_for b (get_or n.vcpus u no_vcpu).cp0 ≡ block_for b (get_or m.vcpus u no_vcpu).cp0

stay-keep : (b : Bool) (v : ℕ) (m n : PrivateMachine) → Stay b m n → Keep b v m n
stay-keep b v m n stay u o = stay u

keep-on : (b : Bool) (m n : PrivateMachine) (v : ℕ) (f : Vcpu → Vcpu) → Keep b v m n → Keep b v m (on_vcpu n v f)
keep-on b m n v f keep u o = set-own b n.vcpus v (f (vcpu n v)) u o ∙ keep u o

keep-own : (b : Bool) (m : PrivateMachine) (v : ℕ) (f : Vcpu → Vcpu) → Keep b v m (on_vcpu m v f)
keep-own b m v f = set-own b m.vcpus v (f (vcpu m v))

stay-written : (b : Bool) (m : PrivateMachine) (v offset word : ℕ) → Stay b m (written m v offset word)
stay-written b m v offset word = others-word b (line_of offset) m.vcpus v

pub stay-filled : (b : Bool) (m : PrivateMachine) (q : ℕ) (bytes : List ℕ) → (u : ℕ) → block_for b (get_or (page_filled m q bytes).vcpus u no_vcpu).cp0 ≡ block_for b (get_or m.vcpus u no_vcpu).cp0
stay-filled b m q bytes = map-word b (unlinked_page q) (λ c. refl) m.vcpus

transferred-stay : (b : Bool) (m : PrivateMachine) (t : Transfer) (command : ℕ) → Stay b m (transferred m t command)
transferred-stay b m t command = elim (command == 1) as (λ z. Stay b m (if z then disk_read m t else disk_written m t)) [
  | true ↦ stay-filled b m t.page (slice_index_or m.disk t.block [])
  | false ↦ λ u. refl
]

commanded-stay : (b : Bool) (m : PrivateMachine) (v : ℕ) (t : Transfer) (command status : ℕ) → Stay b m (commanded m v t command status)
commanded-stay b m v t command status = elim (status == 0) as (λ z. Stay b m (if z then transferred m t command else m)) [ true ↦ transferred-stay b m t command | false ↦ λ u. refl ]

sending-stay : (b : Bool) (m : PrivateMachine) (t : Transfer) (to : ℕ) → Stay b m (sending m t to)
sending-stay b m t to = elim (may_send m t) as (λ z. Stay b m (if z then with_devices m (with_sent m.devices to (page_bytes m t.send_page t.send_length)) else m)) [ true ↦ λ u. refl | false ↦ λ u. refl ]

done-stay : (b : Bool) (m : PrivateMachine) (v value : ℕ) (r : DeviceRegister) → Stay b m (device_done m v value r)
done-stay b m v value DiskCommand = let t = transfer_of m.devices v in commanded-stay b m v t value (disk_status m t value)
done-stay b m v value Send = sending-stay b m (transfer_of m.devices v) value
done-stay b m v value r = signalled-word b v value m.vcpus r

taken-stay : (b : Bool) (m : PrivateMachine) (r : DeviceRegister) → Stay b m (device_taken m r)
taken-stay b m r = let on = input_waits (register_taken m.devices r) in set-word b m.vcpus 0 (with_line_on 2 on (vcpu m 0)) (lined-words b 2 on (vcpu m 0))

raised-keep : (b : Bool) (m : PrivateMachine) (v : ℕ) (x : Exception) → Keep b v m (settled m v (Err x))
raised-keep b m v x = keep-own b m v (raising x)

device_stored-keep : (b : Bool) (m : PrivateMachine) (v : ℕ) (regs : Regs) (value : ℕ) (o : Option DeviceRegister) → Keep b v m (settled m v (device_stored m v regs value o))
device_stored-keep b m v regs value None = raised-keep b m v (BusError Store)
device_stored-keep b m v regs value (Some r) = λ u o. done-stay b (left m v regs) v value r u ∙ keep-own b m v (with_registers regs) u o

to_device-keep : (b : Bool) (m : PrivateMachine) (v : ℕ) (regs : Regs) (kind : StoreKind) (value offset : ℕ) → Keep b v m (settled m v (stored_to_device m v regs kind value offset))
to_device-keep b m v regs stores.Word value offset = device_stored-keep b m v regs value (device_register offset)
to_device-keep b m v regs kind value offset = raised-keep b m v (BusError Store)

stored-keep : (b : Bool) (m : PrivateMachine) (v : ℕ) (regs : Regs) (kind : StoreKind) (value : ℕ) (place : Result Place Exception) → Keep b v m (settled m v (stored m v regs kind value place))
stored-keep b m v regs kind value (Err x) = raised-keep b m v x
stored-keep b m v regs kind value (Ok (Memory offset)) = let word = stored_word kind (word_around m offset) value (offset % 4) in keep-on b m (written m v offset word) v (with_registers regs) (stay-keep b v m (written m v offset word) (stay-written b m v offset word))
stored-keep b m v regs kind value (Ok (Device offset)) = to_device-keep b m v regs kind value offset

device_loaded-keep : (b : Bool) (m : PrivateMachine) (v : ℕ) (regs : Regs) (target : ℕ) (o : Option DeviceRegister) → Keep b v m (settled m v (device_loaded m v regs target o))
device_loaded-keep b m v regs target None = raised-keep b m v (BusError Load)
device_loaded-keep b m v regs target (Some r) = keep-on b m (device_taken m r) v (with_registers (with_register regs target (register_read v m.devices r))) (stay-keep b v m (device_taken m r) (taken-stay b m r))

from_device-keep : (b : Bool) (m : PrivateMachine) (v : ℕ) (regs : Regs) (kind : LoadKind) (target offset : ℕ) → Keep b v m (settled m v (loaded_from_device m v regs kind target offset))
from_device-keep b m v regs loads.Word target offset = device_loaded-keep b m v regs target (device_register offset)
from_device-keep b m v regs kind target offset = raised-keep b m v (BusError Load)

loaded-keep : (b : Bool) (m : PrivateMachine) (v : ℕ) (regs : Regs) (kind : LoadKind) (target : ℕ) (place : Result Place Exception) → Keep b v m (settled m v (loaded m v regs kind target place))
loaded-keep b m v regs kind target (Err x) = raised-keep b m v x
loaded-keep b m v regs kind target (Ok (Memory offset)) = keep-own b m v (with_registers (with_register regs target (loaded_value kind (word_around m offset) (register regs target) (offset % 4))))
loaded-keep b m v regs kind target (Ok (Device offset)) = from_device-keep b m v regs kind target offset

linked-keep : (b : Bool) (m : PrivateMachine) (v : ℕ) (regs : Regs) (target : ℕ) (place : Result Place Exception) → Keep b v m (settled m v (linked_load m v regs target place))
linked-keep b m v regs target (Err x) = raised-keep b m v x
linked-keep b m v regs target (Ok (Memory offset)) =
    let after = with_register regs target (word_at m.memory offset) in
    keep-on b m (left m v after) v (with_link (Some (line_of offset))) (keep-own b m v (with_registers after))
linked-keep b m v regs target (Ok (Device offset)) = raised-keep b m v (BusError Load)

conditional-keep : (b : Bool) (m : PrivateMachine) (v : ℕ) (regs : Regs) (target value : ℕ) (place : Result Place Exception) → Keep b v m (settled m v (conditional_store m v regs target value place))
conditional-keep b m v regs target value (Err x) = raised-keep b m v x
conditional-keep b m v regs target value (Ok (Memory offset)) = elim (is_linked (vcpu m v).link (line_of offset)) as (λ z. Keep b v m (if_linked z m v regs target value offset)) [
  | true ↦ let n = written m v offset value in
      keep-on b m (left n v (with_register regs target 1)) v (with_link None) (keep-on b m n v (with_registers (with_register regs target 1)) (stay-keep b v m n (stay-written b m v offset value)))
  | false ↦ keep-on b m (left m v (with_register regs target 0)) v (with_link None) (keep-own b m v (with_registers (with_register regs target 0)))
]
conditional-keep b m v regs target value (Ok (Device offset)) = raised-keep b m v (BusError Store)

request-keep : (b : Bool) (m : PrivateMachine) (v : ℕ) (regs : Regs) (r : Request) → Keep b v m (settled m v (answered m v regs r))
request-keep b m v regs asks.Nothing = keep-own b m v (with_registers regs)
request-keep b m v regs (asks.Load kind address target) = loaded-keep b m v regs kind target (led m v (load_unit kind) Load address)
request-keep b m v regs (asks.Store kind address value) = stored-keep b m v regs kind value (led m v (store_unit kind) Store address)
request-keep b m v regs (asks.LoadLinked address target) = linked-keep b m v regs target (led m v 4 Load address)
request-keep b m v regs (asks.StoreConditional address value target) = conditional-keep b m v regs target value (led m v 4 Store address)
request-keep b m v regs (asks.ReadCp0 number target) = keep-own b m v (with_registers (with_register regs target (reads (vcpu m v).cp0 (register_at number))))
request-keep b m v regs (asks.WriteCp0 number value) = keep-on b m (left m v regs) v (λ c. with_cp0 (writes c.cp0 (register_at number) value) c) (keep-own b m v (with_registers regs))
request-keep b m v regs (asks.System op) = keep-on b m (left m v regs) v (system_done op) (keep-own b m v (with_registers regs))

executed-keep : (b : Bool) (m : PrivateMachine) (v : ℕ) (does : Result Effect Exception) → Keep b v m (settled m v (executed m v does))
executed-keep b m v (Err x) = raised-keep b m v x
executed-keep b m v (Ok does) = request-keep b m v does.registers (redirected (is_open m v) does.request)

decided-keep : (b : Bool) (m : PrivateMachine) (v : ℕ) (word : Result ℕ Exception) → Keep b v m (settled m v (decided m v word))
decided-keep b m v (Err x) = raised-keep b m v x
decided-keep b m v (Ok word) = executed-keep b m v (usable (is_usable word (in_user_mode (vcpu m v).cp0.status)) (effect (decoded word) (vcpu m v).registers))

acted-keep : (b : Bool) (m : PrivateMachine) (v : ℕ) → Keep b v m (acted m v)
acted-keep b m v = elim (interrupts (vcpu m v).cp0) as (λ z. Keep b v m (if z then on_vcpu m v (raising Interrupt) else settled m v (attempted m v))) [
  | true ↦ raised-keep b m v Interrupt
  | false ↦ decided-keep b m v (fetched m v)
]

joined-keep : (b : Bool) (m : PrivateMachine) (v : ℕ) → Stay b m (joined m v)
joined-keep b m v = elim (v == 0) as (λ z. Stay b m (if z then input_joined m else m)) [
  | true ↦ let on = input_waits (input_joined m).devices in set-word b m.vcpus 0 (with_line_on 2 on (vcpu m 0)) (lined-words b 2 on (vcpu m 0))
  | false ↦ λ u. refl
]

-- one own step
pub own-others : (b : Bool) (m : PrivateMachine) (v : ℕ) → Keep b v m (own_step m v)
own-others b m v = elim (vcpu m v).halted as (λ z. Keep b v m (if z then m else made (joined m v) v)) [
  | true ↦ λ u o. refl
  | false ↦ let j = joined m v in keep-on b m (acted j v) v ticking (λ u o. acted-keep b j v u o ∙ joined-keep b m v u)
]

-- a packet changes no word
pub packet-words : (b : Bool) (m : PrivateMachine) (from : ℕ) (bytes : List ℕ) (armed : Option ℕ) (u : ℕ) → block_for b (get_or (came_into m from bytes armed).vcpus u no_vcpu).cp0 ≡ block_for b (get_or m.vcpus u no_vcpu).cp0
packet-words b m from bytes None u = refl
packet-words b m from bytes (Some q) u =
    let n = page_filled m q bytes in
    set-word b n.vcpus 0 (with_line_on 3 true (vcpu n 0)) (lined-words b 3 true (vcpu n 0)) u ∙ stay-filled b m q bytes u
