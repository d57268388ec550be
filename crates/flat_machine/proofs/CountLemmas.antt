-- A guest keeps its number of virtual processors.
use Rattle.std.proofs.Common.{◌≡◌, ℕ, ◌==◌, ◌/◌, ◌%◌, List, [], ◌∷◌, length, Bool, true, false, if◌then◌else◌, slice_index_or, Option, Some, None, Result, Ok, Err, arith, ◌∙◌, refl, subst}
use Rattle.std.proofs.lemmas.List.{length-set, length-map}
use Rattle.base_words.specs.declared.regs.Regs.{Regs}
use Rattle.base_words.specs.declared.exception.Exception.{Exception}
use Rattle.base_words.specs.declared.exception.Exception.TheVariants.{Interrupt}
use Rattle.base_words.specs.declared.effect.Request.{Request}
use Rattle.base_words.specs.declared.effect.Request.TheVariants as asks
use Rattle.base_words.specs.declared.instr.LoadKind.{LoadKind}
use Rattle.base_words.specs.declared.instr.LoadKind.TheVariants as loads
use Rattle.base_words.specs.declared.instr.StoreKind.{StoreKind}
use Rattle.base_words.specs.declared.instr.StoreKind.TheVariants as stores
use Rattle.base_words.specs.declared.place.Place.{Place}
use Rattle.base_words.specs.declared.place.Place.TheVariants.{Memory, Device}
use Rattle.base_words.specs.declared.device.DeviceRegister.{DeviceRegister}
use Rattle.base_words.specs.declared.device.DeviceRegister.TheVariants.{Console, Halt, Input, Queued, Number, Vcpus, Call, Answered, DiskBlock, DiskPage, DiskCommand, DiskStatus, SendPage, SendLength, Send, Armed, PacketLength, PacketSender, PacketTaken}
use Rattle.base_words.specs.declared.device.Transfer.{Transfer}
use Rattle.base_words.specs.Instruction.{Effect, effect, with_register}
use Rattle.base_words.specs.OpcodeMap.{decoded}
use Rattle.base_words.specs.Memory.{word_at}
use Rattle.base_words.specs.Merging.{stored_word}
use Rattle.base_words.specs.Coprocessor.{register_at, writes, in_user_mode, interrupts}
use Rattle.private_machine.specs.declared.vcpu.Vcpu.{Vcpu}
use Rattle.private_machine.specs.Vcpu.{with_registers, with_cp0, with_link, with_line_on, raising, ticking, system_done}
use Rattle.private_machine.specs.DevicePage.{transfer_of, device_register}
use Rattle.private_machine.specs.DeviceRegisters.{register_taken}
use Rattle.private_machine.specs.PrivateMachine.{PrivateMachine, vcpu, on_vcpu, with_devices, input_waits, left, is_open}
use Rattle.private_machine.specs.RegisterPage.{redirected}
use Rattle.private_machine.specs.Links.{line_of, is_linked, word_around, unlinked_page, page_filled, written}
use Rattle.private_machine.specs.Signals.{called, signalled}
use Rattle.private_machine.specs.Devices.{disk_status, disk_read, disk_written, transferred, commanded, may_send, sending, device_done}
use Rattle.private_machine.specs.Access.{device_loaded, device_stored, loaded_from_device, stored_to_device, loaded, stored, linked_load, if_linked, conditional_store}
use Rattle.private_machine.specs.OwnStep.{is_usable, usable, fetched, answered, executed, decided, attempted, settled, acted, joined, own_step, input_joined, made}
use Rattle.private_machine.specs.Packet.{came_into, own_packet}
use Rattle.mips_alu.specs.Execution.{passed}
use Rattle.flat_machine.specs.Attempts.{requested}
use Rattle.flat_machine.proofs.SoundLemmas.{length-unlinked_others}

-- a machine has as many virtual processors as another; so has one to which an attempt leads
abbrev pub Alike : PrivateMachine → PrivateMachine → Type 0
Alike m new = length new.vcpus ≡ length m.vcpus

abbrev pub Keeps : PrivateMachine → Result PrivateMachine Exception → Type 0
Keeps m (Ok new) = Alike m new
Keeps m (Err x) = Unit {0}

either : (b : Bool) (m x y : PrivateMachine) → Alike m x → Alike m y → Alike m (if b then x else y)
either true m x y p q = p
either false m x y p q = q

on_vcpu-count : (m : PrivateMachine) (v : ℕ) (f : Vcpu → Vcpu) → Alike m (on_vcpu m v f)
on_vcpu-count m v f = length-set m.vcpus v (f (vcpu m v))

called-count : (word : ℕ) (vcpus : List Vcpu) → length (called word vcpus) ≡ length vcpus
called-count word [] = refl
called-count word (c ∷ vcpus) = omega (arith, called-count (word / 2) vcpus)

signalled-count : (v value : ℕ) (vcpus : List Vcpu) (r : DeviceRegister) → length (signalled v value vcpus r) ≡ length vcpus
signalled-count v value vcpus Console = refl
signalled-count v value vcpus Halt = length-set vcpus v _
signalled-count v value vcpus Input = refl
signalled-count v value vcpus Queued = refl
signalled-count v value vcpus Number = refl
signalled-count v value vcpus Vcpus = refl
signalled-count v value vcpus Call = called-count value vcpus
signalled-count v value vcpus Answered = length-set vcpus v _
signalled-count v value vcpus DiskBlock = refl
signalled-count v value vcpus DiskPage = refl
signalled-count v value vcpus DiskCommand = refl
signalled-count v value vcpus DiskStatus = refl
signalled-count v value vcpus SendPage = refl
signalled-count v value vcpus SendLength = refl
signalled-count v value vcpus Send = refl
signalled-count v value vcpus Armed = refl
signalled-count v value vcpus PacketLength = refl
signalled-count v value vcpus PacketSender = refl
signalled-count v value vcpus PacketTaken = length-set vcpus 0 _

page_filled-count : (m : PrivateMachine) (page : ℕ) (bytes : List ℕ) → Alike m (page_filled m page bytes)
page_filled-count m page bytes = length-map m.vcpus (unlinked_page page)

commanded-count : (m : PrivateMachine) (v : ℕ) (t : Transfer) (command status : ℕ) → Alike m (commanded m v t command status)
commanded-count m v t command status = either (status == 0) m (transferred m t command) m
    (either (command == 1) m (disk_read m t) (disk_written m t) (page_filled-count m t.page (slice_index_or m.disk t.block [])) refl) refl

sending-count : (m : PrivateMachine) (t : Transfer) (receiver : ℕ) → Alike m (sending m t receiver)
sending-count m t receiver = either (may_send m t) m _ m refl refl

device_done-count : (m : PrivateMachine) (v value : ℕ) (r : DeviceRegister) → Alike m (device_done m v value r)
device_done-count m v value Console = signalled-count v value m.vcpus Console
device_done-count m v value Halt = signalled-count v value m.vcpus Halt
device_done-count m v value Input = signalled-count v value m.vcpus Input
device_done-count m v value Queued = signalled-count v value m.vcpus Queued
device_done-count m v value Number = signalled-count v value m.vcpus Number
device_done-count m v value Vcpus = signalled-count v value m.vcpus Vcpus
device_done-count m v value Call = signalled-count v value m.vcpus Call
device_done-count m v value Answered = signalled-count v value m.vcpus Answered
device_done-count m v value DiskBlock = signalled-count v value m.vcpus DiskBlock
device_done-count m v value DiskPage = signalled-count v value m.vcpus DiskPage
device_done-count m v value DiskCommand = let t = transfer_of m.devices v in commanded-count m v t value (disk_status m t value)
device_done-count m v value DiskStatus = signalled-count v value m.vcpus DiskStatus
device_done-count m v value SendPage = signalled-count v value m.vcpus SendPage
device_done-count m v value SendLength = signalled-count v value m.vcpus SendLength
device_done-count m v value Send = sending-count m (transfer_of m.devices v) value
device_done-count m v value Armed = signalled-count v value m.vcpus Armed
device_done-count m v value PacketLength = signalled-count v value m.vcpus PacketLength
device_done-count m v value PacketSender = signalled-count v value m.vcpus PacketSender
device_done-count m v value PacketTaken = signalled-count v value m.vcpus PacketTaken

device_loaded-keeps : (m : PrivateMachine) (v : ℕ) (regs : Regs) (target : ℕ) (r : Option DeviceRegister) → Keeps m (device_loaded m v regs target r)
device_loaded-keeps m v regs target None = tt
device_loaded-keeps m v regs target (Some r) = let d = with_devices m (register_taken m.devices r) in
    length-set (on_vcpu d 0 (with_line_on 2 (input_waits d.devices))).vcpus v _ ∙ on_vcpu-count d 0 (with_line_on 2 (input_waits d.devices))

device_stored-keeps : (m : PrivateMachine) (v : ℕ) (regs : Regs) (value : ℕ) (r : Option DeviceRegister) → Keeps m (device_stored m v regs value r)
device_stored-keeps m v regs value None = tt
device_stored-keeps m v regs value (Some r) = device_done-count (left m v regs) v value r ∙ on_vcpu-count m v (with_registers regs)

from_device-keeps : (m : PrivateMachine) (v : ℕ) (regs : Regs) (kind : LoadKind) (target offset : ℕ) → Keeps m (loaded_from_device m v regs kind target offset)
from_device-keeps m v regs loads.Byte target offset = tt
from_device-keeps m v regs loads.ByteUnsigned target offset = tt
from_device-keeps m v regs loads.HalfWord target offset = tt
from_device-keeps m v regs loads.HalfWordUnsigned target offset = tt
from_device-keeps m v regs loads.Word target offset = device_loaded-keeps m v regs target (device_register offset)
from_device-keeps m v regs loads.WordLeft target offset = tt
from_device-keeps m v regs loads.WordRight target offset = tt

to_device-keeps : (m : PrivateMachine) (v : ℕ) (regs : Regs) (kind : StoreKind) (value offset : ℕ) → Keeps m (stored_to_device m v regs kind value offset)
to_device-keeps m v regs stores.Byte value offset = tt
to_device-keeps m v regs stores.HalfWord value offset = tt
to_device-keeps m v regs stores.Word value offset = device_stored-keeps m v regs value (device_register offset)
to_device-keeps m v regs stores.WordLeft value offset = tt
to_device-keeps m v regs stores.WordRight value offset = tt

loaded-keeps : (m : PrivateMachine) (v : ℕ) (regs : Regs) (kind : LoadKind) (target : ℕ) (place : Result Place Exception) → Keeps m (loaded m v regs kind target place)
loaded-keeps m v regs kind target (Err x) = tt
loaded-keeps m v regs kind target (Ok (Memory offset)) = length-set m.vcpus v _
loaded-keeps m v regs kind target (Ok (Device offset)) = from_device-keeps m v regs kind target offset

written-count : (m : PrivateMachine) (v offset word : ℕ) → Alike m (written m v offset word)
written-count m v offset word = length-unlinked_others (line_of offset) v m.vcpus

stored-keeps : (m : PrivateMachine) (v : ℕ) (regs : Regs) (kind : StoreKind) (value : ℕ) (place : Result Place Exception) → Keeps m (stored m v regs kind value place)
stored-keeps m v regs kind value (Err x) = tt
stored-keeps m v regs kind value (Ok (Memory offset)) =
    let word = stored_word kind (word_around m offset) value (offset % 4) in
    length-set (written m v offset word).vcpus v _ ∙ written-count m v offset word
stored-keeps m v regs kind value (Ok (Device offset)) = to_device-keeps m v regs kind value offset

-- two changes of one virtual processor
twice-count : (m : PrivateMachine) (v : ℕ) (f g : Vcpu → Vcpu) → Alike m (on_vcpu (on_vcpu m v f) v g)
twice-count m v f g = on_vcpu-count (on_vcpu m v f) v g ∙ on_vcpu-count m v f

linked_load-keeps : (m : PrivateMachine) (v : ℕ) (regs : Regs) (target : ℕ) (place : Result Place Exception) → Keeps m (linked_load m v regs target place)
linked_load-keeps m v regs target (Err x) = tt
linked_load-keeps m v regs target (Ok (Memory offset)) =
    twice-count m v (with_registers (with_register regs target (word_at m.memory offset))) (with_link (Some (line_of offset)))
linked_load-keeps m v regs target (Ok (Device offset)) = tt

if_linked-count : (b : Bool) (m : PrivateMachine) (v : ℕ) (regs : Regs) (target value offset : ℕ) → Alike m (if_linked b m v regs target value offset)
if_linked-count true m v regs target value offset =
    twice-count (written m v offset value) v (with_registers (with_register regs target 1)) (with_link None) ∙ written-count m v offset value
if_linked-count false m v regs target value offset = twice-count m v (with_registers (with_register regs target 0)) (with_link None)

conditional_store-keeps : (m : PrivateMachine) (v : ℕ) (regs : Regs) (target value : ℕ) (place : Result Place Exception) → Keeps m (conditional_store m v regs target value place)
conditional_store-keeps m v regs target value (Err x) = tt
conditional_store-keeps m v regs target value (Ok (Memory offset)) = if_linked-count (is_linked (vcpu m v).link (line_of offset)) m v regs target value offset
conditional_store-keeps m v regs target value (Ok (Device offset)) = tt

answered-keeps : (m : PrivateMachine) (v : ℕ) (regs : Regs) (request : Request) → Keeps m (answered m v regs request)
answered-keeps m v regs asks.Nothing = length-set m.vcpus v _
answered-keeps m v regs (asks.Load kind address target) = loaded-keeps m v regs kind target _
answered-keeps m v regs (asks.Store kind address value) = stored-keeps m v regs kind value _
answered-keeps m v regs (asks.LoadLinked address target) = linked_load-keeps m v regs target _
answered-keeps m v regs (asks.StoreConditional address value target) = conditional_store-keeps m v regs target value _
answered-keeps m v regs (asks.ReadCp0 number target) = length-set m.vcpus v _
answered-keeps m v regs (asks.WriteCp0 number value) = twice-count m v (with_registers regs) (λ c. with_cp0 (writes c.cp0 (register_at number) value) c)
answered-keeps m v regs (asks.System op) = twice-count m v (with_registers regs) (system_done op)

pub requested-count : (m n : PrivateMachine) (v : ℕ) (request : Request) → requested m v request ≡ Ok n → Alike m n
requested-count m n v request is = subst (Keeps m) is (answered-keeps m v (passed request (vcpu m v).registers) request)

executed-keeps : (m : PrivateMachine) (v : ℕ) (does : Result Effect Exception) → Keeps m (executed m v does)
executed-keeps m v (Err x) = tt
executed-keeps m v (Ok does) = answered-keeps m v does.registers (redirected (is_open m v) does.request)

decided-keeps : (m : PrivateMachine) (v : ℕ) (word : Result ℕ Exception) → Keeps m (decided m v word)
decided-keeps m v (Err x) = tt
decided-keeps m v (Ok word) = executed-keeps m v (usable (is_usable word (in_user_mode (vcpu m v).cp0.status)) (effect (decoded word) (vcpu m v).registers))

settled-count : (m : PrivateMachine) (v : ℕ) (after : Result PrivateMachine Exception) → Keeps m after → Alike m (settled m v after)
settled-count m v (Ok after) keeps = keeps
settled-count m v (Err x) keeps = on_vcpu-count m v (raising x)

pub acted-count : (m : PrivateMachine) (v : ℕ) → Alike m (acted m v)
acted-count m v = either (interrupts (vcpu m v).cp0) m (on_vcpu m v (raising Interrupt)) (settled m v (attempted m v)) (on_vcpu-count m v (raising Interrupt))
    (settled-count m v (attempted m v) (decided-keeps m v (fetched m v)))

pub joined-count : (m : PrivateMachine) (v : ℕ) → Alike m (joined m v)
joined-count m v = either (v == 0) m (input_joined m) m (length-set m.vcpus 0 _) refl

-- and so has the machine after a step, and after a packet
pub own_step-count : (m : PrivateMachine) (v : ℕ) → Alike m (own_step m v)
own_step-count m v = either (vcpu m v).halted m m (made (joined m v) v) refl
    (on_vcpu-count (acted (joined m v) v) v ticking ∙ acted-count (joined m v) v ∙ joined-count m v)

came_into-count : (m : PrivateMachine) (from : ℕ) (bytes : List ℕ) (page : Option ℕ) → Alike m (came_into m from bytes page)
came_into-count m from bytes None = refl
came_into-count m from bytes (Some page) = length-set (page_filled m page bytes).vcpus 0 _ ∙ page_filled-count m page bytes

pub own_packet-count : (m : PrivateMachine) (from : ℕ) (bytes : List ℕ) → Alike m (own_packet m from bytes)
own_packet-count m from bytes = came_into-count m from bytes m.devices.armed
