-- An own step changes the guest's TLBs at the entry of its act alone, and arms only a page that is there.
use Rattle.std.proofs.Common.{◌≡◌, ◌⊎◌, inl, inr, ℕ, zero, suc, ◌/◌, ◌%◌, ◌<◌, ◌==◌, nat_lt, true, false, if◌then◌else◌, Option, Some, None, Result, Ok, Err, List, [], ◌∷◌, length, set, get_or, map, refl, ap, ◌∙◌, subst, arith, sym}
use Rattle.std.proofs.lemmas.Bool.{ltb-true}
use Rattle.std.specs.Prelude.{slice_set, slice_index_or}
use Rattle.base_words.specs.declared.exception.Exception.{Exception}
use Rattle.base_words.specs.declared.exception.Exception.TheVariants.{Interrupt, BusError}
use Rattle.base_words.specs.declared.exception.Use.TheVariants.{Load, Store}
use Rattle.base_words.specs.declared.instr.Cp0Op.{Cp0Op}
use Rattle.base_words.specs.declared.instr.Cp0Op.TheVariants.{TlbRead, TlbWriteIndexed, TlbWriteRandom, TlbProbe, ExceptionReturn}
use Rattle.base_words.specs.declared.instr.LoadKind.{LoadKind}
use Rattle.base_words.specs.declared.instr.LoadKind.TheVariants as loads
use Rattle.base_words.specs.declared.instr.StoreKind.{StoreKind}
use Rattle.base_words.specs.declared.instr.StoreKind.TheVariants as stores
use Rattle.base_words.specs.declared.place.Place.{Place}
use Rattle.base_words.specs.declared.place.Place.TheVariants.{Memory, Device}
use Rattle.base_words.specs.declared.regs.Regs.{Regs}
use Rattle.base_words.specs.Coprocessor.{interrupts, in_user_mode, register_at, reads, writes}
use Rattle.base_words.specs.Merging.{loaded_value, stored_word, load_unit, store_unit}
use Rattle.base_words.specs.OpcodeMap.{decoded}
use Rattle.base_words.specs.Instruction.{Effect, register, with_register, effect}
use Rattle.base_words.specs.declared.device.Transfer.{Transfer}
use Rattle.private_machine.specs.Access.{device_loaded, device_stored, loaded_from_device, stored_to_device, loaded, stored, linked_load, conditional_store, if_linked}
use Rattle.private_machine.specs.DevicePage.{device_register, transfer_of, DevicePage}
use Rattle.private_machine.specs.DeviceRegisters.{register_read, register_taken}
use Rattle.private_machine.specs.Devices.{disk_status, commanded, transferred, sending, device_taken, device_done, disk_read, may_send, with_sent, disk_written}
use Rattle.private_machine.specs.Links.{unlinked, unlinked_page, unlinked_others, written, page_filled, page_bytes, word_around, is_linked, line_of}
use Rattle.private_machine.specs.OwnStep.{led, answered, fetched, usable, executed, decided, attempted, settled, acted, own_step, joined, is_usable}
use Rattle.private_machine.specs.PrivateMachine.{PrivateMachine, vcpu, with_devices, left, on_vcpu, input_waits, is_open}
use Rattle.private_machine.specs.RegisterPage.{redirected}
use Rattle.private_machine.specs.Signals.{called}
use Rattle.private_machine.specs.Vcpu.{no_vcpu, with_registers, with_cp0, with_link, with_line_on, held_entry, system_done, raising, ticking, halting}
use Rattle.private_machine.specs.declared.vcpu.Vcpu.{Vcpu}
use Rattle.private_machine.specs.StepAct.{stores_at, stores_linked, writes_entry, system_act, act_of, act_executed, act_decided, act_next}
use Rattle.private_machine.specs.DeviceAct.{Act, StoresTo, ReadsDisk, WritesDisk, SendsPage, WritesEntry, NoAct, at_register, at_offset, stores_to_device}
use Rattle.base_words.specs.declared.device.DeviceRegister.{DeviceRegister}
use Rattle.base_words.specs.declared.device.DeviceRegister.TheVariants.{Console, Halt, Input, Queued, Number, Vcpus, Call, Answered, DiskBlock, DiskPage, DiskCommand, DiskStatus, SendPage, SendLength, Send, Armed, PacketLength, PacketSender, PacketTaken}
use Rattle.base_words.specs.declared.effect.Request.{Request}
use Rattle.base_words.specs.declared.effect.Request.TheVariants as asks
use Rattle.base_words.specs.declared.tlb.Entry.{Entry}
use Rattle.base_words.specs.declared.coprocessor.Cp0Registers.{Cp0Registers}
use Rattle.base_words.specs.Memory.{word_at}
use Rattle.base_words.specs.Bits.{flag}
use Rattle.base_words.specs.Tlb.{kept, entry_written}

abbrev pub tlbs : PrivateMachine → List (List Entry)
tlbs m = map (λ c. c.tlb) m.vcpus

abbrev Arms : PrivateMachine → PrivateMachine → Type 0
Arms m n = (q : ℕ) → n.devices.armed ≡ Some q → (m.devices.armed ≡ Some q) ⊎ (q < m.pages)

pub record Kept (m n : PrivateMachine) : Type 0 where
  pub tlbs_same : tlbs n ≡ tlbs m
  pub arms : Arms m n

-- after a write of an entry
pub record Wrote (m n : PrivateMachine) (v index : ℕ) : Type 0 where
  pub tlbs_other : tlbs n ≡ set (tlbs m) v (entry_written (vcpu m v).tlb index (held_entry (vcpu m v).cp0))
  pub arms : Arms m n

abbrev pub Left : PrivateMachine → ℕ → Act → PrivateMachine → Type 0
Left m v (StoresTo q) n = Kept m n
Left m v (ReadsDisk b q) n = Kept m n
Left m v (WritesDisk b q) n = Kept m n
Left m v (SendsPage q length to) n = Kept m n
Left m v (WritesEntry index) n = Wrote m n v index
Left m v NoAct n = Kept m n

set-tlbs : (cs : List Vcpu) (v : ℕ) (c : Vcpu) → map (λ c. c.tlb) (set cs v c) ≡ set (map (λ c. c.tlb) cs) v c.tlb
set-tlbs [] v c = refl
set-tlbs (d ∷ cs) zero c = refl
set-tlbs (d ∷ cs) (suc v) c = ap (λ (l : List (List Entry)). d.tlb ∷ l) (set-tlbs cs v c)

pub same-tlbs : (cs : List Vcpu) (v : ℕ) (c : Vcpu) → c.tlb ≡ (get_or cs v no_vcpu).tlb → map (λ c. c.tlb) (set cs v c) ≡ map (λ c. c.tlb) cs
same-tlbs [] v c e = refl
same-tlbs (d ∷ cs) zero c e = ap (λ (l : List Entry). l ∷ map (λ c. c.tlb) cs) e
same-tlbs (d ∷ cs) (suc v) c e = ap (λ (l : List (List Entry)). d.tlb ∷ l) (same-tlbs cs v c e)

called-tlbs : (word : ℕ) (cs : List Vcpu) → map (λ c. c.tlb) (called word cs) ≡ map (λ c. c.tlb) cs
called-tlbs word [] = refl
called-tlbs word (c ∷ cs) =
    let first : (if flag 0 word then with_line_on 4 true c else c).tlb ≡ c.tlb = elim (flag 0 word) as (λ b. (if b then with_line_on 4 true c else c).tlb ≡ c.tlb) [ true ↦ refl | false ↦ refl ] in
    λ i. first i ∷ called-tlbs (word / 2) cs i

page-tlbs : (page : ℕ) (cs : List Vcpu) → map (λ c. c.tlb) (map (unlinked_page page) cs) ≡ map (λ c. c.tlb) cs
page-tlbs page [] = refl
page-tlbs page (c ∷ cs) = ap (λ (l : List (List Entry)). c.tlb ∷ l) (page-tlbs page cs)

line-tlbs : (line : ℕ) (cs : List Vcpu) → map (λ c. c.tlb) (map (unlinked line) cs) ≡ map (λ c. c.tlb) cs
line-tlbs line [] = refl
line-tlbs line (c ∷ cs) = ap (λ (l : List (List Entry)). c.tlb ∷ l) (line-tlbs line cs)

pub others-tlbs : (line : ℕ) (cs : List Vcpu) (v : ℕ) → map (λ c. c.tlb) (unlinked_others line v cs) ≡ map (λ c. c.tlb) cs
others-tlbs line [] v = refl
others-tlbs line (c ∷ cs) zero = ap (λ (l : List (List Entry)). c.tlb ∷ l) (line-tlbs line cs)
others-tlbs line (c ∷ cs) (suc v) = ap (λ (l : List (List Entry)). c.tlb ∷ l) (others-tlbs line cs v)

keeps-all : (m : PrivateMachine) → Kept m m
keeps-all m = record { tlbs_same = refl; arms = λ q e. inl e }

-- a virtual processor changes, but not its TLB
keeps-on : (m n : PrivateMachine) (v : ℕ) (f : Vcpu → Vcpu) → Kept m n → (f (vcpu n v)).tlb ≡ (vcpu n v).tlb → Kept m (on_vcpu n v f)
keeps-on m n v f kept e = record { tlbs_same = same-tlbs n.vcpus v (f (vcpu n v)) e ∙ kept.tlbs_same; arms = kept.arms }

keeps-left : (m n : PrivateMachine) (v : ℕ) (regs : Regs) → Kept m n → Kept m (left n v regs)
keeps-left m n v regs kept = keeps-on m n v (with_registers regs) kept refl

keeps-filled : (m n : PrivateMachine) (q : ℕ) (bytes : List ℕ) → Kept m n → Kept m (page_filled n q bytes)
keeps-filled m n q bytes kept = record { tlbs_same = page-tlbs q n.vcpus ∙ kept.tlbs_same; arms = kept.arms }

keeps-written : (m : PrivateMachine) (v offset word : ℕ) → Kept m (written m v offset word)
keeps-written m v offset word = record { tlbs_same = others-tlbs (line_of offset) m.vcpus v; arms = λ q e. inl e }

transferred-left : (m n : PrivateMachine) (t : Transfer) (command : ℕ) → Kept m n → Kept m (transferred n t command)
transferred-left m n t command kept = elim (command == 1) as (λ b. Kept m (if b then disk_read n t else disk_written n t)) [
  | true ↦ keeps-filled m n t.page (slice_index_or n.disk t.block []) kept
  | false ↦ record { tlbs_same = kept.tlbs_same; arms = kept.arms }
]

commanded-left : (m n : PrivateMachine) (v : ℕ) (t : Transfer) (command status : ℕ) → Kept m n → Kept m (commanded n v t command status)
commanded-left m n v t command status kept =
    let done : Kept m (if status == 0 then transferred n t command else n) = elim (status == 0) as (λ b. Kept m (if b then transferred n t command else n)) [ true ↦ transferred-left m n t command kept | false ↦ kept ] in
    record { tlbs_same = done.tlbs_same; arms = done.arms }

sending-left : (m n : PrivateMachine) (t : Transfer) (to : ℕ) → Kept m n → Kept m (sending n t to)
sending-left m n t to kept = elim (may_send n t) as (λ b. Kept m (if b then with_devices n (with_sent n.devices to (page_bytes n t.send_page t.send_length)) else n)) [
  | true ↦ record { tlbs_same = kept.tlbs_same; arms = kept.arms }
  | false ↦ kept
]

arming : (value pages : ℕ) (q : ℕ) → (if nat_lt value pages then Some value else None) ≡ Some q → q < pages
arming value pages q e = (elim (nat_lt value pages) as (λ b. nat_lt value pages ≡ b → (if b then Some value else None) ≡ Some q → q < pages) [
  | true ↦ λ yes e. let is : value ≡ q = cc in subst (λ (k : ℕ). k < pages) is (ltb-true value pages yes)
  | false ↦ λ not_it e. cc
]) refl e

-- a store to a register leaves TLBs as they were
register-kept : (m : PrivateMachine) (v : ℕ) (regs : Regs) (value : ℕ) (r : DeviceRegister) → Kept m (device_done (left m v regs) v value r)
register-kept m v regs value Console = record { tlbs_same = (keeps-left m m v regs (keeps-all m)).tlbs_same; arms = λ q e. inl e }
register-kept m v regs value Halt = keeps-on m (left m v regs) v halting (keeps-left m m v regs (keeps-all m)) refl
register-kept m v regs value Input = keeps-left m m v regs (keeps-all m)
register-kept m v regs value Queued = keeps-left m m v regs (keeps-all m)
register-kept m v regs value Number = keeps-left m m v regs (keeps-all m)
register-kept m v regs value Vcpus = keeps-left m m v regs (keeps-all m)
register-kept m v regs value Call = record { tlbs_same = called-tlbs value (left m v regs).vcpus ∙ (keeps-left m m v regs (keeps-all m)).tlbs_same; arms = λ q e. inl e }
register-kept m v regs value Answered = keeps-on m (left m v regs) v (with_line_on 4 false) (keeps-left m m v regs (keeps-all m)) refl
register-kept m v regs value DiskBlock = record { tlbs_same = (keeps-left m m v regs (keeps-all m)).tlbs_same; arms = λ q e. inl e }
register-kept m v regs value DiskPage = record { tlbs_same = (keeps-left m m v regs (keeps-all m)).tlbs_same; arms = λ q e. inl e }
register-kept m v regs value DiskCommand = commanded-left m (left m v regs) v (transfer_of m.devices v) value (disk_status (left m v regs) (transfer_of m.devices v) value) (keeps-left m m v regs (keeps-all m))
register-kept m v regs value DiskStatus = keeps-left m m v regs (keeps-all m)
register-kept m v regs value SendPage = record { tlbs_same = (keeps-left m m v regs (keeps-all m)).tlbs_same; arms = λ q e. inl e }
register-kept m v regs value SendLength = record { tlbs_same = (keeps-left m m v regs (keeps-all m)).tlbs_same; arms = λ q e. inl e }
register-kept m v regs value Send = sending-left m (left m v regs) (transfer_of (left m v regs).devices v) value (keeps-left m m v regs (keeps-all m))
register-kept m v regs value Armed = record { tlbs_same = (keeps-left m m v regs (keeps-all m)).tlbs_same; arms = λ q e. inr (arming value m.pages q e) }
register-kept m v regs value PacketLength = keeps-left m m v regs (keeps-all m)
register-kept m v regs value PacketSender = keeps-left m m v regs (keeps-all m)
register-kept m v regs value PacketTaken = keeps-on m (left m v regs) 0 (with_line_on 3 false) (keeps-left m m v regs (keeps-all m)) refl

register-after : (m : PrivateMachine) (v : ℕ) (regs : Regs) (value : ℕ) (r : DeviceRegister) → Left m v (at_register m (transfer_of m.devices v) value r) (device_done (left m v regs) v value r)
register-after m v regs value r = plain (at_register m (transfer_of m.devices v) value r) (register-kept m v regs value r) (no-entry m (transfer_of m.devices v) value r)
  where
    NotEntry : Act → Type 0
    NotEntry (WritesEntry index) = ⊥
    NotEntry act = Unit {0}

    plain : (act : Act) {n : PrivateMachine} → Kept m n → NotEntry act → Left m v act n
    plain (StoresTo q) kept is = kept
    plain (ReadsDisk b q) kept is = kept
    plain (WritesDisk b q) kept is = kept
    plain (SendsPage q length to) kept is = kept
    plain (WritesEntry index) kept is = absurd is
    plain NoAct kept is = kept

    no-entry : (m : PrivateMachine) (t : Transfer) (value : ℕ) (r : DeviceRegister) → NotEntry (at_register m t value r)
    no-entry m t value r = grind arith

-- an exception
raised-after : (m : PrivateMachine) (v : ℕ) (x : Exception) → Kept m (settled m v (Err x))
raised-after m v x = keeps-on m m v (raising x) (keeps-all m) refl

offset-after : (m : PrivateMachine) (v : ℕ) (regs : Regs) (value : ℕ) (o : Option DeviceRegister) → Left m v (at_offset m (transfer_of m.devices v) value o) (settled m v (device_stored m v regs value o))
offset-after m v regs value None = raised-after m v (BusError Store)
offset-after m v regs value (Some r) = register-after m v regs value r

device-after : (m : PrivateMachine) (v : ℕ) (regs : Regs) (kind : StoreKind) (value offset : ℕ) → Left m v (stores_to_device m (transfer_of m.devices v) kind offset value) (settled m v (stored_to_device m v regs kind value offset))
device-after m v regs stores.Byte value offset = raised-after m v (BusError Store)
device-after m v regs stores.HalfWord value offset = raised-after m v (BusError Store)
device-after m v regs stores.Word value offset = offset-after m v regs value (device_register offset)
device-after m v regs stores.WordLeft value offset = raised-after m v (BusError Store)
device-after m v regs stores.WordRight value offset = raised-after m v (BusError Store)

stored-after : (m : PrivateMachine) (v : ℕ) (regs : Regs) (kind : StoreKind) (value : ℕ) (place : Result Place Exception) → Left m v (stores_at m (transfer_of m.devices v) kind value place) (settled m v (stored m v regs kind value place))
stored-after m v regs kind value (Err x) = raised-after m v x
stored-after m v regs kind value (Ok (Memory offset)) = keeps-left m (written m v offset (stored_word kind (word_around m offset) value (offset % 4))) v regs (keeps-written m v offset (stored_word kind (word_around m offset) value (offset % 4)))
stored-after m v regs kind value (Ok (Device offset)) = device-after m v regs kind value offset

taken-armed : (d : DevicePage) (r : DeviceRegister) → (register_taken d r).armed ≡ d.armed
taken-armed d r = grind arith

taken-kept : (m : PrivateMachine) (r : DeviceRegister) → Kept m (device_taken m r)
taken-kept m r =
    let n = with_devices m (register_taken m.devices r) in
    keeps-on m n 0 (with_line_on 2 (input_waits n.devices)) (record { tlbs_same = refl; arms = λ q e. inl (sym (taken-armed m.devices r) ∙ e) }) refl

register-read : (m : PrivateMachine) (v : ℕ) (regs : Regs) (target : ℕ) (r : DeviceRegister) → Kept m (settled m v (device_loaded m v regs target (Some r)))
register-read m v regs target r = keeps-left m (device_taken m r) v (with_register regs target (register_read v m.devices r)) (taken-kept m r)

offset-read : (m : PrivateMachine) (v : ℕ) (regs : Regs) (target : ℕ) (o : Option DeviceRegister) → Kept m (settled m v (device_loaded m v regs target o))
offset-read m v regs target None = raised-after m v (BusError Load)
offset-read m v regs target (Some r) = register-read m v regs target r

device-read : (m : PrivateMachine) (v : ℕ) (regs : Regs) (kind : LoadKind) (target offset : ℕ) → Kept m (settled m v (loaded_from_device m v regs kind target offset))
device-read m v regs loads.Byte target offset = raised-after m v (BusError Load)
device-read m v regs loads.ByteUnsigned target offset = raised-after m v (BusError Load)
device-read m v regs loads.HalfWord target offset = raised-after m v (BusError Load)
device-read m v regs loads.HalfWordUnsigned target offset = raised-after m v (BusError Load)
device-read m v regs loads.Word target offset = offset-read m v regs target (device_register offset)
device-read m v regs loads.WordLeft target offset = raised-after m v (BusError Load)
device-read m v regs loads.WordRight target offset = raised-after m v (BusError Load)

loaded-after : (m : PrivateMachine) (v : ℕ) (regs : Regs) (kind : LoadKind) (target : ℕ) (place : Result Place Exception) → Kept m (settled m v (loaded m v regs kind target place))
loaded-after m v regs kind target (Err x) = raised-after m v x
loaded-after m v regs kind target (Ok (Memory offset)) = keeps-left m m v (with_register regs target (loaded_value kind (word_around m offset) (register regs target) (offset % 4))) (keeps-all m)
loaded-after m v regs kind target (Ok (Device offset)) = device-read m v regs kind target offset

linked-after : (m : PrivateMachine) (v : ℕ) (regs : Regs) (target : ℕ) (place : Result Place Exception) → Kept m (settled m v (linked_load m v regs target place))
linked-after m v regs target (Err x) = raised-after m v x
linked-after m v regs target (Ok (Memory offset)) = keeps-on m (left m v (with_register regs target (word_at m.memory offset))) v (with_link (Some (line_of offset))) (keeps-left m m v (with_register regs target (word_at m.memory offset)) (keeps-all m)) refl
linked-after m v regs target (Ok (Device offset)) = raised-after m v (BusError Load)

conditional-after : (m : PrivateMachine) (v : ℕ) (regs : Regs) (target value : ℕ) (place : Result Place Exception) → Left m v (stores_linked place) (settled m v (conditional_store m v regs target value place))
conditional-after m v regs target value (Err x) = raised-after m v x
conditional-after m v regs target value (Ok (Memory offset)) = elim (is_linked (vcpu m v).link (line_of offset)) as (λ b. Kept m (settled m v (Ok (if_linked b m v regs target value offset)))) [
  | true ↦ keeps-on m (left (written m v offset value) v (with_register regs target 1)) v (with_link None) (keeps-left m (written m v offset value) v (with_register regs target 1) (keeps-written m v offset value)) refl
  | false ↦ keeps-on m (left m v (with_register regs target 0)) v (with_link None) (keeps-left m m v (with_register regs target 0) (keeps-all m)) refl
]
conditional-after m v regs target value (Ok (Device offset)) = raised-after m v (BusError Store)

left-vcpu : (cs : List Vcpu) (v : ℕ) (regs : Regs) → ((get_or (set cs v (with_registers regs (get_or cs v no_vcpu))) v no_vcpu).tlb ≡ (get_or cs v no_vcpu).tlb) × ((get_or (set cs v (with_registers regs (get_or cs v no_vcpu))) v no_vcpu).cp0 ≡ (get_or cs v no_vcpu).cp0)
left-vcpu [] v regs = (refl, refl)
left-vcpu (c ∷ cs) zero regs = (refl, refl)
left-vcpu (c ∷ cs) (suc v) regs = left-vcpu cs v regs

set-own : (cs : List Vcpu) (v : ℕ) → set (map (λ c. c.tlb) cs) v (get_or cs v no_vcpu).tlb ≡ map (λ c. c.tlb) cs
set-own [] v = refl
set-own (c ∷ cs) zero = refl
set-own (c ∷ cs) (suc v) = ap (λ (l : List (List Entry)). c.tlb ∷ l) (set-own cs v)

-- an entry, at an index that coprocessor 0 tells
entry-left : (m : PrivateMachine) (v : ℕ) (regs : Regs) (at : Cp0Registers → ℕ) → Left m v (writes_entry m v (at (vcpu m v).cp0)) (on_vcpu (left m v regs) v (λ c. record c { tlb = entry_written c.tlb (at c.cp0) (held_entry c.cp0) }))
entry-left m v regs at =
    let c = vcpu (left m v regs) v in
    let same = left-vcpu m.vcpus v regs in
    let n = on_vcpu (left m v regs) v (λ c. record c { tlb = entry_written c.tlb (at c.cp0) (held_entry c.cp0) }) in
    let index = at (vcpu m v).cp0 in
    let full : tlbs n ≡ set (tlbs m) v (entry_written (vcpu m v).tlb index (held_entry (vcpu m v).cp0)) =
    set-tlbs (left m v regs).vcpus v (record c { tlb = entry_written c.tlb (at c.cp0) (held_entry c.cp0) })
    ∙ (λ i. set ((keeps-left m m v regs (keeps-all m)).tlbs_same i) v (entry_written (same.0 i) (at (same.1 i)) (held_entry (same.1 i)))) in
    (elim (nat_lt index (length (vcpu m v).tlb)) as (λ b. tlbs n ≡ set (tlbs m) v (if b then slice_set (vcpu m v).tlb index (kept (held_entry (vcpu m v).cp0)) else (vcpu m v).tlb) → nat_lt index (length (vcpu m v).tlb) ≡ b → Left m v (if b then WritesEntry index else NoAct) n) [
      | true ↦ λ e is. record { tlbs_other = full; arms = λ q e. inl e }
      | false ↦ λ e is. record { tlbs_same = e ∙ set-own m.vcpus v; arms = λ q e. inl e }
    ]) full refl

system-after : (m : PrivateMachine) (v : ℕ) (regs : Regs) (op : Cp0Op) → Left m v (system_act m v op) (settled m v (answered m v regs (asks.System op)))
system-after m v regs TlbRead = keeps-on m (left m v regs) v (system_done TlbRead) (keeps-left m m v regs (keeps-all m)) refl
system-after m v regs TlbWriteIndexed = entry-left m v regs (λ c. c.index.entry)
system-after m v regs TlbWriteRandom = entry-left m v regs (λ c. c.random)
system-after m v regs TlbProbe = keeps-on m (left m v regs) v (system_done TlbProbe) (keeps-left m m v regs (keeps-all m)) refl
system-after m v regs ExceptionReturn = keeps-on m (left m v regs) v (system_done ExceptionReturn) (keeps-left m m v regs (keeps-all m)) refl

request-after : (m : PrivateMachine) (v : ℕ) (regs : Regs) (r : Request) → Left m v (act_of m v r) (settled m v (answered m v regs r))
request-after m v regs asks.Nothing = keeps-left m m v regs (keeps-all m)
request-after m v regs (asks.Load kind address target) = loaded-after m v regs kind target (led m v (load_unit kind) Load address)
request-after m v regs (asks.Store kind address value) = stored-after m v regs kind value (led m v (store_unit kind) Store address)
request-after m v regs (asks.LoadLinked address target) = linked-after m v regs target (led m v 4 Load address)
request-after m v regs (asks.StoreConditional address value target) = conditional-after m v regs target value (led m v 4 Store address)
request-after m v regs (asks.ReadCp0 number target) = keeps-left m m v (with_register regs target (reads (vcpu m v).cp0 (register_at number))) (keeps-all m)
request-after m v regs (asks.WriteCp0 number value) = keeps-on m (left m v regs) v (λ c. with_cp0 (writes c.cp0 (register_at number) value) c) (keeps-left m m v regs (keeps-all m)) refl
request-after m v regs (asks.System op) = system-after m v regs op

executed-after : (m : PrivateMachine) (v : ℕ) (does : Result Effect Exception) → Left m v (act_executed m v does) (settled m v (executed m v does))
executed-after m v (Err x) = raised-after m v x
executed-after m v (Ok does) = request-after m v does.registers (redirected (is_open m v) does.request)

decided-after : (m : PrivateMachine) (v : ℕ) (word : Result ℕ Exception) → Left m v (act_decided m v word) (settled m v (decided m v word))
decided-after m v (Err x) = raised-after m v x
decided-after m v (Ok word) = executed-after m v (usable (is_usable word (in_user_mode (vcpu m v).cp0.status)) (effect (decoded word) (vcpu m v).registers))

acted-after : (m : PrivateMachine) (v : ℕ) → Left m v (act_next m v) (acted m v)
acted-after m v = elim (interrupts (vcpu m v).cp0) as (λ b. Left m v (if b then NoAct else act_decided m v (fetched m v)) (if b then on_vcpu m v (raising Interrupt) else settled m v (attempted m v))) [
  | true ↦ keeps-on m m v (raising Interrupt) (keeps-all m) refl
  | false ↦ decided-after m v (fetched m v)
]

ticked-after : (m n : PrivateMachine) (v : ℕ) (act : Act) → Left m v act n → Left m v act (on_vcpu n v ticking)
ticked-after m n v (StoresTo q) after = keeps-on m n v ticking after refl
ticked-after m n v (ReadsDisk b q) after = keeps-on m n v ticking after refl
ticked-after m n v (WritesDisk b q) after = keeps-on m n v ticking after refl
ticked-after m n v (SendsPage q length to) after = keeps-on m n v ticking after refl
ticked-after m n v (WritesEntry index) after = record { tlbs_other = same-tlbs n.vcpus v (ticking (vcpu n v)) refl ∙ after.tlbs_other; arms = after.arms }
ticked-after m n v NoAct after = keeps-on m n v ticking after refl

-- one own step of a virtual processor that hasn't halted
pub step-left : (m : PrivateMachine) (v : ℕ) → (vcpu m v).halted ≡ false → Left (joined m v) v (act_next (joined m v) v) (own_step m v)
step-left m v running =
    let j = joined m v in
    let both = ticked-after j (acted j v) v (act_next j v) (acted-after j v) in
    rw running both
