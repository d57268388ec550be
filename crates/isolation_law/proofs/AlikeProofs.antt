-- Where the hardware traps, the register page makes no difference: neither to the trap, nor to the step that the monitor then makes.
use Rattle.std.proofs.Common.{◌≡◌, ℕ, ◌==◌, Bool, true, false, if◌then◌else◌, List, Option, Some, None, Result, Ok, Err, refl, sym, ap, ◌∙◌, subst, true≢false}
use Rattle.base_words.specs.declared.device.DeviceRegister.{DeviceRegister}
use Rattle.base_words.specs.declared.device.DeviceRegister.TheVariants.{Console, Halt, Input, Queued, Number, Vcpus, Call, Answered, DiskBlock, DiskPage, DiskCommand, DiskStatus, SendPage, SendLength, Send, Armed, PacketLength, PacketSender, PacketTaken}
use Rattle.base_words.specs.declared.device.Transfer.{Transfer}
use Rattle.base_words.specs.declared.effect.Request.{Request}
use Rattle.base_words.specs.declared.effect.Request.TheVariants as asks
use Rattle.base_words.specs.declared.exception.Exception.{Exception}
use Rattle.base_words.specs.declared.exception.Exception.TheVariants.{Interrupt}
use Rattle.base_words.specs.declared.exception.Use.TheVariants.{Fetch, Load, Store}
use Rattle.base_words.specs.declared.instr.LoadKind.{LoadKind}
use Rattle.base_words.specs.declared.instr.LoadKind.TheVariants as loads
use Rattle.base_words.specs.declared.instr.StoreKind.{StoreKind}
use Rattle.base_words.specs.declared.instr.StoreKind.TheVariants as stores
use Rattle.base_words.specs.declared.place.Place.{Place}
use Rattle.base_words.specs.declared.place.Place.TheVariants.{Memory, Device}
use Rattle.base_words.specs.declared.regs.Regs.{Regs}
use Rattle.base_words.specs.Coprocessor.{interrupts, in_user_mode}
use Rattle.base_words.specs.Instruction.{Effect, effect}
use Rattle.base_words.specs.Merging.{load_unit, store_unit}
use Rattle.base_words.specs.OpcodeMap.{decoded}
use Rattle.private_machine.specs.Access.{device_loaded, device_stored, loaded, stored, linked_load, conditional_store, if_linked}
use Rattle.private_machine.specs.Backing.{Page}
use Rattle.private_machine.specs.DevicePage.{device_register, transfer_of}
use Rattle.private_machine.specs.Devices.{disk_status, disk_read, disk_written, transferred, with_status_of, commanded, may_send, with_sent, sending, device_done}
use Rattle.private_machine.specs.HardwareStep.{Trap, Line, Privileged, fetch_trap, with_data, asks_of, accesses, executes, decodes, fetches, hardware_step, word_through}
use Rattle.private_machine.specs.Links.{is_linked, line_of, page_bytes}
use Rattle.private_machine.specs.OwnStep.{led, answered, fetched, usable, executed, decided, attempted, settled, acted, own_step, input_joined, joined, made, is_usable, is_privileged}
use Rattle.private_machine.specs.PrivateMachine.{PrivateMachine, vcpu, with_devices, left, on_vcpu, is_open}
use Rattle.private_machine.specs.Reaching.{Wanted, Lack, Sight, Reached, at_half, reached, fetch_at, wanted, is_open_to}
use Rattle.private_machine.specs.RegisterPage.{has_page, redirected}
use Rattle.private_machine.specs.Vcpu.{raising, ticking}
use Rattle.isolation_law.specs.PageAlike.{without_page, paged, paged_to}
use Rattle.isolation_law.specs.Coherence.{Coherent}
use Rattle.isolation_law.specs.Content.{content}
use Rattle.isolation_law.specs.DirectStep.{with_inputs, sight}
use Rattle.isolation_law.specs.GuestState.{GuestState, vcpu_of}
use Rattle.isolation_law.specs.StepRows.{IsEmulated}
use Rattle.isolation_law.specs.Traps.{is_granted}
use Rattle.private_machine.specs.TrapAccess.{trapped_access, is_memory}
use Rattle.private_machine.specs.DeviceAct.{NoAct}
use Rattle.private_machine.specs.StepAct.{stores_at, act_of, act_executed, act_decided, act_next}
use Rattle.isolation_law.specs.StepAct.{at_hand}
use Rattle.private_machine.specs.OwnStep.{word_of}
use Rattle.isolation_law.proofs.DirectProofs.{reached-ok}
use Rattle.isolation_law.proofs.DirectContent.{content-inputs}
use Rattle.isolation_law.proofs.PageProofs.{plain, plain-wanted}
use Rattle.isolation_law.proofs.RefillProofs.{leads-fits}
use Rattle.isolation_law.proofs.StepContent.{opens-alike}
use Rattle.isolation_law.proofs.TrapProofs.{OfSystem, privileged-asks, reached-err, fetch-for, led-joined}
use Rattle.isolation_law.proofs.TrapWords.{fetched-through}

-- the trap without the page
pub traps-without : (x : Sight) (pages : List Page) (regs : Regs) (trap : Trap) → hardware_step x pages regs ≡ Err trap → hardware_step (without_page x) pages regs ≡ Err trap
traps-without x pages regs trap e = line x.line e
  where
    by-lack : (word : ℕ) (at : Reached) (does more : Effect) (w : Wanted) (r : Result Reached Lack) → with_data word w at does r ≡ Err trap → with_data word w at more r ≡ Err trap
    by-lack word at does more w (Err lack) e = e
    by-lack word at does more w (Ok there) e = cc

    asked : (word : ℕ) (at : Reached) (does : Effect) (o : Option Wanted) → wanted (asks_of x does).request ≡ o → accesses x word at (asks_of x does) o ≡ Err trap → accesses (without_page x) word at does (wanted does.request) ≡ Err trap
    asked word at does None is e = cc
    asked word at does (Some w) is e = ap (accesses (without_page x) word at does) (plain-wanted (is_open_to x) does.request w is) ∙ by-lack word at (asks_of x does) does w (reached x w) e

    does-it : (word : ℕ) (at : Reached) (r : Result Effect Exception) → executes x word at r ≡ Err trap → executes (without_page x) word at r ≡ Err trap
    does-it word at (Err y) e = e
    does-it word at (Ok does) e = asked word at does (wanted (asks_of x does).request) refl e

    decides : (word : ℕ) (at : Reached) (b : Bool) → (if b then Err (Privileged word) else executes x word at (effect (decoded word) regs)) ≡ Err trap → (if b then Err (Privileged word) else executes (without_page x) word at (effect (decoded word) regs)) ≡ Err trap
    decides word at true e = e
    decides word at false e = does-it word at (effect (decoded word) regs) e

    fetch : (r : Result Reached Lack) → fetches x pages regs r ≡ Err trap → fetches (without_page x) pages regs r ≡ Err trap
    fetch (Err lack) e = e
    fetch (Ok at) e = decides (word_through pages at regs.pc) at (is_privileged (word_through pages at regs.pc)) e

    line : (b : Bool) → (if b then Err Line else fetches x pages regs (reached x (fetch_at regs.pc))) ≡ Err trap → (if b then Err Line else fetches (without_page x) pages regs (reached x (fetch_at regs.pc))) ≡ Err trap
    line true e = e
    line false e = fetch (reached x (fetch_at regs.pc)) e

-- the same machine with the page or without it
transferred-paged : (b : Bool) (m : PrivateMachine) (t : Transfer) (command : ℕ) → transferred (paged b m) t command ≡ paged b (transferred m t command)
transferred-paged b m t command = elim (command == 1) as (λ z. (if z then disk_read (paged b m) t else disk_written (paged b m) t) ≡ paged b (if z then disk_read m t else disk_written m t)) [ true ↦ refl | false ↦ refl ]

commanded-paged : (b : Bool) (m : PrivateMachine) (v : ℕ) (t : Transfer) (command status : ℕ) → commanded (paged b m) v t command status ≡ paged b (commanded m v t command status)
commanded-paged b m v t command status = elim (status == 0) as (λ z. with_status_of v status (if z then transferred (paged b m) t command else paged b m) ≡ paged b (with_status_of v status (if z then transferred m t command else m))) [
  | true ↦ ap (with_status_of v status) (transferred-paged b m t command)
  | false ↦ refl
]

sending-paged : (b : Bool) (m : PrivateMachine) (t : Transfer) (to : ℕ) → sending (paged b m) t to ≡ paged b (sending m t to)
sending-paged b m t to = elim (may_send m t) as (λ z. (if z then with_devices (paged b m) (with_sent m.devices to (page_bytes m t.send_page t.send_length)) else paged b m) ≡ paged b (if z then with_devices m (with_sent m.devices to (page_bytes m t.send_page t.send_length)) else m)) [ true ↦ refl | false ↦ refl ]

pub done-paged : (b : Bool) (m : PrivateMachine) (v value : ℕ) (r : DeviceRegister) → device_done (paged b m) v value r ≡ paged b (device_done m v value r)
done-paged b m v value DiskCommand = let t = transfer_of m.devices v in commanded-paged b m v t value (disk_status m t value)
done-paged b m v value Send = sending-paged b m (transfer_of m.devices v) value
done-paged b m v value Console = refl
done-paged b m v value Halt = refl
done-paged b m v value Input = refl
done-paged b m v value Queued = refl
done-paged b m v value Number = refl
done-paged b m v value Vcpus = refl
done-paged b m v value Call = refl
done-paged b m v value Answered = refl
done-paged b m v value DiskBlock = refl
done-paged b m v value DiskPage = refl
done-paged b m v value DiskStatus = refl
done-paged b m v value SendPage = refl
done-paged b m v value SendLength = refl
done-paged b m v value Armed = refl
done-paged b m v value PacketLength = refl
done-paged b m v value PacketSender = refl
done-paged b m v value PacketTaken = refl

device-stored-paged : (b : Bool) (m : PrivateMachine) (v : ℕ) (regs : Regs) (value : ℕ) (o : Option DeviceRegister) → device_stored (paged b m) v regs value o ≡ paged_to b (device_stored m v regs value o)
device-stored-paged b m v regs value None = refl
device-stored-paged b m v regs value (Some r) = ap (λ (n : PrivateMachine). Ok n) (done-paged b (left m v regs) v value r)

device-loaded-paged : (b : Bool) (m : PrivateMachine) (v : ℕ) (regs : Regs) (target : ℕ) (o : Option DeviceRegister) → device_loaded (paged b m) v regs target o ≡ paged_to b (device_loaded m v regs target o)
device-loaded-paged b m v regs target None = refl
device-loaded-paged b m v regs target (Some r) = refl

loaded-paged : (b : Bool) (m : PrivateMachine) (v : ℕ) (regs : Regs) (kind : LoadKind) (target : ℕ) (place : Result Place Exception) → loaded (paged b m) v regs kind target place ≡ paged_to b (loaded m v regs kind target place)
loaded-paged b m v regs kind target (Err x) = refl
loaded-paged b m v regs kind target (Ok (Memory offset)) = refl
loaded-paged b m v regs loads.Byte target (Ok (Device offset)) = refl
loaded-paged b m v regs loads.ByteUnsigned target (Ok (Device offset)) = refl
loaded-paged b m v regs loads.HalfWord target (Ok (Device offset)) = refl
loaded-paged b m v regs loads.HalfWordUnsigned target (Ok (Device offset)) = refl
loaded-paged b m v regs loads.Word target (Ok (Device offset)) = device-loaded-paged b m v regs target (device_register offset)
loaded-paged b m v regs loads.WordLeft target (Ok (Device offset)) = refl
loaded-paged b m v regs loads.WordRight target (Ok (Device offset)) = refl

stored-paged : (b : Bool) (m : PrivateMachine) (v : ℕ) (regs : Regs) (kind : StoreKind) (value : ℕ) (place : Result Place Exception) → stored (paged b m) v regs kind value place ≡ paged_to b (stored m v regs kind value place)
stored-paged b m v regs kind value (Err x) = refl
stored-paged b m v regs kind value (Ok (Memory offset)) = refl
stored-paged b m v regs stores.Byte value (Ok (Device offset)) = refl
stored-paged b m v regs stores.HalfWord value (Ok (Device offset)) = refl
stored-paged b m v regs stores.Word value (Ok (Device offset)) = device-stored-paged b m v regs value (device_register offset)
stored-paged b m v regs stores.WordLeft value (Ok (Device offset)) = refl
stored-paged b m v regs stores.WordRight value (Ok (Device offset)) = refl

linked-paged : (b : Bool) (m : PrivateMachine) (v : ℕ) (regs : Regs) (target : ℕ) (place : Result Place Exception) → linked_load (paged b m) v regs target place ≡ paged_to b (linked_load m v regs target place)
linked-paged b m v regs target (Err x) = refl
linked-paged b m v regs target (Ok (Memory offset)) = refl
linked-paged b m v regs target (Ok (Device offset)) = refl

conditional-paged : (b : Bool) (m : PrivateMachine) (v : ℕ) (regs : Regs) (target value : ℕ) (place : Result Place Exception) → conditional_store (paged b m) v regs target value place ≡ paged_to b (conditional_store m v regs target value place)
conditional-paged b m v regs target value (Err x) = refl
conditional-paged b m v regs target value (Ok (Memory offset)) =
    elim (is_linked (vcpu m v).link (line_of offset)) as (λ z. ◌≡◌ {A = Result PrivateMachine Exception} (Ok (if_linked z (paged b m) v regs target value offset)) (Ok (paged b (if_linked z m v regs target value offset)))) [ true ↦ refl | false ↦ refl ]
conditional-paged b m v regs target value (Ok (Device offset)) = refl

pub answered-paged : (b : Bool) (m : PrivateMachine) (v : ℕ) (regs : Regs) (r : Request) → answered (paged b m) v regs r ≡ paged_to b (answered m v regs r)
answered-paged b m v regs asks.Nothing = refl
answered-paged b m v regs (asks.Load kind address target) = loaded-paged b m v regs kind target (led m v (load_unit kind) Load address)
answered-paged b m v regs (asks.Store kind address value) = stored-paged b m v regs kind value (led m v (store_unit kind) Store address)
answered-paged b m v regs (asks.LoadLinked address target) = linked-paged b m v regs target (led m v 4 Load address)
answered-paged b m v regs (asks.StoreConditional address value target) = conditional-paged b m v regs target value (led m v 4 Store address)
answered-paged b m v regs (asks.ReadCp0 number target) = refl
answered-paged b m v regs (asks.WriteCp0 number value) = refl
answered-paged b m v regs (asks.System op) = refl

-- the word at hand asks nothing of a register
abbrev pub AsksPlain : PrivateMachine → ℕ → Type 0
AsksPlain m v = (word : ℕ) (does : Effect) → fetched m v ≡ Ok word → effect (decoded word) (vcpu m v).registers ≡ Ok does → redirected (is_open m v) does.request ≡ does.request

executed-paged : (m : PrivateMachine) (v : ℕ) (r : Result Effect Exception) → ((does : Effect) → r ≡ Ok does → redirected (is_open m v) does.request ≡ does.request) → executed (paged false m) v r ≡ paged_to false (executed m v r)
executed-paged m v (Err x) plainly = refl
executed-paged m v (Ok does) plainly =
    answered-paged false m v does.registers does.request ∙ ap (λ (q : Request). paged_to false (answered m v does.registers q)) (sym (plainly does refl))

decided-paged : (m : PrivateMachine) (v : ℕ) (f : Result ℕ Exception) → ((word : ℕ) (does : Effect) → f ≡ Ok word → effect (decoded word) (vcpu m v).registers ≡ Ok does → redirected (is_open m v) does.request ≡ does.request) → decided (paged false m) v f ≡ paged_to false (decided m v f)
decided-paged m v (Err x) plainly = refl
decided-paged m v (Ok word) plainly = by (is_usable word (in_user_mode (vcpu m v).cp0.status))
  where
    by : (z : Bool) → executed (paged false m) v (usable z (effect (decoded word) (vcpu m v).registers)) ≡ paged_to false (executed m v (usable z (effect (decoded word) (vcpu m v).registers)))
    by true = executed-paged m v (effect (decoded word) (vcpu m v).registers) (λ does is. plainly word does refl is)
    by false = refl

settled-paged : (m : PrivateMachine) (v : ℕ) (r : Result PrivateMachine Exception) → settled (paged false m) v (paged_to false r) ≡ paged false (settled m v r)
settled-paged m v (Ok after) = refl
settled-paged m v (Err x) = refl

acted-paged : (m : PrivateMachine) (v : ℕ) → (interrupts (vcpu m v).cp0 ≡ false → AsksPlain m v) → acted (paged false m) v ≡ paged false (acted m v)
acted-paged m v plainly = by (interrupts (vcpu m v).cp0) refl
  where
    by : (z : Bool) → interrupts (vcpu m v).cp0 ≡ z → (if z then on_vcpu (paged false m) v (raising Interrupt) else settled (paged false m) v (attempted (paged false m) v)) ≡ paged false (if z then on_vcpu m v (raising Interrupt) else settled m v (attempted m v))
    by true is = refl
    by false is = ap (settled (paged false m) v) (decided-paged m v (fetched m v) (plainly is)) ∙ settled-paged m v (attempted m v)

joined-paged : (m : PrivateMachine) (v : ℕ) → joined (paged false m) v ≡ paged false (joined m v)
joined-paged m v = elim (v == 0) as (λ z. (if z then input_joined (paged false m) else paged false m) ≡ paged false (if z then input_joined m else m)) [ true ↦ refl | false ↦ refl ]

-- an own step without the page, where the word at hand asks nothing of a register
pub own-paged : (m : PrivateMachine) (v : ℕ) → (vcpu m v).halted ≡ false → (interrupts (vcpu (joined m v) v).cp0 ≡ false → AsksPlain (joined m v) v) → own_step (paged false m) v ≡ paged false (own_step m v)
own-paged m v running plainly =
    let without : own_step (paged false m) v ≡ made (joined (paged false m) v) v = rw running refl in
    let within : own_step m v ≡ made (joined m v) v = rw running refl in
    without
    ∙ ap (λ (n : PrivateMachine). made n v) (joined-paged m v)
    ∙ ap (λ (n : PrivateMachine). on_vcpu n v ticking) (acted-paged (joined m v) v plainly)
    ∙ ap (paged false) (sym within)

-- nor does what the step at hand does with a page hang on it
act-executed-paged : (m : PrivateMachine) (v : ℕ) (r : Result Effect Exception) → ((does : Effect) → r ≡ Ok does → redirected (is_open m v) does.request ≡ does.request) → act_executed (paged false m) v r ≡ act_executed m v r
act-executed-paged m v (Err x) plainly = refl
act-executed-paged m v (Ok does) plainly = act-same m v does.request ∙ ap (act_of m v) (sym (plainly does refl))
  where
    act-same : (m : PrivateMachine) (v : ℕ) (r : Request) → act_of (paged false m) v r ≡ act_of m v r
    act-same m v asks.Nothing = refl
    act-same m v (asks.Load kind address target) = refl
    act-same m v (asks.Store kind address value) = stores-same m v kind value (led m v (store_unit kind) Store address)
      where
        stores-same : (m : PrivateMachine) (v : ℕ) (kind : StoreKind) (value : ℕ) (place : Result Place Exception) → stores_at (paged false m) (transfer_of m.devices v) kind value place ≡ stores_at m (transfer_of m.devices v) kind value place
        stores-same m v kind value (Err x) = refl
        stores-same m v kind value (Ok (Memory offset)) = refl
        stores-same m v kind value (Ok (Device offset)) = refl
    act-same m v (asks.LoadLinked address target) = refl
    act-same m v (asks.StoreConditional address value target) = refl
    act-same m v (asks.ReadCp0 number target) = refl
    act-same m v (asks.WriteCp0 number value) = refl
    act-same m v (asks.System op) = refl

act-decided-paged : (m : PrivateMachine) (v : ℕ) (f : Result ℕ Exception) → ((word : ℕ) (does : Effect) → f ≡ Ok word → effect (decoded word) (vcpu m v).registers ≡ Ok does → redirected (is_open m v) does.request ≡ does.request) → act_decided (paged false m) v f ≡ act_decided m v f
act-decided-paged m v (Err x) plainly = refl
act-decided-paged m v (Ok word) plainly = by (is_usable word (in_user_mode (vcpu m v).cp0.status))
  where
    by : (z : Bool) → act_executed (paged false m) v (usable z (effect (decoded word) (vcpu m v).registers)) ≡ act_executed m v (usable z (effect (decoded word) (vcpu m v).registers))
    by true = act-executed-paged m v (effect (decoded word) (vcpu m v).registers) (λ does is. plainly word does refl is)
    by false = refl

acts-paged : (m : PrivateMachine) (v : ℕ) → (interrupts (vcpu m v).cp0 ≡ false → AsksPlain m v) → act_next (paged false m) v ≡ act_next m v
acts-paged m v plainly = by (interrupts (vcpu m v).cp0) refl
  where
    by : (z : Bool) → interrupts (vcpu m v).cp0 ≡ z → (if z then NoAct else act_decided (paged false m) v (fetched (paged false m) v)) ≡ (if z then NoAct else act_decided m v (fetched m v))
    by true is = refl
    by false is = act-decided-paged m v (fetched m v) (plainly is)

-- what an instruction of coprocessor 0 asks is asked of no address
system-plain : (b : Bool) (r : Request) → OfSystem r → redirected b r ≡ r
system-plain true asks.Nothing is = absurd is
system-plain true (asks.Load kind address target) is = absurd is
system-plain true (asks.Store kind address value) is = absurd is
system-plain true (asks.LoadLinked address target) is = absurd is
system-plain true (asks.StoreConditional address value target) is = absurd is
system-plain true (asks.ReadCp0 number target) is = refl
system-plain true (asks.WriteCp0 number value) is = refl
system-plain true (asks.System op) is = refl
system-plain false r is = refl

-- the word at hand of a step that the monitor makes asks nothing of a register
trapped-plain : (s : GuestState) (p v : ℕ) → Coherent s → (row : IsEmulated s p v) → interrupts (vcpu_of (with_inputs s v) v).cp0 ≡ false → AsksPlain (content (with_inputs s v)) v
trapped-plain s p v co row off word does is_there effects = fetch (reached x (fetch_at regs.pc)) refl (sym (ap (λ (b : Bool). if b then Err Line else fetches x u.pages regs (reached x (fetch_at regs.pc))) off) ∙ row.traps)
  where
    u : GuestState
    u = with_inputs s v

    m : PrivateMachine
    m = content u

    x : Sight
    x = sight u p v

    regs : Regs
    regs = (vcpu_of u v).registers

    trap : Trap
    trap = row.trap

    open_alike : is_open m v ≡ is_open_to x
    open_alike = opens-alike s p v co.mirrors row.runs.running

    -- the fetch isn't what it trapped for, where it leads to memory
    not-for : (o : ℕ) → led m v 4 Fetch regs.pc ≡ Ok (Memory o) → trapped_access trap ≡ Some (fetch_at regs.pc) → ⊥
    not-for o leads for_it =
        let here : led (content s) v 4 Fetch regs.pc ≡ Ok (Memory o) =
        sym (led-joined (content s) v 4 Fetch regs.pc) ∙ ap (λ (z : PrivateMachine). led z v 4 Fetch regs.pc) (sym (content-inputs s v)) ∙ leads in
        let granted : is_granted s v (trapped_access trap) ≡ true = ap (is_granted s v) for_it ∙ ap is_memory here in
        true≢false (sym granted ∙ row.is_no_access)

    by-request : (at : Reached) (o : Option Wanted) → wanted (asks_of x does).request ≡ o → accesses x word at (asks_of x does) o ≡ Err trap → redirected (is_open m v) does.request ≡ does.request
    by-request at None is e = cc
    by-request at (Some w) is e = ap (λ (b : Bool). redirected b does.request) open_alike ∙ plain (is_open_to x) does.request w is

    by-word : (at : Reached) (b : Bool) → is_privileged word ≡ b → (if b then Err (Privileged word) else executes x word at (effect (decoded word) regs)) ≡ Err trap → redirected (is_open m v) does.request ≡ does.request
    by-word at true is e = system-plain (is_open m v) does.request (privileged-asks word regs does is effects)
    by-word at false is e = by-request at (wanted (asks_of x does).request) refl (ap (executes x word at) (sym effects) ∙ e)

    fetch : (r : Result Reached Lack) → reached x (fetch_at regs.pc) ≡ r → fetches x u.pages regs r ≡ Err trap → redirected (is_open m v) does.request ≡ does.request
    fetch (Err lack) is e = by (led m v 4 Fetch regs.pc) refl is_there
      where
        by : (r : Result Place Exception) → led m v 4 Fetch regs.pc ≡ r → word_of m r ≡ Ok word → redirected (is_open m v) does.request ≡ does.request
        by (Err y) leads there = cc
        by (Ok (Memory o)) leads there =
            let same : fetch_trap (fetch_at regs.pc) lack ≡ trap = cc in
            let fits = leads-fits x.user (vcpu m v).tlb x.asid m.pages 4 Fetch regs.pc o leads in
            absurd (not-for o leads (ap trapped_access (sym same) ∙ fetch-for (fetch_at regs.pc) lack (reached-err x (fetch_at regs.pc) lack fits.0 fits.1 is)))
        by (Ok (Device o)) leads there = cc
    fetch (Ok at) is e =
        let r = reached-ok x (fetch_at regs.pc) at is in
        let read = fetched-through s p v r.0 co.consistent row.runs.loaded r.2 in
        let number : word_through u.pages at regs.pc ≡ word = ap (λ (z : Reached). word_through u.pages z regs.pc) r.1 ∙ (let same : ◌≡◌ {A = Result ℕ Exception} (Ok (word_through s.pages (at_half r.0) regs.pc)) (Ok word) = sym read ∙ is_there in cc) in
        by-word at (is_privileged word) refl (subst (λ (k : ℕ). decodes x regs at k ≡ Err trap) number e)

-- a step that the monitor makes is the same without the page
pub emulated-alike : (s : GuestState) (p v : ℕ) → Coherent s → IsEmulated s p v → own_step (paged false (content s)) v ≡ paged false (own_step (content s) v)
emulated-alike s p v co row =
    own-paged (content s) v row.runs.running
    (subst (λ (n : PrivateMachine). interrupts (vcpu n v).cp0 ≡ false → AsksPlain n v) (content-inputs s v) (trapped-plain s p v co row))

pub hand-alike : (s : GuestState) (p v : ℕ) → Coherent s → IsEmulated s p v → act_next (joined (paged false (content s)) v) v ≡ at_hand s v
hand-alike s p v co row =
    let j = joined (content s) v in
    ap (λ (n : PrivateMachine). act_next n v) (joined-paged (content s) v)
    ∙ acts-paged j v (subst (λ (n : PrivateMachine). interrupts (vcpu n v).cp0 ≡ false → AsksPlain n v) (content-inputs s v) (trapped-plain s p v co row))

-- and where it leads before its tick is the same, with the page put back
executed-back : (m : PrivateMachine) (v : ℕ) (r : Result Effect Exception) → ((does : Effect) → r ≡ Ok does → redirected (is_open m v) does.request ≡ does.request) → executed m v r ≡ paged_to m.register_page (executed (paged false m) v r)
executed-back m v (Err x) plainly = refl
executed-back m v (Ok does) plainly =
    ap (answered m v does.registers) (plainly does refl) ∙ answered-paged m.register_page (paged false m) v does.registers does.request

decided-back : (m : PrivateMachine) (v : ℕ) (f : Result ℕ Exception) → ((word : ℕ) (does : Effect) → f ≡ Ok word → effect (decoded word) (vcpu m v).registers ≡ Ok does → redirected (is_open m v) does.request ≡ does.request)
    → decided m v f ≡ paged_to m.register_page (decided (paged false m) v f)
decided-back m v (Err x) plainly = refl
decided-back m v (Ok word) plainly = by (is_usable word (in_user_mode (vcpu m v).cp0.status))
  where
    by : (z : Bool) → executed m v (usable z (effect (decoded word) (vcpu m v).registers)) ≡ paged_to m.register_page (executed (paged false m) v (usable z (effect (decoded word) (vcpu m v).registers)))
    by true = executed-back m v (effect (decoded word) (vcpu m v).registers) (λ does is. plainly word does refl is)
    by false = refl

joined-page : (m : PrivateMachine) (v : ℕ) → (joined m v).register_page ≡ m.register_page
joined-page m v = elim (v == 0) as (λ z. (if z then input_joined m else m).register_page ≡ m.register_page) [ true ↦ refl | false ↦ refl ]

pub tried-alike : (s : GuestState) (p v : ℕ) → Coherent s → IsEmulated s p v → interrupts (vcpu (joined (content s) v) v).cp0 ≡ false
    → attempted (joined (content s) v) v ≡ paged_to (has_page s.around.profile) (attempted (joined (paged false (content s)) v) v)
tried-alike s p v co row off =
    let j = joined (content s) v in
    let plainly = subst (λ (n : PrivateMachine). interrupts (vcpu n v).cp0 ≡ false → AsksPlain n v) (content-inputs s v) (trapped-plain s p v co row) off in
    decided-back j v (fetched j v) plainly
    ∙ (λ i. paged_to (joined-page (content s) v i) (attempted (sym (joined-paged (content s) v) i) v))
