-- Where the hardware traps, but for no access that the guest grants on memory, the step at hand is no store into memory.
use Rattle.std.proofs.Common.{◌≡◌, ◌≢◌, ℕ, zero, suc, ◌+◌, ◌*◌, ◌/◌, ◌%◌, ◌==◌, Bool, true, false, not, ◌&&◌, if◌then◌else◌, Option, Some, None, Result, Ok, Err, List, [], ◌∷◌, length, set, get_or, refl, sym, ap, ◌∙◌, subst, arith, true≢false}
use Rattle.std.proofs.lemmas.Bool.{eqb-true}
use Rattle.base_words.specs.declared.regs.Regs.{Regs}
use Rattle.base_words.specs.declared.exception.Exception.{Exception}
use Rattle.base_words.specs.declared.exception.Use.{Use}
use Rattle.base_words.specs.declared.exception.Use.TheVariants.{Fetch, Store}
use Rattle.base_words.specs.declared.instr.Cp0Op.{Cp0Op}
use Rattle.base_words.specs.declared.instr.Instr.{Instr}
use Rattle.base_words.specs.declared.instr.Instr.TheVariants.{MoveFromCp0, MoveToCp0, Cp0, Reserved}
use Rattle.base_words.specs.declared.instr.Primary.TheVariants as primary
use Rattle.base_words.specs.declared.instr.StoreKind.{StoreKind}
use Rattle.base_words.specs.declared.place.Place.{Place}
use Rattle.base_words.specs.declared.place.Place.TheVariants.{Memory, Device}
use Rattle.base_words.specs.Coprocessor.{in_user_mode}
use Rattle.base_words.specs.Fields.{opcode}
use Rattle.base_words.specs.Memory.{word_at}
use Rattle.base_words.specs.Merging.{store_unit}
use Rattle.base_words.specs.OpcodeMap.{primary_map, cp0_instruction, instruction_at, decoded}
use Rattle.base_words.specs.Place.{Segment, Mapped, Direct, Outside, segment, is_store, place}
use Rattle.base_words.specs.Halves.{Half, is_of}
use Rattle.base_words.specs.Instruction.{Effect, effect}
use Rattle.base_words.specs.declared.device.Transfer.{Transfer}
use Rattle.private_machine.specs.DevicePage.{transfer_of}
use Rattle.private_machine.specs.Reaching.{NoHalf, Wanted, Sight, through_half, in_segment, reached, wanted, fetch_at, Lack, NoRange, DeadFrame, NoStore, Reached, at_half, is_open_to}
use Rattle.private_machine.specs.HardwareStep.{Trap, Line, Privileged, word_through, with_data, accesses, executes, fetches, hardware_step, data_trap, fetch_trap, decodes, asks_of}
use Rattle.private_machine.specs.Links.{word_offset}
use Rattle.private_machine.specs.OwnStep.{input_joined, joined, led, word_of, fetched, is_privileged, usable}
use Rattle.private_machine.specs.PrivateMachine.{PrivateMachine, vcpu, is_open}
use Rattle.private_machine.specs.Vcpu.{no_vcpu, space_of, with_line_on}
use Rattle.private_machine.specs.declared.vcpu.Vcpu.{Vcpu}
use Rattle.isolation_law.specs.Coherence.{Consistent}
use Rattle.isolation_law.specs.Content.{content}
use Rattle.isolation_law.specs.DirectStep.{with_inputs, sight}
use Rattle.isolation_law.specs.GuestState.{GuestState, vcpu_of}
use Rattle.private_machine.specs.StepAct.{stores_at, stores_linked, system_act, act_of, act_executed, act_decided, act_next}
use Rattle.isolation_law.specs.StepAct.{at_hand}
use Rattle.private_machine.specs.DeviceAct.{StoresTo, NoAct, stores_to_device}
use Rattle.isolation_law.specs.StepRows.{IsEmulated}
use Rattle.private_machine.specs.TrapAccess.{trapped_access, is_memory}
use Rattle.isolation_law.specs.Traps.{is_granted}
use Rattle.base_words.specs.declared.effect.Request.{Request}
use Rattle.base_words.specs.declared.effect.Request.TheVariants as asks
use Rattle.isolation_law.proofs.DirectProofs.{reached-ok, word-through}
use Rattle.isolation_law.proofs.PageProofs.{store-same, plain-wanted}
use Rattle.isolation_law.proofs.DirectContent.{content-inputs, led-through}
use Rattle.isolation_law.proofs.RefillProofs.{leads-fits}
use Rattle.std.specs.Prelude.{find}

-- an aligned access in the mode's ranges that doesn't reach its half is the one for which the hardware traps
through-err : (x : Sight) (w : Wanted) (lack : Lack) (o : Option Half) → through_half x w o ≡ Err lack → lack ≢ NoRange
through-err x w lack None e out = cc
through-err x w lack (Some h) e out = by (x.lost h.frame) (is_store w.purpose && not h.writable) e
  where
    by : (b c : Bool) → (if b then Err (DeadFrame (at_half h)) else if c then Err NoStore else Ok (at_half h)) ≡ Err lack → ⊥
    by true c e = cc
    by false true e = cc
    by false false e = cc

pub reached-err : (x : Sight) (w : Wanted) (lack : Lack) → (w.address % w.unit == 0) ≡ true → segment x.user w.address ≢ Outside → reached x w ≡ Err lack → lack ≢ NoRange
reached-err x w lack fits inside e = aligned (w.address % w.unit == 0) fits e
  where
    ranges : (g : Segment) → segment x.user w.address ≡ g → in_segment x w g ≡ Err lack → lack ≢ NoRange
    ranges Mapped at e = through-err x w lack (find (is_of (w.address / 4096) x.asid) x.tlb) e
    ranges Direct at e = through-err x w lack (find (is_of (w.address / 4096) x.asid) x.tlb) e
    ranges Outside at e = absurd (inside at)

    aligned : (b : Bool) → b ≡ true → (if b then in_segment x w (segment x.user w.address) else Err NoRange) ≡ Err lack → lack ≢ NoRange
    aligned true so e = ranges (segment x.user w.address) refl e
    aligned false so e = cc

pub fetch-for : (w : Wanted) (lack : Lack) → lack ≢ NoRange → trapped_access (fetch_trap w lack) ≡ Some w
fetch-for w NoRange out = absurd (out refl)
fetch-for w NoHalf out = refl
fetch-for w (DeadFrame there) out = refl
fetch-for w NoStore out = refl

data-for : (word : ℕ) (w : Wanted) (lack : Lack) → lack ≢ NoRange → trapped_access (data_trap word w lack) ≡ Some w
data-for word w NoRange out = absurd (out refl)
data-for word w NoHalf out = refl
data-for word w (DeadFrame there) out = refl
data-for word w NoStore out = refl

-- input that joins changes nothing of where addresses lead
pub led-joined : (m : PrivateMachine) (v unit : ℕ) (purpose : Use) (a : ℕ) → led (joined m v) v unit purpose a ≡ led m v unit purpose a
led-joined m v unit purpose a = elim (v == 0) as (λ b. led (if b then input_joined m else m) v unit purpose a ≡ led m v unit purpose a) [ true ↦ first m.vcpus v | false ↦ refl ]
  where
    first : (cs : List Vcpu) (v : ℕ) → place (space_of (get_or (set cs 0 (with_line_on 2 (not (length (input_joined m).devices.queue == 0)) (get_or cs 0 no_vcpu))) v no_vcpu)) m.pages unit purpose a ≡ place (space_of (get_or cs v no_vcpu)) m.pages unit purpose a
    first [] v = refl
    first (c ∷ cs) zero = refl
    first (c ∷ cs) (suc v) = refl

-- the device page has no pages of memory
device-none : (m : PrivateMachine) (t : Transfer) (kind : StoreKind) (offset value q : ℕ) → stores_to_device m t kind offset value ≡ StoresTo q → ⊥
device-none m t kind offset value q e = grind arith

system-none : (m : PrivateMachine) (v q : ℕ) (op : Cp0Op) → system_act m v op ≡ StoresTo q → ⊥
system-none m v q op e = grind arith

-- a word of coprocessor 0 asks for nothing of memory
abbrev pub OfSystem : Request → Type 0
OfSystem (asks.ReadCp0 number target) = Unit {0}
OfSystem (asks.WriteCp0 number value) = Unit {0}
OfSystem (asks.System op) = Unit {0}
OfSystem r = ⊥

abbrev IsSystem : Instr → Type 0
IsSystem (MoveFromCp0 a b) = Unit {0}
IsSystem (MoveToCp0 a b) = Unit {0}
IsSystem (Cp0 op) = Unit {0}
IsSystem (Reserved w) = Unit {0}
IsSystem i = ⊥

cp0-system : (w : ℕ) → IsSystem (cp0_instruction w)
cp0-system w = grind arith

effect-system : (i : Instr) (regs : Regs) (does : Effect) → IsSystem i → effect i regs ≡ Ok does → OfSystem does.request
effect-system i regs does system e = grind arith

pub privileged-asks : (w : ℕ) (regs : Regs) (does : Effect) → is_privileged w ≡ true → effect (decoded w) regs ≡ Ok does → OfSystem does.request
privileged-asks w regs does so e =
    effect-system (decoded w) regs does
    (subst (λ (n : ℕ). IsSystem (instruction_at (get_or primary_map n primary.Reserved) w)) (sym (eqb-true (opcode w) 16 so)) (cp0-system w))
    e

asked-none : (m : PrivateMachine) (v q : ℕ) (r : Request) → OfSystem r → act_of m v r ≡ StoresTo q → ⊥
asked-none m v q asks.Nothing is e = absurd is
asked-none m v q (asks.Load kind address target) is e = absurd is
asked-none m v q (asks.Store kind address value) is e = absurd is
asked-none m v q (asks.LoadLinked address target) is e = absurd is
asked-none m v q (asks.StoreConditional address value target) is e = absurd is
asked-none m v q (asks.ReadCp0 number target) is e = cc
asked-none m v q (asks.WriteCp0 number value) is e = cc
asked-none m v q (asks.System op) is e = system-none m v q op e

privileged-none : (m : PrivateMachine) (v q w : ℕ) (regs : Regs) (may : Bool) → is_privileged w ≡ true → act_executed m v (usable may (effect (decoded w) regs)) ≡ StoresTo q → ⊥
privileged-none m v q w regs false so e = cc
privileged-none m v q w regs true so e = by (effect (decoded w) regs) refl e
  where
    by : (r : Result Effect Exception) → effect (decoded w) regs ≡ r → act_executed m v r ≡ StoresTo q → ⊥
    by (Err x) is e = cc
    by (Ok does) is e = asked-none m v q does.request (privileged-asks w regs does so is) (ap (act_of m v) (sym (store-same m v q (is_open m v) does.request e)) ∙ e)

pub emulated-no-store : (s : GuestState) (p v : ℕ) → Consistent s → IsEmulated s p v → (q : ℕ) → at_hand s v ≢ StoresTo q
emulated-no-store s p v co row q is = line x.line refl traps (ap (λ (z : PrivateMachine). act_next z v) (content-inputs s v) ∙ is)
  where
    u : GuestState
    u = with_inputs s v

    m : PrivateMachine
    m = content u

    x : Sight
    x = sight u p v

    regs : Regs
    regs = (vcpu_of u v).registers

    trap : Trap
    trap = row.trap

    traps : hardware_step x u.pages regs ≡ Err trap
    traps = row.traps

    -- an access that leads to memory isn't what it trapped for
    not-for : (w : Wanted) (o : ℕ) → led m v w.unit w.purpose w.address ≡ Ok (Memory o) → trapped_access trap ≡ Some w → ⊥
    not-for w o leads for_it =
        let here : led (content s) v w.unit w.purpose w.address ≡ Ok (Memory o) =
        sym (led-joined (content s) v w.unit w.purpose w.address) ∙ ap (λ (z : PrivateMachine). led z v w.unit w.purpose w.address) (sym (content-inputs s v)) ∙ leads in
        let granted : is_granted s v (trapped_access trap) ≡ true = ap (is_granted s v) for_it ∙ ap is_memory here in
        true≢false (sym granted ∙ row.is_no_access)

    in-range : (w : Wanted) (o : ℕ) (lack : Lack) → led m v w.unit w.purpose w.address ≡ Ok (Memory o) → reached x w ≡ Err lack → lack ≢ NoRange
    in-range w o lack leads e =
        let fits = leads-fits x.user (vcpu m v).tlb x.asid m.pages w.unit w.purpose w.address o leads in
        reached-err x w lack fits.0 fits.1 e

    data_at_of : (word : ℕ) (h : Reached) (does : Effect) (w : Wanted) (o : ℕ) → led m v w.unit w.purpose w.address ≡ Ok (Memory o) → with_data word w h does (reached x w) ≡ Err trap → ⊥
    data_at_of word h does w o leads e = by (reached x w) refl e
      where
        by : (r : Result Reached Lack) → reached x w ≡ r → with_data word w h does r ≡ Err trap → ⊥
        by (Err lack) is e =
            let same : data_trap word w lack ≡ trap = cc in
            not-for w o leads (ap trapped_access (sym same) ∙ data-for word w lack (in-range w o lack leads is))
        by (Ok k) is e = cc

    request : (word : ℕ) (h : Reached) (does : Effect) (r : Request) → accesses x word h does (wanted r) ≡ Err trap → act_of m v r ≡ StoresTo q → ⊥
    request word h does asks.Nothing e at = cc
    request word h does (asks.Load kind address target) e at = cc
    request word h does (asks.Store kind address value) e at = by (led m v (store_unit kind) Store address) refl at
      where
        by : (r : Result Place Exception) → led m v (store_unit kind) Store address ≡ r → stores_at m (transfer_of m.devices v) kind value r ≡ StoresTo q → ⊥
        by (Err y) is at = cc
        by (Ok (Memory o)) is at = data_at_of word h does (record { purpose = Store; unit = store_unit kind; address = address }) o is e
        by (Ok (Device o)) is at = device-none m (transfer_of m.devices v) kind o value q at
    request word h does (asks.LoadLinked address target) e at = cc
    request word h does (asks.StoreConditional address value target) e at = by (led m v 4 Store address) refl at
      where
        by : (r : Result Place Exception) → led m v 4 Store address ≡ r → stores_linked r ≡ StoresTo q → ⊥
        by (Err y) is at = cc
        by (Ok (Memory o)) is at = data_at_of word h does (record { purpose = Store; unit = 4; address = address }) o is e
        by (Ok (Device o)) is at = cc
    request word h does (asks.ReadCp0 number target) e at = cc
    request word h does (asks.WriteCp0 number value) e at = cc
    request word h does (asks.System op) e at = system-none m v q op at

    asked : (word : ℕ) (h : Reached) (does : Effect) (o : Option Wanted) → wanted (asks_of x does).request ≡ o → accesses x word h (asks_of x does) o ≡ Err trap → act_of m v does.request ≡ StoresTo q → ⊥
    asked word h does None is e at = cc
    asked word h does (Some w) is e at = request word h (asks_of x does) does.request (ap (accesses x word h (asks_of x does)) (plain-wanted (is_open_to x) does.request w is) ∙ e) at

    does_it : (word : ℕ) (h : Reached) (r : Result Effect Exception) → executes x word h r ≡ Err trap → act_executed m v r ≡ StoresTo q → ⊥
    does_it word h (Err y) e at = cc
    does_it word h (Ok does) e at =
        let plainly = store-same m v q (is_open m v) does.request at in
        asked word h does (wanted (asks_of x does).request) refl e (ap (act_of m v) (sym plainly) ∙ at)

    word : (h : Reached) (w : ℕ) (b : Bool) → is_privileged w ≡ b → (if b then Err (Privileged w) else executes x w h (effect (decoded w) regs)) ≡ Err trap
        → act_executed m v (usable (not (b && in_user_mode (vcpu m v).cp0.status)) (effect (decoded w) regs)) ≡ StoresTo q → ⊥
    word h w true is e at = privileged-none m v q w regs (not (in_user_mode (vcpu m v).cp0.status)) is at
    word h w false is e at = does_it w h (effect (decoded w) regs) e at

    fetch : (r : Result Reached Lack) → reached x (fetch_at regs.pc) ≡ r → fetches x u.pages regs r ≡ Err trap → act_decided m v (fetched m v) ≡ StoresTo q → ⊥
    fetch (Err lack) is e at = by (led m v 4 Fetch regs.pc) refl at
      where
        by : (r : Result Place Exception) → led m v 4 Fetch regs.pc ≡ r → act_decided m v (word_of m r) ≡ StoresTo q → ⊥
        by (Err y) leads at = cc
        by (Ok (Memory o)) leads at =
            let same : fetch_trap (fetch_at regs.pc) lack ≡ trap = cc in
            not-for (fetch_at regs.pc) o leads (ap trapped_access (sym same) ∙ fetch-for (fetch_at regs.pc) lack (in-range (fetch_at regs.pc) o lack leads is))
        by (Ok (Device o)) leads at = cc
    fetch (Ok reach) is e at =
        let r = reached-ok x (fetch_at regs.pc) reach is in
        let h = r.0 in
        let pc = regs.pc in
        let fits : pc % 4 ≡ 0 = eqb-true (pc % 4) 0 r.2.aligned in
        let low : h.page * 4096 + pc % 4096 ≡ word_offset (h.page * 4096 + pc % 4096) = omega arith in
        let read : fetched m v ≡ Ok (word_through s.pages (at_half h) pc) =
        ap (word_of m) (led-through s p v (fetch_at pc) h co row.runs.loaded r.2)
        ∙ (λ i. Ok (word_at m.memory (low i)))
        ∙ (λ i. Ok (word-through s p h pc co r.2.has i)) in
        let w = word_through s.pages (at_half h) pc in
        word (at_half h) w (is_privileged w) refl (subst (λ (z : Reached). decodes x regs z (word_through s.pages z pc) ≡ Err trap) r.1 e) (sym (ap (act_decided m v) read) ∙ at)

    line : (b : Bool) → x.line ≡ b → (if b then Err Line else fetches x u.pages regs (reached x (fetch_at regs.pc))) ≡ Err trap
        → (if b then NoAct else act_decided m v (fetched m v)) ≡ StoresTo q → ⊥
    line true is e at = cc
    line false is e at = fetch (reached x (fetch_at regs.pc)) refl e at
