-- The register pages show what the registers read, whatever entry comes.
use Rattle.std.proofs.Common.{◌≡◌, ℕ, zero, suc, ◌%◌, Bool, true, false, ⊎_elim, Option, Some, None, List, [], ◌∷◌, length, map, set, get_or, refl, sym, ap, ◌∙◌, subst, arith}
use Rattle.std.proofs.lemmas.List.{map-set, set-get_or}
use Rattle.std.proofs.Math.Seq.{map-set_same}
use Rattle.base_words.specs.declared.coprocessor.Cp0Registers.{Cp0Registers}
use Rattle.base_words.specs.declared.effect.Request.{Request}
use Rattle.base_words.specs.declared.effect.Request.TheVariants as asks
use Rattle.base_words.specs.declared.events.Event.{Event}
use Rattle.base_words.specs.declared.events.Event.TheVariants.{Load, Unload, Direct, Refill, Emulate, Begin, Ack, Finish, PacketIn, Discard, Skip, CellFails, End as Ending}
use Rattle.base_words.specs.declared.ids.ProcId.{ProcId}
use Rattle.base_words.specs.declared.ids.VcpuId.{VcpuId}
use Rattle.base_words.specs.declared.regs.Regs.{Regs}
use Rattle.base_words.specs.declared.trap.DataAccess.{DataAccess}
use Rattle.base_words.specs.declared.trap.DataAccess.TheVariants as at_data
use Rattle.base_words.specs.Coprocessor.{register_at, writes}
use Rattle.base_words.specs.Instruction.{register, with_register}
use Rattle.base_words.specs.Merging.{loaded_value, stored_word}
use Rattle.private_machine.specs.declared.register_page.RegBlock.{RegBlock}
use Rattle.private_machine.specs.declared.vcpu.Vcpu.{Vcpu}
use Rattle.private_machine.specs.DeviceAct.{Act, StoresTo, ReadsDisk, WritesDisk, SendsPage, WritesEntry, NoAct}
use Rattle.private_machine.specs.DirectAccess.{data_reached, line_at}
use Rattle.private_machine.specs.HardwareStep.{word_through}
use Rattle.private_machine.specs.Links.{is_linked, unlinked, unlinked_others}
use Rattle.private_machine.specs.Backing.{with_first}
use Rattle.private_machine.specs.Operation.{Packet}
use Rattle.private_machine.specs.OwnStep.{own_step}
use Rattle.private_machine.specs.Packet.{own_packet}
use Rattle.private_machine.specs.Reaching.{Reached, is_open_to}
use Rattle.private_machine.specs.RegisterPage.{has_page, block_of, block_for, written_to, read_from, block_after}
use Rattle.private_machine.specs.Vcpu.{no_vcpu, with_registers, with_cp0, with_link, ticking}
use Rattle.isolation_law.specs.Content.{content, with_own}
use Rattle.isolation_law.specs.DirectStep.{with_inputs, sight, data_noted}
use Rattle.isolation_law.specs.EndRows.{LetsGo}
use Rattle.isolation_law.specs.GuestState.{GuestState, page, vcpu_of, block_at, with_page, with_vcpu}
use Rattle.isolation_law.specs.MachineEvent.{Row}
use Rattle.isolation_law.specs.Mirrors.{Mirrors, blocks_for}
use Rattle.isolation_law.specs.MoveRows.{Finishes}
use Rattle.isolation_law.specs.PacketRows.{ComesToHand, Receives, EndsDelivery, with_received}
use Rattle.isolation_law.specs.Surroundings.{Surroundings}
use Rattle.isolation_law.specs.StepAct.{at_hand}
use Rattle.isolation_law.specs.StepRows.{act_done, taken_shared, shown_again, Steps, Emulates, EndsRead}
use Rattle.isolation_law.proofs.DirectContent.{Shows}
use Rattle.isolation_law.proofs.PageEffects.{Others, own-others, packet-words}
use Rattle.isolation_law.proofs.PageProofs.{OfPage, word-written}
use Rattle.isolation_law.proofs.StepContent.{joined-blocks, opens-alike, shows-it, asks-page, and-left}
use Rattle.isolation_law.proofs.Stepping.{stored, stored_if, regs_left, accessed, ticked, told, steps-after}
use Rattle.isolation_law.proofs.VcpuCounts.{by-tlbs, own-count}
use Rattle.isolation_law.proofs.AroundProofs.{row-around}
use Rattle.isolation_law.proofs.PacketProofs.{packet-tlbs}

-- one that keeps its words
same-blocks : (b : Bool) (cs : List Vcpu) (v : ℕ) (c : Vcpu) → block_for b c.cp0 ≡ block_for b (get_or cs v no_vcpu).cp0 → blocks_for b (set cs v c) ≡ blocks_for b cs
same-blocks b cs v c e = map-set_same (λ (d : Vcpu). block_for b d.cp0) cs v c no_vcpu e

map-blocks : (b : Bool) (f : Vcpu → Vcpu) → ((c : Vcpu) → block_for b (f c).cp0 ≡ block_for b c.cp0) → (cs : List Vcpu) → blocks_for b (map f cs) ≡ blocks_for b cs
map-blocks b f each [] = refl
map-blocks b f each (c ∷ cs) = λ i. each c i ∷ map-blocks b f each cs i

others-blocks : (b : Bool) (line : ℕ) (cs : List Vcpu) (v : ℕ) → blocks_for b (unlinked_others line v cs) ≡ blocks_for b cs
others-blocks b line [] v = refl
others-blocks b line (c ∷ cs) zero = ap (λ (l : List (Option RegBlock)). block_for b c.cp0 ∷ l) (map-blocks b (unlinked line) (λ d. refl) cs)
others-blocks b line (c ∷ cs) (suc v) = ap (λ (l : List (Option RegBlock)). block_for b c.cp0 ∷ l) (others-blocks b line cs v)

ticked-blocks : (b : Bool) (s : GuestState) (v : ℕ) → blocks_for b (ticked s v).vcpus ≡ blocks_for b s.vcpus
ticked-blocks true s v = same-blocks true s.vcpus v (ticking (vcpu_of s v)) refl
ticked-blocks false s v = same-blocks false s.vcpus v (ticking (vcpu_of s v)) refl

regs-blocks : (b : Bool) (s : GuestState) (v : ℕ) (regs : Regs) → blocks_for b (regs_left s v regs).vcpus ≡ blocks_for b s.vcpus
regs-blocks b s v regs = same-blocks b s.vcpus v (with_registers regs (vcpu_of s v)) refl

link-blocks : (b : Bool) (s : GuestState) (v : ℕ) (line : Option ℕ) → blocks_for b (with_vcpu s v (with_link line (vcpu_of s v))).vcpus ≡ blocks_for b s.vcpus
link-blocks b s v line = same-blocks b s.vcpus v (with_link line (vcpu_of s v)) refl

if-blocks : (b is : Bool) (u : GuestState) (v : ℕ) (h : Reached) (regs : Regs) (address value target : ℕ) → blocks_for b (stored_if is u v h regs address value target).vcpus ≡ blocks_for b u.vcpus
if-blocks b true u v h regs address value target =
    let s1 = stored u v h address value in
    link-blocks b (regs_left s1 v (with_register regs target 1)) v None ∙ regs-blocks b s1 v (with_register regs target 1) ∙ others-blocks b (line_at h address) u.vcpus v
if-blocks b false u v h regs address value target =
    link-blocks b (regs_left u v (with_register regs target 0)) v None ∙ regs-blocks b u v (with_register regs target 0)

-- coprocessor 0 after registers were left
regs-cp0 : (cs : List Vcpu) (v : ℕ) (regs : Regs) → (get_or (set cs v (with_registers regs (get_or cs v no_vcpu))) v no_vcpu).cp0 ≡ (get_or cs v no_vcpu).cp0
regs-cp0 [] v regs = refl
regs-cp0 (c ∷ cs) zero regs = refl
regs-cp0 (c ∷ cs) (suc v) regs = regs-cp0 cs v regs

-- a step, by what it asked: the block that is put back, and the words of all
quiet-step : (s : GuestState) (v : ℕ) (t : GuestState) → Mirrors s → blocks_for (has_page s.around.profile) t.vcpus ≡ blocks_for (has_page s.around.profile) (with_inputs s v).vcpus
    → set s.blocks v (block_at s v) ≡ blocks_for (has_page s.around.profile) (ticked t v).vcpus
quiet-step s v t mirrors same =
    let b = has_page s.around.profile in
    set-get_or s.blocks v None ∙ mirrors ∙ sym (joined-blocks b (content s) v) ∙ sym same ∙ sym (ticked-blocks b t v)

request-mirrors : (s : GuestState) (p v : ℕ) (h : Reached) (regs : Regs) (r : Request) → Mirrors s → Shows s p v → (is_open_to (sight (with_inputs s v) p v) ≡ true → has_page s.around.profile ≡ true) → OfPage (is_open_to (sight (with_inputs s v) p v)) r
    → set s.blocks v (block_after r (block_at s v)) ≡ blocks_for (has_page s.around.profile) (ticked (accessed (with_inputs s v) v h regs r) v).vcpus
request-mirrors s p v h regs asks.Nothing mirrors shows has is = let u = with_inputs s v in quiet-step s v (regs_left u v regs) mirrors (regs-blocks (has_page s.around.profile) u v regs)
request-mirrors s p v h regs (asks.Load kind address target) mirrors shows has is =
    let u = with_inputs s v in
    let new = with_register regs target (loaded_value kind (word_through u.pages h address) (register regs target) (address % 4)) in
    quiet-step s v (regs_left u v new) mirrors (regs-blocks (has_page s.around.profile) u v new)
request-mirrors s p v h regs (asks.Store kind address value) mirrors shows has is =
    let u = with_inputs s v in
    let b = has_page s.around.profile in
    let s1 = stored u v h address (stored_word kind (word_through u.pages h address) value (address % 4)) in
    quiet-step s v (regs_left s1 v regs) mirrors (regs-blocks b s1 v regs ∙ others-blocks b (line_at h address) u.vcpus v)
request-mirrors s p v h regs (asks.LoadLinked address target) mirrors shows has is =
    let u = with_inputs s v in
    let b = has_page s.around.profile in
    let new = with_register regs target (word_through u.pages h address) in
    quiet-step s v (with_vcpu (regs_left u v new) v (with_link (Some (line_at h address)) (vcpu_of (regs_left u v new) v))) mirrors (link-blocks b (regs_left u v new) v (Some (line_at h address)) ∙ regs-blocks b u v new)
request-mirrors s p v h regs (asks.StoreConditional address value target) mirrors shows has is =
    let u = with_inputs s v in
    let linked = is_linked (vcpu_of u v).link (line_at h address) in
    quiet-step s v (stored_if linked u v h regs address value target) mirrors (if-blocks (has_page s.around.profile) linked u v h regs address value target)
request-mirrors s p v h regs (asks.ReadCp0 number target) mirrors shows has is =
    let u = with_inputs s v in
    let new = read_from (block_at s v) regs number target in
    quiet-step s v (regs_left u v new) mirrors (regs-blocks (has_page s.around.profile) u v new)
request-mirrors s p v h regs (asks.WriteCp0 number value) mirrors shows has is =
    let u = with_inputs s v in
    let b = has_page s.around.profile in
    let c = (vcpu_of u v).cp0 in
    let s1 = regs_left u v regs in
    let d = vcpu_of s1 v in
    let next = with_cp0 (writes d.cp0 (register_at number) value) d in
    let word : written_to (block_at s v) number value ≡ block_for b next.cp0 =
    ap (λ (o : Option RegBlock). written_to o number value) (shows is.0)
    ∙ ap (λ (x : RegBlock). Some x) (word-written c number value is.1)
    ∙ ap (λ (x : Cp0Registers). Some (block_of (writes x (register_at number) value))) (sym (regs-cp0 u.vcpus v regs))
    ∙ ap (λ (z : Bool). block_for z next.cp0) (sym (has is.0)) in
    ap (set s.blocks v) word
    ∙ ap (λ (l : List (Option RegBlock)). set l v (block_for b next.cp0)) (mirrors ∙ sym (joined-blocks b (content s) v) ∙ sym (regs-blocks b u v regs))
    ∙ sym (map-set (λ (x : Vcpu). block_for b x.cp0) s1.vcpus v next)
    ∙ sym (ticked-blocks b (with_vcpu s1 v next) v)
request-mirrors s p v h regs (asks.System op) mirrors shows has is = absurd is

noted-blocks : (p : ℕ) (a : DataAccess) (s : GuestState) → (data_noted p a s).blocks ≡ s.blocks
noted-blocks p at_data.NoData s = refl
noted-blocks p (at_data.Load page frame) s = refl
noted-blocks p (at_data.Store page frame) s = refl

noted-vcpus : (p : ℕ) (a : DataAccess) (s : GuestState) → (data_noted p a s).vcpus ≡ s.vcpus
noted-vcpus p at_data.NoData s = refl
noted-vcpus p (at_data.Load page frame) s = refl
noted-vcpus p (at_data.Store page frame) s = refl

accessed-stay : (s : GuestState) (v : ℕ) (h : Reached) (regs : Regs) (r : Request) → (accessed s v h regs r).blocks ≡ s.blocks
accessed-stay s v h regs asks.Nothing = refl
accessed-stay s v h regs (asks.Load kind address target) = refl
accessed-stay s v h regs (asks.Store kind address value) = refl
accessed-stay s v h regs (asks.LoadLinked address target) = refl
accessed-stay s v h regs (asks.StoreConditional address value target) = by (is_linked (vcpu_of s v).link (line_at h address))
  where
    by : (b : Bool) → (stored_if b s v h regs address value target).blocks ≡ s.blocks
    by true = refl
    by false = refl
accessed-stay s v h regs (asks.ReadCp0 number target) = refl
accessed-stay s v h regs (asks.WriteCp0 number value) = refl
accessed-stay s v h regs (asks.System op) = refl

-- a step through the TLB
steps-mirrors : (s t : GuestState) (p : ProcId) (v : VcpuId) → Mirrors s → Steps s p.0 v.0 t → Mirrors t
steps-mirrors s t p v mirrors row =
    let u = with_inputs s v.0 in
    let b = has_page s.around.profile in
    let d = row.done in
    let h = data_reached d in
    let regs = d.does.registers in
    let r = d.does.request in
    let a = told s v.0 d in
    let x = ticked (accessed u v.0 h regs r) v.0 in
    let new = block_after r (block_at s v.0) in
    let after = steps-after s t p.0 v.0 row in
    let running = row.runs.running in
    let has : is_open_to (sight u p.0 v.0) ≡ true → b ≡ true = λ is_open. and-left b _ (opens-alike s p.0 v.0 mirrors running ∙ is_open) in
    ap (λ (z : GuestState). z.blocks) after
    ∙ ap (λ (l : List (Option RegBlock)). set l v.0 new) (noted-blocks p.0 a x ∙ accessed-stay u v.0 h regs r)
    ∙ request-mirrors s p.0 v.0 h regs r mirrors (shows-it s p.0 v.0 mirrors running) has (asks-page s t p.0 v.0 row)
    ∙ ap (blocks_for b) (sym (ap (λ (z : GuestState). z.vcpus) after ∙ noted-vcpus p.0 a x))
    ∙ ap (λ (w : Surroundings). blocks_for (has_page w.profile) t.vcpus) (sym (row-around s t (Direct p v) row))

-- words that stay, in lists of the same length
all-same : (b : Bool) (cs ds : List Vcpu) → length ds ≡ length cs → ((u : ℕ) → block_for b (get_or ds u no_vcpu).cp0 ≡ block_for b (get_or cs u no_vcpu).cp0) → blocks_for b cs ≡ blocks_for b ds
all-same b [] [] long same = refl
all-same b [] (d ∷ ds) long same = cc
all-same b (c ∷ cs) [] long same = cc
all-same b (c ∷ cs) (d ∷ ds) long same = λ i. sym (same 0) i ∷ all-same b cs ds (omega arith) (λ u. same (suc u)) i

others-set : (b : Bool) (cs ds : List Vcpu) (v : ℕ) → length ds ≡ length cs → Others b v cs ds → set (blocks_for b cs) v (block_for b (get_or ds v no_vcpu).cp0) ≡ blocks_for b ds
others-set b [] [] v long others = refl
others-set b [] (d ∷ ds) v long others = cc
others-set b (c ∷ cs) [] v long others = cc
others-set b (c ∷ cs) (d ∷ ds) zero long others = ap (λ (l : List (Option RegBlock)). block_for b d.cp0 ∷ l) (all-same b cs ds (omega arith) (λ u. others (suc u) (λ e. absurd (omega arith))))
others-set b (c ∷ cs) (d ∷ ds) (suc v) long others = λ i. sym (others 0 (λ e. absurd (omega arith))) i ∷ others-set b cs ds v (omega arith) (λ u other. others (suc u) (λ e. other (omega arith))) i

-- a step by the monitor's hand
shown-mirrors : (s y : GuestState) (v : ℕ) → Mirrors s → (vcpu_of s v).halted ≡ false → y.blocks ≡ s.blocks → y.around ≡ s.around → Mirrors (shown_again v (with_own (own_step (content s) v) y))
shown-mirrors s y v mirrors running blocks around =
    let b = has_page s.around.profile in
    let n = own_step (content s) v in
    ap (λ (w : Surroundings). set y.blocks v (block_for (has_page w.profile) (get_or n.vcpus v no_vcpu).cp0)) around
    ∙ ap (λ (l : List (Option RegBlock)). set l v (block_for b (get_or n.vcpus v no_vcpu).cp0)) (blocks ∙ mirrors)
    ∙ others-set b s.vcpus n.vcpus v (own-count s v running) (own-others b (content s) v)
    ∙ ap (λ (w : Surroundings). blocks_for (has_page w.profile) n.vcpus) (sym around)

act-blocks : (s : GuestState) (p v : ℕ) (a : Act) → (act_done s p v a).blocks ≡ s.blocks
act-blocks s p v (StoresTo q) = refl
act-blocks s p v (ReadsDisk b q) = refl
act-blocks s p v (WritesDisk b q) = refl
act-blocks s p v (SendsPage q length to) = refl
act-blocks s p v (WritesEntry index) = refl
act-blocks s p v NoAct = refl

act-around : (s : GuestState) (p v : ℕ) (a : Act) → (act_done s p v a).around ≡ s.around
act-around s p v (StoresTo q) = refl
act-around s p v (ReadsDisk b q) = refl
act-around s p v (WritesDisk b q) = refl
act-around s p v (SendsPage q length to) = refl
act-around s p v (WritesEntry index) = refl
act-around s p v NoAct = refl

-- a packet
received-mirrors : (s y : GuestState) (packet : Packet) → Mirrors s → y.blocks ≡ s.blocks → y.around ≡ s.around → Mirrors (with_received s packet y)
received-mirrors s y packet mirrors blocks around =
    let b = has_page s.around.profile in
    let n = own_packet (content s) packet.from packet.bytes in
    blocks ∙ mirrors
    ∙ all-same b s.vcpus n.vcpus (by-tlbs n.vcpus s.vcpus (packet-tlbs (content s) packet.from packet.bytes s.devices.armed)) (packet-words b (content s) packet.from packet.bytes s.devices.armed)
    ∙ ap (λ (w : Surroundings). blocks_for (has_page w.profile) n.vcpus) (sym around)

pub hand-mirrors : (s t : GuestState) → Mirrors s → ComesToHand s t → Mirrors t
hand-mirrors s t mirrors x = subst Mirrors (sym x.after) mirrors

pub row-mirrors : (s t : GuestState) (e : Event) → Mirrors s → Row s e t → Mirrors t
row-mirrors s t (Load p v) mirrors row = subst Mirrors (sym row.after) mirrors
row-mirrors s t (Unload p) mirrors row = subst Mirrors (sym row.after) mirrors
row-mirrors s t (Direct p v) mirrors row = steps-mirrors s t p v mirrors row
row-mirrors s t (Refill p) mirrors row = subst Mirrors (sym row.after) mirrors
row-mirrors s t (Emulate p v) mirrors row = ⊎_elim
    (λ (x : Emulates s p.0 v.0 t). subst Mirrors (sym x.after) (shown-mirrors s (act_done s p.0 v.0 (at_hand s v.0)) v.0 mirrors x.traps.runs.running (act-blocks s p.0 v.0 (at_hand s v.0)) (act-around s p.0 v.0 (at_hand s v.0))))
    (λ (x : EndsRead s p.0 v.0 t). subst Mirrors (sym x.after) (shown-mirrors s (taken_shared x.q x.target s) v.0 mirrors x.traps.runs.running refl refl))
    row
row-mirrors s t (Begin q kind node by) mirrors row = subst Mirrors (sym row.after) mirrors
row-mirrors s t (Ack p q) mirrors row = subst Mirrors (sym row.after) mirrors
row-mirrors s t (Finish q) mirrors row = ⊎_elim
    (λ (x : Finishes s q.0 t). subst Mirrors (sym x.after) mirrors)
    (λ (x : LetsGo s q.0 t). subst Mirrors (sym x.after) mirrors)
    row
row-mirrors s t (PacketIn k) mirrors row = ⊎_elim
    (λ (x : Receives s k t). subst Mirrors (sym x.after) (received-mirrors s (with_page s x.q (with_first x.packet.bytes (page s x.q))) x.packet mirrors refl refl))
    (λ (x : EndsDelivery s k t). subst Mirrors (sym x.after) (received-mirrors s (taken_shared x.q x.target s) x.packet mirrors refl refl))
    row
row-mirrors s t (Discard k) mirrors row = subst Mirrors (sym row.after) mirrors
row-mirrors s t (Skip k) mirrors row = subst Mirrors (sym row.after) mirrors
row-mirrors s t (CellFails c) mirrors row = subst Mirrors (sym row.after) mirrors
row-mirrors s t (Ending end) mirrors row = subst Mirrors (sym row.after) mirrors
