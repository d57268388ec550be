-- Emulated steps keep coherence.
use Rattle.std.proofs.Common.{◌≡◌, ◌≢◌, ◌⊎◌, ℕ, zero, suc, ◌<◌, ◌==◌, Bool, true, false, not, if◌then◌else◌, ⊎_elim, Some, None, List, [], ◌∷◌, length, map, set, get_or, refl, sym, ap, ◌∙◌, subst, arith, length-set}
use Rattle.base_words.specs.declared.tlb.Entry.{Entry}
use Rattle.base_words.specs.Tlb.{page_pair, entry_read, entry_written}
use Rattle.private_machine.specs.Backing.{with_first}
use Rattle.private_machine.specs.Operation.{ReadsBlock, Delivers}
use Rattle.private_machine.specs.OwnStep.{joined, input_joined, own_step}
use Rattle.private_machine.specs.PageMove.{taken}
use Rattle.private_machine.specs.PrivateMachine.{PrivateMachine, vcpu}
use Rattle.private_machine.specs.Vcpu.{no_vcpu, with_line_on, held_entry}
use Rattle.private_machine.specs.declared.vcpu.Vcpu.{Vcpu}
use Rattle.isolation_law.specs.Coherence.{Sound, tlb_of, Consistent}
use Rattle.private_machine.specs.DeviceAct.{Act, StoresTo, ReadsDisk, WritesDisk, SendsPage, WritesEntry, NoAct}
use Rattle.isolation_law.specs.PageRules.{BlockRule, sources}
use Rattle.private_machine.specs.Disk.{block_now}
use Rattle.isolation_law.specs.Content.{content, with_own}
use Rattle.private_machine.specs.Disk.{no_block}
use Rattle.isolation_law.specs.GuestState.{GuestState, page, block, processor, vcpu_of, with_page}
use Rattle.isolation_law.specs.Needs.{needed}
use Rattle.private_machine.specs.Disk.{Block}
use Rattle.isolation_law.specs.StepAct.{at_hand}
use Rattle.isolation_law.specs.StepRows.{act_done, pair_dropped, taken_shared, Emulates, EndsRead}
use Rattle.isolation_law.proofs.Parts.{at_place}
use Rattle.isolation_law.proofs.SourceProofs.{Still, coherent_with_sources}
use Rattle.isolation_law.proofs.Acts.{Reads}
use Rattle.isolation_law.proofs.DirectContent.{tlbs-joined, tlb-at}
use Rattle.isolation_law.proofs.EmulateContent.{hand-in}
use Rattle.isolation_law.proofs.EntryProofs.{writes_keeps}
use Rattle.isolation_law.proofs.PacketProofs.{filled_keeps, taken_keeps}
use Rattle.isolation_law.proofs.TlbEffects.{tlbs, Kept, Left, step-left}

-- the guest's own parts change, but no TLB of them
pub own_keeps : (s : GuestState) (m : PrivateMachine) → Consistent s → ((q : ℕ) → m.devices.armed ≡ Some q → q < length s.pages) → tlbs m ≡ map (λ c. c.tlb) s.vcpus → Consistent (with_own m s)
own_keeps s m co armed same =
    let made : Sound (sources s) s.operations s.pages s.spares s.processors (map (λ c. c.tlb) s.vcpus) s.seconds m.devices.armed =
    record { by_page = co.by_page; as_many = co.as_many; within = co.within; on_page = co.on_page; in_tlb = co.in_tlb; exact = co.exact; empty = co.empty; once = co.once; rests = co.rests; by_second = co.by_second; enough = co.enough; blocks = co.blocks; armed_page = armed; packet = co.packet } in
    subst (λ (l : List (List Entry)). Sound (sources s) s.operations s.pages s.spares s.processors l s.seconds m.devices.armed) (sym same) made

-- input that joins changes no entry that is held, and arms nothing
held-joined : (m : PrivateMachine) (v : ℕ) → held_entry (vcpu (joined m v) v).cp0 ≡ held_entry (vcpu m v).cp0
held-joined m v = elim (v == 0) as (λ b. held_entry (vcpu (if b then input_joined m else m) v).cp0 ≡ held_entry (vcpu m v).cp0) [ true ↦ first m.vcpus v | false ↦ refl ]
  where
    first : (cs : List Vcpu) (v : ℕ) → held_entry (get_or (set cs 0 (with_line_on 2 (not (length (input_joined m).devices.queue == 0)) (get_or cs 0 no_vcpu))) v no_vcpu).cp0 ≡ held_entry (get_or cs v no_vcpu).cp0
    first [] v = refl
    first (c ∷ cs) zero = refl
    first (c ∷ cs) (suc v) = refl

tlb-joined : (m : PrivateMachine) (v : ℕ) → (vcpu (joined m v) v).tlb ≡ (vcpu m v).tlb
tlb-joined m v = sym (tlb-at (joined m v).vcpus v) ∙ ap (λ (l : List (List Entry)). tlb_of l v) (tlbs-joined m v) ∙ tlb-at m.vcpus v

pub armed-joined : (m : PrivateMachine) (v : ℕ) → ((joined m v).devices.armed ≡ m.devices.armed) × ((joined m v).pages ≡ m.pages)
armed-joined m v = elim (v == 0) as (λ b. ((if b then input_joined m else m).devices.armed ≡ m.devices.armed) × ((if b then input_joined m else m).pages ≡ m.pages)) [ true ↦ (refl, refl) | false ↦ (refl, refl) ]

-- a page that is armed after a step is there
arms-within : (s : GuestState) (v : ℕ) (n : PrivateMachine) → Consistent s → ((q : ℕ) → n.devices.armed ≡ Some q → ((joined (content s) v).devices.armed ≡ Some q) ⊎ (q < (joined (content s) v).pages)) → (q : ℕ) → n.devices.armed ≡ Some q → q < length s.pages
arms-within s v n co arms q e = ⊎_elim
    (λ (old : (joined (content s) v).devices.armed ≡ Some q). co.armed_page q (sym (armed-joined (content s) v).0 ∙ old))
    (λ (new : q < (joined (content s) v).pages). subst (λ (k : ℕ). q < k) (armed-joined (content s) v).1 new)
    (arms q e)

kept-keeps : (s u : GuestState) (v : ℕ) (n : PrivateMachine) → Consistent s → Consistent u → length u.pages ≡ length s.pages → u.vcpus ≡ s.vcpus → Kept (joined (content s) v) n → Consistent (with_own n u)
kept-keeps s u v n co cu long same kept = own_keeps u n cu
    (λ q e. subst (λ (k : ℕ). q < k) (sym long) (arms-within s v n co kept.arms q e))
    (kept.tlbs_same ∙ tlbs-joined (content s) v ∙ ap (map (λ c. c.tlb)) (sym same))

no-replicas : (s : GuestState) (v : ℕ) (shares : Bool) (b q : ℕ) → needed s v shares (ReadsDisk b q) ≡ None → (page s q).replicas ≡ []
no-replicas s v shares b q none = grind arith

-- the disk as it was given stays
given-same : (disk : List Block) (b : ℕ) (bytes : List ℕ) (k : ℕ) → (get_or (set disk b (record (get_or disk b no_block) { overlay = Some bytes })) k no_block).given ≡ (get_or disk k no_block).given
given-same [] b bytes k = refl
given-same (x ∷ disk) zero bytes zero = refl
given-same (x ∷ disk) zero bytes (suc k) = refl
given-same (x ∷ disk) (suc b) bytes zero = refl
given-same (x ∷ disk) (suc b) bytes (suc k) = given-same disk b bytes k

disk-keeps : (s : GuestState) (b : ℕ) (bytes : List ℕ) → Consistent s → length bytes ≡ 4096 → Consistent (record s { disk = set s.disk b (record (block s b) { overlay = Some bytes }) })
disk-keeps s b bytes co whole =
    let new = set s.disk b (record (block s b) { overlay = Some bytes }) in
    coherent_with_sources s (record (sources s) { disk = new }) co still
    (λ k below. at_place (λ j x. j < length s.disk → BlockRule x) s.disk b (record (block s b) { overlay = Some bytes }) no_block k (λ lt _. record { given_whole = (co.blocks b lt).given_whole; whole = whole }) (λ _. co.blocks k) (subst (λ (n : ℕ). k < n) (length-set s.disk b (record (block s b) { overlay = Some bytes })) below))
    co.packet
  where
    still : Still (sources s) (record (sources s) { disk = set s.disk b (record (block s b) { overlay = Some bytes }) })
    still (ReadsBlock v k) now e = e ∙ sym (given-same s.disk b bytes k)
    still (Delivers place packet) now e = e

-- by the act
act-keeps : (s : GuestState) (p v : ℕ) (shares : Bool) (act : Act) (n : PrivateMachine) → Consistent s → (processor s p).loaded ≡ Some v → ((q : ℕ) → act ≢ StoresTo q)
    → Reads (length s.pages) (length s.disk) act → needed s v shares act ≡ None → Left (joined (content s) v) v act n → Consistent (with_own n (act_done s p v act))
act-keeps s p v shares (StoresTo q) n co runs no_store within none left = absurd (no_store q refl)
act-keeps s p v shares (ReadsDisk b q) n co runs no_store within none left =
    let bytes = block_now (block s b) in
    let whole : length bytes ≡ 4096 = (co.blocks b within.0).whole in
    let cu = filled_keeps s q bytes co within.1 (omega arith) (no-replicas s v shares b q none) in
    kept-keeps s (with_page s q (with_first bytes (page s q))) v n co cu (length-set s.pages q (with_first bytes (page s q))) refl left
act-keeps s p v shares (WritesDisk b q) n co runs no_store within none left =
    let bytes = (page s q).master.bytes in
    kept-keeps s (act_done s p v (WritesDisk b q)) v n co (disk-keeps s b bytes co (co.by_page q within.1).whole) refl refl left
act-keeps s p v shares (SendsPage q length to) n co runs no_store within none left = kept-keeps s (act_done s p v (SendsPage q length to)) v n co co refl refl left
act-keeps s p v shares (WritesEntry index) n co runs no_store within none left =
    let l = map (λ c. c.tlb) s.vcpus in
    let e = held_entry (vcpu_of s v).cp0 in
    let mine : tlb_of l v ≡ (vcpu_of s v).tlb = tlb-at s.vcpus v in
    let same : tlbs n ≡ set l v (entry_written (tlb_of l v) index e) =
    left.tlbs_other ∙ (λ i. set (tlbs-joined (content s) v i) v (entry_written ((tlb-joined (content s) v ∙ sym mine) i) index (held-joined (content s) v i))) in
    let made = writes_keeps s n p v index e co runs (arms-within s v n co left.arms) same in
    subst (λ (t : List Entry). Consistent (with_own n (pair_dropped p v (page_pair e.hi) (pair_dropped p v (page_pair (entry_read t index).hi) s)))) mine made
act-keeps s p v shares NoAct n co runs no_store within none left = kept-keeps s s v n co co refl refl left

pub emulates_keeps : (s t : GuestState) (p v : ℕ) → Consistent s → Emulates s p v t → ((q : ℕ) → at_hand s v ≢ StoresTo q) → Consistent t
emulates_keeps s t p v co row no_store =
    subst Consistent (sym row.after)
    (act-keeps s p v row.shares (at_hand s v) (own_step (content s) v) co row.traps.runs.loaded no_store (hand-in s v) row.needs_nothing (step-left (content s) v row.traps.runs.running))

pub ends_read_keeps : (s t : GuestState) (p v : ℕ) → Consistent s → EndsRead s p v t → Consistent t
ends_read_keeps s t p v co row =
    let n = own_step (content s) v in
    let cu = taken_keeps s row.q row.target row.waiting co row.open_move row.nobody_waits in
    let kept : Kept (joined (content s) v) n = subst (λ (a : Act). Left (joined (content s) v) v a n) row.reads (step-left (content s) v row.traps.runs.running) in
    subst Consistent (sym row.after) (kept-keeps s (taken_shared row.q row.target s) v n co cu (length-set s.pages row.q (taken row.target (page s row.q))) refl kept)
