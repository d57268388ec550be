-- A step through the TLB keeps coherence: the parts together.
use Rattle.base_words.specs.Membership.{Has}
use Rattle.base_words.specs.declared.trap.DataAccess.{DataAccess}
use Rattle.std.proofs.Common.{◌≡◌, ℕ, ◌<◌, ◌%◌, Bool, true, false, Some, None, List, length, map, set, refl, sym, ◌∙◌, subst, length-set}
use Rattle.base_words.specs.declared.regs.Regs.{Regs}
use Rattle.base_words.specs.declared.tlb.Entry.{Entry}
use Rattle.base_words.specs.Merging.{loaded_value, stored_word}
use Rattle.base_words.specs.Halves.{Half}
use Rattle.base_words.specs.Instruction.{register, with_register}
use Rattle.private_machine.specs.Backing.{Page, stored_through}
use Rattle.private_machine.specs.DevicePage.{DevicePage}
use Rattle.private_machine.specs.DirectAccess.{data_reached, line_at}
use Rattle.private_machine.specs.Reaching.{wanted, Reached, at_half}
use Rattle.private_machine.specs.HardwareStep.{word_through}
use Rattle.private_machine.specs.Links.{is_linked, word_offset}
use Rattle.private_machine.specs.OwnStep.{joined}
use Rattle.base_words.specs.Coprocessor.{register_at, writes}
use Rattle.private_machine.specs.RegisterPage.{read_from}
use Rattle.private_machine.specs.Vcpu.{with_registers, with_cp0, with_link, ticking}
use Rattle.private_machine.specs.declared.vcpu.Vcpu.{Vcpu}
use Rattle.isolation_law.proofs.Stepping.{stored, stored_if, accessed, ticked, told, steps-after}
use Rattle.isolation_law.specs.Coherence.{Consistent}
use Rattle.isolation_law.specs.Content.{content}
use Rattle.isolation_law.specs.DirectStep.{with_inputs, sight, data_noted}
use Rattle.isolation_law.specs.GuestState.{GuestState, page, vcpu_of, block_at, with_vcpu, processor}
use Rattle.isolation_law.specs.StepRows.{Steps}
use Rattle.base_words.specs.declared.effect.Request.{Request}
use Rattle.base_words.specs.declared.effect.Request.TheVariants as asks
use Rattle.isolation_law.proofs.DirectContent.{DataReached, ran-ok, tlbs-joined}
use Rattle.isolation_law.proofs.DirectKeeps.{stored_keeps}
use Rattle.base_words.specs.declared.trap.DataAccess.TheVariants as at_data
use Rattle.isolation_law.proofs.EmulateProofs.{own_keeps, armed-joined}
use Rattle.isolation_law.proofs.TlbEffects.{same-tlbs, others-tlbs}

abbrev tlbs_of : List Vcpu → List (List Entry)
tlbs_of cs = map (λ c. c.tlb) cs

-- an access changes no TLB
if-tlbs : (b : Bool) (u : GuestState) (v : ℕ) (h : Reached) (regs : Regs) (address value target : ℕ) → tlbs_of (stored_if b u v h regs address value target).vcpus ≡ tlbs_of u.vcpus
if-tlbs true u v h regs address value target =
    let s1 = stored u v h address value in
    let s2 = with_vcpu s1 v (with_registers (with_register regs target 1) (vcpu_of s1 v)) in
    same-tlbs s2.vcpus v (with_link None (vcpu_of s2 v)) refl ∙ same-tlbs s1.vcpus v (with_registers (with_register regs target 1) (vcpu_of s1 v)) refl ∙ others-tlbs (line_at h address) u.vcpus v
if-tlbs false u v h regs address value target =
    let s2 = with_vcpu u v (with_registers (with_register regs target 0) (vcpu_of u v)) in
    same-tlbs s2.vcpus v (with_link None (vcpu_of s2 v)) refl ∙ same-tlbs u.vcpus v (with_registers (with_register regs target 0) (vcpu_of u v)) refl

pub accessed-tlbs : (u : GuestState) (v : ℕ) (h : Reached) (regs : Regs) (r : Request) → tlbs_of (accessed u v h regs r).vcpus ≡ tlbs_of u.vcpus
accessed-tlbs u v h regs asks.Nothing = same-tlbs u.vcpus v (with_registers regs (vcpu_of u v)) refl
accessed-tlbs u v h regs (asks.Load kind address target) = let new = with_register regs target (loaded_value kind (word_through u.pages h address) (register regs target) (address % 4)) in same-tlbs u.vcpus v (with_registers new (vcpu_of u v)) refl
accessed-tlbs u v h regs (asks.Store kind address value) =
    let s1 = stored u v h address (stored_word kind (word_through u.pages h address) value (address % 4)) in
    same-tlbs s1.vcpus v (with_registers regs (vcpu_of s1 v)) refl ∙ others-tlbs (line_at h address) u.vcpus v
accessed-tlbs u v h regs (asks.LoadLinked address target) =
    let s1 = with_vcpu u v (with_registers (with_register regs target (word_through u.pages h address)) (vcpu_of u v)) in
    same-tlbs s1.vcpus v (with_link (Some (line_at h address)) (vcpu_of s1 v)) refl ∙ same-tlbs u.vcpus v (with_registers (with_register regs target (word_through u.pages h address)) (vcpu_of u v)) refl
accessed-tlbs u v h regs (asks.StoreConditional address value target) = if-tlbs (is_linked (vcpu_of u v).link (line_at h address)) u v h regs address value target
accessed-tlbs u v h regs (asks.ReadCp0 number target) = same-tlbs u.vcpus v (with_registers (read_from (block_at u v) regs number target) (vcpu_of u v)) refl
accessed-tlbs u v h regs (asks.WriteCp0 number value) =
    let s1 = with_vcpu u v (with_registers regs (vcpu_of u v)) in
    same-tlbs s1.vcpus v (with_cp0 (writes (vcpu_of s1 v).cp0 (register_at number) value) (vcpu_of s1 v)) refl ∙ same-tlbs u.vcpus v (with_registers regs (vcpu_of u v)) refl
accessed-tlbs u v h regs (asks.System op) = same-tlbs u.vcpus v (with_registers regs (vcpu_of u v)) refl

-- pages, virtual processors and devices are others
others : (s : GuestState) (pages : List Page) (vcpus : List Vcpu) (devices : DevicePage) → Consistent (record s { pages = pages }) → ((q : ℕ) → devices.armed ≡ Some q → q < length pages) → tlbs_of vcpus ≡ tlbs_of s.vcpus
    → Consistent (record s { pages = pages; vcpus = vcpus; devices = devices })
others s pages vcpus devices co armed same = own_keeps (record s { pages = pages }) (record (content s) { vcpus = vcpus; devices = devices }) co armed same

armed-in : (s : GuestState) (v : ℕ) → Consistent s → (q : ℕ) → (joined (content s) v).devices.armed ≡ Some q → q < length s.pages
armed-in s v co q e = co.armed_page q (sym (armed-joined (content s) v).0 ∙ e)

-- a store, where it is reached by a half
store-keeps : (s : GuestState) (p : ℕ) (at : Reached) (a word : ℕ) → Consistent s → (h : Half) → at ≡ at_half h → Has (processor s p).tlb h → h.writable ≡ true
    → Consistent (record s { pages = set s.pages at.page (stored_through (page s at.page) at.frame (word_offset (a % 4096)) word) })
store-keeps s p at a word co h is has writable =
    subst (λ (z : Reached). Consistent (record s { pages = set s.pages z.page (stored_through (page s z.page) z.frame (word_offset (a % 4096)) word) })) (sym is) (stored_keeps s p h a word co has writable)

-- by the request
request-keeps : (s : GuestState) (p v : ℕ) (h : Reached) (regs : Regs) (r : Request) → Consistent s → DataReached (sight (with_inputs s v) p v) (wanted r) h
    → tlbs_of (ticked (accessed (with_inputs s v) v h regs r) v).vcpus ≡ tlbs_of s.vcpus → Consistent (ticked (accessed (with_inputs s v) v h regs r) v)
request-keeps s p v h regs asks.Nothing co got same = others s s.pages (ticked (accessed (with_inputs s v) v h regs asks.Nothing) v).vcpus (with_inputs s v).devices co (armed-in s v co) same
request-keeps s p v h regs (asks.Load kind address target) co got same = others s s.pages (ticked (accessed (with_inputs s v) v h regs (asks.Load kind address target)) v).vcpus (with_inputs s v).devices co (armed-in s v co) same
request-keeps s p v h regs (asks.LoadLinked address target) co got same = others s s.pages (ticked (accessed (with_inputs s v) v h regs (asks.LoadLinked address target)) v).vcpus (with_inputs s v).devices co (armed-in s v co) same
request-keeps s p v h regs (asks.ReadCp0 number target) co got same = others s s.pages (ticked (accessed (with_inputs s v) v h regs (asks.ReadCp0 number target)) v).vcpus (with_inputs s v).devices co (armed-in s v co) same
request-keeps s p v h regs (asks.WriteCp0 number value) co got same = others s s.pages (ticked (accessed (with_inputs s v) v h regs (asks.WriteCp0 number value)) v).vcpus (with_inputs s v).devices co (armed-in s v co) same
request-keeps s p v h regs (asks.System op) co got same = others s s.pages (ticked (accessed (with_inputs s v) v h regs (asks.System op)) v).vcpus (with_inputs s v).devices co (armed-in s v co) same
request-keeps s p v h regs (asks.Store kind address value) co got same =
    let word = stored_word kind (word_through s.pages h address) value (address % 4) in
    let new = stored_through (page s h.page) h.frame (word_offset (address % 4096)) word in
    others s (set s.pages h.page new) (ticked (accessed (with_inputs s v) v h regs (asks.Store kind address value)) v).vcpus (with_inputs s v).devices
    (store-keeps s p h address word co got.0 got.1 got.2.has (got.2.permits refl)) (λ q e. subst (λ (k : ℕ). q < k) (sym (length-set s.pages h.page new)) (armed-in s v co q e)) same
request-keeps s p v h regs (asks.StoreConditional address value target) co got same = by (is_linked (vcpu_of (with_inputs s v) v).link (line_at h address)) same
  where
    by : (b : Bool) → tlbs_of (ticked (stored_if b (with_inputs s v) v h regs address value target) v).vcpus ≡ tlbs_of s.vcpus → Consistent (ticked (stored_if b (with_inputs s v) v h regs address value target) v)
    by true same =
        let new = stored_through (page s h.page) h.frame (word_offset (address % 4096)) value in
        others s (set s.pages h.page new) (ticked (stored_if true (with_inputs s v) v h regs address value target) v).vcpus (with_inputs s v).devices
        (store-keeps s p h address value co got.0 got.1 got.2.has (got.2.permits refl)) (λ q e. subst (λ (k : ℕ). q < k) (sym (length-set s.pages h.page new)) (armed-in s v co q e)) same
    by false same = others s s.pages (ticked (stored_if false (with_inputs s v) v h regs address value target) v).vcpus (with_inputs s v).devices co (armed-in s v co) same

-- counters, marks and dues are read by no rule
noted-keeps : (p : ℕ) (a : DataAccess) (s : GuestState) → Consistent s → Consistent (data_noted p a s)
noted-keeps p at_data.NoData s co = co
noted-keeps p (at_data.Load page frame) s co = co
noted-keeps p (at_data.Store page frame) s co = co

pub steps_keeps : (s t : GuestState) (p v : ℕ) → Consistent s → Steps s p v t → Consistent t
steps_keeps s t p v co row =
    let u = with_inputs s v in
    let d = row.done in
    let ran = ran-ok (sight u p v) u.pages (vcpu_of u v).registers d row.does in
    let done = accessed u v (data_reached d) d.does.registers d.does.request in
    subst Consistent (sym (steps-after s t p v row)) (noted-keeps p (told s v d) (ticked done v)
    (request-keeps s p v (data_reached d) d.does.registers d.does.request co ran.by_data
    (same-tlbs done.vcpus v (ticking (vcpu_of done v)) refl ∙ accessed-tlbs u v (data_reached d) d.does.registers d.does.request ∙ tlbs-joined (content s) v)))
