-- A step through the TLB, done part by part on the guest: what it leaves is what is put back.
use Rattle.std.proofs.Common.{◌≡◌, ℕ, zero, suc, ◌%◌, Bool, true, false, Option, Some, None, List, [], ◌∷◌, map, set, get_or, refl, ap, ◌∙◌}
use Rattle.base_words.specs.declared.regs.Regs.{Regs}
use Rattle.base_words.specs.declared.effect.Request.{Request}
use Rattle.base_words.specs.declared.effect.Request.TheVariants as asks
use Rattle.base_words.specs.declared.trap.DataAccess.{DataAccess}
use Rattle.private_machine.specs.Reaching.{Reached}
use Rattle.base_words.specs.Instruction.{register, with_register}
use Rattle.base_words.specs.Merging.{loaded_value, stored_word}
use Rattle.private_machine.specs.declared.vcpu.Vcpu.{Vcpu}
use Rattle.base_words.specs.Coprocessor.{register_at, writes}
use Rattle.private_machine.specs.RegisterPage.{read_from, block_after}
use Rattle.private_machine.specs.Vcpu.{no_vcpu, with_registers, with_cp0, with_link, ticking}
use Rattle.private_machine.specs.Links.{word_offset, is_linked, unlinked, unlinked_others}
use Rattle.private_machine.specs.Backing.{stored_through}
use Rattle.private_machine.specs.HardwareStep.{Done, word_through}
use Rattle.private_machine.specs.DirectAccess.{link_without, line_at, data_reached, data_told, accessed_through, stored_if_linked}
use Rattle.isolation_law.specs.GuestState.{GuestState, page, vcpu_of, block_at, with_vcpu, with_block}
use Rattle.isolation_law.specs.DirectStep.{with_inputs, held_of, relinked, with_held, ticked_with, data_noted}
use Rattle.isolation_law.specs.StepRows.{Steps}

abbrev pub regs_left : GuestState → ℕ → Regs → GuestState
regs_left s v regs = with_vcpu s v (with_registers regs (vcpu_of s v))

abbrev pub link_left : GuestState → ℕ → Option ℕ → GuestState
link_left s v link = with_vcpu s v (with_link link (vcpu_of s v))

abbrev pub cp0_left : GuestState → ℕ → ℕ → ℕ → GuestState
cp0_left s v number value = with_vcpu s v (with_cp0 (writes (vcpu_of s v).cp0 (register_at number) value) (vcpu_of s v))

abbrev pub stored : GuestState → ℕ → Reached → ℕ → ℕ → GuestState
stored s v h address word = record s {
  pages = set s.pages h.page (stored_through (page s h.page) h.frame (word_offset (address % 4096)) word);
  vcpus = unlinked_others (line_at h address) v s.vcpus;
}

abbrev pub stored_if : Bool → GuestState → ℕ → Reached → Regs → ℕ → ℕ → ℕ → GuestState
stored_if true s v h regs address value target = link_left (regs_left (stored s v h address value) v (with_register regs target 1)) v None
stored_if false s v h regs address value target = link_left (regs_left s v (with_register regs target 0)) v None

abbrev pub accessed : GuestState → ℕ → Reached → Regs → Request → GuestState
accessed s v h regs asks.Nothing = regs_left s v regs
accessed s v h regs (asks.Load kind address target) =
    regs_left s v (with_register regs target (loaded_value kind (word_through s.pages h address) (register regs target) (address % 4)))
accessed s v h regs (asks.Store kind address value) =
    regs_left (stored s v h address (stored_word kind (word_through s.pages h address) value (address % 4))) v regs
accessed s v h regs (asks.LoadLinked address target) =
    link_left (regs_left s v (with_register regs target (word_through s.pages h address))) v (Some (line_at h address))
accessed s v h regs (asks.StoreConditional address value target) =
    stored_if (is_linked (vcpu_of s v).link (line_at h address)) s v h regs address value target
accessed s v h regs (asks.ReadCp0 number target) = regs_left s v (read_from (block_at s v) regs number target)
accessed s v h regs (asks.WriteCp0 number value) = cp0_left (regs_left s v regs) v number value
accessed s v h regs (asks.System op) = regs_left s v regs

-- links that are put back
relinked-same : (cs : List Vcpu) → relinked (map (λ c. c.link) cs) cs ≡ cs
relinked-same [] = refl
relinked-same (c ∷ cs) = ap (λ (l : List Vcpu). c ∷ l) (relinked-same cs)

relinked-one : (cs : List Vcpu) (v : ℕ) (line : Option ℕ) → relinked (set (map (λ c. c.link) cs) v line) cs ≡ set cs v (with_link line (get_or cs v no_vcpu))
relinked-one [] v line = refl
relinked-one (c ∷ cs) zero line = ap (λ (l : List Vcpu). with_link line c ∷ l) (relinked-same cs)
relinked-one (c ∷ cs) (suc v) line = ap (λ (l : List Vcpu). c ∷ l) (relinked-one cs v line)

relinked-all : (cs : List Vcpu) (line : ℕ) → relinked (map (link_without line) (map (λ c. c.link) cs)) cs ≡ map (unlinked line) cs
relinked-all [] line = refl
relinked-all (c ∷ cs) line = ap (λ (l : List Vcpu). unlinked line c ∷ l) (relinked-all cs line)

relinked-others : (cs : List Vcpu) (v line : ℕ) → relinked (set (map (link_without line) (map (λ c. c.link) cs)) v (get_or (map (λ c. c.link) cs) v None)) cs ≡ unlinked_others line v cs
relinked-others [] v line = refl
relinked-others (c ∷ cs) zero line = ap (λ (l : List Vcpu). c ∷ l) (relinked-all cs line)
relinked-others (c ∷ cs) (suc v) line = ap (λ (l : List Vcpu). unlinked line c ∷ l) (relinked-others cs v line)

relinked-none : (cs : List Vcpu) (v line : ℕ) → relinked (set (set (map (link_without line) (map (λ c. c.link) cs)) v (get_or (map (λ c. c.link) cs) v None)) v None) cs
    ≡ set (unlinked_others line v cs) v (with_link None (get_or (unlinked_others line v cs) v no_vcpu))
relinked-none [] v line = refl
relinked-none (c ∷ cs) zero line = ap (λ (l : List Vcpu). with_link None c ∷ l) (relinked-all cs line)
relinked-none (c ∷ cs) (suc v) line = ap (λ (l : List Vcpu). unlinked line c ∷ l) (relinked-none cs v line)

link-at : (cs : List Vcpu) (v : ℕ) → get_or (map (λ c. c.link) cs) v None ≡ (get_or cs v no_vcpu).link
link-at [] v = refl
link-at (c ∷ cs) zero = refl
link-at (c ∷ cs) (suc v) = link-at cs v

-- one virtual processor, changed twice
ticked-regs : (cs : List Vcpu) (v : ℕ) (regs : Regs) → set cs v (ticking (with_registers regs (get_or cs v no_vcpu)))
    ≡ (let ds = set cs v (with_registers regs (get_or cs v no_vcpu)) in set ds v (ticking (get_or ds v no_vcpu)))
ticked-regs [] v regs = refl
ticked-regs (c ∷ cs) zero regs = refl
ticked-regs (c ∷ cs) (suc v) regs = ap (λ (l : List Vcpu). c ∷ l) (ticked-regs cs v regs)

ticked-link : (cs : List Vcpu) (v : ℕ) (regs : Regs) (line : Option ℕ)
    → (let ds = set cs v (with_link line (get_or cs v no_vcpu)) in set ds v (ticking (with_registers regs (get_or ds v no_vcpu))))
    ≡ (let ds = set cs v (with_registers regs (get_or cs v no_vcpu)) in let es = set ds v (with_link line (get_or ds v no_vcpu)) in set es v (ticking (get_or es v no_vcpu)))
ticked-link [] v regs line = refl
ticked-link (c ∷ cs) zero regs line = refl
ticked-link (c ∷ cs) (suc v) regs line = ap (λ (l : List Vcpu). c ∷ l) (ticked-link cs v regs line)

ticked-cp0 : (cs : List Vcpu) (v : ℕ) (regs : Regs) (number value : ℕ)
    → set cs v (ticking (let c = get_or cs v no_vcpu in with_cp0 (writes c.cp0 (register_at number) value) (with_registers regs c)))
    ≡ (let ds = set cs v (with_registers regs (get_or cs v no_vcpu)) in let es = set ds v (with_cp0 (writes (get_or ds v no_vcpu).cp0 (register_at number) value) (get_or ds v no_vcpu)) in set es v (ticking (get_or es v no_vcpu)))
ticked-cp0 [] v regs number value = refl
ticked-cp0 (c ∷ cs) zero regs number value = refl
ticked-cp0 (c ∷ cs) (suc v) regs number value = ap (λ (l : List Vcpu). c ∷ l) (ticked-cp0 cs v regs number value)

abbrev put_back : GuestState → ℕ → Reached → Regs → Request → GuestState
put_back u v h regs r = let after = accessed_through v (block_at u v) h regs r (held_of u) in ticked_with v after.registers r (with_held after.held u)

abbrev pub ticked : GuestState → ℕ → GuestState
ticked s v = with_vcpu s v (ticking (vcpu_of s v))

plain : (u : GuestState) (v : ℕ) (regs : Regs) → ticked_with v regs asks.Nothing (with_held (held_of u) u) ≡ ticked (regs_left u v regs) v
plain u v regs = λ i. record u { vcpus = (ap (λ (cs : List Vcpu). set cs v (ticking (with_registers regs (get_or cs v no_vcpu)))) (relinked-same u.vcpus) ∙ ticked-regs u.vcpus v regs) i }

pub put-back : (u : GuestState) (v : ℕ) (h : Reached) (regs : Regs) (r : Request) → put_back u v h regs r ≡ ticked (accessed u v h regs r) v
put-back u v h regs asks.Nothing = plain u v regs
put-back u v h regs (asks.Load kind address target) = plain u v (with_register regs target (loaded_value kind (word_through u.pages h address) (register regs target) (address % 4)))
put-back u v h regs (asks.Store kind address value) =
    let s = stored u v h address (stored_word kind (word_through u.pages h address) value (address % 4)) in
    λ i. record s { vcpus = (ap (λ (cs : List Vcpu). set cs v (ticking (with_registers regs (get_or cs v no_vcpu)))) (relinked-others u.vcpus v (line_at h address)) ∙ ticked-regs s.vcpus v regs) i }
put-back u v h regs (asks.LoadLinked address target) =
    let after = with_register regs target (word_through u.pages h address) in
    λ i. record u { vcpus = (ap (λ (cs : List Vcpu). set cs v (ticking (with_registers after (get_or cs v no_vcpu)))) (relinked-one u.vcpus v (Some (line_at h address))) ∙ ticked-link u.vcpus v after (Some (line_at h address))) i }
put-back u v h regs (asks.StoreConditional address value target) =
    ap (λ (o : Option ℕ). (let after = stored_if_linked (is_linked o (line_at h address)) v h regs address value target (held_of u) in ticked_with v after.registers asks.Nothing (with_held after.held u))) (link-at u.vcpus v)
    ∙ by (is_linked (vcpu_of u v).link (line_at h address))
  where
    by : (b : Bool) → (let after = stored_if_linked b v h regs address value target (held_of u) in ticked_with v after.registers asks.Nothing (with_held after.held u)) ≡ ticked (stored_if b u v h regs address value target) v
    by true =
        let s = stored u v h address value in
        let after = with_register regs target 1 in
        λ i. record s { vcpus = (ap (λ (cs : List Vcpu). set cs v (ticking (with_registers after (get_or cs v no_vcpu)))) (relinked-none u.vcpus v (line_at h address)) ∙ ticked-link s.vcpus v after None) i }
    by false =
        let after = with_register regs target 0 in
        λ i. record u { vcpus = (ap (λ (cs : List Vcpu). set cs v (ticking (with_registers after (get_or cs v no_vcpu)))) (relinked-one u.vcpus v None) ∙ ticked-link u.vcpus v after None) i }
put-back u v h regs (asks.ReadCp0 number target) = plain u v (read_from (block_at u v) regs number target)
put-back u v h regs (asks.WriteCp0 number value) =
    λ i. record u { vcpus = (ap (λ (cs : List Vcpu). set cs v (ticking (let c = get_or cs v no_vcpu in with_cp0 (writes c.cp0 (register_at number) value) (with_registers regs c)))) (relinked-same u.vcpus) ∙ ticked-cp0 u.vcpus v regs number value) i }
put-back u v h regs (asks.System op) = plain u v regs

-- what is told of a step's data access
abbrev pub told : GuestState → ℕ → Done → DataAccess
told s v d = data_told v (data_reached d) d.does.request (held_of (with_inputs s v))

-- a step, part by part
pub steps-after : (s t : GuestState) (p v : ℕ) → (row : Steps s p v t)
    → t ≡ with_block v (block_after row.done.does.request (block_at s v)) (data_noted p (told s v row.done) (ticked (accessed (with_inputs s v) v (data_reached row.done) row.done.does.registers row.done.does.request) v))
steps-after s t p v row = let d = row.done in
    row.after ∙ ap (λ (x : GuestState). with_block v (block_after d.does.request (block_at s v)) (data_noted p (told s v d) x)) (put-back (with_inputs s v) v (data_reached d) d.does.registers d.does.request)
