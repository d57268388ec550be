-- What a step through the TLB does to the content is the guest's own step.
use Rattle.base_words.specs.declared.trap.DataAccess.{DataAccess}
use Rattle.std.proofs.Common.{◌≡◌, ℕ, zero, suc, ◌+◌, ◌*◌, ◌%◌, ◌≤◌, ◌==◌, Bool, true, false, not, if◌then◌else◌, ⊎_elim, Option, Some, None, Result, Ok, Err, List, [], ◌∷◌, length, map, set, get_or, refl, sym, ap, ◌∙◌, subst, arith, length-set}
use Rattle.std.proofs.lemmas.Bool.{eqb-true, eq-eqb}
use Rattle.std.specs.Prelude.{flat_map}
use Rattle.base_words.specs.declared.trap.DataAccess.TheVariants as at_data
use Rattle.base_words.specs.declared.regs.Regs.{Regs}
use Rattle.base_words.specs.declared.exception.Exception.{Exception}
use Rattle.base_words.specs.declared.exception.Use.TheVariants.{Load, Store}
use Rattle.base_words.specs.declared.place.Place.TheVariants.{Memory}
use Rattle.base_words.specs.declared.tlb.Entry.{Entry}
use Rattle.base_words.specs.Memory.{word_at, with_word}
use Rattle.base_words.specs.Merging.{loaded_value, stored_word, load_unit, store_unit}
use Rattle.base_words.specs.OpcodeMap.{decoded}
use Rattle.base_words.specs.Halves.{Half}
use Rattle.base_words.specs.Instruction.{Effect, effect, register, with_register}
use Rattle.base_words.specs.Membership.{Has}
use Rattle.private_machine.specs.Access.{loaded, stored, linked_load, conditional_store, if_linked}
use Rattle.private_machine.specs.Backing.{Copy, Page, copies, with_bytes, stored_through, no_page}
use Rattle.private_machine.specs.DirectAccess.{data_reached, line_at}
use Rattle.private_machine.specs.declared.register_page.RegBlock.{RegBlock}
use Rattle.private_machine.specs.RegisterPage.{redirected, block_of, is_loaded, read_from}
use Rattle.base_words.specs.declared.coprocessor.Cp0Registers.{Cp0Registers}
use Rattle.base_words.specs.Coprocessor.{register_at, reads}
use Rattle.isolation_law.proofs.PageProofs.{OfPage, word-read}
use Rattle.private_machine.specs.Reaching.{Wanted, Sight, wanted, fetch_at, reached, Lack, Reached, at_half, is_open_to}
use Rattle.private_machine.specs.HardwareStep.{Line, Privileged, with_data, word_through, asks_of, accesses, executes, fetches, hardware_step, Done, decodes}
use Rattle.private_machine.specs.Links.{word_offset, written, is_linked}
use Rattle.private_machine.specs.OwnStep.{joined, input_joined, led, answered, attempted, acted, made, own_step, word_of, fetched, is_privileged, decided}
use Rattle.private_machine.specs.PrivateMachine.{PrivateMachine, vcpu, left, on_vcpu, is_open}
use Rattle.private_machine.specs.Vcpu.{no_vcpu, with_line_on, with_link, ticking}
use Rattle.private_machine.specs.declared.vcpu.Vcpu.{Vcpu}
use Rattle.isolation_law.proofs.Stepping.{stored as stored_on, stored_if, accessed, ticked, told, steps-after}
use Rattle.isolation_law.specs.Coherence.{HalfInTlb, tlb_of, Consistent}
use Rattle.isolation_law.specs.Content.{content}
use Rattle.isolation_law.specs.DirectStep.{with_inputs, sight, data_noted}
use Rattle.isolation_law.specs.GuestState.{GuestState, page, processor, vcpu_of, block_at}
use Rattle.isolation_law.specs.StepRows.{Steps}
use Rattle.base_words.specs.declared.effect.Request.{Request}
use Rattle.base_words.specs.declared.effect.Request.TheVariants as asks
use Rattle.isolation_law.proofs.Memory.{flat_with_word}
use Rattle.isolation_law.proofs.DirectProofs.{ByHalf, reached-ok, reached-place, word-through, even}

-- inputs
pub content-inputs : (s : GuestState) (v : ℕ) → content (with_inputs s v) ≡ joined (content s) v
content-inputs s v =
    elim (v == 0) as (λ b. (let m : PrivateMachine = if b then input_joined (content s) else content s in record (content s) { vcpus = m.vcpus; devices = m.devices }) ≡ (if b then input_joined (content s) else content s)) [ true ↦ refl | false ↦ refl ]

-- what joins changes no TLB
pub tlbs-joined : (m : PrivateMachine) (v : ℕ) → map (λ c. c.tlb) (joined m v).vcpus ≡ map (λ c. c.tlb) m.vcpus
tlbs-joined m v = elim (v == 0) as (λ b. map (λ c. c.tlb) (if b then input_joined m else m).vcpus ≡ map (λ c. c.tlb) m.vcpus) [
  | true ↦ first m.vcpus
  | false ↦ refl
]
  where
    first : (cs : List Vcpu) → map (λ c. c.tlb) (set cs 0 (with_line_on 2 (not (length (input_joined m).devices.queue == 0)) (get_or cs 0 no_vcpu))) ≡ map (λ c. c.tlb) cs
    first [] = refl
    first (c ∷ cs) = refl

pub tlb-at : (cs : List Vcpu) (v : ℕ) → tlb_of (map (λ c. c.tlb) cs) v ≡ (get_or cs v no_vcpu).tlb
tlb-at [] v = refl
tlb-at (c ∷ cs) zero = refl
tlb-at (c ∷ cs) (suc v) = tlb-at cs v

pub tlb-inputs : (s : GuestState) (v : ℕ) → tlb_of (map (λ c. c.tlb) s.vcpus) v ≡ (vcpu_of (with_inputs s v) v).tlb
tlb-inputs s v = ap (λ (l : List (List Entry)). tlb_of l v) (sym (tlbs-joined (content s) v)) ∙ tlb-at (joined (content s) v).vcpus v

-- what is noted doesn't change the content
noted-content : (p : ℕ) (a : DataAccess) (s : GuestState) → content (data_noted p a s) ≡ content s
noted-content p at_data.NoData s = refl
noted-content p (at_data.Load page frame) s = refl
noted-content p (at_data.Store page frame) s = refl

-- through a half of a processor's TLB an access leads where it does for the guest
pub led-through : (s : GuestState) (p v : ℕ) (w : Wanted) (h : Half) → Consistent s → (processor s p).loaded ≡ Some v → ByHalf (sight (with_inputs s v) p v) w h
    → led (content (with_inputs s v)) v w.unit w.purpose w.address ≡ Ok (Memory (h.page * 4096 + w.address % 4096))
led-through s p v w h co runs r =
    let t = with_inputs s v in
    reached-place (sight t p v) (length s.pages) (vcpu_of t v).tlb w h r
    (subst (λ (l : List Entry). HalfInTlb (length s.pages) l h) (tlb-inputs s v) (co.in_tlb p v h r.has runs))

-- the half of the data access, where there is one
abbrev pub DataReached : Sight → Option Wanted → Reached → Type 0
DataReached x None at = Unit {0}
DataReached x (Some w) at = (h : Half) × (at ≡ at_half h) × ByHalf x w h

-- a store through a writable half is one into the guest's memory
stored-content : (s : GuestState) (p v : ℕ) (h : Half) (a word : ℕ) → Consistent s → Has (processor s p).tlb h → h.writable ≡ true
    → content (stored_on (with_inputs s v) v (at_half h) a word) ≡ written (content (with_inputs s v)) v (h.page * 4096 + a % 4096) word
stored-content s p v h a word co has writable =
    let t = with_inputs s v in
    let g = page s h.page in
    let o = word_offset (a % 4096) in
    let lt = co.within p h has in
    let on = co.on_page p h has in
    let alone = on.alone writable in
    let is_master : g.master.frame ≡ h.frame = only_master g on.backed.0 on.backed.1 alone.1 ∙ on.backed.2 in
    let new : Page = record g { master = with_bytes (with_word g.master.bytes o word) g.master } in
    let same : stored_through g h.frame o word ≡ new = rw (eq-eqb g.master.frame h.frame is_master) refl in
    let at : h.page * 4096 + o ≡ word_offset (h.page * 4096 + a % 4096) = omega arith in
    let room : o + 4 ≤ 4096 = omega arith in
    let memory : flat_map (λ (x : Page). x.master.bytes) (set s.pages h.page (stored_through g h.frame o word)) ≡ with_word (content s).memory (word_offset (h.page * 4096 + a % 4096)) word =
    ap (λ (x : Page). flat_map (λ (y : Page). y.master.bytes) (set s.pages h.page x)) same
    ∙ flat_with_word (λ (x : Page). x.master.bytes) 4096 s.pages h.page o word new no_page (even s co) lt room refl
    ∙ ap (λ (n : ℕ). with_word (content s).memory n word) at in
    λ i. record (content (stored_on t v (at_half h) a word)) { pages = length-set s.pages h.page (stored_through g h.frame o word) i; memory = memory i }
  where
    only_master : (g : Page) (c : Copy) → Has (copies g) c → g.replicas ≡ [] → g.master.frame ≡ c.frame
    only_master g c has none = ⊎_elim (λ (e : g.master ≡ c). ap (λ (z : Copy). z.frame) e) (λ later. absurd (subst (λ (l : List Copy). Has l c) none later)) has

by-wanted : (s : GuestState) (p v : ℕ) (h : Half) (w k : Wanted) → Some k ≡ Some w → ByHalf (sight (with_inputs s v) p v) w h → ByHalf (sight (with_inputs s v) p v) k h
by-wanted s p v h w k e got = let same : k ≡ w = cc in subst (λ (z : Wanted). ByHalf (sight (with_inputs s v) p v) z h) (sym same) got

-- the access is the guest's own
by-half-content : (s : GuestState) (p v : ℕ) (h : Half) (regs : Regs) (r : Request) (w : Wanted) → Consistent s → (processor s p).loaded ≡ Some v → wanted r ≡ Some w → ByHalf (sight (with_inputs s v) p v) w h
    → answered (content (with_inputs s v)) v regs r ≡ Ok (content (accessed (with_inputs s v) v (at_half h) regs r))
by-half-content s p v h regs asks.Nothing w co runs given got = cc
by-half-content s p v h regs (asks.Load kind address target) w co runs given got0 =
    let got = by-wanted s p v h w _ given got0 in
    let m = content (with_inputs s v) in
    let low : (h.page * 4096 + address % 4096) % 4 ≡ address % 4 = omega arith in
    ap (loaded m v regs kind target) (led-through s p v (record { purpose = Load; unit = load_unit kind; address = address }) h co runs got)
    ∙ (λ i. Ok (left m v (with_register regs target (loaded_value kind (word-through s p h address co got.has i) (register regs target) (low i)))))
by-half-content s p v h regs (asks.Store kind address value) w co runs given got0 =
    let got = by-wanted s p v h w _ given got0 in
    let m = content (with_inputs s v) in
    let low : (h.page * 4096 + address % 4096) % 4 ≡ address % 4 = omega arith in
    ap (stored m v regs kind value) (led-through s p v (record { purpose = Store; unit = store_unit kind; address = address }) h co runs got)
    ∙ (λ i. Ok (left (written m v (h.page * 4096 + address % 4096) (stored_word kind (word-through s p h address co got.has i) value (low i))) v regs))
    ∙ (λ i. Ok (left (sym (stored-content s p v h address (stored_word kind (word_through s.pages (at_half h) address) value (address % 4)) co got.has (got.permits refl)) i) v regs))
by-half-content s p v h regs (asks.LoadLinked address target) w co runs given got0 =
    let got = by-wanted s p v h w _ given got0 in
    let m = content (with_inputs s v) in
    let whole : address % 4 ≡ 0 = eqb-true (address % 4) 0 got.aligned in
    let at : h.page * 4096 + address % 4096 ≡ word_offset (h.page * 4096 + address % 4096) = omega arith in
    let word : word_at m.memory (h.page * 4096 + address % 4096) ≡ word_through s.pages (at_half h) address = ap (λ (n : ℕ). word_at m.memory n) at ∙ word-through s p h address co got.has in
    ap (linked_load m v regs target) (led-through s p v (record { purpose = Load; unit = 4; address = address }) h co runs got)
    ∙ (λ i. Ok (on_vcpu (left m v (with_register regs target (word i))) v (with_link (Some (line_at (at_half h) address)))))
by-half-content s p v h regs (asks.StoreConditional address value target) w co runs given got0 =
    let got = by-wanted s p v h w _ given got0 in
    let m = content (with_inputs s v) in
    let t = with_inputs s v in
    let same = stored-content s p v h address value co got.has (got.permits refl) in
    ap (conditional_store m v regs target value) (led-through s p v (record { purpose = Store; unit = 4; address = address }) h co runs got)
    ∙ elim (is_linked (vcpu m v).link (line_at (at_half h) address)) as (λ b. ◌≡◌ {A = Result PrivateMachine Exception} (Ok (if_linked b m v regs target value (h.page * 4096 + address % 4096))) (Ok (content (stored_if b t v (at_half h) regs address value target)))) [
      | true ↦ λ i. Ok (on_vcpu (left (sym same i) v (with_register regs target 1)) v (with_link None))
      | false ↦ refl
    ]
by-half-content s p v h regs (asks.ReadCp0 number target) w co runs given got = cc
by-half-content s p v h regs (asks.WriteCp0 number value) w co runs given got = cc
by-half-content s p v h regs (asks.System op) w co runs given got = cc

-- the register page of what runs, where it is open, is its registers'
abbrev pub Shows : GuestState → ℕ → ℕ → Type 0
Shows s p v = is_open_to (sight (with_inputs s v) p v) ≡ true → block_at s v ≡ Some (block_of (vcpu_of (with_inputs s v) v).cp0)

read-shown : (o : Option RegBlock) (c : Cp0Registers) (regs : Regs) (number target : ℕ) → o ≡ Some (block_of c) → is_loaded number ≡ true → with_register regs target (reads c (register_at number)) ≡ read_from o regs number target
read-shown o c regs number target shown is = ap (with_register regs target) (sym (word-read c number is)) ∙ ap (λ (b : Option RegBlock). read_from b regs number target) (sym shown)

accessed-content : (s : GuestState) (p v : ℕ) (at : Reached) (regs : Regs) (r : Request) → Consistent s → (processor s p).loaded ≡ Some v → Shows s p v → OfPage (is_open_to (sight (with_inputs s v) p v)) r → DataReached (sight (with_inputs s v) p v) (wanted r) at
    → answered (content (with_inputs s v)) v regs r ≡ Ok (content (accessed (with_inputs s v) v at regs r))
accessed-content s p v at regs r co runs shows is_page got = by r is_page got
  where
    reaches : (r : Request) (w : Wanted) → wanted r ≡ Some w → (h : Half) × (at ≡ at_half h) × ByHalf (sight (with_inputs s v) p v) w h → answered (content (with_inputs s v)) v regs r ≡ Ok (content (accessed (with_inputs s v) v at regs r))
    reaches r w given got = subst (λ (z : Reached). answered (content (with_inputs s v)) v regs r ≡ Ok (content (accessed (with_inputs s v) v z regs r))) (sym got.1) (by-half-content s p v got.0 regs r w co runs given got.2)

    by : (r : Request) → OfPage (is_open_to (sight (with_inputs s v) p v)) r → DataReached (sight (with_inputs s v) p v) (wanted r) at → answered (content (with_inputs s v)) v regs r ≡ Ok (content (accessed (with_inputs s v) v at regs r))
    by asks.Nothing is_page got = refl
    by (asks.Load kind address target) is_page got = reaches (asks.Load kind address target) _ refl got
    by (asks.Store kind address value) is_page got = reaches (asks.Store kind address value) _ refl got
    by (asks.LoadLinked address target) is_page got = reaches (asks.LoadLinked address target) _ refl got
    by (asks.StoreConditional address value target) is_page got = reaches (asks.StoreConditional address value target) _ refl got
    by (asks.ReadCp0 number target) is_page got =
        let c = (vcpu_of (with_inputs s v) v).cp0 in
        λ i. Ok (left (content (with_inputs s v)) v (read-shown (block_at s v) c regs number target (shows is_page.0) is_page.1 i))
    by (asks.WriteCp0 number value) is_page got = refl
    by (asks.System op) is_page got = absurd is_page

-- what is known where the hardware doesn't trap
pub record Ran (x : Sight) (pages : List Page) (regs : Regs) (d : Done) : Type 0 where
  pub no_line : x.line ≡ false
  pub fetched_by : Half
  pub by_half : ByHalf x (fetch_at regs.pc) fetched_by
  pub not_privileged : is_privileged (word_through pages (at_half fetched_by) regs.pc) ≡ false
  pub raw : Effect
  pub does_it : effect (decoded (word_through pages (at_half fetched_by) regs.pc)) regs ≡ Ok raw
  pub asks_it : d.does ≡ asks_of x raw
  pub by_data : DataReached x (wanted d.does.request) (data_reached d)

data-ok : (x : Sight) (word : ℕ) (fetched : Reached) (does : Effect) (w : Option Wanted) (d : Done) → accesses x word fetched does w ≡ Ok d → (does ≡ d.does) × DataReached x w (data_reached d)
data-ok x word fetched does None d e =
    let same : record { fetched = fetched; does = does; data_at = None } ≡ d = cc in
    (ap (λ (z : Done). z.does) same, tt)
data-ok x word fetched does (Some w) d e = at (reached x w) refl e
  where
    at : (r : Result Reached Lack) → reached x w ≡ r → with_data word w fetched does r ≡ Ok d → (does ≡ d.does) × DataReached x (Some w) (data_reached d)
    at (Err lack) is e = cc
    at (Ok h) is e =
        let same : record { fetched = fetched; does = does; data_at = Some h } ≡ d = cc in
        (ap (λ (z : Done). z.does) same, subst (λ (z : Done). DataReached x (Some w) (data_reached z)) same (reached-ok x w h is))

executes-ok : (x : Sight) (word : ℕ) (fetched : Reached) (r : Result Effect Exception) (d : Done) → executes x word fetched r ≡ Ok d → (raw : Effect) × (r ≡ Ok raw) × (d.does ≡ asks_of x raw) × DataReached x (wanted d.does.request) (data_reached d)
executes-ok x word fetched (Err exception) d e = cc
executes-ok x word fetched (Ok does) d e =
    let r = data-ok x word fetched (asks_of x does) (wanted (asks_of x does).request) d e in
    (does, refl, sym r.0, subst (λ (z : Effect). DataReached x (wanted z.request) (data_reached d)) r.0 r.1)

pub ran-ok : (x : Sight) (pages : List Page) (regs : Regs) (d : Done) → hardware_step x pages regs ≡ Ok d → Ran x pages regs d
ran-ok x pages regs d e = line x.line refl e
  where
    privileged : (h : Half) → ByHalf x (fetch_at regs.pc) h → x.line ≡ false → (b : Bool) → is_privileged (word_through pages (at_half h) regs.pc) ≡ b
        → (if b then Err (Privileged (word_through pages (at_half h) regs.pc)) else executes x (word_through pages (at_half h) regs.pc) (at_half h) (effect (decoded (word_through pages (at_half h) regs.pc)) regs)) ≡ Ok d → Ran x pages regs d
    privileged h r off true is e = cc
    privileged h r off false is e =
        let done = executes-ok x (word_through pages (at_half h) regs.pc) (at_half h) (effect (decoded (word_through pages (at_half h) regs.pc)) regs) d e in
        record { no_line = off; fetched_by = h; by_half = r; not_privileged = is; raw = done.0; does_it = done.1; asks_it = done.2; by_data = done.3 }

    fetch : (r : Result Reached Lack) → reached x (fetch_at regs.pc) ≡ r → x.line ≡ false → fetches x pages regs r ≡ Ok d → Ran x pages regs d
    fetch (Err lack) is off e = cc
    fetch (Ok at) is off e =
        let r = reached-ok x (fetch_at regs.pc) at is in
        privileged r.0 r.2 off (is_privileged (word_through pages (at_half r.0) regs.pc)) refl (subst (λ (z : Reached). decodes x regs z (word_through pages z regs.pc) ≡ Ok d) r.1 e)

    line : (b : Bool) → x.line ≡ b → (if b then Err Line else fetches x pages regs (reached x (fetch_at regs.pc))) ≡ Ok d → Ran x pages regs d
    line true is e = cc
    line false is e = fetch (reached x (fetch_at regs.pc)) refl is e

-- the step is the guest's own, where its request is of memory (which any word but one of coprocessor 0 asks) or of the register page, which
-- is open to the processor exactly where it is to the guest
pub steps_content : (s t : GuestState) (p v : ℕ) → Consistent s → (row : Steps s p v t) → Shows s p v → is_open (content (with_inputs s v)) v ≡ is_open_to (sight (with_inputs s v) p v) → OfPage (is_open_to (sight (with_inputs s v) p v)) row.done.does.request → content t ≡ own_step (content s) v
steps_content s t p v co row shows opens is_page =
    let u = with_inputs s v in
    let m = content u in
    let d = row.done in
    let c = vcpu_of u v in
    let ran = ran-ok (sight u p v) u.pages c.registers d row.does in
    let h = ran.fetched_by in
    let pc = c.registers.pc in
    let fits : pc % 4 ≡ 0 = eqb-true (pc % 4) 0 ran.by_half.aligned in
    let at : h.page * 4096 + pc % 4096 ≡ word_offset (h.page * 4096 + pc % 4096) = omega arith in
    let word : fetched m v ≡ Ok (word_through s.pages (at_half h) pc) =
    ap (word_of m) (led-through s p v (fetch_at pc) h co row.runs.loaded ran.by_half)
    ∙ (λ i. Ok (word_at m.memory (at i)))
    ∙ (λ i. Ok (word-through s p h pc co ran.by_half.has i)) in
    let done = accessed u v (data_reached d) d.does.registers d.does.request in
    let asked : answered m v ran.raw.registers (redirected (is_open m v) ran.raw.request) ≡ answered m v d.does.registers d.does.request =
    ap (λ (b : Bool). answered m v ran.raw.registers (redirected b ran.raw.request)) opens ∙ ap (λ (z : Effect). answered m v z.registers z.request) (sym ran.asks_it) in
    let tried : attempted m v ≡ Ok (content done) =
    ap (decided m v) word
    ∙ rw (ran.not_privileged, ran.does_it) asked
    ∙ accessed-content s p v (data_reached d) d.does.registers d.does.request co row.runs.loaded shows is_page ran.by_data in
    let ended : acted m v ≡ content done = rw (ran.no_line, tried) refl in
    ap content (steps-after s t p v row)
    ∙ noted-content p (told s v d) (ticked done v)
    ∙ ap (λ (x : PrivateMachine). on_vcpu x v ticking) (sym ended)
    ∙ ap (λ (x : PrivateMachine). made x v) (content-inputs s v)
    ∙ sym (own_step-made (content s) v row.runs.running)
  where
    own_step-made : (m : PrivateMachine) (v : ℕ) → (vcpu m v).halted ≡ false → own_step m v ≡ made (joined m v) v
    own_step-made m v running = rw running refl
