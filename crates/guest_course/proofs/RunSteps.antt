-- A step of the hardware that leaves nothing to note is a step that the processor makes by itself, and so many are so many.
use Rattle.std.proofs.Common.{◌≡◌, ℕ, zero, suc, ◌<◌, ◌≤◌, ◌+◌, ◌-◌, ◌*◌, ◌/◌, ◌%◌, ◌==◌, nat_lt, nat_le, ◌&&◌, ◌||◌, not, if◌then◌else◌, Bool, true, false, List, [], ◌∷◌, length, map, get_or, set, Option, Some, None, is_some, Result, Ok, Err, refl, sym, ap, ◌∙◌, subst, get_or-set_same, length-set, arith}
use Rattle.std.proofs.lemmas.List.{set-get_or, set-set}
use Rattle.std.proofs.Math.Seq.{map-set_same}
use Rattle.std.specs.Global.{Vec}
use Rattle.std.specs.Vec.{with_items}
use Rattle.base_words.specs.declared.regs.Regs.{Regs}
use Rattle.base_words.specs.declared.ids.ProcId.{ProcId}
use Rattle.base_words.specs.declared.ids.VcpuId.{VcpuId}
use Rattle.base_words.specs.declared.trap.Access.{Access}
use Rattle.base_words.specs.declared.trap.TrapCause.{TrapCause}
use Rattle.base_words.specs.declared.trap.DataAccess.{DataAccess}
use Rattle.base_words.specs.declared.trap.DataAccess.TheVariants.{NoData, Load, Store}
use Rattle.base_words.specs.declared.effect.Request.{Request}
use Rattle.base_words.specs.declared.effect.Request.TheVariants as asks
use Rattle.base_words.specs.declared.events.Event.{Event}
use Rattle.base_words.specs.declared.events.Event.TheVariants.{Direct}
use Rattle.base_words.specs.Halves.{Half}
use Rattle.private_machine.specs.declared.register_page.RegBlock.{RegBlock}
use Rattle.private_machine.specs.declared.vcpu.Vcpu.{Vcpu}
use Rattle.private_machine.specs.Vcpu.{no_vcpu, with_registers, with_link, with_cp0, ticking}
use Rattle.private_machine.specs.Ticking.{ticking_often}
use Rattle.private_machine.specs.Showing.{shown_by, shown_from}
use Rattle.private_machine.specs.Signals.{changed}
use Rattle.private_machine.specs.Backing.{Page, Held}
use Rattle.private_machine.specs.Links.{is_linked}
use Rattle.private_machine.specs.Policy.{Misses, no_misses, noted}
use Rattle.private_machine.specs.Reaching.{Reached, Sight}
use Rattle.base_words.specs.Merging.{stored_word}
use Rattle.private_machine.specs.HardwareStep.{Trap, Done, hardware_step, word_through}
use Rattle.private_machine.specs.DirectAccess.{Outcome, hardware_outcome, outcome_of, link_of, link_without, line_at, stored_at, stored_if_linked, accessed_through, stepped_through, access_told, data_reached}
use Rattle.page_ops.specs.declared.memo.Memo.{Memo}
use Rattle.hw_cpu.specs.Steps.{with_page, left_by}
use Rattle.hw_cpu.specs.Runs.{IsUnnoted, StepsQuietly, Runs}
use Rattle.guest_devs.specs.DeviceCalls.{on_page}
use Rattle.guest_devs.specs.Quiet.{AreQuiet}
use Rattle.isolation_law.specs.Surroundings.{node_of_processor}
use Rattle.isolation_law.specs.GuestState.{GuestState, processor, block_at, due_on, misses_of}
use Rattle.isolation_law.specs.DirectStep.{relinked, is_miss, data_noted, access_noted}
use Rattle.isolation_law.specs.Phases.{lets_act}
use Rattle.isolation_law.specs.Coherence.{Coherent}
use Rattle.isolation_law.specs.LiveCells.{UsesLive}
use Rattle.isolation_law.specs.MachineEvent.{Row}
use Rattle.guest_course.specs.declared.course.Course.{Course}
use Rattle.guest_course.specs.declared.place.Place.{Place}
use Rattle.guest_course.specs.declared.window.Window.{Window}
use Rattle.guest_course.specs.CourseView.{state_of}
use Rattle.guest_course.specs.CourseRules.{IsSound, StandsAt}
use Rattle.guest_course.specs.Failures.{lost_in}
use Rattle.guest_course.specs.HardwareView.{links_of, held_by, stepped, after_step, sight_at}
use Rattle.guest_course.specs.Joining.{waits_for, lined, is_due}
use Rattle.guest_course.specs.StepCalls.{MayStep, StepsMany}
use Rattle.guest_course.specs.Runs.{is_far, unnoted_by, run_vcpus}
use Rattle.guest_course.specs.Windows.{IsWindowOn}
use Rattle.guest_course.proofs.NotingLemmas.{on-node, noted-near}
use Rattle.guest_course.proofs.PagingLemmas.{taken-same}
use Rattle.guest_course.proofs.BetweenLemmas.{relinked-same}
use Rattle.guest_course.proofs.LinkLemmas.{length-links}
use Rattle.guest_course.proofs.VecLemmas.{items-with, with_items-same}
use Rattle.guest_course.proofs.ShownLemmas.{shown-ticking, stepped-shown, stepped-length}
use Rattle.guest_course.proofs.QuietLemmas.{QuietPass, quiet-due, quiet-joined, quiet-lined, quiet-less, quiet-same, stepped-times}
use Rattle.guest_course.proofs.RebackLemmas.{well, is-well}
use Rattle.guest_course.proofs.StepProofs.{Made, Noted, WordsTaken, outcome, executes as step-executes, sound-after, step-goes-on, step-runs}
use Rattle.guest_course.proofs.WindowProofs.{quiet-made, window-made}

-- ---- what leaves nothing to note

near-misses : (s : GuestState) (p frame : ℕ) (place : Place) → 0 < s.around.frames → StandsAt s.around p place → is_far place frame ≡ false → is_miss s p frame ≡ false
near-misses s p frame place some stands near =
    let node = place.node.0 in
    let first = stands.first in
    let past = stands.past in
    let bounds = near-bounds (nat_lt frame place.first) (nat_le place.past frame) near in
    let below : node * s.around.frames ≤ frame = subst (λ (n : ℕ). n ≤ frame) first (not-lt frame place.first bounds.0) in
    let above : frame < node * s.around.frames + s.around.frames = subst (λ (n : ℕ). frame < n) (past ∙ ap (λ (n : ℕ). n + s.around.frames) first) (not-le place.past frame bounds.1) in
    ap (λ (n : ℕ). not (frame / s.around.frames == n)) (sym stands.node) ∙ on-node frame s.around.frames node some below above
  where
    near-bounds : (a b : Bool) → (a || b) ≡ false → (a ≡ false) × (b ≡ false)
    near-bounds false b e = (refl, e)
    near-bounds true b e = cc

    not-lt : (a b : ℕ) → nat_lt a b ≡ false → b ≤ a
    not-lt a b e = search (arith, e)

    not-le : (a b : ℕ) → nat_le a b ≡ false → b < a
    not-le a b e = search (arith, e)

access-unnoted : (s : GuestState) (p q frame : ℕ) (store : Bool) → is_miss s p frame ≡ false → noted false store (node_of_processor s.around p) (misses_of s q) ≡ misses_of s q → access_noted p q frame store s ≡ s
access-unnoted s p q frame store near stays =
    let node = node_of_processor s.around p in
    let misses = set s.misses q (noted false store node (misses_of s q)) in
    let same : misses ≡ s.misses = ap (set s.misses q) stays ∙ set-get_or s.misses q (no_misses 0) in
    sym (noted-near s p q frame node store misses refl near refl) ∙ ap (λ (l : List Misses). record s { misses = l }) same

written-stays : (m : Misses) → m.written ≡ true → record m { written = true } ≡ m
written-stays m is = ap (λ (b : Bool). record m { written = b }) (sym is)

unnoted-load : (far : Bool) → (not far && true) ≡ true → far ≡ false
unnoted-load false e = refl
unnoted-load true e = cc

unnoted-store : (far below written : Bool) → (not far && (false || below && written)) ≡ true → (far ≡ false) × (written ≡ true)
unnoted-store false true true e = (refl, refl)
unnoted-store false true false e = cc
unnoted-store false false written e = cc
unnoted-store true below written e = cc

pub stays-unnoted : (s : GuestState) (p : ℕ) (place : Place) (access : DataAccess) → 0 < s.around.frames → StandsAt s.around p place → IsUnnoted (unnoted_by place s.misses) access → data_noted p access s ≡ s
stays-unnoted s p place NoData some stands is = refl
stays-unnoted s p place (Load page frame) some stands is = access-unnoted s p page.0 frame.0 false (near-misses s p frame.0 place some stands (unnoted-load (is_far place frame.0) is)) refl
stays-unnoted s p place (Store page frame) some stands is =
    let parts = unnoted-store (is_far place frame.0) (nat_lt page.0 (length s.misses)) (misses_of s page.0).written is in
    access-unnoted s p page.0 frame.0 true (near-misses s p frame.0 place some stands parts.0) (written-stays (misses_of s page.0) parts.1)

-- ---- links stay as many

written-links : (v : ℕ) (at : Reached) (address word : ℕ) (h : Held) → length (stored_at v at address word h).links ≡ length h.links
written-links v at address word h = length-set (map (link_without (line_at at address)) h.links) v (link_of v h) ∙ length-map h.links
  where
    length-map : (ls : List (Option ℕ)) → length (map (link_without (line_at at address)) ls) ≡ length ls
    length-map [] = refl
    length-map (l ∷ ls) = ap suc (length-map ls)

accessed-links : (v : ℕ) (block : Option RegBlock) (at : Reached) (regs : Regs) (r : Request) (h : Held) → length (accessed_through v block at regs r h).held.links ≡ length h.links
accessed-links v block at regs asks.Nothing h = refl
accessed-links v block at regs (asks.Load kind address target) h = refl
accessed-links v block at regs (asks.Store kind address value) h = written-links v at address (stored_word kind (word_through h.pages at address) value (address % 4)) h
accessed-links v block at regs (asks.LoadLinked address target) h = length-set h.links v (Some (line_at at address))
accessed-links v block at regs (asks.StoreConditional address value target) h =
    elim (is_linked (link_of v h) (line_at at address)) as (λ b. length (stored_if_linked b v at regs address value target h).held.links ≡ length h.links) [
      | true ↦ length-set (stored_at v at address value h).links v None ∙ written-links v at address value h
      | false ↦ length-set h.links v None
    ]
accessed-links v block at regs (asks.ReadCp0 number target) h = refl
accessed-links v block at regs (asks.WriteCp0 number value) h = refl
accessed-links v block at regs (asks.System op) h = refl

step-links : (x : Sight) (v : ℕ) (h : Held) (r : Regs) (o : Outcome) → hardware_outcome x v h r ≡ Ok o → length o.after.held.links ≡ length h.links
step-links x v h r o is = by (hardware_step x h.pages r) is
  where
    by : (d : Result Done Trap) → outcome_of v x.block h d ≡ Ok o → length o.after.held.links ≡ length h.links
    by (Ok d) e = ap (λ (y : Outcome). length y.after.held.links) (let same : o ≡ record { access = access_told v h d; after = stepped_through v x.block h d } = cc in same) ∙ accessed-links v x.block (data_reached d) d.does.registers d.does.request h
    by (Err trap) e = cc

run-links : (unnoted : ℕ → ℕ → Bool → Bool) (n : ℕ) (x : Sight) (v : ℕ) (r s : Regs) (h g : Held) → Runs unnoted n x v r h s g → length g.links ≡ length h.links
run-links unnoted zero x v r s h g ran = ap (λ (y : Held). length y.links) ran.1
run-links unnoted (suc n) x v r s h g ran =
    step-links x v ran.1 ran.0 (record { access = ran.3.access; after = left_by s x.block g }) ran.3.makes ∙ run-links unnoted n x v r ran.0 h ran.1 ran.2

-- ---- the virtual processors after so many

pub tick-registers : (n : ℕ) (c : Vcpu) → (ticking_often n c).registers ≡ c.registers
tick-registers zero c = refl
tick-registers (suc n) c = tick-registers n c

-- ticks don't look at registers, nor at the link
tick-swap : (n : ℕ) (mid to : Regs) (c : Vcpu) → with_registers to (ticking_often n (with_registers mid c)) ≡ ticking_often n (with_registers to c)
tick-swap zero mid to c = refl
tick-swap (suc n) mid to c = ap ticking (tick-swap n mid to c)

tick-link : (n : ℕ) (mid : Regs) (l : Option ℕ) (c : Vcpu) → with_link l (ticking_often n (with_registers mid c)) ≡ ticking_often n (with_registers mid (with_link l c))
tick-link zero mid l c = refl
tick-link (suc n) mid l c = ap ticking (tick-link n mid l c)

tick-linked : (n : ℕ) (mid : Regs) (c : Vcpu) → (ticking_often n (with_registers mid c)).link ≡ c.link
tick-linked zero mid c = refl
tick-linked (suc n) mid c = tick-linked n mid c

relink-twice : (ls ls' : List (Option ℕ)) (cs : List Vcpu) → length ls' ≡ length cs → relinked ls' (relinked ls cs) ≡ relinked ls' cs
relink-twice [] ls' cs long = refl
relink-twice (l ∷ ls) [] [] long = refl
relink-twice (l ∷ ls) [] (c ∷ cs) long = cc
relink-twice (l ∷ ls) (l' ∷ ls') [] long = cc
relink-twice (l ∷ ls) (l' ∷ ls') (c ∷ cs) long = ap (λ xs. with_link l' c ∷ xs) (relink-twice ls ls' cs (let more : length ls' ≡ length cs = cc in more))

relink-changed : (f : Vcpu → Vcpu) → ((l : Option ℕ) (c : Vcpu) → with_link l (f c) ≡ f (with_link l c)) → (v : ℕ) (ls ls' : List (Option ℕ)) (cs : List Vcpu) → length ls' ≡ length cs → relinked ls' (changed v f (relinked ls cs)) ≡ changed v f (relinked ls' cs)
relink-changed f swaps v [] [] [] long = refl
relink-changed f swaps v (l ∷ ls) [] [] long = refl
relink-changed f swaps v ls [] (c ∷ cs) long = cc
relink-changed f swaps v ls (l' ∷ ls') [] long = cc
relink-changed f swaps zero [] (l' ∷ ls') (c ∷ cs) long = ap (λ x. x ∷ relinked ls' cs) (swaps l' c)
relink-changed f swaps zero (l ∷ ls) (l' ∷ ls') (c ∷ cs) long = λ i. swaps l' (with_link l c) i ∷ relink-twice ls ls' cs (let more : length ls' ≡ length cs = cc in more) i
relink-changed f swaps (suc v) [] (l' ∷ ls') (c ∷ cs) long = ap (λ xs. with_link l' c ∷ xs) (relink-changed f swaps v [] ls' cs (let more : length ls' ≡ length cs = cc in more))
relink-changed f swaps (suc v) (l ∷ ls) (l' ∷ ls') (c ∷ cs) long = ap (λ xs. with_link l' c ∷ xs) (relink-changed f swaps v ls ls' cs (let more : length ls' ≡ length cs = cc in more))

length-relinked : (ls : List (Option ℕ)) (cs : List Vcpu) → length (relinked ls cs) ≡ length cs
length-relinked [] cs = refl
length-relinked (l ∷ ls) [] = refl
length-relinked (l ∷ ls) (c ∷ cs) = ap suc (length-relinked ls cs)

links-relinked : (ls : List (Option ℕ)) (cs : List Vcpu) → length ls ≡ length cs → links_of (relinked ls cs) ≡ ls
links-relinked [] [] long = refl
links-relinked [] (c ∷ cs) long = cc
links-relinked (l ∷ ls) [] long = cc
links-relinked (l ∷ ls) (c ∷ cs) long = ap (λ xs. l ∷ xs) (links-relinked ls cs (let more : length ls ≡ length cs = cc in more))

links-changed : (f : Vcpu → Vcpu) → ((c : Vcpu) → (f c).link ≡ c.link) → (v : ℕ) (cs : List Vcpu) → links_of (changed v f cs) ≡ links_of cs
links-changed f stays v [] = refl
links-changed f stays zero (c ∷ cs) = ap (λ l. l ∷ links_of cs) (stays c)
links-changed f stays (suc v) (c ∷ cs) = ap (λ xs. c.link ∷ xs) (links-changed f stays v cs)

pub run-links-are : (v n : ℕ) (s : Regs) (ls : List (Option ℕ)) (cs : List Vcpu) → length ls ≡ length cs → links_of (run_vcpus v n s ls cs) ≡ ls
run-links-are v n s ls cs long = links-changed (λ c. ticking_often n (with_registers s c)) (tick-linked n s) v (relinked ls cs) ∙ links-relinked ls cs long

pub run-length : (v n : ℕ) (s : Regs) (ls : List (Option ℕ)) (cs : List Vcpu) → length (run_vcpus v n s ls cs) ≡ length cs
run-length v n s ls cs = length-set (relinked ls cs) v (ticking_often n (with_registers s (get_or (relinked ls cs) v no_vcpu))) ∙ length-relinked ls cs

changed-twice : (f g : Vcpu → Vcpu) (v : ℕ) (cs : List Vcpu) → v < length cs → changed v f (changed v g cs) ≡ changed v (λ c. f (g c)) cs
changed-twice f g v cs there =
    let x = g (get_or cs v no_vcpu) in
    ap (λ (c : Vcpu). set (set cs v x) v (f c)) (get_or-set_same cs v x no_vcpu there) ∙ set-set cs v x (f x)

-- one step more
pub run-more : (v n : ℕ) (mid s : Regs) (ls ls' : List (Option ℕ)) (cs : List Vcpu) → v < length cs → length ls' ≡ length cs → changed v ticking (changed v (with_registers s) (relinked ls' (run_vcpus v n mid ls cs))) ≡ run_vcpus v (suc n) s ls' cs
run-more v n mid s ls ls' cs there long =
    let f : Vcpu → Vcpu = λ c. ticking_often n (with_registers mid c) in
    let g : Vcpu → Vcpu = λ c. with_registers s c in
    let here : v < length (relinked ls' cs) = subst (λ (m : ℕ). v < m) (sym (length-relinked ls' cs)) there in
    let here' : v < length (changed v f (relinked ls' cs)) = subst (λ (m : ℕ). v < m) (sym (run-length v n mid ls' cs)) there in
    ap (λ (xs : List Vcpu). changed v ticking (changed v g xs)) (relink-changed f (λ l c. tick-link n mid l c) v ls ls' cs long)
    ∙ changed-twice ticking g v (changed v f (relinked ls' cs)) here'
    ∙ changed-twice (λ c. ticking (g c)) f v (relinked ls' cs) here
    ∙ ap (λ (c : Vcpu). set (relinked ls' cs) v (ticking c)) (tick-swap n mid s (get_or (relinked ls' cs) v no_vcpu))

-- ---- a step of the hardware that leaves nothing to note

pub quiet-step : (unnoted : ℕ → ℕ → Bool → Bool) → WordsTaken → (k d : Course) (p v : ℕ) (s : Regs) (g : Held) → IsSound k → MayStep (state_of k) p v → AreQuiet 1 v k.vcpus.items k.devs.state.page
    → (q : StepsQuietly unnoted (with_page (block_at (state_of k) v) (sight_at (lost_in k.around.site.shape k.dead) (get_or k.vcpus.items v no_vcpu) false (processor (state_of k) p).tlb)) v (get_or k.vcpus.items v no_vcpu).registers (held_by k.pmap.pages k.vcpus.items) s g)
    → d ≡ record k { vcpus = d.vcpus; pmap = d.pmap } → d.pmap.spares ≡ k.pmap.spares → d.pmap.pages ≡ g.pages → d.vcpus.items ≡ changed v ticking (changed v (with_registers s) (relinked g.links k.vcpus.items)) → Made k d p v q.access
quiet-step unnoted words k d p v s g sound may quiet q same spares pages items =
    let cs = k.vcpus.items in
    let x = get_or cs v no_vcpu in
    let devices = k.devs.state.page in
    let block = block_at (state_of k) v in
    let lost = lost_in k.around.site.shape k.dead in
    let tlb = (processor (state_of k) p).tlb in
    let held = held_by k.pmap.pages cs in
    let o : Outcome = record { access = q.access; after = left_by s block g } in
    let is : outcome k p v ≡ Ok o = ap (λ b. hardware_outcome (with_page block (sight_at lost x b tlb)) v held x.registers) (quiet-due v cs devices quiet) ∙ q.makes in
    let between = stepped v block o cs in
    let left : between ≡ changed v (with_registers s) (relinked g.links cs) = ap (λ (cp0 : _). set (relinked g.links cs) v (with_cp0 cp0 (with_registers s (get_or (relinked g.links cs) v no_vcpu)))) (taken-same block (get_or (relinked g.links cs) v no_vcpu).cp0) in
    let rests = quiet-same 1 v between cs devices (stepped-times v block o cs) quiet in
    let ticked : d.vcpus.items ≡ changed v ticking (lined v (waits_for between devices) between) =
    items ∙ ap (changed v ticking) (sym left) ∙ ap (changed v ticking) (sym (quiet-lined v between devices rests)) in
    let shown : map shown_by d.vcpus.items ≡ map shown_by cs =
    ap (map shown_by) (items ∙ ap (changed v ticking) (sym left)) ∙ map-set_same shown_by between v (ticking (get_or between v no_vcpu)) no_vcpu (shown-ticking (get_or between v no_vcpu)) ∙ stepped-shown v block o cs in
    record {
      sound = sound;
      may = may;
      words = words;
      hardware = record {
        same = λ i. record (same i) { blocks = d.blocks; devs = d.devs };
        blocks = ap (λ (y : Course). y.blocks.items) same ∙ sym (set-get_or k.blocks.items v None) ∙ ap (λ (y : Course). set k.blocks.items v (get_or y.blocks.items v None)) (sym same);
        spares = spares;
        devs = ap (λ (y : Course). y.devs.state) same ∙ ap (λ (y : Course). on_page k.devs.state y.devs.state.page) (sym same);
        agree = shown ∙ sound.agree ∙ ap (λ (y : Course). shown_from y.devs.state.packet y.devs.state.halted y.devs.state.called) (sym same);
      };
      executed = record {
        between = between;
        made = record { o = o; is_it = is; told = refl; block_is = ap (λ (y : Course). get_or y.blocks.items v None) same; pages = pages; vcpus_are = refl };
        vcpus_are = ticked;
        page_is = ap (λ (y : Course). y.devs.state.page) same ∙ sym (quiet-joined v between devices rests);
      };
    }

-- ---- so many

-- what a run goes by
pub record Laws : Type 0 where
  pub words : WordsTaken
  pub pass : QuietPass
  pub coherent : (s t : GuestState) (e : Event) → Coherent s → Row s e t → t.end ≡ None → Coherent t
  pub live : (s t : GuestState) (e : Event) → UsesLive s → Row s e t → UsesLive t

pub record Ran (c : Course) (p v n rest : ℕ) (w : Window) (d : Course) : Type 0 where
  pub sound : IsSound d
  pub may : MayStep (state_of d) p v
  pub steps : StepsMany n (state_of c) p v (state_of d)
  pub quiet : AreQuiet rest v d.vcpus.items d.devs.state.page
  pub window : IsWindowOn d p v w

ran-more : Laws → (c : Course) (p : ProcId) (v : VcpuId) (place : Place) (n rest : ℕ) (w : Window) (k d : Course) (s : Regs) (g : Held) → 0 < rest → 0 < (state_of k).around.frames → StandsAt (state_of k).around p.0 place → due_on (state_of k) p.0 ≡ None
    → (q : StepsQuietly (unnoted_by place (state_of k).misses) (with_page (block_at (state_of k) v.0) (sight_at (lost_in k.around.site.shape k.dead) (get_or k.vcpus.items v.0 no_vcpu) false (processor (state_of k) p.0).tlb)) v.0 (get_or k.vcpus.items v.0 no_vcpu).registers (held_by k.pmap.pages k.vcpus.items) s g)
    → d ≡ record k { vcpus = d.vcpus; pmap = d.pmap } → d.pmap.spares ≡ k.pmap.spares → d.pmap.pages ≡ g.pages → d.vcpus.items ≡ changed v.0 ticking (changed v.0 (with_registers s) (relinked g.links k.vcpus.items)) → Ran c p.0 v.0 n rest w k → Ran c p.0 v.0 (suc n) (rest - 1) w d
ran-more laws c p v place n rest w k d s g some frames stands none q same spares pages items before =
    let made = quiet-step (unnoted_by place (state_of k).misses) laws.words k d p.0 v.0 s g before.sound before.may (quiet-less rest 1 v.0 k.vcpus.items k.devs.state.page some before.quiet) q same spares pages items in
    let noted : Noted d d = record { same = refl; dues = refl; counted = λ pages nodes are. are } in
    let stays : data_noted p.0 q.access.«data» (state_of d) ≡ state_of d =
    subst (λ (y : Course). data_noted p.0 q.access.«data» (state_of y) ≡ state_of y) (sym same) (stays-unnoted (state_of (record k { vcpus = d.vcpus; pmap = d.pmap })) p.0 place q.access.«data» frames stands q.quiet) in
    let row = (step-executes k d d p.0 v.0 q.access made (sym stays)).row in
    let going = before.sound.going before.may.goes_on.not_ended in
    let on = step-goes-on k d d p.0 v.0 q.access made noted in
    let co = well laws.coherent laws.live (state_of k) (state_of d) (Direct p v) (is-well going) row on.not_ended in
    record {
      sound = sound-after k d d p.0 v.0 q.access made noted co;
      may = record {
        goes_on = on;
        runs = step-runs k d d p.0 v.0 q.access made noted;
        may_act = ap (lets_act (state_of d)) (ap (λ (y : Course). due_on (state_of y) p.0) same ∙ none);
      };
      steps = (state_of k, before.steps, row);
      quiet = quiet-made laws.pass k d d p.0 v.0 q.access made noted rest before.quiet;
      window = window-made k d d p.0 v.0 q.access made noted w before.window;
    }

-- a guest after so many steps of one of its virtual processors, which left these registers, pages and links
abbrev pub after_run : Course → ℕ → ℕ → Regs → Held → Course
after_run c v n s g = record c { vcpus = with_items c.vcpus (run_vcpus v n s g.links c.vcpus.items); pmap = record c.pmap { pages = g.pages } }

-- the one that steps is in the same mode and address space as before
same-sight : (c k : Course) (p v : ℕ) (w : Window) (lost : ℕ → Bool) (tlb : List Half) → IsWindowOn c p v w → IsWindowOn k p v w → sight_at lost (get_or k.vcpus.items v no_vcpu) false tlb ≡ sight_at lost (get_or c.vcpus.items v no_vcpu) false tlb
same-sight c k p v w lost tlb first next =
    let user = sym next.user ∙ first.user in
    let asid = sym next.asid ∙ first.asid in
    λ i. record { block = None; user = user i; asid = asid i; line = false; tlb = tlb; lost = lost }

-- none of them
after-none : (c : Course) (v : ℕ) → after_run c v zero (get_or c.vcpus.items v no_vcpu).registers (held_by c.pmap.pages c.vcpus.items) ≡ c
after-none c v =
    let cs = c.vcpus.items in
    let items : run_vcpus v zero (get_or cs v no_vcpu).registers (links_of cs) cs ≡ cs = ap (λ (l : List Vcpu). set l v (with_registers (get_or cs v no_vcpu).registers (get_or l v no_vcpu))) (relinked-same cs) ∙ set-get_or cs v no_vcpu in
    ap (λ (l : Vec Vcpu). record c { vcpus = l }) (with_items-same c.vcpus (run_vcpus v zero (get_or cs v no_vcpu).registers (links_of cs) cs) items)

-- so many steps of the hardware are so many of the guest's
pub ran : Laws → (c : Course) (p : ProcId) (v : VcpuId) (place : Place) (n total : ℕ) (w : Window) (s : Regs) (g : Held) → IsSound c → MayStep (state_of c) p.0 v.0 → 0 < (state_of c).around.frames → StandsAt (state_of c).around p.0 place → (0 < n → due_on (state_of c) p.0 ≡ None)
    → n ≤ total → AreQuiet total v.0 c.vcpus.items c.devs.state.page → IsWindowOn c p.0 v.0 w
    → Runs (unnoted_by place (state_of c).misses) n (with_page (block_at (state_of c) v.0) (sight_at (lost_in c.around.site.shape c.dead) (get_or c.vcpus.items v.0 no_vcpu) false (processor (state_of c) p.0).tlb)) v.0 (get_or c.vcpus.items v.0 no_vcpu).registers (held_by c.pmap.pages c.vcpus.items) s g
    → Ran c p.0 v.0 n (total - n) w (after_run c v.0 n s g)
ran laws c p v place zero total w s g sound may frames stands none few quiet window runs =
    let same : after_run c v.0 zero s g ≡ c = (λ i. after_run c v.0 zero (runs.0 i) (runs.1 i)) ∙ after-none c v.0 in
    let start : Ran c p.0 v.0 zero total w c = record { sound = sound; may = may; steps = refl; quiet = quiet; window = window } in
    subst (λ (d : Course). Ran c p.0 v.0 zero (total - zero) w d) (sym same) (subst (λ (rest : ℕ). Ran c p.0 v.0 zero rest w c) (let all : total ≡ total - zero = omega arith in all) start)
ran laws c p v place (suc n) total w s g sound may frames stands none few quiet window runs =
    let x = get_or c.vcpus.items v.0 no_vcpu in
    let mid = runs.0 in
    let between = runs.1 in
    let k = after_run c v.0 n mid between in
    let d = after_run c v.0 (suc n) s g in
    let there = sound.loaded p.0 v.0 may.runs.loaded in
    let before = ran laws c p v place n total w mid between sound may frames stands (λ some. none (omega arith)) (omega arith) quiet window runs.2 in
    let cs = c.vcpus.items in
    let unnoted = unnoted_by place (state_of c).misses in
    let lost = lost_in c.around.site.shape c.dead in
    let tlb = (processor (state_of c) p.0).tlb in
    let block = block_at (state_of c) v.0 in
    let sight : Sight = with_page block (sight_at lost x false tlb) in
    let long : length between.links ≡ length cs = run-links unnoted n sight v.0 x.registers mid (held_by c.pmap.pages cs) between runs.2 ∙ length-links cs in
    let long' : length g.links ≡ length cs = step-links sight v.0 between mid (record { access = runs.3.access; after = left_by s block g }) runs.3.makes ∙ long in
    let items : k.vcpus.items ≡ run_vcpus v.0 n mid between.links cs = items-with c.vcpus (run_vcpus v.0 n mid between.links cs) (run-length v.0 n mid between.links cs) in
    let at : get_or k.vcpus.items v.0 no_vcpu ≡ ticking_often n (with_registers mid (get_or (relinked between.links cs) v.0 no_vcpu)) =
    ap (λ (l : List Vcpu). get_or l v.0 no_vcpu) items ∙ get_or-set_same (relinked between.links cs) v.0 _ no_vcpu (subst (λ (m : ℕ). v.0 < m) (sym (length-relinked between.links cs)) there) in
    let regs : mid ≡ (get_or k.vcpus.items v.0 no_vcpu).registers = sym (ap (λ (y : Vcpu). y.registers) at ∙ tick-registers n (with_registers mid (get_or (relinked between.links cs) v.0 no_vcpu))) in
    let held : between ≡ held_by k.pmap.pages k.vcpus.items = ap (λ (ls : List (Option ℕ)). record { pages = between.pages; links = ls }) (sym (ap links_of items ∙ run-links-are v.0 n mid between.links cs long)) in
    let seen : sight ≡ with_page block (sight_at lost (get_or k.vcpus.items v.0 no_vcpu) false tlb) = ap (with_page block) (sym (same-sight c k p.0 v.0 w lost tlb window before.window)) in
    let q : StepsQuietly unnoted (with_page block (sight_at lost (get_or k.vcpus.items v.0 no_vcpu) false tlb)) v.0 (get_or k.vcpus.items v.0 no_vcpu).registers (held_by k.pmap.pages k.vcpus.items) s g =
    subst (λ (y : Sight). StepsQuietly unnoted y v.0 (get_or k.vcpus.items v.0 no_vcpu).registers (held_by k.pmap.pages k.vcpus.items) s g) seen
    (subst (λ (h : Held). StepsQuietly unnoted sight v.0 (get_or k.vcpus.items v.0 no_vcpu).registers h s g) held (subst (λ (r : Regs). StepsQuietly unnoted sight v.0 r between s g) regs runs.3)) in
    let after : d.vcpus.items ≡ changed v.0 ticking (changed v.0 (with_registers s) (relinked g.links k.vcpus.items)) =
    items-with c.vcpus (run_vcpus v.0 (suc n) s g.links cs) (run-length v.0 (suc n) s g.links cs)
    ∙ sym (run-more v.0 n mid s between.links g.links cs there long')
    ∙ ap (λ (l : List Vcpu). changed v.0 ticking (changed v.0 (with_registers s) (relinked g.links l))) (sym items) in
    let more = ran-more laws c p v place n (total - n) w k d s g (omega arith) frames stands (none (omega arith)) q refl refl refl after before in
    subst (λ (rest : ℕ). Ran c p.0 v.0 (suc n) rest w d) (let less : total - n - 1 ≡ total - suc n = omega arith in less) more

-- ---- whatever words were met

pub memo-sound : (c : Course) (memo : Memo) → IsSound c → IsSound (record c { memo = memo })
memo-sound c memo sound =
    let sized = sound.sized in
    record {
      sized = record {
        some_vcpus = sized.some_vcpus;
        few_vcpus = sized.few_vcpus;
        blocks = sized.blocks;
        transfers = sized.transfers;
        seconds = sized.seconds;
        few_processors = sized.few_processors;
        due = sized.due;
        few_pages = sized.few_pages;
        cells = sized.cells;
        dead = sized.dead;
      };
      agree = sound.agree;
      loaded = sound.loaded;
      places = sound.places;
      in_hand = sound.in_hand;
      going = λ on. let going = sound.going on in record { coherent = going.coherent; live = going.live; pages = going.pages; counted = going.counted };
    }
