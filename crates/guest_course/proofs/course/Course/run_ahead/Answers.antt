-- A run is so many steps of the processor by itself.
use Rattle.std.proofs.Common.{◌≡◌, ◌<◌, ◌≤◌, ◌-◌, ◌&&◌, not, is_some, Bool, ℕ, List, length, map, false, true, None, Option, refl, sym, ap, ◌∙◌, subst, get_or, arith}
use Rattle.std.proofs.lemmas.List.{get_or_default, get_or-map}
use Rattle.std.specs.Vec.{with_items}
use Rattle.std.specs.Global.{Vec}
use Rattle.base_words.specs.Halves.{Half}
use Rattle.private_machine.specs.declared.vcpu.Vcpu.{Vcpu}
use Rattle.private_machine.specs.declared.register_page.RegBlock.{RegBlock}
use Rattle.private_machine.specs.Vcpu.{no_vcpu}
use Rattle.private_machine.specs.Backing.{Page}
use Rattle.private_machine.specs.Reaching.{Sight}
use Rattle.private_machine.specs.Serving.{AllServe}
use Rattle.private_machine.specs.RegisterPage.{has_page}
use Rattle.hw_tlb.specs.Tlb.{halves}
use Rattle.hw_cpu.specs.Steps.{with_page}
use Rattle.hw_cpu.specs.Runs.{Runs, RunsOpen}
use Rattle.isolation_law.specs.GuestState.{processor, block_at, idle}
use Rattle.isolation_law.specs.Coherence.{Coherent}
use Rattle.pmap_table.specs.PageMap.{PageMap}
use Rattle.guest_course.specs.declared.course.Course.{Course}
use Rattle.guest_course.specs.declared.place.Place.{Place}
use Rattle.guest_course.specs.CourseView.{processor_of, state_of}
use Rattle.guest_course.specs.CourseRules.{StandsAt}
use Rattle.guest_course.specs.Failures.{lost_in}
use Rattle.guest_course.specs.HardwareView.{held_by, sight_at}
use Rattle.guest_course.specs.Runs.{RunsOn, run_vcpus, unnoted_by}
use Rattle.guest_course.specs.Windows.{IsWindow, IsWindowOn}
use Rattle.base_words.specs.Coprocessor.{in_user_mode}
use Rattle.base_words.specs.declared.exception.Use.TheVariants.{Fetch as fetches}
use Rattle.hw_cpu.specs.KeptPages.{IsKeptPage}
use Rattle.guest_course.proofs.DirectRow.{block-there}
use Rattle.guest_course.proofs.NotingLemmas.{stands}
use Rattle.guest_course.proofs.PlaceLemmas.{loaded-below}
use Rattle.guest_course.proofs.RunSteps.{Ran, Laws, ran, memo-sound, after_run}
use Rattle.guest_course.proofs.course.Course.run_ahead.Goals as goal

-- the halves of a processor, as the guest's state shows them
tlb-of : (places : List Place) (p : ℕ) (d : Place) → p < length places → (get_or (map processor_of places) p idle).tlb ≡ halves (get_or places p d).tlb
tlb-of places p d lt = ap (λ x. x.tlb) (get_or-map processor_of places p d idle lt)

tlb-is : (c : goal.After-min) → (processor (state_of c.args.self.now) c.args.processor.0).tlb ≡ halves c.index-place.result.now.tlb
tlb-is c =
    let s = c.args.self.now in
    let p = c.args.processor.0 in
    tlb-of s.places.items p c.index-place.result.now (loaded-below s.places.items p c.args.vcpu.0 c.requires.may.runs.loaded) ∙ ap (λ (x : Place). halves x.tlb) (sym c.index-place.ensures)

pub run_at-requires-clause-serves : goal.run_at-requires-clause-serves
run_at-requires-clause-serves c =
    let s = c.args.self.now in
    let going = c.requires.sound.going c.requires.may.goes_on.not_ended in
    let few : length s.pmap.pages ≤ 0xFFFF = let n = c.requires.sound.sized.few_pages in omega arith in
    let all = c.halves_serve.ensures (state_of s) c.args.processor.0 going.coherent few in
    subst (λ (l : List Vcpu). AllServe (held_by s.pmap.pages l) (halves c.index-place.result.now.tlb)) (sym c.deref_mut.ensures.value)
    (subst (λ (t : List Half). AllServe (held_by s.pmap.pages s.vcpus.items) t) (tlb-is c) all)

gone : (c : goal.After-self-1) → Ran (record c.args.self.now { memo = c.run_at.new.memo }) c.args.processor.0 c.args.vcpu.0 c.run_at.result (c.args.quiet - c.run_at.result) c.args.window.now
    (record c.args.self.now { vcpus = with_items c.args.self.now.vcpus c.run_at.new.vcpus; pmap = c.run_at.new.pmap; memo = c.run_at.new.memo })
gone c =
    let old = c.args.self.now in
    let p = c.args.processor.0 in
    let v = c.args.vcpu.0 in
    let from : Course = record old { memo = c.run_at.new.memo } in
    let laws : Laws = record {
      words = c.page_words_are_taken.ensures;
      pass = c.quiet_steps_pass.ensures;
      coherent = c.row_keeps.ensures.coherent;
      live = c.row_keeps.ensures.uses_live;
    } in
    let r = c.run_at.ensures.runs in
    let place : Place = c.index-place.result.now in
    let few = c.run_at.ensures.few in
    let least = c.min.ensures in
    let lt = loaded-below old.places.items p v c.requires.may.runs.loaded in
    let tlb : (processor (state_of old) p).tlb ≡ halves place.tlb = tlb-of old.places.items p place lt ∙ ap (λ (y : Place). halves y.tlb) (sym c.index-place.ensures) in
    let unnoted = unnoted_by place (state_of old).misses in
    let lost = lost_in old.around.site.shape old.dead in
    let n = c.run_at.result in
    let cs = old.vcpus.items in
    let all : c.deref_mut.result.now ≡ cs = c.deref_mut.ensures.value in
    let at : StandsAt (state_of old).around p place = subst (StandsAt (state_of old).around p) (sym c.index-place.ensures) (stands (state_of old).around p old.places.items place c.requires.sound.places lt) in
    let runs : RunsOpen unnoted n (sight_at lost (get_or cs v no_vcpu) false (processor (state_of old) p).tlb) c.is_open.result v (get_or cs v no_vcpu).registers (held_by old.pmap.pages cs) r.regs r.held =
    subst (λ (t : List Half). RunsOpen unnoted n (sight_at lost (get_or cs v no_vcpu) false t) c.is_open.result v (get_or cs v no_vcpu).registers (held_by old.pmap.pages cs) r.regs r.held) (sym tlb)
    (subst (λ (l : List Vcpu). RunsOpen unnoted n (sight_at lost (get_or l v no_vcpu) false (halves place.tlb)) c.is_open.result v (get_or l v no_vcpu).registers (held_by old.pmap.pages l) r.regs r.held) all r.runs) in
    let going = c.requires.sound.going c.requires.may.goes_on.not_ended in
    let some : is_some (block_at (state_of old) v) ≡ c.args.paged = block-there (state_of old) v going.coherent.mirrors (c.requires.sound.loaded p v c.requires.may.runs.loaded) ∙ sym c.requires.paged in
    let opens : (is_some (block_at (state_of old) v) && not (in_user_mode (get_or cs v no_vcpu).cp0.status)) ≡ c.is_open.result = (λ i. some i && not (sym c.requires.window.user i)) ∙ sym c.is_open.ensures in
    let ran-so = ran laws from c.args.processor c.args.vcpu place c.run_at.result c.args.quiet c.args.window.now r.regs r.held (memo-sound old c.run_at.new.memo c.requires.sound) c.requires.may old.around.site.shape.has_frames at (λ some. c.requires.due (omega (arith, few, least, some)))
    (omega (arith, few, least)) c.requires.quiet c.requires.window (runs (block_at (state_of old) v) opens) in
    let vcpus : run_vcpus v n r.regs r.held.links cs ≡ c.run_at.new.vcpus = sym (r.vcpus_are ∙ ap (run_vcpus v n r.regs r.held.links) all) in
    let pmap : c.run_at.new.pmap ≡ record old.pmap { pages = r.held.pages } = λ i. record { pages = r.pages_are i; spares = c.run_at.ensures.spares i; room = c.run_at.ensures.room i } in
    subst (λ (m : PageMap). Ran from p v n (c.args.quiet - n) c.args.window.now (record from { vcpus = with_items old.vcpus c.run_at.new.vcpus; pmap = m })) (sym pmap)
    (subst (λ (l : List Vcpu). Ran from p v n (c.args.quiet - n) c.args.window.now (record from { vcpus = with_items old.vcpus l; pmap = record old.pmap { pages = r.held.pages } })) vcpus ran-so)

pub returns-clause-sound : goal.returns-clause-sound
returns-clause-sound c = (gone c).sound

pub returns-clause-may : goal.returns-clause-may
returns-clause-may c = (gone c).may

pub returns-clause-steps : goal.returns-clause-steps
returns-clause-steps c = (gone c).steps

pub returns-clause-quiet : goal.returns-clause-quiet
returns-clause-quiet c = (gone c).quiet

pub returns-clause-window : goal.returns-clause-window
returns-clause-window c =
    let old = c.args.self.now in
    let p = c.args.processor.0 in
    let v = c.args.vcpu.0 in
    let left = (gone c).window in
    let first = c.requires.window in
    let lt = loaded-below old.places.items p v c.requires.may.runs.loaded in
    let place : Place = c.index-place.result.now in
    let tlb : (processor (state_of old) p).tlb ≡ halves place.tlb = tlb-of old.places.items p place lt ∙ ap (λ (y : Place). halves y.tlb) (sym c.index-place.ensures) in
    let lost = lost_in old.around.site.shape old.dead in
    let now : Vcpu = get_or (with_items old.vcpus c.run_at.new.vcpus).items v no_vcpu in
    let w = c.run_at.new.window in
    let was : IsWindow lost (get_or old.vcpus.items v no_vcpu) (processor (state_of old) p).tlb w = subst (λ (t : List Half). IsWindow lost (get_or old.vcpus.items v no_vcpu) t w) (sym tlb) (subst (λ (l : List Vcpu). IsWindow lost (get_or l v no_vcpu) (halves place.tlb) w) c.deref_mut.ensures.value c.run_at.ensures.window) in
    record {
      user = was.user ∙ sym first.user ∙ left.user;
      asid = was.asid ∙ sym first.asid ∙ left.asid;
      fetched = subst (λ (x : Sight). IsKeptPage fetches x w.fetched) (λ i. record { block = None; user = (sym first.user ∙ left.user) i; asid = (sym first.asid ∙ left.asid) i; line = false; tlb = (processor (state_of old) p).tlb; lost = lost }) was.fetched;
    }
