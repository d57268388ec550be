-- The read is its row, and the guest is as sound as before.
use Rattle.std.proofs.Common.{◌≡◌, ℕ, inr, List, length, map, sym, ap, ◌∙◌}
use Rattle.std.specs.Vec.{with_items}
use Rattle.base_words.specs.declared.events.Event.TheVariants.{Emulate}
use Rattle.base_words.specs.declared.ids.ProcId.{ProcId}
use Rattle.private_machine.specs.declared.vcpu.Vcpu.{Vcpu}
use Rattle.private_machine.specs.Backing.{page_at}
use Rattle.private_machine.specs.PageMove.{dropped_taken}
use Rattle.pmap_table.specs.Ending.{numbers_of}
use Rattle.pmap_table.specs.PageMap.{PageMap}
use Rattle.private_machine.specs.Vcpu.{ticking}
use Rattle.private_machine.specs.Signals.{changed}
use Rattle.private_machine.specs.Showing.{shown_by, shown_from}
use Rattle.guest_devs.specs.DeviceCalls.{on_page}
use Rattle.guest_devs.specs.DeviceState.{DeviceState}
use Rattle.isolation_law.specs.GuestState.{GuestState, processor}
use Rattle.isolation_law.specs.Phases.{all_halted}
use Rattle.isolation_law.specs.StepRows.{EndsRead, IsEmulated}
use Rattle.guest_course.specs.declared.course.Course.{Course}
use Rattle.guest_course.specs.declared.task.Task.{Task}
use Rattle.guest_course.specs.declared.task.Task.TheVariants.{Take}
use Rattle.guest_course.specs.Acting.{IsTaken}
use Rattle.guest_course.specs.CourseView.{state_of}
use Rattle.guest_course.specs.Joining.{joined_page}
use Rattle.guest_course.specs.LeavingCalls.{passed}
use Rattle.guest_course.specs.Tasks.{done_page, done_vcpus}
use Rattle.guest_course.proofs.VecLemmas.{items-with}
use Rattle.guest_course.proofs.TaskLemmas.{done-shown}
use Rattle.guest_course.proofs.LeaveProofs.{Left, left-remade, left-stays, shown-stays}
use Rattle.guest_course.proofs.EmulateProofs.{remade-rebacked, sound-remade, remade-shown, shown-long}
use Rattle.guest_course.proofs.HaltLemmas.{left-halted}
use Rattle.guest_course.proofs.StepProofs.{goes-on}
use Rattle.guest_course.proofs.TakingProofs.{ends-read-row, still-taken}
use Rattle.guest_course.proofs.RebackLemmas.{well, is-well}
use Rattle.guest_course.proofs.course.Course.end_read.Goals as goal

-- once the instruction is passed and the status set
mid : goal.After-take → Course
mid c = record c.perform.new.self { vcpus = with_items c.perform.new.self.vcpus c.tick.new.vcpus }

task : goal.After-take → Task
task c = Take c.args.page

begun : (c : goal.After-take) → c.begin.new.vcpus ≡ passed c.args.vcpu.0 c.args.self.now.vcpus.items c.args.self.now.devs.state.page
begun c =
    let v = c.args.vcpu.0 in
    c.begin.ensures.vcpus ∙ ap (λ (cs : List Vcpu). passed v cs c.args.self.now.devs.state.page) c.deref_mut.ensures.value

done : (c : goal.After-take) → c.deref_mut-2.result.now ≡ done_vcpus (task c) c.begin.new.vcpus
unfolding task
done c =
    let items = items-with c.args.self.now.vcpus c.begin.new.vcpus (c.begin.auto.vcpus ∙ ap length c.deref_mut.ensures.value) in
    c.deref_mut-2.ensures.value ∙ c.perform.ensures.vcpus ∙ ap (done_vcpus (Take c.args.page)) items

left : (c : goal.After-take) → Left c.args.self.now (mid c) c.args.vcpu.0 (task c)
unfolding mid task
left c =
    let old = c.args.self.now in
    let last = c.perform.new.self in
    let v = c.args.vcpu.0 in
    let t : Task = Take c.args.page in
    let vcpus = with_items last.vcpus c.tick.new.vcpus in
    let ticked = items-with last.vcpus c.tick.new.vcpus (c.tick.auto.vcpus ∙ ap length c.deref_mut-2.ensures.value) in
    let joined = c.begin.ensures.devs ∙ ap (λ (cs : List Vcpu). on_page old.devs.state (joined_page v cs old.devs.state.page)) c.deref_mut.ensures.value in
    record {
      same = ap (λ (x : Course). record x { vcpus = vcpus; devs = last.devs; disk = last.disk; pmap = last.pmap; sent_from = last.sent_from }) c.perform.ensures.same;
      vcpus = ticked ∙ c.tick.ensures.ticked ∙ ap (changed v ticking) (done c ∙ ap (done_vcpus t) (begun c));
      devs = c.perform.ensures.devs ∙ ap (λ (x : DeviceState). on_page x (done_page v t x.page)) joined;
      disk = ap (λ (x : Course). x.disk) c.perform.ensures.same;
      pmap = c.perform.ensures.pages;
      cells = c.perform.ensures.cells;
      agree = ap (map shown_by) ticked ∙ c.tick.ensures.shown ∙ ap (map shown_by) (done c) ∙ done-shown t c.begin.new.vcpus ∙ c.begin.ensures.agree
          ∙ ap (λ (x : DeviceState). shown_from x.packet x.halted x.called) (sym c.perform.ensures.devs);
    }

-- the page's move still takes it shared
taken-still : (c : goal.After-take) → IsTaken (state_of c.show_again.new.self) c.args.page.0
unfolding mid
taken-still c =
    still-taken c.args.self.now c.show_again.new.self c.args.page.0 (ap (λ (x : Course). x.pmap.pages) c.show_again.ensures.same ∙ ap (λ (m : PageMap). m.pages) c.perform.ensures.pages) c.requires.own.taken

row : (c : goal.After-take) (p : ℕ) → IsEmulated (state_of c.args.self.now) p c.args.vcpu.0 → EndsRead (state_of c.args.self.now) p c.args.vcpu.0 (state_of c.take.new.self)
unfolding left mid task taken-still
row c p traps =
    ends-read-row c.args.self.now (mid c) c.show_again.new.self c.take.new.self p c.args.vcpu.0 c.args.page.0 c.args.act c.step_leads.ensures.ticks c.requires.own traps c.requires.left.1.defers (left c) c.show_again.ensures.shown
    (c.take.ensures.taken (taken-still c))

pub returns-clause-ends : goal.returns-clause-ends
unfolding row
returns-clause-ends c = row c

pub returns-clause-freed : goal.returns-clause-freed
returns-clause-freed c =
    c.take.ensures.freed ∙ ap (λ (x : Course). numbers_of (dropped_taken (page_at x.pmap.pages c.args.page.0))) c.show_again.ensures.same
    ∙ ap (λ (m : PageMap). numbers_of (dropped_taken (page_at m.pages c.args.page.0))) c.perform.ensures.pages

pub returns-clause-goes_on : goal.returns-clause-goes_on
unfolding left mid task
returns-clause-goes_on c =
    let old = c.args.self.now in
    let v = c.args.vcpu.0 in
    goes-on old c.take.new.self
    (ap (λ l. all_halted l.items) c.take.ensures.rebacked.vcpus ∙ ap (λ (x : Course). all_halted x.vcpus.items) c.show_again.ensures.same ∙ ap all_halted (left c).vcpus ∙ left-halted v (task c) old.vcpus.items old.devs.state.page)
    (c.take.ensures.rebacked.ended ∙ ap (λ (x : Course). x.ended) c.show_again.ensures.same ∙ ap (λ (x : Course). x.ended) (left c).same) c.requires.left.1.traps.goes_on

pub returns-clause-sound : goal.returns-clause-sound
unfolding row left mid task taken-still
returns-clause-sound c =
    let old = c.args.self.now in
    let new = c.take.new.self in
    let p = c.requires.left.0 in
    let act = c.requires.left.1 in
    let on = act.traps.goes_on.not_ended in
    let sound = c.requires.sound in
    let going = sound.going on in
    let shown = c.show_again.new.self in
    let stays = shown-stays (state_of old) (mid c) shown c.show_again.ensures.same (left-stays old (mid c) c.args.vcpu.0 (task c) (left c)) in
    let loaded : (r : ℕ) → (processor (state_of new) r).loaded ≡ (processor (state_of old) r).loaded = λ r. ap (λ (s : GuestState). (processor s r).loaded) (c.take.ensures.taken (taken-still c)) ∙ stays.loaded r in
    let processor : ProcId = record { 0 = p } in
    let long = shown-long (mid c) shown c.args.vcpu.0 c.show_again.ensures.shown in
    let done = remade-shown old (mid c) shown c.show_again.ensures.same long (left-remade old (mid c) c.args.vcpu.0 (task c) sound on (left c)) in
    sound-remade old new sound on (remade-rebacked old shown new done c.take.ensures.rebacked)
    (λ r u is. sound.loaded r u (sym (loaded r) ∙ is))
    (well c.row_keeps.ensures.coherent c.row_keeps.ensures.uses_live (state_of old) (state_of new) (Emulate processor c.args.vcpu) (is-well going) (inr (row c p act.traps)) (c.take.ensures.rebacked.ended ∙ stays.end ∙ on))

pub returns-clause-stays : goal.returns-clause-stays
unfolding left mid task taken-still
returns-clause-stays c =
    let old = c.args.self.now in
    let shown = c.show_again.new.self in
    let stays = shown-stays (state_of old) (mid c) shown c.show_again.ensures.same (left-stays old (mid c) c.args.vcpu.0 (task c) (left c)) in
    record {
      loaded = λ r. ap (λ (s : GuestState). (processor s r).loaded) (c.take.ensures.taken (taken-still c)) ∙ stays.loaded r;
      end = c.take.ensures.rebacked.ended ∙ stays.end;
    }
