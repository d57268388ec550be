-- A direct step is its row; a trap leaves the guest as it was.
use Rattle.std.proofs.Common.{◌≡◌, ◌≢◌, Option, None, map, get_or, sym, ap, ◌∙◌, subst}
use Rattle.std.specs.Global.{Vec}
use Rattle.base_words.specs.declared.trap.Access.{Access}
use Rattle.isolation_law.specs.Phases.{GoesOn, Runs}
use Rattle.base_words.specs.declared.events.Event.TheVariants.{Direct}
use Rattle.isolation_law.specs.GuestState.{GuestState, due_on}
use Rattle.guest_course.specs.declared.place.Wish.{Wish}
use Rattle.guest_course.specs.CourseView.{due_of, state_of}
use Rattle.guest_course.proofs.DueLemmas.{data-kept}
use Rattle.guest_course.proofs.StepProofs.{Hardware, Made, Noted, note-within, executes, sound-after, step-goes-on, step-runs, traps, sound-stays}
use Rattle.guest_course.proofs.WindowProofs.{quiet-made, window-made, quiet-trap, window-trap}
use Rattle.guest_course.proofs.RebackLemmas.{well, is-well}
use Rattle.guest_course.proofs.course.Course.step_noted.Goals as goal

pub note-requires : goal.note-requires
note-requires c =
    let made : Made c.args.self.now c.stepped.new.self c.args.processor.0 c.args.vcpu.0 c.in-Direct.access = record {
      sound = c.requires.sound;
      may = c.requires.may;
      words = c.page_words_are_taken.ensures;
      hardware = record { same = c.stepped.ensures.same; blocks = c.stepped.ensures.blocks; spares = c.stepped.ensures.spares; devs = c.stepped.ensures.devs; agree = c.stepped.ensures.agree };
      executed = c.in-Direct.ensures.executes;
    } in
    note-within c.args.self.now c.stepped.new.self c.args.processor.0 c.args.vcpu.0 c.in-Direct.access made c.steps_reach_pages.ensures

pub returns-in-Direct-clause-executes : goal.returns-in-Direct-clause-executes
returns-in-Direct-clause-executes c =
    let made : Made c.args.self.now c.stepped.new.self c.args.processor.0 c.args.vcpu.0 c.in-Direct.access = record {
      sound = c.requires.sound;
      may = c.requires.may;
      words = c.page_words_are_taken.ensures;
      hardware = record { same = c.stepped.ensures.same; blocks = c.stepped.ensures.blocks; spares = c.stepped.ensures.spares; devs = c.stepped.ensures.devs; agree = c.stepped.ensures.agree };
      executed = c.in-Direct.ensures.executes;
    } in
    executes c.args.self.now c.stepped.new.self c.note.new.self c.args.processor.0 c.args.vcpu.0 c.in-Direct.access made c.note.ensures.state

pub returns-in-Direct-clause-sound : goal.returns-in-Direct-clause-sound
returns-in-Direct-clause-sound c =
    let old = c.args.self.now in
    let made : Made old c.stepped.new.self c.args.processor.0 c.args.vcpu.0 c.in-Direct.access = record {
      sound = c.requires.sound;
      may = c.requires.may;
      words = c.page_words_are_taken.ensures;
      hardware = record { same = c.stepped.ensures.same; blocks = c.stepped.ensures.blocks; spares = c.stepped.ensures.spares; devs = c.stepped.ensures.devs; agree = c.stepped.ensures.agree };
      executed = c.in-Direct.ensures.executes;
    } in
    let row = (executes old c.stepped.new.self c.note.new.self c.args.processor.0 c.args.vcpu.0 c.in-Direct.access made c.note.ensures.state).row in
    let going = c.requires.sound.going c.requires.may.goes_on.not_ended in
    let noted : Noted c.stepped.new.self c.note.new.self = record { same = c.note.ensures.same; dues = c.note.ensures.dues; counted = c.note.ensures.counted } in
    let co = well c.row_keeps.ensures.coherent c.row_keeps.ensures.uses_live (state_of old) (state_of c.note.new.self) (Direct c.args.processor c.args.vcpu) (is-well going) row (ap (λ x. x.ended) c.note.ensures.same ∙ ap (λ x. x.ended) c.stepped.ensures.same ∙ c.requires.may.goes_on.not_ended) in
    sound-after old c.stepped.new.self c.note.new.self c.args.processor.0 c.args.vcpu.0 c.in-Direct.access made noted co

pub returns-in-Trap-clause-executes : goal.returns-in-Trap-clause-executes
returns-in-Trap-clause-executes c =
    let hardware : Hardware c.args.self.now c.stepped.new.self c.args.vcpu.0 = record { same = c.stepped.ensures.same; blocks = c.stepped.ensures.blocks; spares = c.stepped.ensures.spares; devs = c.stepped.ensures.devs; agree = c.stepped.ensures.agree } in
    traps c.args.self.now c.stepped.new.self c.args.processor.0 c.args.vcpu.0 c.in-Trap.cause c.requires.sound c.requires.may hardware c.in-Trap.ensures.executes

pub returns-in-Trap-clause-sound : goal.returns-in-Trap-clause-sound
returns-in-Trap-clause-sound c =
    let hardware : Hardware c.args.self.now c.stepped.new.self c.args.vcpu.0 = record { same = c.stepped.ensures.same; blocks = c.stepped.ensures.blocks; spares = c.stepped.ensures.spares; devs = c.stepped.ensures.devs; agree = c.stepped.ensures.agree } in
    sound-stays c.args.self.now c.stepped.new.self c.args.processor.0 c.args.vcpu.0 c.in-Trap.cause c.requires.sound hardware c.in-Trap.ensures.executes

pub returns-in-Direct-clause-goes_on : goal.returns-in-Direct-clause-goes_on
returns-in-Direct-clause-goes_on c =
    let made : Made c.args.self.now c.stepped.new.self c.args.processor.0 c.args.vcpu.0 c.in-Direct.access = record {
      sound = c.requires.sound;
      may = c.requires.may;
      words = c.page_words_are_taken.ensures;
      hardware = record { same = c.stepped.ensures.same; blocks = c.stepped.ensures.blocks; spares = c.stepped.ensures.spares; devs = c.stepped.ensures.devs; agree = c.stepped.ensures.agree };
      executed = c.in-Direct.ensures.executes;
    } in
    let noted : Noted c.stepped.new.self c.note.new.self = record { same = c.note.ensures.same; dues = c.note.ensures.dues; counted = c.note.ensures.counted } in
    step-goes-on c.args.self.now c.stepped.new.self c.note.new.self c.args.processor.0 c.args.vcpu.0 c.in-Direct.access made noted

pub returns-in-Direct-clause-runs : goal.returns-in-Direct-clause-runs
returns-in-Direct-clause-runs c =
    let made : Made c.args.self.now c.stepped.new.self c.args.processor.0 c.args.vcpu.0 c.in-Direct.access = record {
      sound = c.requires.sound;
      may = c.requires.may;
      words = c.page_words_are_taken.ensures;
      hardware = record { same = c.stepped.ensures.same; blocks = c.stepped.ensures.blocks; spares = c.stepped.ensures.spares; devs = c.stepped.ensures.devs; agree = c.stepped.ensures.agree };
      executed = c.in-Direct.ensures.executes;
    } in
    let noted : Noted c.stepped.new.self c.note.new.self = record { same = c.note.ensures.same; dues = c.note.ensures.dues; counted = c.note.ensures.counted } in
    step-runs c.args.self.now c.stepped.new.self c.note.new.self c.args.processor.0 c.args.vcpu.0 c.in-Direct.access made noted

pub returns-in-Trap-clause-goes_on : goal.returns-in-Trap-clause-goes_on
returns-in-Trap-clause-goes_on c =
    let hardware : Hardware c.args.self.now c.stepped.new.self c.args.vcpu.0 = record { same = c.stepped.ensures.same; blocks = c.stepped.ensures.blocks; spares = c.stepped.ensures.spares; devs = c.stepped.ensures.devs; agree = c.stepped.ensures.agree } in
    let stays = traps c.args.self.now c.stepped.new.self c.args.processor.0 c.args.vcpu.0 c.in-Trap.cause c.requires.sound c.requires.may hardware c.in-Trap.ensures.executes in
    subst GoesOn (sym stays.same) c.requires.may.goes_on

pub returns-in-Trap-clause-runs : goal.returns-in-Trap-clause-runs
returns-in-Trap-clause-runs c =
    let hardware : Hardware c.args.self.now c.stepped.new.self c.args.vcpu.0 = record { same = c.stepped.ensures.same; blocks = c.stepped.ensures.blocks; spares = c.stepped.ensures.spares; devs = c.stepped.ensures.devs; agree = c.stepped.ensures.agree } in
    let stays = traps c.args.self.now c.stepped.new.self c.args.processor.0 c.args.vcpu.0 c.in-Trap.cause c.requires.sound c.requires.may hardware c.in-Trap.ensures.executes in
    subst (λ s. Runs s c.args.processor.0 c.args.vcpu.0) (sym stays.same) c.requires.may.runs

pub returns-in-Direct-clause-window : goal.returns-in-Direct-clause-window
returns-in-Direct-clause-window c =
    let made : Made c.args.self.now c.stepped.new.self c.args.processor.0 c.args.vcpu.0 c.in-Direct.access = record {
      sound = c.requires.sound;
      may = c.requires.may;
      words = c.page_words_are_taken.ensures;
      hardware = record { same = c.stepped.ensures.same; blocks = c.stepped.ensures.blocks; spares = c.stepped.ensures.spares; devs = c.stepped.ensures.devs; agree = c.stepped.ensures.agree };
      executed = c.in-Direct.ensures.executes;
    } in
    let noted : Noted c.stepped.new.self c.note.new.self = record { same = c.note.ensures.same; dues = c.note.ensures.dues; counted = c.note.ensures.counted } in
    window-made c.args.self.now c.stepped.new.self c.note.new.self c.args.processor.0 c.args.vcpu.0 c.in-Direct.access made noted c.stepped.new.window c.stepped.ensures.window

pub returns-in-Direct-clause-quiet : goal.returns-in-Direct-clause-quiet
returns-in-Direct-clause-quiet c n quiet =
    let made : Made c.args.self.now c.stepped.new.self c.args.processor.0 c.args.vcpu.0 c.in-Direct.access = record {
      sound = c.requires.sound;
      may = c.requires.may;
      words = c.page_words_are_taken.ensures;
      hardware = record { same = c.stepped.ensures.same; blocks = c.stepped.ensures.blocks; spares = c.stepped.ensures.spares; devs = c.stepped.ensures.devs; agree = c.stepped.ensures.agree };
      executed = c.in-Direct.ensures.executes;
    } in
    let noted : Noted c.stepped.new.self c.note.new.self = record { same = c.note.ensures.same; dues = c.note.ensures.dues; counted = c.note.ensures.counted } in
    quiet-made c.quiet_steps_pass.ensures c.args.self.now c.stepped.new.self c.note.new.self c.args.processor.0 c.args.vcpu.0 c.in-Direct.access made noted n quiet

pub returns-in-Trap-clause-window : goal.returns-in-Trap-clause-window
returns-in-Trap-clause-window c =
    let hardware : Hardware c.args.self.now c.stepped.new.self c.args.vcpu.0 = record { same = c.stepped.ensures.same; blocks = c.stepped.ensures.blocks; spares = c.stepped.ensures.spares; devs = c.stepped.ensures.devs; agree = c.stepped.ensures.agree } in
    window-trap c.args.self.now c.stepped.new.self c.args.processor.0 c.args.vcpu.0 c.in-Trap.cause hardware c.in-Trap.ensures.executes c.stepped.new.window c.stepped.ensures.window

pub returns-in-Trap-clause-quiet : goal.returns-in-Trap-clause-quiet
returns-in-Trap-clause-quiet c n quiet = quiet-trap c.args.self.now c.stepped.new.self c.args.processor.0 c.args.vcpu.0 c.in-Trap.cause c.in-Trap.ensures.executes n quiet

pub returns-in-Direct-clause-none : goal.returns-in-Direct-clause-none
returns-in-Direct-clause-none c access is none = c.note.ensures.none (let same : c.in-Direct.access ≡ access = cc in ap (λ (x : Access). x.«data») same ∙ none) ∙ ap (λ x. x.due) c.stepped.ensures.same

pub returns-in-Direct-clause-chosen : goal.returns-in-Direct-clause-chosen
returns-in-Direct-clause-chosen c had =
    let p = c.args.processor.0 in
    subst (λ (t : GuestState). due_on t p ≢ None) (sym c.note.ensures.state)
    (data-kept (state_of c.stepped.new.self) p c.in-Direct.access.«data» (subst (λ (x : Vec (Option Wish)). get_or (map due_of x.items) p None ≢ None) (sym (ap (λ x. x.due) c.stepped.ensures.same)) had))
