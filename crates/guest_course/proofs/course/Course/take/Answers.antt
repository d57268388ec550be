-- The frame that others may hold too is the page's master, and nothing is due of it.
use Rattle.std.proofs.Common.{sym, ap, ◌∙◌, arith}
use Rattle.private_machine.specs.Backing.{TakesShared}
use Rattle.pmap_table.specs.Ending.{Takes}
use Rattle.guest_course.specs.declared.course.Course.{Course}
use Rattle.guest_course.specs.Acting.{IsTaken}
use Rattle.guest_course.specs.CourseView.{state_of}
use Rattle.guest_course.proofs.TakingProofs.{TakenBy, state-taken, taken-rebacked}
use Rattle.guest_course.proofs.course.Course.take.Goals as goal

took : (c : goal.After-clear_dues) (t : IsTaken (state_of c.args.self.now) c.args.page.0) → Takes c.args.self.now.pmap c.args.page.0 t.target c.take_shared-freed.new.pmap c.take_shared-freed.result
took c t = c.take_shared-freed.ensures (record { change = TakesShared t.target; waiting = t.waiting }) t.target t.open_move (λ i. TakesShared t.target)

parts : (c : goal.After-clear_dues) (t : IsTaken (state_of c.args.self.now) c.args.page.0) → TakenBy c.args.self.now c.clear_dues.new.self c.args.page.0 t.target
unfolding took
parts c t =
    let old = c.args.self.now in
    let same = c.clear_dues.ensures.same in
    let due = c.clear_dues.new.self.due in
    record {
      same = same ∙ ap (λ (x : Course). record old { pmap = x.pmap; operations = x.operations; due = due }) (sym same);
      operations = ap (λ (x : Course). x.operations.items) same;
      pages = ap (λ (x : Course). x.pmap.pages) same ∙ (took c t).pages;
      spares = ap (λ (x : Course). x.pmap.spares) same ∙ (took c t).spares;
      long = c.clear_dues.ensures.long;
      dues = c.clear_dues.ensures.dues;
    }

pub returns-clause-taken : goal.returns-clause-taken
unfolding parts
returns-clause-taken c = λ t. state-taken c.args.self.now c.clear_dues.new.self c.args.page.0 t.target (parts c t)

pub returns-clause-freed : goal.returns-clause-freed
unfolding took
returns-clause-freed c = (took c c.requires.taken).released

pub returns-clause-rebacked : goal.returns-clause-rebacked
unfolding parts
returns-clause-rebacked c = taken-rebacked c.args.self.now c.clear_dues.new.self c.args.page.0 c.requires.taken.target c.requires.stands (parts c c.requires.taken)

pub returns-clause-room : goal.returns-clause-room
unfolding took
returns-clause-room c =
    let done = took c c.requires.taken in
    let room = ap (λ (x : Course). x.pmap.room) c.clear_dues.ensures.same in
    omega (arith, done.room, room)
