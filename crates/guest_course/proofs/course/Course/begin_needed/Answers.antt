-- The store at hand asks for it.
use Rattle.base_words.specs.declared.moves.By.TheVariants.{Step}
use Rattle.guest_course.specs.CourseView.{state_of}
use Rattle.guest_course.proofs.NeededProofs.{needed-asks, stores-at-hand}
use Rattle.guest_course.proofs.course.Course.begin_needed.Goals as goal

pub begin_asked-requires-clause-asked : goal.begin_asked-requires-clause-asked
begin_asked-requires-clause-asked c =
    (Step c.args.processor, needed-asks c.read_only_stores.ensures c.args.self.now c.args.processor c.args.vcpu.0 c.args.page.0 c.args.kind c.requires.sound c.requires.may c.requires.needs)

pub returns-clause-begins : goal.returns-clause-begins
returns-clause-begins c =
    c.begin_asked.ensures.begins (Step c.args.processor)
    (needed-asks c.read_only_stores.ensures c.args.self.now c.args.processor c.args.vcpu.0 c.args.page.0 c.args.kind c.requires.sound c.requires.may c.requires.needs)

pub returns-clause-stores : goal.returns-clause-stores
returns-clause-stores c =
    let s = state_of c.args.self.now in
    let going = c.requires.sound.going c.requires.may.goes_on.not_ended in
    stores-at-hand c.read_only_stores.ensures s c.args.processor.0 c.args.vcpu.0 c.args.page.0 going.coherent c.requires.needs.alive c.requires.may.runs c.requires.needs.reaches c.requires.needs.stores
