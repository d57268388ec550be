-- The step at hand asks for it.
use Rattle.std.proofs.Common.{refl}
use Rattle.base_words.specs.declared.moves.By.TheVariants.{Step}
use Rattle.guest_course.specs.CourseView.{state_of}
use Rattle.guest_course.proofs.NeededProofs.{lost-asks}
use Rattle.guest_course.proofs.course.Course.begin_lost.Goals as goal

pub begin-requires-clause-may : goal.begin-requires-clause-may
begin-requires-clause-may c = record { goes_on = c.requires.may.goes_on; is_page = c.requires.loses.is_page; rests = c.requires.loses.rests; fits = refl; lives = tt }

pub begin-requires-clause-asked : goal.begin-requires-clause-asked
begin-requires-clause-asked c = (Step c.args.processor, lost-asks (state_of c.args.self.now) c.args.processor c.args.vcpu.0 c.args.page.0 c.requires.may c.requires.loses)

pub returns-clause-begins : goal.returns-clause-begins
returns-clause-begins c = c.begin.ensures.begins (Step c.args.processor) (lost-asks (state_of c.args.self.now) c.args.processor c.args.vcpu.0 c.args.page.0 c.requires.may c.requires.loses)
