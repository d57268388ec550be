-- The send at hand asks for it.
use Rattle.std.proofs.Common.{refl}
use Rattle.base_words.specs.declared.moves.By.TheVariants.{Step}
use Rattle.guest_course.specs.CourseView.{state_of}
use Rattle.guest_course.proofs.NeededProofs.{give-asks}
use Rattle.guest_course.proofs.course.Course.begin_to_give.Goals as goal

pub begin-requires-clause-may : goal.begin-requires-clause-may
begin-requires-clause-may c =
    let s = state_of c.args.self.now in
    record {
      goes_on = c.requires.left.traps.goes_on;
      is_page = c.requires.page;
      rests = c.requires.rests;
      fits = (c.requires.foreign, refl);
      lives = c.requires.lives;
    }

pub begin-requires-clause-asked : goal.begin-requires-clause-asked
begin-requires-clause-asked c =
    let s = state_of c.args.self.now in
    (Step c.args.processor, give-asks s c.args.processor c.args.vcpu.0 c.args.page.0 c.args.act c.requires.left (c.acts_are_at_hand.ensures s s c.args.processor.0 c.args.vcpu.0 c.args.act c.requires.left) c.requires.gives)

pub returns-clause-begins : goal.returns-clause-begins
returns-clause-begins c =
    let s = state_of c.args.self.now in
    c.begin.ensures.begins (Step c.args.processor)
    (give-asks s c.args.processor c.args.vcpu.0 c.args.page.0 c.args.act c.requires.left (c.acts_are_at_hand.ensures s s c.args.processor.0 c.args.vcpu.0 c.args.act c.requires.left) c.requires.gives)
