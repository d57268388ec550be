-- The disk read at hand asks for it.
use Rattle.std.proofs.Common.{◌∙◌}
use Rattle.base_words.specs.declared.moves.By.TheVariants.{Step}
use Rattle.guest_course.specs.CourseView.{state_of}
use Rattle.guest_course.proofs.NeededProofs.{block-asks}
use Rattle.guest_course.proofs.course.Course.begin_for_block.Goals as goal

pub begin_taking-requires-clause-may : goal.begin_taking-requires-clause-may
begin_taking-requires-clause-may c =
    let s = state_of c.args.self.now in
    record {
      goes_on = c.requires.left.traps.goes_on;
      is_page = c.requires.page;
      rests = c.requires.rests;
      bytes = c.requires.bytes;
      lives = c.requires.lives;
    }

pub begin_taking-requires-clause-asked : goal.begin_taking-requires-clause-asked
begin_taking-requires-clause-asked c =
    let s = state_of c.args.self.now in
    (Step c.args.processor, block-asks s c.args.processor c.args.vcpu.0 c.args.block c.args.page.0 c.args.act c.requires.left (c.acts_are_at_hand.ensures s s c.args.processor.0 c.args.vcpu.0 c.args.act c.requires.left ∙ c.requires.reads) c.requires.unwritten)

pub returns-clause-begins : goal.returns-clause-begins
returns-clause-begins c =
    let s = state_of c.args.self.now in
    c.begin_taking.ensures.begins (Step c.args.processor)
    (block-asks s c.args.processor c.args.vcpu.0 c.args.block c.args.page.0 c.args.act c.requires.left (c.acts_are_at_hand.ensures s s c.args.processor.0 c.args.vcpu.0 c.args.act c.requires.left ∙ c.requires.reads) c.requires.unwritten)
