-- It stands beside the virtual processor, or there is none.
use Rattle.std.proofs.Common.{◌≡◌, true, false, Option, Some, None, is_some, refl, ◌∙◌, true≢false}
use Rattle.std.proofs.lemmas.List.{get_or_default}
use Rattle.private_machine.specs.declared.register_page.RegBlock.{RegBlock}
use Rattle.isolation_law.specs.GuestState.{block_at}
use Rattle.guest_course.specs.CourseView.{state_of}
use Rattle.guest_course.proofs.course.Course.page_of.Goals as goal

none-of : (o : Option RegBlock) → is_some o ≡ false → None ≡ o
none-of None off = refl
none-of (Some b) off = absurd (true≢false off)

pub returns-then-paged : goal.returns-then-paged
returns-then-paged c = c.index.ensures ∙ get_or_default c.args.self.now.blocks.items c.args.vcpu.0 c.index.result.now None c.requires.there

pub returns-else-paged : goal.returns-else-paged
returns-else-paged c = none-of (block_at (state_of c.args.self.now) c.args.vcpu.0) (c.requires.paged ∙ c.if-paged.false)
