use Rattle.elf_image.proofs.Pages.{ArePagesOf-more}
use Rattle.elf_image.proofs.filling.lay_out_raw.Goals as goal

pub loop-number-preserved : goal.loop-number-preserved
loop-number-preserved c = ArePagesOf-more _ c.loop-number.number c.loop-number.list c.in_ok-raw_page_of.field-0 c.push.new.self c.loop-number.invariant c.in_ok-raw_page_of.ensures c.in_ok-push.ensures.ok
