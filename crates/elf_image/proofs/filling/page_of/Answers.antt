use Rattle.elf_image.proofs.Pages.{IsPageOf-more, IsPageOf-zeroed}
use Rattle.elf_image.proofs.filling.page_of.Goals as goal

pub loop-header-init : goal.loop-header-init
loop-header-init c = IsPageOf-zeroed c.args.file.now c.args.number c.in_ok-page.page.value c.in_ok-page.ensures.zeros

pub loop-header-preserved : goal.loop-header-preserved
loop-header-preserved c =
    IsPageOf-more c.args.headers.now c.args.file.now c.loop-header.header-index c.args.number _ c.loop-header.page.value c.deref_mut.result.now c.copy_header.new.page
    c.loop-header-test.true c.requires c.loop-header.invariant c.deref_mut.ensures.value c.copy_header.ensures
