use Rattle.std.proofs.Common.{sym, ◌∙◌}
use Rattle.elf_image.proofs.Overlaps.{overlap_from-found, overlap_from-more}
use Rattle.elf_image.proofs.overlapping.find_overlap.Goals as goal

pub returns-in-Some : goal.returns-in-Some
returns-in-Some c = sym c.loop-number.invariant ∙ overlap_from-found c.args.headers.now c.loop-number.number c.in-Some.between _ c.loop-number-test.true c.in-Some.ensures.first

pub loop-number-preserved : goal.loop-number-preserved
loop-number-preserved c = sym (overlap_from-more c.args.headers.now c.loop-number.number _ c.loop-number-test.true c.in_default.ensures.first) ∙ c.loop-number.invariant
