use Rattle.std.proofs.Common.{rules, tests}
use Rattle.std.proofs.lemmas.Iterator.Consumers.{map_from_collect}
use Rattle.std.proofs.lemmas.Iterator.Splits.{YieldsList-from_slice_split}
use Rattle.guest_asm.specs.Lines.{lines_of}
use Rattle.guest_asm.proofs.lines.lines_of.Goals as goal

pub returns-clause-value : goal.returns-clause-value
unfolding lines_of
returns-clause-value c = map_from_collect _ c.collect.ensures.ran (YieldsList-from_slice_split _ _ c.args.text.now c.split.ensures.rest c.split.ensures.done c.split.ensures.closure (λ x r q k. search (rules, tests)))
