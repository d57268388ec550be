use mir.Val.{bool_byte}
use Rattle.std.proofs.Common.{◌∙◌, ap, arith}
use Rattle.hw_tlb.specs.Filling.{has_such}
use Rattle.hw_tlb.specs.Counts.{is_numbered}
use Rattle.hw_tlb.proofs.BucketLemmas.{none_but}
use Rattle.hw_tlb.proofs.others.has_other_numbered.Goals as goal

pub returns : goal.returns
returns c = λ no.
    none_but (is_numbered c.args.bucket) c.args.rooms.now c.args.place c.numbered.result c.from.result c.numbered.ensures
    (c.from.ensures ∙ ap bool_byte (c.is_numbered.ensures ∙ ap (has_such (is_numbered c.args.bucket)) c.at.ensures)) (grind arith)
