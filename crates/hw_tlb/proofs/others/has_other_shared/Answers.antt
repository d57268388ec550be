use mir.Val.{bool_byte}
use Rattle.std.proofs.Common.{◌∙◌, ap, arith}
use Rattle.hw_tlb.specs.Filling.{has_such}
use Rattle.hw_tlb.specs.Counts.{is_shared}
use Rattle.hw_tlb.proofs.BucketLemmas.{none_but}
use Rattle.hw_tlb.proofs.others.has_other_shared.Goals as goal

pub returns : goal.returns
returns c = λ no.
    none_but (is_shared c.args.bucket) c.args.rooms.now c.args.place c.shared.result c.from.result c.shared.ensures
    (c.from.ensures ∙ ap bool_byte (c.is_shared.ensures ∙ ap (has_such (is_shared c.args.bucket)) c.at.ensures)) (grind arith)
