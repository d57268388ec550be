use Rattle.std.proofs.Common.{◌∙◌, sym, ap}
use Rattle.hw_tlb.specs.Tlb.{are_beside}
use Rattle.hw_tlb.specs.Filling.{has_such}
use Rattle.hw_tlb.specs.Rooms.{half_of}
use Rattle.hw_tlb.proofs.EntryLemmas.{none_shared, none_spaced}
use Rattle.hw_tlb.proofs.entries.may_share.Goals as goal

pub returns-else-is_beside : goal.returns-else-is_beside
returns-else-is_beside c = λ away.
    let new = half_of c.args.new.now in
    none_shared c.args.rooms.now new _ c.number_bucket-bucket.result c.at-near.result c.requires.order.sided c.if-new.true c.other_key-other.ensures.number c.number_bucket-bucket.ensures.bucket
    (c.has_other_shared.ensures away)
    (sym (ap (has_such (are_beside new)) c.at.ensures) ∙ (sym c.is_beside.ensures ∙ c.if-is_beside.false))

pub returns-else-is_beside-2 : goal.returns-else-is_beside-2
returns-else-is_beside-2 c = λ away.
    let new = half_of c.args.new.now in
    none_spaced c.args.rooms.now new _ _ c.key_bucket-space_bucket.result c.at-hinted.result c.requires.order.sided c.if-new.false c.other_key-other.ensures.number c.other_key-other.ensures.asid c.key_bucket-space_bucket.ensures.bucket
    (c.has_other_spaced.ensures away)
    (sym (ap (has_such (are_beside new)) c.at-else-new.ensures) ∙ (sym c.is_beside-else-new.ensures ∙ c.if-is_beside-2.false))
