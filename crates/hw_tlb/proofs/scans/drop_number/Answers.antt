use Rattle.std.proofs.Common.{◌∙◌, ◌==◌, sym, ap, arith}
use Rattle.base_words.specs.Halves.{Half}
use Rattle.hw_tlb.specs.Filling.{has_such}
use Rattle.hw_tlb.specs.Counts.{is_numbered}
use Rattle.hw_tlb.specs.Rooms.{half_in}
use Rattle.hw_tlb.proofs.RoomLemmas.{gone, not_such}
use Rattle.hw_tlb.proofs.BucketLemmas.{number_none, number_gone, number_kept}
use Rattle.hw_tlb.proofs.scans.drop_number.Goals as goal

pub returns-then-count-eq0 : goal.returns-then-count-eq0
returns-then-count-eq0 c =
    number_none c.args.rooms.now c.number_bucket-bucket.result c.args.number c.number_bucket-bucket.ensures.bucket (grind arith)

pub returns-then-is_of_number : goal.returns-then-is_of_number
returns-then-is_of_number c =
    let b = c.number_bucket-bucket.result in
    c.clear.ensures ∙ number_gone c.args.rooms.now b c.args.number c.at-place.result (half_in c.at-2.result.now) c.at-2.ensures c.number_bucket-bucket.ensures.bucket (omega arith)
    (ap (has_such (is_numbered b)) (c.at-2.ensures ∙ sym c.at.ensures) ∙ (sym c.is_numbered.ensures ∙ c.if-not-is_numbered.false))
    (gone (λ (h : Half). h.number == c.args.number) c.at-2.result.now (sym c.is_of_number.ensures ∙ c.if-is_of_number.true))

pub returns-else-is_of_number : goal.returns-else-is_of_number
returns-else-is_of_number c =
    let b = c.number_bucket-bucket.result in
    number_kept c.args.rooms.now b c.args.number c.at-place.result (half_in c.at-2.result.now) c.at-2.ensures c.number_bucket-bucket.ensures.bucket (omega arith)
    (ap (has_such (is_numbered b)) (c.at-2.ensures ∙ sym c.at.ensures) ∙ (sym c.is_numbered.ensures ∙ c.if-not-is_numbered.false))
    (not_such (λ (h : Half). h.number == c.args.number) c.at-2.result.now (sym c.is_of_number.ensures ∙ c.if-is_of_number.false))
