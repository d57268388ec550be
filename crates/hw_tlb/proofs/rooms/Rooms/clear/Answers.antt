use Rattle.std.proofs.Common.{◌∙◌, sym}
use Rattle.hw_tlb.proofs.CountedLemmas.{enough-numbered, enough-spaced, enough-shared, counted-clear, cleared-already, places-clear}
use Rattle.hw_tlb.proofs.rooms.Rooms.clear.Goals as goal

pub overflow_sub-self : goal.overflow_sub-self
overflow_sub-self c =
    enough-numbered c.self.inside.rooms c.self.inside.numbered c.self.inside.spaced c.self.inside.shared c.self.invariant c.args.place _ c.requires (sym c.has_half.ensures ∙ c.if-has_half.true) c.number.result c.number_bucket-bucket.result c.number.ensures.number c.number_bucket-bucket.ensures.bucket c.number_bucket-bucket.ensures.small

pub overflow_sub-self-then-has_half : goal.overflow_sub-self-then-has_half
overflow_sub-self-then-has_half c =
    enough-spaced c.self.inside.rooms c.self.inside.numbered c.self.inside.spaced c.self.inside.shared c.self.invariant c.args.place _ c.requires (sym c.has_half.ensures ∙ c.if-has_half.true) c.key_bucket.result c.from.result c.key_bucket.ensures.bucket c.key_bucket.ensures.small c.from.ensures

pub overflow_sub-self-then-has_half-2 : goal.overflow_sub-self-then-has_half-2
overflow_sub-self-then-has_half-2 c =
    enough-shared c.self.inside.rooms c.self.inside.numbered c.self.inside.spaced c.self.inside.shared c.self.invariant c.args.place _ c.requires (sym c.has_half.ensures ∙ c.if-has_half.true) c.number.result c.number_bucket-bucket.result c.from-then-has_half.result c.number.ensures.number c.number_bucket-bucket.ensures.bucket c.number_bucket-bucket.ensures.small c.from-then-has_half.ensures

pub invariant_of-self : goal.invariant_of-self
invariant_of-self c =
    counted-clear c.self.inside.rooms c.self.inside.numbered c.self.inside.spaced c.self.inside.shared c.self.invariant c.args.place _ c.requires (sym c.has_half.ensures ∙ c.if-has_half.true) c.number.result c.number_bucket-bucket.result c.key_bucket.result c.from.result c.from-then-has_half.result c.number.ensures.number c.number_bucket-bucket.ensures.bucket c.number_bucket-bucket.ensures.small c.key_bucket.ensures.bucket c.key_bucket.ensures.small c.from.ensures c.from-then-has_half.ensures c.empty.result c.empty.ensures

pub returns-then-has_half : goal.returns-then-has_half
returns-then-has_half c = rw (← c.self.view_is) (places-clear c.self.inside.rooms c.args.place c.empty.result c.empty.ensures)

pub returns-else-has_half : goal.returns-else-has_half
returns-else-has_half c =
    rw (← c.self.view_is) (cleared-already c.self.invariant c.args.place _ c.requires (sym c.has_half.ensures ∙ c.if-has_half.false))
