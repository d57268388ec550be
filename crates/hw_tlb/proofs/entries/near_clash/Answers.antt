use Rattle.std.proofs.Common.{◌∙◌, sym, ap, inl, inr, arith}
use Rattle.base_words.specs.Halves.{clash}
use Rattle.hw_tlb.specs.Filling.{has_such}
use Rattle.hw_tlb.specs.Counts.{bucket_of_number}
use Rattle.hw_tlb.specs.Rooms.{half_of}
use Rattle.hw_tlb.proofs.EntryLemmas.{HasFew, only_clash}
use Rattle.hw_tlb.proofs.entries.near_clash.Goals as goal
use Rattle.hw_tlb.proofs.entries.near_clash.Goals.{then-not-new, else-not-new}

pub returns-then-numbered-eq1 : goal.returns-then-numbered-eq1
returns-then-numbered-eq1 c = λ lt.
    let new = half_of c.args.new.now in
    let few : HasFew new c.number_bucket-bucket.result c.args.rooms.now = elim c.if-not-new.branch [
      | then-not-new w ↦ inl (grind arith)
      | else-not-new w ↦ inr (grind arith)
    ] in
    only_clash c.args.rooms.now new c.if-new.place c.number_bucket-bucket.result c.requires.order (c.number_bucket-bucket.ensures.bucket ∙ ap bucket_of_number c.number.ensures.number) few
    (sym (ap (has_such (clash new)) c.at.ensures) ∙ (sym c.clashes.ensures ∙ c.if-clashes.true))
