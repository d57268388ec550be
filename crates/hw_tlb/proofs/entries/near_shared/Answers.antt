use Rattle.std.proofs.Common.{◌∙◌, sym, ap, arith}
use Rattle.hw_tlb.specs.Tlb.{are_beside}
use Rattle.hw_tlb.specs.Filling.{has_such}
use Rattle.hw_tlb.specs.Rooms.{half_of}
use Rattle.hw_tlb.proofs.EntryLemmas.{only_shared}
use Rattle.hw_tlb.proofs.entries.near_shared.Goals as goal

pub returns-then-place-side : goal.returns-then-place-side
returns-then-place-side c = λ lt.
    let new = half_of c.args.new.now in
    only_shared c.args.rooms.now new c.at-place.result c.requires.order
    (sym (ap (has_such (are_beside new)) c.at.ensures) ∙ (sym c.is_beside.ensures ∙ c.if-is_beside.true))
    (grind arith)
