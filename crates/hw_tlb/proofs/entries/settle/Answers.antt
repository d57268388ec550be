use Rattle.std.proofs.Common.{◌≡◌, ◌+◌, ◌-◌, ◌*◌, ◌∙◌, sym, false, true, set, arith}
use Rattle.hw_tlb.specs.Tlb.{half_at}
use Rattle.hw_tlb.specs.Rooms.{half_of}
use Rattle.hw_tlb.proofs.SettleLemmas.{kept_beside, settled_is, other_gone, other_kept}
use Rattle.hw_tlb.proofs.entries.settle.Goals as goal
use Rattle.hw_tlb.proofs.entries.settle.Goals.{then-not-is_beside, else-not-is_beside}

pub returns-clause-settled : goal.returns-clause-settled
returns-clause-settled c =
    let new = half_of c.args.new.now in
    let ps = c.args.rooms.now in
    let other = 2 * c.args.entry + (1 - c.side-side.result) in
    let left : c.if-not-is_beside.rooms ≡ set ps other (kept_beside new (half_at ps other)) = elim c.if-not-is_beside.branch [
      | then-not-is_beside w ↦
          let no : c.is_beside.result ≡ false = grind arith in
          w.rooms-is ∙ w.clear.ensures ∙ other_gone ps new other _ c.at.ensures (sym c.is_beside.ensures ∙ no)
      | else-not-is_beside w ↦
          let yes : c.is_beside.result ≡ true = grind arith in
          w.rooms-is ∙ other_kept ps new other _ c.at.ensures (sym c.is_beside.ensures ∙ yes)
    ] in
    settled_is ps c.if-not-is_beside.rooms c.clear-2.new.self c.put.new.self new c.args.entry c.side-side.result c.side-side.ensures.side left c.clear-2.ensures c.put.ensures
