use Rattle.std.proofs.Common.{◌≤◌, ◌∙◌, ℕ, inl, inr, ap, subst, refl, arith}
use Rattle.hw_tlb.specs.Counts.{count, bucket_of_number, is_numbered, settled}
use Rattle.hw_tlb.specs.Rooms.{half_of}
use Rattle.hw_tlb.proofs.EntryLemmas.{HasFew, alone}
use Rattle.hw_tlb.proofs.SettleLemmas.{settled_placed}
use Rattle.hw_tlb.proofs.entries.put.Goals as goal
use Rattle.hw_tlb.proofs.entries.put.Goals.{then-new+then-numbered-gt1, else-new, else-new-via-then-new+else-numbered-gt1, else-new-via-else-new}

pub returns-clause-placed : goal.returns-clause-placed
returns-clause-placed c =
    let new = half_of c.args.new.now in
    let ps = c.args.rooms.now in
    let entry = c.args.entry in
    elim c.if-new.branch [
      | then-new+then-numbered-gt1 w ↦ c.settle.ensures.settled ∙ ap (settled new entry) (w.rooms-is ∙ w.drop_clashing.ensures)
      | else-new w ↦
          let few : HasFew new (bucket_of_number new.number) ps = elim w.else-new.branch [
            | else-new-via-then-new+else-numbered-gt1 v ↦
                let one : count (is_numbered v.number_bucket.result) ps ≤ 1 = omega arith in
                inr (subst (λ (b : ℕ). count (is_numbered b) ps ≤ 1) (v.number_bucket.ensures.bucket ∙ ap bucket_of_number v.number.ensures.number) one)
            | else-new-via-else-new v ↦ inl v.if-new.false
          ] in
          c.settle.ensures.settled ∙ ap (settled new entry) w.rooms-is ∙ settled_placed ps new entry (alone ps new entry (bucket_of_number new.number) c.requires.long c.requires.order c.requires.first refl few)
    ]
