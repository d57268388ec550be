use Rattle.std.proofs.Common.{◌∙◌, List, ap, set, true}
use Rattle.private_machine.specs.Policy.{Misses, missed}
use Rattle.page_policy.specs.Pages.{misses_of}
use Rattle.page_policy.proofs.ByPage.{mark-again}
use Rattle.page_policy.proofs.counters.Counters.note.Goals as goal
use Rattle.page_policy.proofs.counters.Counters.note.Goals.{then-miss, else-miss}

pub returns-then-store-clause-noted : goal.returns-then-store-clause-noted
returns-then-store-clause-noted c =
    let p = c.args.page.0 in
    let i = c.args.node.0 in
    let v = c.args.self.now in
    let m = misses_of p v in
    let last = c.note_store.ensures in
    elim c.if-miss.branch [
      | then-miss w ↦ rw (w.if-miss.true, c.if-store.true)
          (last ∙ ap (λ (x : List Misses). set x p (record (misses_of p x) { written = true })) (w.self-is ∙ w.note_miss.ensures) ∙ mark-again p true v (missed i m) c.requires.page)
      | else-miss w ↦ rw (w.if-miss.false, c.if-store.true)
          (last ∙ ap (λ (x : List Misses). set x p (record (misses_of p x) { written = true })) w.self-is)
    ]
