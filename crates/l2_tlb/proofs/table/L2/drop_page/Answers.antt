use Rattle.std.proofs.Common.{sym, subst}
use Rattle.l2_tlb.specs.Seconds.{AreInPlace, seen}
use Rattle.l2_tlb.proofs.Places.{in_place-without_page}
use Rattle.l2_tlb.proofs.table.L2.drop_page.Goals as goal

pub invariant_of-self : goal.invariant_of-self
invariant_of-self c =
    (subst (λ xs. AreInPlace xs) (sym c.drop_marked.ensures.dropped) (in_place-without_page c.args.page.0 (seen c.self.inside.places) c.self.invariant.0), c.drop_marked.ensures.marked)

pub returns-clause-places : goal.returns-clause-places
returns-clause-places c =
    subst (λ xs. AreInPlace xs) (sym c.drop_marked.ensures.dropped) (in_place-without_page c.args.page.0 (seen c.self.inside.places) c.self.invariant.0)
