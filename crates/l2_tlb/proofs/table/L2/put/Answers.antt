use Rattle.std.proofs.Common.{◌%◌, Some, true, set, ap, sym, ◌∙◌, subst}
use Rattle.private_machine.specs.SecondLevel.{put}
use Rattle.l2_tlb.specs.Seconds.{AreInPlace, second_of, seen}
use Rattle.l2_tlb.specs.Marks.{AreMarked}
use Rattle.l2_tlb.proofs.Places.{in_place-put, marked-put, seen-set}
use Rattle.l2_tlb.proofs.table.L2.put.Goals as goal

pub invariant_of-self : goal.invariant_of-self
invariant_of-self c =
    let held = c.self.invariant in
    let e = second_of c.args.entry in
    let places = seen c.self.inside.places in
    let is = sym (seen-set c.self.inside.places (c.args.entry.vpn % 512) (Some c.args.entry)) in (
      subst (λ xs. AreInPlace xs) is (in_place-put e places held.0),
      subst (λ xs. AreMarked xs (set c.self.inside.marks c.mark.result true)) is (marked-put e c.mark.result places c.self.inside.marks held.0.all (c.mark.ensures.mark) held.1),
    )

pub returns-clause-put : goal.returns-clause-put
returns-clause-put c =
    seen-set c.self.inside.places (c.args.entry.vpn % 512) (Some c.args.entry) ∙ ap (put (second_of c.args.entry)) c.self.view_is

pub returns-clause-places : goal.returns-clause-places
returns-clause-places c =
    subst (λ xs. AreInPlace xs) (sym (seen-set c.self.inside.places (c.args.entry.vpn % 512) (Some c.args.entry))) (in_place-put (second_of c.args.entry) (seen c.self.inside.places) c.self.invariant.0)
