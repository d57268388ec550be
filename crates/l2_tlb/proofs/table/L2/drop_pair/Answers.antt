use Rattle.std.proofs.Common.{ℕ, ◌≡◌, ◌%◌, ◌*◌, ◌+◌, ap, ◌∙◌, None, set, get_or, arith}
use Rattle.std.proofs.lemmas.List.{get_or-set_other}
use Rattle.private_machine.specs.SecondLevel.{unless_of_pair, seconds_without_pair}
use Rattle.l2_tlb.specs.Seconds.{seen}
use Rattle.l2_tlb.proofs.Places.{without_pair-two}
use Rattle.l2_tlb.proofs.table.L2.drop_pair.Goals as goal

pub returns-clause-dropped : goal.returns-clause-dropped
returns-clause-dropped c =
    let xs = seen c.self.inside.places in
    let p = c.args.vpn2 in
    let lo : ℕ = p % 256 * 2 in
    let f = unless_of_pair p in
    let first = c.drop_of_pair.ensures in
    let upper : get_or (seen c.drop_of_pair.new.places) (lo + 1) None ≡ get_or xs (lo + 1) None =
    ap (λ ys. get_or ys (lo + 1) None) first ∙ get_or-set_other xs lo (lo + 1) (f (get_or xs lo None)) None (λ is. omega arith) in
    c.drop_of_pair-2.ensures
    ∙ ap (λ ys. set ys (lo + 1) (f (get_or (seen c.drop_of_pair.new.places) (lo + 1) None))) first
    ∙ ap (λ o. set (set xs lo (f (get_or xs lo None))) (lo + 1) (f o)) upper
    ∙ without_pair-two p xs c.self.invariant.0
    ∙ ap (seconds_without_pair p) c.self.view_is
