use Rattle.std.proofs.Common.{◌≡◌, ◌<◌, ◌≤◌, ◌+◌, length, set, Some, slice_get, slice_index_or, sym, ◌∙◌, subst, refl, arith}
use Rattle.std.proofs.lemmas.Option.{slice_get-get_or}
use Rattle.run_balance.specs.Ends.{Dealer}
use Rattle.run_balance.specs.Sides.{side_at}
use Rattle.run_balance.specs.declared.owner.Owner.{Owner}
use Rattle.run_balance.proofs.Gathered.{Goes, goes_seat, goes_past, none_of, else_spent, worker_trans}
use Rattle.run_balance.proofs.gathering.collect.Goals as goal
use Rattle.run_balance.proofs.gathering.collect.Goals.{in-Other, in_default+in-Own-1, in_default+in-Other-1}

pub loop-other-preserved : goal.loop-other-preserved
loop-other-preserved c =
    let owners = c.loop-other.owners in
    let i = c.loop-other.other in
    let place = c.args.place in
    let o : Owner = slice_index_or owners i c.index-owners-other.result in
    let g = c.loop-other.invariant in
    let inside : i < length owners = omega arith in
    let at : slice_get owners i ≡ Some o = slice_get-get_or owners i c.index-owners-other.result inside in
    let p : Owner = record o { sides = c.take_out.new.sides } in
    let has = c.requires.passes.2 i o (g.ahead i o (let e : i ≤ i = omega arith in e) at) in
    let spent = else_spent place o p has.inside c.take_out.ensures.rest refl refl refl refl in
    let G = λ (d : Dealer). Goes place c.args.dealer.now c.args.owners.now (i + 1) d (set owners i p) in
    elim c.match-take_out.branch [
      | in-Other w ↦ subst G (sym w.dealer-is) (goes_seat place c.args.dealer.now c.args.owners.now i c.loop-other.dealer w.take_in.new.dealer owners o p w.in-Other.seat g at spent.0 (sym c.take_out.ensures.out ∙ w.in-Other.is)
          (worker_trans c.args.dealer.now c.loop-other.dealer w.take_in.new.dealer g.same w.take_in.ensures.same.0) w.take_in.ensures.view)
      | in_default+in-Own-1 w ↦ subst G (sym w.dealer-is) (goes_past place c.args.dealer.now c.args.owners.now i c.loop-other.dealer owners o p g at spent.0
          (none_of c.requires.passes.0 (side_at o.sides.items place) has.side (λ seat e. w.in_default.not-Other seat (c.take_out.ensures.out ∙ e))))
      | in_default+in-Other-1 w ↦ subst G (sym w.dealer-is) (goes_past place c.args.dealer.now c.args.owners.now i c.loop-other.dealer owners o p g at spent.0
          (none_of c.requires.passes.0 (side_at o.sides.items place) has.side (λ seat e. w.in_default.not-Other seat (c.take_out.ensures.out ∙ e))))
    ]
