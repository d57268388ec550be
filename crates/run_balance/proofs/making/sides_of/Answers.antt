use Rattle.std.proofs.Common.{◌≡◌, ◌<◌, ◌+◌, ◌++◌, ◌∷◌, [], List, length, Some, set, slice_get, slice_index_or, sym, subst, arith}
use Rattle.std.proofs.lemmas.Grind.{common_steps}
use Rattle.std.proofs.lemmas.Option.{slice_get-get_or}
use Rattle.run_balance.specs.declared.making.Made.{Made}
use Rattle.run_balance.specs.declared.side.Side.{Side}
use Rattle.run_balance.proofs.NewDeques.{Rows, rows_more, rows_admitted, rows_row}
use Rattle.run_balance.proofs.making.sides_of.Goals as goal

pub loop-place-preserved : goal.loop-place-preserved
loop-place-preserved c =
    let made = c.loop-place.made in
    let place = c.loop-place.place in
    let x : Made = slice_index_or made place c.index-made-place.result in
    let inside : place < length made = omega arith in
    let at : slice_get made place ≡ Some x = slice_get-get_or made place c.index-made-place.result inside in
    let items : c.push.new.self.items ≡ c.loop-place.sides.items ++ c.side_for.result ∷ [] = grind (arith, common_steps, c.in_ok-push.ensures.items, c.push.ensures.items) in
    subst (λ (l : List Side). Rows c.args.number (place + 1) c.args.made.now (set made place c.side_for.new.m) l) (sym items)
    (rows_more c.args.number place c.args.made.now made c.loop-place.sides.items x c.side_for.new.m c.side_for.result c.loop-place.invariant at c.side_for.ensures.admitted c.side_for.ensures.side)

pub returns-clause-admitted : goal.returns-clause-admitted
returns-clause-admitted c =
    let l = c.loop-place.invariant.long in
    rows_admitted c.args.number c.loop-place.place c.args.made.now c.loop-place.made c.loop-place.sides.items c.loop-place.invariant (let e : c.loop-place.place ≡ length c.args.made.now = omega arith in e)

pub returns-clause-row : goal.returns-clause-row
returns-clause-row c =
    let l = c.loop-place.invariant.long in
    rows_row c.args.number c.loop-place.place c.args.made.now c.loop-place.made c.loop-place.sides.items c.loop-place.invariant (let e : c.loop-place.place ≡ length c.args.made.now = omega arith in e)
