use Rattle.std.proofs.Common.{◌≡◌, ◌+◌, ◌++◌, ◌∷◌, [], ℕ, suc, List, sym, subst, arith}
use Rattle.std.specs.Prelude.{Vec}
use Rattle.std.specs.declared.alloc.Global.{Global}
use Rattle.std.proofs.lemmas.Grind.{common_steps}
use Rattle.run_balance.specs.declared.side.Side.{Side}
use Rattle.run_balance.proofs.NewDeques.{Passed, passed_more}
use Rattle.run_balance.proofs.making.rows_for.Goals as goal

pub loop-number-preserved : goal.loop-number-preserved
loop-number-preserved c =
    let items : c.push.new.self.items ≡ c.loop-number.rows.items ++ c.in_ok-sides_of.field-0 ∷ [] = grind (arith, common_steps, c.in_ok-push.ensures.items, c.push.ensures.items) in
    subst (λ (x : ℕ × List (Vec Side Global)). Passed x.0 c.args.owners c.args.made.now c.sides_of.new.made x.1) (λ i. ((let e : suc c.loop-number.number ≡ c.loop-number.number + 1 = omega arith in e) i, sym items i))
    (passed_more c.loop-number.number c.args.owners c.args.made.now c.loop-number.made c.sides_of.new.made c.loop-number.rows.items c.in_ok-sides_of.field-0 c.loop-number.invariant c.in_ok-sides_of.ensures.admitted c.in_ok-sides_of.ensures.row)
