use Rattle.std.proofs.Common.{◌≡◌, ◌++◌, ◌∷◌, [], List, length, sym, ap, ◌∙◌, subst, refl, arith, append_assoc}
use Rattle.std.specs.Prelude.{Vec}
use Rattle.std.specs.declared.alloc.Global.{Global}
use Rattle.std.proofs.lemmas.Grind.{common_steps}
use Rattle.std.specs.Vec.Iter.{into_iter_items}
use Rattle.run_balance.specs.Making.{AreBare}
use Rattle.run_balance.specs.declared.owner.Owner.{Owner}
use Rattle.run_balance.specs.declared.side.Side.{Side}
use Rattle.run_balance.proofs.NewOwners.{bare_more}
use Rattle.run_balance.proofs.making.owners_of.Goals as goal

pub loop-sides-preserved : goal.loop-sides-preserved
loop-sides-preserved c =
    let f = c.loop-sides.invariant in
    let owners : List Owner = c.loop-sides.owners.items in
    let ahead = into_iter_items c.next.new.self in
    let number : c.len-number.result ≡ length owners = (let m = c.len-number.ensures in omega arith) in
    let o : Owner = record { number = record { 0 = c.len-number.result }; reached = c.in_ok-firsts_for.field-0; sides = c.in-Some.sides; taken = c.in_ok-with_capacity.field-0; from = c.in_ok-with_capacity-2.field-0 } in
    let items : c.push.new.self.items ≡ owners ++ o ∷ [] = grind (arith, common_steps, c.in_ok-push.ensures.items, c.push.ensures.items) in
    let one = c.in_ok-with_capacity.ensures.capacity in
    let two = c.in_ok-with_capacity-2.ensures.capacity in (
      tt,
      tt,
      f.2 ∙ ap (λ (l : List (Vec Side Global)). c.loop-sides.yielded ++ l) c.in-Some.ensures.steps.0 ∙ sym (append_assoc c.loop-sides.yielded (c.in-Some.sides ∷ []) ahead),
      subst (AreBare c.args.shares.now c.args.room (c.loop-sides.yielded ++ c.in-Some.sides ∷ [])) (sym items)
          (bare_more c.args.shares.now c.args.room c.loop-sides.yielded owners c.in-Some.sides o f.3
          (record { number = number; firsts = c.in_ok-firsts_for.ensures; sides = refl; taken = c.in_ok-with_capacity.ensures.items; from = c.in_ok-with_capacity-2.ensures.items; room = omega arith; room_from = omega arith })),
    )
