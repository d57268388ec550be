use Rattle.std.proofs.Common.{◌≡◌, ◌<◌, ◌++◌, ◌∷◌, [], sym, ap, ◌∙◌, refl, arith, ℕ, List, length, Some, slice_get, slice_index_or}
use Rattle.std.proofs.lemmas.Grind.{common_steps}
use Rattle.run_balance.specs.Shares.{flat}
use Rattle.run_balance.specs.Deques.{deque_of, deques_of}
use Rattle.run_balance.proofs.Numbers.{map_there}
use Rattle.run_balance.proofs.owner.Owner.steal_other.Goals as goal

pub find-requires-clause-kept : goal.find-requires-clause-kept
find-requires-clause-kept c =
    let gate = c.index-gate.result.now in
    let there : slice_get (deques_of c.args.deals.now) c.loop-at.at ≡ Some (deque_of gate) =
    map_there deque_of c.args.deals.now.gates.items c.loop-at.at gate (let a = c.loop-at-test.true in let b = c.len-at-end.ensures in omega arith) c.index-gate.ensures in
    let from : gate.whose.0 ≡ c.args.from.0 = grind (arith, common_steps, c.if-ne.false, c.ne.ensures, c.if-ne.ensures) in
    (deques_of c.args.deals.now, flat c.requires.kept.0, length c.requires.kept.0, deque_of gate, c.loop-at.invariant.kept c.requires.kept.0 c.requires.kept.1, there, refl, from)

pub returns-in-Item-clause-kept : goal.returns-in-Item-clause-kept
returns-in-Item-clause-kept c shares is =
    let gate = c.index-gate.result.now in
    let there : slice_get (deques_of c.args.deals.now) c.loop-at.at ≡ Some (deque_of gate) =
    map_there deque_of c.args.deals.now.gates.items c.loop-at.at gate (let a = c.loop-at-test.true in let b = c.len-at-end.ensures in omega arith) c.index-gate.ensures in
    let from : gate.whose.0 ≡ c.args.from.0 = grind (arith, common_steps, c.if-ne.false, c.ne.ensures, c.if-ne.ensures) in
    c.find.ensures.kept (deques_of c.args.deals.now) (flat shares) (length shares) (deque_of gate) (c.loop-at.invariant.kept shares is) there from

pub returns-in-Nothing-clause-kept : goal.returns-in-Nothing-clause-kept
returns-in-Nothing-clause-kept c shares is =
    let gate = c.index-gate.result.now in
    let there : slice_get (deques_of c.args.deals.now) c.loop-at.at ≡ Some (deque_of gate) =
    map_there deque_of c.args.deals.now.gates.items c.loop-at.at gate (let a = c.loop-at-test.true in let b = c.len-at-end.ensures in omega arith) c.index-gate.ensures in
    let from : gate.whose.0 ≡ c.args.from.0 = grind (arith, common_steps, c.if-ne.false, c.ne.ensures, c.if-ne.ensures) in
    c.find.ensures.kept (deques_of c.args.deals.now) (flat shares) (length shares) (deque_of gate) (c.loop-at.invariant.kept shares is) there from

pub returns-in-Item-clause-some : goal.returns-in-Item-clause-some
returns-in-Item-clause-some c shares is =
    let gate = c.index-gate.result.now in
    let less : c.loop-at.at < length c.args.deals.now.gates.items = (let a = c.loop-at-test.true in let b = c.len-at-end.ensures in omega arith) in
    let there : slice_get (deques_of c.args.deals.now) c.loop-at.at ≡ Some (deque_of gate) = map_there deque_of c.args.deals.now.gates.items c.loop-at.at gate less c.index-gate.ensures in
    let from : gate.whose.0 ≡ c.args.from.0 = grind (arith, common_steps, c.if-ne.false, c.ne.ensures, c.if-ne.ensures) in
    let kept = c.loop-at.invariant.kept shares is in
    let got = c.loop-at.invariant.got in
    let found = c.in-Item.ensures.found in
    record {
      d = c.loop-at.at;
      inside = let a = Rattle.std.proofs.lemmas.Option.slice_get_within (deques_of c.args.deals.now) c.loop-at.at (deque_of gate) there in let b = is.many in omega arith;
      whose = sym (kept.whose c.loop-at.at (deque_of gate) there).0 ∙ from;
      first = ap (λ v. slice_index_or v.items c.args.from.0 0) found.1.reached ∙ c.loop-at.invariant.first;
      got = record {
        taken = found.0.taken ∙ ap (λ (l : List ℕ). l ++ c.in-Item.item ∷ []) got.taken;
        from = found.0.from ∙ ap (λ (l : List ℕ). l ++ c.loop-at.at ∷ []) got.from;
      };
    }

pub loop-at-preserved : goal.loop-at-preserved
loop-at-preserved c =
    let gate = c.index-gate.result.now in
    let there : slice_get (deques_of c.args.deals.now) c.loop-at.at ≡ Some (deque_of gate) =
    map_there deque_of c.args.deals.now.gates.items c.loop-at.at gate (let a = c.loop-at-test.true in let b = c.len-at-end.ensures in omega arith) c.index-gate.ensures in
    let from : gate.whose.0 ≡ c.args.from.0 = grind (arith, common_steps, c.if-ne.false, c.ne.ensures, c.if-ne.ensures) in
    let got = c.loop-at.invariant.got in
    let same = c.loop-at.invariant.same in
    let later = c.find.ensures.same in
    let found = c.in-Over.ensures.found in
    record {
      kept = λ shares is. c.find.ensures.kept (deques_of c.args.deals.now) (flat shares) (length shares) (deque_of gate) (c.loop-at.invariant.kept shares is) there from;
      same = record { number = later.number ∙ same.number; stretch = later.stretch ∙ same.stretch; dealt = later.dealt ∙ same.dealt };
      got = record { taken = found.0.taken ∙ got.taken; from = found.0.from ∙ got.from };
      first = found.1;
    }
