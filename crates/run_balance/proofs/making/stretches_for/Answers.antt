use Rattle.std.proofs.Common.{◌≡◌, ◌<◌, ◌+◌, ◌++◌, [], ℕ, List, length, take, slice_index_or, sym, ap, ◌∙◌, subst, arith}
use Rattle.std.proofs.lemmas.Grind.{common_steps}
use Rattle.run_balance.specs.Shares.{Share, own_shares, flat_from}
use Rattle.run_balance.specs.Making.{AreMade}
use Rattle.run_balance.proofs.NewDeques.{flat_next}
use Rattle.run_balance.proofs.making.stretches_for.Goals as goal

pub loop-number-preserved : goal.loop-number-preserved
loop-number-preserved c =
    let lists = c.as_slice-lists.result.now in
    let k = c.loop-number.number in
    let inside : k < length lists = omega arith in
    let at : c.index-lists-number.result ≡ slice_index_or lists k [] = grind (arith, common_steps, c.index-lists-number.is) in
    let before = flat_from 0 (take k lists) in
    let more : before ++ own_shares k c.index-lists-number.result ≡ flat_from 0 (take (k + 1) lists) =
    ap (λ (l : List (List ℕ)). before ++ own_shares k l) at ∙ ap (λ (n : ℕ). before ++ own_shares n (slice_index_or lists k [])) (let e : k ≡ 0 + k = omega arith in e) ∙ sym (flat_next 0 lists k inside) in
    subst (λ (l : List Share). AreMade l (length lists) (λ _. 1) c.add_stretches.new.made.items) more
    (c.in_ok-add_stretches.ensures before c.loop-number.invariant)
