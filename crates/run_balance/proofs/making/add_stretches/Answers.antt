use Rattle.std.proofs.Common.{◌≡◌, ◌<◌, ◌+◌, ◌++◌, ◌∷◌, [], ℕ, List, length, take, slice_index_or, sym, ap, ◌∙◌, subst, arith, refl, append_assoc}
use Rattle.std.proofs.lemmas.Grind.{common_steps}
use Rattle.run_balance.specs.Shares.{Share, share_of, own_shares}
use Rattle.run_balance.specs.Making.{IsNew, AreMade}
use Rattle.run_balance.specs.declared.making.Made.{Made}
use Rattle.run_balance.proofs.NewDeques.{made_more, own_next}
use Rattle.run_balance.proofs.making.add_stretches.Goals as goal

pub loop-place-preserved : goal.loop-place-preserved
loop-place-preserved c = λ line a.
    let lists = c.as_slice-lists.result.now in
    let k = c.loop-place.place in
    let w = c.args.whose.0 in
    let old : List Made = c.loop-place.made.items in
    let m : Made = record { whose = c.args.whose; stretch = c.in_ok-stretch.stretch } in
    let items : c.push.new.self.items ≡ old ++ m ∷ [] = grind (arith, common_steps, c.in_ok-push.ensures.items, c.push.ensures.items) in
    let inside : k < length lists = omega arith in
    let at : c.index-lists-place.result ≡ slice_index_or lists k [] = grind (arith, common_steps, c.index-lists-place.is) in
    let before = line ++ own_shares w (take k lists) in
    let more : before ++ share_of w (slice_index_or lists k []) ∷ [] ≡ line ++ own_shares w (take (k + 1) lists) =
    append_assoc line (own_shares w (take k lists)) (share_of w (slice_index_or lists k []) ∷ []) ∙ ap (λ (l : List Share). line ++ l) (sym (own_next w lists k inside)) in
    subst (λ (x : List Share × List Made). AreMade x.0 c.args.owners (λ _. 1) x.1) (λ i. (more i, sym items i))
    (made_more before c.args.owners old m (slice_index_or lists k []) w (c.loop-place.invariant line a) refl
    (subst (λ (share : List ℕ). IsNew share c.args.owners 1 c.in_ok-stretch.stretch) at c.in_ok-stretch.ensures))
