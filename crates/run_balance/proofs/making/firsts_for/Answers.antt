use Rattle.std.proofs.Common.{rules, ◌≡◌, ◌<◌, ◌+◌, ◌++◌, ◌∷◌, [], ℕ, List, length, slice_index_or, sym, ap, ◌∙◌, arith, ⊎_elim}
use Rattle.std.proofs.lemmas.Grind.{common_steps}
use Rattle.std.proofs.lemmas.List.{length_push, get_or_push}
use Rattle.std.proofs.Math.ListN.{get_or-append}
use Rattle.run_balance.specs.Shares.{first_of}
use Rattle.run_balance.proofs.Numbers.{below_next}
use Rattle.run_balance.proofs.Lines.{first_next}
use Rattle.run_balance.proofs.making.firsts_for.Goals as goal

pub loop-place-preserved : goal.loop-place-preserved
loop-place-preserved c =
    let lists = c.as_slice-lists.result.now in
    let k = c.loop-place.place in
    let old : List ℕ = c.loop-place.firsts.items in
    let inv = c.loop-place.invariant in
    let items : c.push.new.self.items ≡ old ++ c.loop-place.first ∷ [] = grind (arith, common_steps, c.in_ok-push.ensures.items, c.push.ensures.items) in
    let inside : k < length lists = omega arith in
    let long = inv.long in
    let next = first_next lists k inside in
    let here = inv.here in
    let own : c.index-lists-place.result ≡ slice_index_or lists k [] = grind (arith, common_steps, c.index-lists-place.is) in
    let len = c.len.ensures in
    let own_len = ap length own in
    let sum : c.in_ok-first.first ≡ c.loop-place.first + c.len.result = search rules in
    record {
      long = ap length items ∙ length_push old c.loop-place.first ∙ ap (λ (n : ℕ). n + 1) inv.long;
      each = λ p less. ap (λ (l : List ℕ). slice_index_or l p 0) items
          ∙ ⊎_elim (λ (z : p < k). get_or-append old (c.loop-place.first ∷ []) 0 p (let y : p < length old = omega arith in y) ∙ inv.each p z)
          (λ (z : p ≡ k). get_or_push old c.loop-place.first 0 p (long ∙ sym z) ∙ inv.here ∙ ap (first_of lists) (sym z)) (below_next p k less);
      here = omega arith;
    }
