use Rattle.std.proofs.Common.{◌≡◌, ◌∙◌, List, sym, ap, subst, All}
use Rattle.std.specs.Vec.Iter.{into_iter_items}
use Rattle.std.proofs.lemmas.List.Elements.{All-head, All-tail}
use Rattle.shootdown.specs.Notes.{Token}
use Rattle.shootdown.specs.Steps.{Own, token_list}
use Rattle.shootdown.specs.declared.view.View.{View}
use Rattle.shootdown.proofs.Moves.{meets}
use Rattle.shootdown.proofs.Places.{token_lists}
use Rattle.shootdown.proofs.Gathering.{comes, stays, all_came}
use Rattle.shootdown.proofs.closing.gather_tokens.Goals as goal

pub join_seat-requires : goal.join_seat-requires
join_seat-requires c =
    let i = c.loop-token.invariant in
    let IsOf = λ (t : Token). t.board ≡ c.args.word.now.table_id in
    let all = subst (λ (l : List Token). All IsOf l) c.in-Some.ensures.steps.0 i.5 in (
      i.2 ∙ c.requires.board.0,
      ap (λ (t : Token). t.board) c.token.view_is ∙ All-head IsOf c.in-Some.token (into_iter_items c.next.new.self) all,
      ap (λ (m : Own). m.1) c.token.invariant.lists,
      c.requires.board.1,
      meets _ _ _ _,
    )

pub loop-token-preserved : goal.loop-token-preserved
loop-token-preserved c =
    let i = c.loop-token.invariant in
    let now = ap (λ (m : Own). m.0) c.join_seat.ensures.2 in
    let own = token_lists c.token.inside c.in-Some.token c.token.view_is c.token.invariant in
    let IsOf = λ (t : Token). t.board ≡ c.args.word.now.table_id in (
      tt,
      tt,
      c.join_seat.ensures.0 ∙ i.2,
      comes token_list _ _ _ _ _ _ _ i.3 c.in-Some.ensures.steps.0 (ap (λ (v : View). v.tokens) now) (ap (λ (v : View). v.tokens) own),
      stays _ _ _ _ i.4 (ap (λ (v : View). v.seats) now) (ap (λ (v : View). v.seats) own),
      All-tail IsOf c.in-Some.token (into_iter_items c.next.new.self) (subst (λ (l : List Token). All IsOf l) c.in-Some.ensures.steps.0 i.5),
    )

pub returns-clause-tokens : goal.returns-clause-tokens
returns-clause-tokens c = all_came token_list _ _ _ c.loop-token.invariant.3 (sym c.loop-token.token-iterator.rest.ok.0 ∙ c.in-None.ensures.steps.0)
