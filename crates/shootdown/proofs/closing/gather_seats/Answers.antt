use Rattle.std.proofs.Common.{◌≡◌, ◌∙◌, List, sym, ap, subst, All}
use Rattle.std.specs.Vec.Iter.{into_iter_items}
use Rattle.std.proofs.lemmas.List.Elements.{All-head, All-tail}
use Rattle.shootdown.specs.Notes.{Seat}
use Rattle.shootdown.specs.Steps.{Own, seat_list}
use Rattle.shootdown.specs.declared.view.View.{View}
use Rattle.shootdown.proofs.Moves.{meets}
use Rattle.shootdown.proofs.Places.{seat_lists}
use Rattle.shootdown.proofs.Gathering.{comes, stays, all_came}
use Rattle.shootdown.proofs.closing.gather_seats.Goals as goal

pub join_seat-requires : goal.join_seat-requires
join_seat-requires c =
    let i = c.loop-seat.invariant in
    let IsOf = λ (s : Seat). s.board ≡ c.args.word.now.table_id in
    let all = subst (λ (l : List Seat). All IsOf l) c.in-Some.ensures.steps.0 i.5 in (
      i.2 ∙ c.requires.board.0,
      ap (λ (s : Seat). s.board) c.seat.view_is ∙ All-head IsOf c.in-Some.seat (into_iter_items c.next.new.self) all,
      ap (λ (m : Own). m.1) c.seat.invariant.lists,
      c.requires.board.1,
      meets _ _ _ _,
    )

pub loop-seat-preserved : goal.loop-seat-preserved
loop-seat-preserved c =
    let i = c.loop-seat.invariant in
    let now = ap (λ (m : Own). m.0) c.join_seat.ensures.2 in
    let own = seat_lists c.seat.inside c.in-Some.seat c.seat.view_is c.seat.invariant in
    let IsOf = λ (s : Seat). s.board ≡ c.args.word.now.table_id in (
      tt,
      tt,
      c.join_seat.ensures.0 ∙ i.2,
      stays _ _ _ _ i.3 (ap (λ (v : View). v.tokens) now) (ap (λ (v : View). v.tokens) own),
      comes seat_list _ _ _ _ _ _ _ i.4 c.in-Some.ensures.steps.0 (ap (λ (v : View). v.seats) now) (ap (λ (v : View). v.seats) own),
      All-tail IsOf c.in-Some.seat (into_iter_items c.next.new.self) (subst (λ (l : List Seat). All IsOf l) c.in-Some.ensures.steps.0 i.5),
    )

pub returns-clause-seats : goal.returns-clause-seats
returns-clause-seats c = all_came seat_list _ _ _ c.loop-seat.invariant.4 (sym c.loop-seat.seat-iterator.rest.ok.0 ∙ c.in-None.ensures.steps.0)
