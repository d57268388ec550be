use Rattle.std.proofs.Common.{rules, arith, ◌≡◌, ◌∙◌, ◌++◌, ◌∷◌, [], List, length, ap, subst, All, length-append}
use Rattle.std.specs.Vec.Iter.{into_iter_items}
use Rattle.std.proofs.lemmas.List.Elements.{All-tail}
use Rattle.shootdown.specs.Notes.{Seat}
use Rattle.frame_tests.proofs.shootdown_races.desks_of.Goals as goal

pub loop-seat-preserved : goal.loop-seat-preserved
loop-seat-preserved g c =
    let i = c.loop-seat.invariant in
    let IsOf = λ (s : Seat). s.board ≡ g.N.OnBoard.board in
    let grown : c.push.new.self.items ≡ c.loop-seat.desks.items ++ c.new.result ∷ [] = search rules in
    let one_desk = length-append c.loop-seat.desks.items (c.new.result ∷ []) in
    let one_seat = length-append c.loop-seat.yielded (c.in-Some.seat ∷ []) in (
      tt,
      tt,
      ap length grown ∙ (let same = i.2 in omega arith),
      All-tail IsOf c.in-Some.seat (into_iter_items c.next.new.self) (subst (λ (l : List Seat). All IsOf l) c.in-Some.ensures.steps.0 i.3),
    )
