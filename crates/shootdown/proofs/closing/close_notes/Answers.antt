use Rattle.std.proofs.Common.{◌≡◌, ◌∙◌, ◌++◌, ◌∷◌, List, sym, ap, subst, map, All, arith}
use Rattle.std.specs.Vec.Iter.{into_iter_items}
use Rattle.std.proofs.lemmas.List.Elements.{All-tail}
use lib.ListN.{get_elem?}
use Rattle.atomic_table.specs.Seated.{TableId}
use Rattle.shootdown.specs.Notes.{Token, Seat}
use Rattle.shootdown.specs.Steps.{token_list, seat_list}
use Rattle.shootdown.specs.declared.view.NoteList.{NoteList}
use Rattle.shootdown.specs.declared.view.View.{View}
use Rattle.shootdown.proofs.Moves.{loads}
use Rattle.shootdown.proofs.Places.{token_lists, first_board}
use Rattle.shootdown.proofs.Gathering.{place_of}
use Rattle.shootdown.proofs.closing.close_notes.Goals as goal

pub gather_tokens-requires-clause-tokens : goal.gather_tokens-requires-clause-tokens
gather_tokens-requires-clause-tokens c =
    let one = c.requires in
    let IsOf = λ (t : Token). t.board ≡ one.board in
    let first = c.in-Some.first in
    let others = into_iter_items c.next.new.self in
    let all : c.args.tokens ≡ first ∷ others = sym (c.into_iter-others.ensures.rest ∙ c.into_vec.ensures) ∙ c.in-Some.ensures.cases.0 in
    let own = ap (λ b. b.shared.table_id) (sym c.deref.ensures) in
    let board = first_board one.board _ c.args.tokens others first c.first.inside one.of_tokens all c.first.view_is c.first.invariant own in
    λ k d within. All-tail IsOf first others (subst (λ (l : List Token). All IsOf l) all one.of_tokens) k d within ∙ board

pub gather_seats-requires-clause-seats : goal.gather_seats-requires-clause-seats
gather_seats-requires-clause-seats c =
    let one = c.requires in
    let first = c.in-Some.first in
    let others = into_iter_items c.next.new.self in
    let all : c.args.tokens ≡ first ∷ others = sym (c.into_iter-others.ensures.rest ∙ c.into_vec.ensures) ∙ c.in-Some.ensures.cases.0 in
    let own = ap (λ b. b.shared.table_id) (sym c.deref.ensures) in
    let board = first_board one.board _ c.args.tokens others first c.first.inside one.of_tokens all c.first.view_is c.first.invariant own in
    let seats = c.into_iter.ensures.rest ∙ c.into_vec-2.ensures in
    λ k d within. subst (λ (l : List Seat). All (λ (s : Seat). s.board ≡ one.board) l) (sym seats) one.of_seats k d within ∙ board

pub load-requires : goal.load-requires
load-requires c =
    let own = ap (λ b. b.shared.table_id) (sym c.deref.ensures) in
    let table = c.first.invariant.own ∙ own in
    let same = ap (λ (z : TableId). z.words) table in
    let wide = c.first.invariant.wide in
    (c.gather_seats.ensures.board ∙ c.gather_tokens.ensures.board ∙ table, omega arith, loads _ _ _)

pub returns : goal.returns
returns c = λ i t l j s m.
    let first = c.in-Some.first in
    let others = into_iter_items c.next.new.self in
    let all : c.args.tokens ≡ first ∷ others = sym (c.into_iter-others.ensures.rest ∙ c.into_vec.ensures) ∙ c.in-Some.ensures.cases.0 in
    let own = token_lists c.first.inside first c.first.view_is c.first.invariant in
    let of_seats = c.into_iter.ensures.rest ∙ c.into_vec-2.ensures in
    let tokens : c.gather_seats.new.place.me.0.tokens ≡ map token_list c.args.tokens =
    c.gather_seats.ensures.tokens ∙ c.gather_tokens.ensures.tokens ∙ ap (λ (v : View). v.tokens ++ map token_list others) own ∙ ap (λ (l : List Token). map token_list l) (sym all) in
    let seats : c.gather_seats.new.place.me.0.seats ≡ map seat_list c.args.seats =
    c.gather_seats.ensures.seats ∙ (λ k. (c.gather_tokens.ensures.seats ∙ ap (λ (v : View). v.seats) own) k ++ map seat_list (of_seats k)) in
    c.load.ensures.2.1 i j _ _ (ap (λ (l : List NoteList). get_elem? l i) tokens ∙ place_of token_list c.args.tokens i t l) (ap (λ (l : List NoteList). get_elem? l j) seats ∙ place_of seat_list c.args.seats j s m)
