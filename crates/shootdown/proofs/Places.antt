-- What the places of a token and of a seat tell together.
use Rattle.std.proofs.Common.{◌≡◌, List, [], ◌∷◌, refl, sym, ap, ◌∙◌, subst, All}
use Rattle.std.specs.Arc.{arc_value}
use Rattle.std.proofs.lemmas.List.Elements.{All-head}
use Rattle.atomic_table.specs.Seated.{TableId}
use Rattle.shootdown.specs.Notes.{Token, Seat, IsInStep}
use Rattle.shootdown.specs.Steps.{Own, both, pair, notes_in, Agrees, token_list, seat_list}
use Rattle.shootdown.specs.TokenPlace.{token_of, IsTokenPlace}
use Rattle.shootdown.specs.SeatPlace.{seat_of, IsSeatPlace}
use Rattle.shootdown.specs.declared.view.View.{View}
use Rattle.shootdown.specs.declared.token.ProcToken.TheInside as token
use Rattle.shootdown.specs.declared.seat.GuestSeat.TheInside as seat

-- the place that both lists come to
pub met : (t : token.Inside) (s : seat.Inside) → IsTokenPlace t → IsSeatPlace s
    → both t.place.me.0 s.place.me.0 ≡ pair t.number.0 (notes_in t.place.me.0.tokens) s.number.0 (notes_in s.place.me.0.seats)
met t s is_token is_seat = λ i. both (is_token.lists i).0 (is_seat.lists i).0

-- the lists of a token's place, and of a seat's
pub token_lists : (t : token.Inside) (t' : Token) → token_of t ≡ t' → IsTokenPlace t → t.place.me.0 ≡ record { tokens = token_list t' ∷ []; seats = [] }
token_lists t t' is is_token = ap (λ (m : Own). m.0) is_token.lists ∙ ap (λ (x : Token). record { tokens = token_list x ∷ []; seats = [] }) is

pub seat_lists : (s : seat.Inside) (s' : Seat) → seat_of s ≡ s' → IsSeatPlace s → s.place.me.0 ≡ record { tokens = []; seats = seat_list s' ∷ [] }
seat_lists s s' is is_seat = ap (λ (m : Own). m.0) is_seat.lists ∙ ap (λ (x : Seat). record { tokens = []; seats = seat_list x ∷ [] }) is

-- the board of all tokens is that of the first one's place
pub first_board : (board word : TableId) (tokens others : List Token) (first : Token) (t : token.Inside) → All (λ (x : Token). x.board ≡ board) tokens → tokens ≡ first ∷ others
    → token_of t ≡ first → IsTokenPlace t → (arc_value t.board).shared.table_id ≡ word → board ≡ word
first_board board word tokens others first t all is t_is is_token own =
    sym (All-head (λ (x : Token). x.board ≡ board) first others (subst (λ (l : List Token). All (λ (x : Token). x.board ≡ board) l) is all))
    ∙ ap (λ (x : Token). x.board) (sym t_is) ∙ is_token.own ∙ own

-- where all lists of that place agree, the token and the seat are in step
pub in_step : (t : token.Inside) (s : seat.Inside) (t' : Token) (s' : Seat) (v : View) → token_of t ≡ t' → seat_of s ≡ s' → IsTokenPlace t → IsSeatPlace s
    → v ≡ both t.place.me.0 s.place.me.0 → Agrees v → IsInStep t' s'
in_step t s t' s' v t_is s_is is_token is_seat v_is agrees =
    subst (λ (x : Token). IsInStep x s') t_is (subst (λ (y : Seat). IsInStep (token_of t) y) s_is
    (subst Agrees (v_is ∙ met t s is_token is_seat) agrees 0 0 (token_list (token_of t)) (seat_list (seat_of s)) refl refl))
