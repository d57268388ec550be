-- Each kind of step keeps the rule of the board.
use Rattle.std.proofs.Common.{◌≡◌, ◌≢◌, ℕ, zero, suc, List, [], ◌∷◌, ◌++◌, map, get_or, refl, sym, ap, ◌∙◌, subst}
use mathlib.Core.Logic.{dite}
use mathlib.Core.Option.{some, none, some-injective, some-ne-none}
use native.Mathlib.Decide.{ℕ_discrete}
use lib.ListN.{get_elem?}
use Rattle.atomic_table.specs.Table.{State, step, keeps, stepped, Allows, Splits, Joins}
use Rattle.shootdown.specs.Notes.{sided, with_side}
use Rattle.shootdown.specs.Board.{ByOwner, AreOf, IsView, AllAgree}
use Rattle.shootdown.specs.Steps.{Own, nothing, tokens_of, seats_of, both, first_token, other_tokens, first_seat, other_seats, pair, IsPair, owner_in, notes_in, noted, Added, Agrees, Loaded}
use Rattle.shootdown.specs.declared.notes.Note.{Note}
use Rattle.shootdown.specs.declared.view.SidedNote.{SidedNote}
use Rattle.shootdown.specs.declared.view.NoteList.{NoteList}
use Rattle.shootdown.specs.declared.view.View.{View}
use Rattle.shootdown.proofs.ListLemmas.{with_side-own, with_side-else}
use Rattle.shootdown.proofs.Standing.{Cut, all_go, all_stay, first_goes, stand_cut, stand_joined, stand_same, instead, instead_here, instead_else, stand_noted}

abbrev pub tokens_in : View → List NoteList
tokens_in v = v.tokens

abbrev pub seats_in : View → List NoteList
seats_in v = v.seats

-- a place is cut in two
cuts : (id : ℕ) (v left right : View) → Cut v.tokens left.tokens right.tokens → Cut v.seats left.seats right.seats → Splits AllAgree id v left right
cuts id v left right of_tokens of_seats s k at = record {
  of_tokens = k.of_tokens;
  of_seats = k.of_seats;
  tokens = stand_cut tokens_in k.of_tokens s.views id v left right k.tokens at of_tokens;
  seats = stand_cut seats_in k.of_seats s.views id v left right k.seats at of_seats;
  agree = k.agree;
}

pub leaves : (id : ℕ) (v : View) → Splits AllAgree id v nothing v
leaves id v = cuts id v nothing v (all_go v.tokens) (all_go v.seats)

pub parts : (id : ℕ) (v : View) → Splits AllAgree id v (tokens_of v) (seats_of v)
parts id v = cuts id v (tokens_of v) (seats_of v) (all_stay v.tokens) (all_go v.seats)

pub takes_token : (id : ℕ) (v : View) → Splits AllAgree id v (other_tokens v) (first_token v)
takes_token id v = cuts id v (other_tokens v) (first_token v) (first_goes v.tokens) (all_stay v.seats)

pub takes_seat : (id : ℕ) (v : View) → Splits AllAgree id v (other_seats v) (first_seat v)
takes_seat id v = cuts id v (other_seats v) (first_seat v) (all_stay v.tokens) (first_goes v.seats)

pub meets : (id : ℕ) (v : View) (other : ℕ) (w : View) → Joins AllAgree id v other w (both v w) nothing
meets id v other w s k at apart there = record {
  of_tokens = k.of_tokens;
  of_seats = k.of_seats;
  tokens = stand_joined tokens_in k.of_tokens s.views id v other w (both v w) nothing k.tokens at apart there refl refl;
  seats = stand_joined seats_in k.of_seats s.views id v other w (both v w) nothing k.seats at apart there refl refl;
  agree = k.agree;
}

-- all lists of one place agree
list_at : (notes : ByOwner) (ls : List NoteList) (i : ℕ) (l : NoteList) → get_elem? ls i ≡ some l → AreOf notes ls → l.notes ≡ notes l.owner
list_at notes [] i l e are = absurd (some-ne-none l (sym e))
list_at notes (x ∷ xs) zero l e are = subst (λ (y : NoteList). y.notes ≡ notes y.owner) (some-injective x l e) are.0
list_at notes (x ∷ xs) (suc i) l e are = list_at notes xs i l e are.1

agrees : (s : State (Unit {0}) View) (id : ℕ) (v : View) → AllAgree s → IsView s.views id v → Agrees v
agrees s id v k at i j x y e f =
    ap (with_side y.owner) (list_at k.of_tokens v.tokens i x e (k.tokens.each id v at)) ∙ k.agree x.owner y.owner
    ∙ ap (with_side x.owner) (sym (list_at k.of_seats v.seats j y f (k.seats.each id v at)))

pub loads : (slots id : ℕ) (me : Own) → Allows AllAgree slots id me 0 (λ n. n) (Loaded (step slots 0 0 0 none) me)
loads slots id me s k homes at range = (me.0, keeps, tt, same, (refl, agrees s id me.0 k at))
  where
    same : AllAgree (stepped s 0 (get_or s.words 0 0) id me.1 me.0 keeps)
    same = record {
      of_tokens = k.of_tokens;
      of_seats = k.of_seats;
      tokens = stand_same tokens_in k.of_tokens s.views id me.0 k.tokens at;
      seats = stand_same seats_in k.of_seats s.views id me.0 k.seats at;
      agree = k.agree;
    }

-- notes go into both lists
keeps_notes : (s : State (Unit {0}) View) (id p g : ℕ) (ns : List Note) (xs ys : List SidedNote) (cs : List (ℕ × Unit {0})) → AllAgree s → IsView s.views id (pair p xs g ys)
    → AllAgree (stepped s 0 (get_or s.words 0 0) id cs (pair p (xs ++ map (sided g) ns) g (ys ++ map (sided p) ns)) keeps)
keeps_notes s id p g ns xs ys cs k at = record {
  of_tokens = of_tokens;
  of_seats = of_seats;
  tokens = stand_noted tokens_in k.of_tokens s.views id (pair p xs g ys) (pair p xs' g ys') p xs xs' k.tokens at refl refl;
  seats = stand_noted seats_in k.of_seats s.views id (pair p xs g ys) (pair p xs' g ys') g ys ys' k.seats at refl refl;
  agree = λ q h. dite (ℕ_discrete q p)
      (λ e. dite (ℕ_discrete h g)
      (λ f. token_here q h e ∙ subst (λ m. with_side m xs' ≡ with_side g xs ++ ns) (sym f) (with_side-own g ns xs) ∙ ap (λ l. l ++ ns) mine
      ∙ sym (seat_here q h f ∙ subst (λ m. with_side m ys' ≡ with_side p ys ++ ns) (sym e) (with_side-own p ns ys)))
      (λ f. token_here q h e ∙ with_side-else h g ns xs (λ x. f (sym x)) ∙ ap (with_side h) (xs_is ∙ ap k.of_tokens (sym e)) ∙ k.agree q h ∙ sym (seat_else q h f)))
      (λ e. dite (ℕ_discrete h g)
      (λ f. token_else q h e ∙ k.agree q h ∙ ap (with_side q) (sym (ys_is ∙ ap k.of_seats (sym f))) ∙ sym (seat_here q h f ∙ with_side-else q p ns ys (λ x. e (sym x))))
      (λ f. token_else q h e ∙ k.agree q h ∙ sym (seat_else q h f)));
}
  where
    xs' : List SidedNote
    xs' = xs ++ map (sided g) ns

    ys' : List SidedNote
    ys' = ys ++ map (sided p) ns

    of_tokens : ByOwner
    of_tokens = instead k.of_tokens p xs'

    of_seats : ByOwner
    of_seats = instead k.of_seats g ys'

    token_here : (q h : ℕ) → q ≡ p → with_side h (of_tokens q) ≡ with_side h xs'
    token_here q h e = ap (with_side h) (instead_here k.of_tokens p xs' q e)

    token_else : (q h : ℕ) → q ≢ p → with_side h (of_tokens q) ≡ with_side h (k.of_tokens q)
    token_else q h e = ap (with_side h) (instead_else k.of_tokens p xs' q e)

    seat_here : (q h : ℕ) → h ≡ g → with_side q (of_seats h) ≡ with_side q ys'
    seat_here q h f = ap (with_side q) (instead_here k.of_seats g ys' h f)

    seat_else : (q h : ℕ) → h ≢ g → with_side q (of_seats h) ≡ with_side q (k.of_seats h)
    seat_else q h f = ap (with_side q) (instead_else k.of_seats g ys' h f)

    xs_is : xs ≡ k.of_tokens p
    xs_is = (k.tokens.each id (pair p xs g ys) at).0

    ys_is : ys ≡ k.of_seats g
    ys_is = (k.seats.each id (pair p xs g ys) at).0

    mine : with_side g xs ≡ with_side p ys
    mine = ap (with_side g) xs_is ∙ k.agree p g ∙ ap (with_side p) (sym ys_is)

pub adds : (slots id : ℕ) (ns : List Note) (me : Own) → IsPair me.0 → Allows AllAgree slots id me 0 (λ m. m) (Added ns (step slots 0 0 0 none) me)
adds slots id ns me is s k homes at range =
    let v = me.0 in
    (noted ns v, keeps, tt, keeps_notes s id (owner_in v.tokens) (owner_in v.seats) ns (notes_in v.tokens) (notes_in v.seats) me.1 k (at ∙ ap some is), refl)
