-- What each kind of step does to the lists of the place that makes it, and what it tells.
use Rattle.std.specs.Prelude.{◌≡◌, ℕ, List, [], ◌∷◌, ◌++◌, map}
use mathlib.Core.Option.{some}
use lib.ListN.{get_elem?}
use Rattle.atomic_table.specs.Table.{Me, Step}
use Rattle.shootdown.specs.Notes.{Token, Seat, sided, with_side}
use Rattle.shootdown.specs.declared.notes.Note.{Note}
use Rattle.shootdown.specs.declared.view.SidedNote.{SidedNote}
use Rattle.shootdown.specs.declared.view.NoteList.{NoteList}
use Rattle.shootdown.specs.declared.view.View.{View}

abbrev pub Own : Type 0
Own = Me (Unit {0}) View

abbrev pub list_of : ℕ → List SidedNote → NoteList
list_of owner notes = record { owner = owner; notes = notes }

-- the list of a token, and that of a seat
abbrev pub token_list : Token → NoteList
token_list token = list_of token.number token.notes

abbrev pub seat_list : Seat → NoteList
seat_list seat = list_of seat.number seat.notes

-- a place without lists
abbrev pub nothing : View
nothing = record { tokens = []; seats = [] }

-- the lists of tokens alone, and of seats alone
abbrev pub tokens_of : View → View
tokens_of v = record { tokens = v.tokens; seats = [] }

abbrev pub seats_of : View → View
seats_of v = record { tokens = []; seats = v.seats }

-- the lists of two places
abbrev pub both : View → View → View
both v w = record { tokens = v.tokens ++ w.tokens; seats = v.seats ++ w.seats }

-- the first list, and the others
abbrev pub first : List NoteList → List NoteList
first [] = []
first (l ∷ ls) = l ∷ []

abbrev pub others : List NoteList → List NoteList
others [] = []
others (l ∷ ls) = ls

abbrev pub first_token : View → View
first_token v = record { tokens = first v.tokens; seats = [] }

abbrev pub other_tokens : View → View
other_tokens v = record { tokens = others v.tokens; seats = v.seats }

abbrev pub first_seat : View → View
first_seat v = record { tokens = []; seats = first v.seats }

abbrev pub other_seats : View → View
other_seats v = record { tokens = v.tokens; seats = others v.seats }

-- whose the first list is, and its notes
abbrev pub owner_in : List NoteList → ℕ
owner_in [] = 0
owner_in (l ∷ ls) = l.owner

abbrev pub notes_in : List NoteList → List SidedNote
notes_in [] = []
notes_in (l ∷ ls) = l.notes

-- the lists of one token and one seat
abbrev pub pair : ℕ → List SidedNote → ℕ → List SidedNote → View
pair p xs g ys = record { tokens = list_of p xs ∷ []; seats = list_of g ys ∷ [] }

-- a place has one token's list and one seat's
abbrev pub IsPair : View → Type 0
IsPair v = v ≡ pair (owner_in v.tokens) (notes_in v.tokens) (owner_in v.seats) (notes_in v.seats)

-- the same with these notes more, in both lists
abbrev pub noted : List Note → View → View
noted notes v =
    let p = owner_in v.tokens in
    let g = owner_in v.seats in
    pair p (notes_in v.tokens ++ map (sided g) notes) g (notes_in v.seats ++ map (sided p) notes)

-- a step adds notes to both lists
abbrev pub Added : List Note → Step (Unit {0}) → Own → ℕ → Own → Type 0
Added notes st me found me' = me' ≡ (noted notes me.0, me.1)

-- all lists of a place agree
abbrev pub Agrees : View → Type 0
Agrees v = (i j : ℕ) (x y : NoteList) → get_elem? v.tokens i ≡ some x → get_elem? v.seats j ≡ some y
    → with_side y.owner x.notes ≡ with_side x.owner y.notes

-- a load changes nothing, and tells that all lists of its place agree
abbrev pub Loaded : Step (Unit {0}) → Own → ℕ → Own → Type 0
Loaded st me found me' = (me' ≡ me) × Agrees me.0
