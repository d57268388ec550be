-- The lists, tokens and seats of a new board.
use Rattle.std.specs.Prelude.{◌≡◌, ℕ, zero, suc, ◌<◌, List, [], ◌∷◌, slice_get, Some}
use Rattle.atomic_table.specs.Seated.{TableId}
use Rattle.shootdown.specs.Notes.{Token, Seat}
use Rattle.shootdown.specs.Steps.{list_of}
use Rattle.shootdown.specs.declared.view.NoteList.{NoteList}
use Rattle.shootdown.specs.declared.view.View.{View}

-- so many things, one for each number from this one on
abbrev pub numbered : {A : Type 0} → (ℕ → A) → ℕ → ℕ → List A
numbered of number zero = []
numbered of number (suc n) = of number ∷ numbered of (suc number) n

-- an owner's list without notes
abbrev pub blank : ℕ → NoteList
blank owner = list_of owner []

-- the lists that aren't handed out yet: so many of tokens and so many of seats, each from a number on
abbrev pub rest_of : ℕ → ℕ → ℕ → ℕ → View
rest_of token tokens seat seats = record { tokens = numbered blank token tokens; seats = numbered blank seat seats }

-- all lists
abbrev pub all_of : ℕ → ℕ → View
all_of tokens seats = rest_of 0 tokens 0 seats

-- a token without notes
abbrev pub fresh_token : TableId → ℕ → Token
fresh_token board number = record { board = board; number = number; notes = [] }

-- a seat without notes
abbrev pub fresh_seat : TableId → ℕ → Seat
fresh_seat board number = record { board = board; number = number; notes = [] }

-- so many tokens and so many seats of one board, numbered from 0 and without notes; the last two say it by place
pub record AreFresh (count guests : ℕ) (tokens : List Token) (seats : List Seat) : Type 0 where
  pub board : TableId
  pub all_tokens : tokens ≡ numbered (fresh_token board) 0 count
  pub all_seats : seats ≡ numbered (fresh_seat board) 0 guests
  pub token_at : (p : ℕ) → p < count → slice_get tokens p ≡ Some (fresh_token board p)
  pub seat_at : (g : ℕ) → g < guests → slice_get seats g ≡ Some (fresh_seat board g)
