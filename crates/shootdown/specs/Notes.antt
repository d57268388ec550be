-- What a contract sees of tokens and seats: their lists of notes, and which notes of two lists are the same.
use Rattle.std.specs.Prelude.{◌≡◌, ℕ, ◌==◌, if◌then◌else◌, List, [], ◌∷◌, All}
use Rattle.atomic_table.specs.Seated.{TableId}
use Rattle.shootdown.specs.declared.notes.Note.{Note}
use Rattle.shootdown.specs.declared.view.SidedNote.{SidedNote}

-- a token: the board that it is of, its processor's number, and its notes in order, each with its guest
pub record Token : Type 0 where
  pub board : TableId
  pub number : ℕ
  pub notes : List SidedNote

-- a seat: the board that it is of, its guest's number, and its notes in order, each with its processor
pub record Seat : Type 0 where
  pub board : TableId
  pub number : ℕ
  pub notes : List SidedNote

-- a note with this guest or processor
abbrev pub sided : ℕ → Note → SidedNote
sided side note = record { side = side; note = note }

-- the notes with this guest or processor, in order
abbrev pub with_side : ℕ → List SidedNote → List Note
with_side side [] = []
with_side side (n ∷ ns) = if n.side == side then n.note ∷ with_side side ns else with_side side ns

-- the token's notes with the seat's guest are the seat's notes with the token's processor
abbrev pub IsInStep : Token → Seat → Type 0
IsInStep token seat = with_side seat.number token.notes ≡ with_side token.number seat.notes

-- each token is in step with each seat
abbrev pub AreInStep : List Token → List Seat → Type 0
AreInStep tokens seats = All (λ token. All (IsInStep token) seats) tokens

-- all are of one board
pub record AreOfOneBoard (tokens : List Token) (seats : List Seat) : Type 0 where
  pub board : TableId
  pub of_tokens : All (λ (t : Token). t.board ≡ board) tokens
  pub of_seats : All (λ (s : Seat). s.board ≡ board) seats
