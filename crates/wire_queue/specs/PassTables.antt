-- The passes of all guests, as tables of their ends.
use Rattle.std.specs.Prelude.{◌≡◌, ℕ, ◌<◌, List, [], length, map, Option, slice_index_or, slice_set}
use Rattle.wire_queue.specs.Ends.{Sending, Taking}
use Rattle.wire_queue.specs.declared.lists.PassList.{PassList}

-- the senders' ends, by sender and then receiver
abbrev pub sends_of : List PassList → List (List (Option Sending))
sends_of lists = map (λ list. list.sends.items) lists

-- the receivers' ends, by receiver and then sender
abbrev pub takes_of : List PassList → List (List (Option Taking))
takes_of lists = map (λ list. list.takes.items) lists

-- whose each list is
abbrev pub guests_of : List PassList → List ℕ
guests_of lists = map (λ list. list.guest.0) lists

-- of how many wires each list counts the asks
abbrev pub asks_kept : List PassList → List ℕ
asks_kept lists = map (λ list. length list.asks.items) lists

-- the table with another entry in a row at a place
abbrev pub with_entry : {A : Type 0} → List (List (Option A)) → ℕ → ℕ → Option A → List (List (Option A))
with_entry rows row place entry = slice_set rows row (slice_set (slice_index_or rows row []) place entry)

-- a table has so many rows, each with as many places
pub record IsSquare {A : Type 0} (count : ℕ) (rows : List (List (Option A))) : Type 0 where
  pub rows_all : length rows ≡ count
  pub places_all : (row : ℕ) → row < count → length (slice_index_or rows row []) ≡ count
