-- A stream, read to its end or past a limit; and one to which bytes are written.
use Rattle.std.specs.Prelude.{◌≡◌, ℕ, ◌≤◌, ◌<◌, List, ◌++◌, length, Bool, true, false, Option, Some, IfSome, Result, Ok, Err}
use Rattle.std.specs.Io.KnownBytes.{Appends, Consumes}
use Rattle.outside_io.specs.declared.shelf.ShelfFault.{ShelfFault}
use Rattle.outside_io.specs.declared.shelf.ShelfFault.TheVariants.{Failed, Long, Memory}

-- what is read is within the limit, and is called long where it is more
abbrev pub Streams : ℕ → Result (List ℕ) ShelfFault → Type 0
Streams most (Ok bytes) = length bytes ≤ most
Streams most (Err Failed) = Unit {0}
Streams most (Err Long) = (bytes : List ℕ) × (most < length bytes)
Streams most (Err Memory) = Unit {0}

-- where the stream tells what it has left, that is what is read, or it is more than the limit
abbrev pub StreamsKnown : Option (List ℕ) → ℕ → Result (List ℕ) ShelfFault → Type 0
StreamsKnown left most (Ok bytes) = IfSome left (λ all. bytes ≡ all)
StreamsKnown left most (Err Failed) = Unit {0}
StreamsKnown left most (Err Long) = IfSome left (λ all. most < length all)
StreamsKnown left most (Err Memory) = Unit {0}

-- at most so many bytes of a stream were taken, from where it stood
pub record TakesUpTo (before after : Option (List ℕ)) (most : ℕ) : Type 0 where
  pub taken : List ℕ
  pub few : length taken ≤ most
  pub consumes : Consumes before after taken

-- a stream took some bytes, from their start, but for those that are left
pub record TakesAllBut (before after : Option (List ℕ)) (bytes left : List ℕ) : Type 0 where
  pub part : List ℕ
  pub prefix : part ++ left ≡ bytes
  pub appends : Appends before after part

-- it took all of them, or says that it did not
abbrev pub TakesAll : Option (List ℕ) → Option (List ℕ) → List ℕ → Bool → Type 0
TakesAll before after bytes true = Appends before after bytes
TakesAll before after bytes false = (left : List ℕ) × TakesAllBut before after bytes left

-- where it is told what a path leads to, the file that was opened has that left
abbrev pub Opened : Option (List ℕ) → Option (List ℕ) → Type 0
Opened held left = IfSome held (λ bytes. left ≡ Some bytes)

-- where it is told what a path leads to, that is what is read, or it is more than the limit
abbrev pub StreamsHeld : Option (List ℕ) → ℕ → Result (List ℕ) ShelfFault → Type 0
StreamsHeld held most result = IfSome held (λ bytes. StreamsKnown (Some bytes) most result)
