-- What a write to an output may do.
use Rattle.std.specs.Prelude.{◌≡◌, ℕ, ◌≤◌, List, ◌++◌, Bool, true, Option, option_map, Result, Ok, Err}
use Rattle.outside_io.specs.declared.sink.SinkFault.{SinkFault}
use Rattle.outside_io.specs.declared.sink.SinkFault.TheVariants.{Failed, Memory}
use Rattle.base_words.specs.Counts.{Rose}

-- an output: the bytes that it holds, where it tells them, how often it has failed, and whether all bytes are settled
pub record SinkView : Type 0 where
  pub holds : Option (List ℕ)
  pub faults : ℕ
  pub settled : Bool

-- what the output holds grew by these bytes, where it tells; no call changes whether it does
abbrev pub Grows : SinkView → SinkView → List ℕ → Type 0
Grows old new text = new.holds ≡ option_map (λ held. held ++ text) old.holds

-- it grew by a part of a text, from its start
pub record GrowsWithin (old new : SinkView) (text : List ℕ) : Type 0 where
  pub part : List ℕ
  pub rest : List ℕ
  pub prefix : part ++ rest ≡ text
  pub grows : Grows old new part

-- the whole text was taken
pub record Took (old new : SinkView) (text : List ℕ) : Type 0 where
  pub grows : Grows old new text
  pub counts : old.faults ≤ new.faults

-- the whole text was taken, and settled
pub record Settles (old new : SinkView) (text : List ℕ) : Type 0 where
  pub grows : Grows old new text
  pub counts : old.faults ≤ new.faults
  pub settled : new.settled ≡ true

-- the output failed within the text
pub record Breaks (old new : SinkView) (text : List ℕ) : Type 0 where
  pub within : GrowsWithin old new text
  pub rose : Rose old.faults new.faults

-- memory was wanting within the text
pub record Starves (old new : SinkView) (text : List ℕ) : Type 0 where
  pub within : GrowsWithin old new text
  pub counts : old.faults ≤ new.faults

-- what putting a text does, in one piece or in several, by its answer
abbrev pub Puts : SinkView → SinkView → List ℕ → Result (Unit {0}) SinkFault → Type 0
Puts old new text (Ok done) = Took old new text
Puts old new text (Err Failed) = Breaks old new text
Puts old new text (Err Memory) = Starves old new text

-- what putting a text and finishing does, by its answer
abbrev pub Writes : SinkView → SinkView → List ℕ → Result (Unit {0}) SinkFault → Type 0
Writes old new text (Ok done) = Settles old new text
Writes old new text (Err Failed) = Breaks old new text
Writes old new text (Err Memory) = Starves old new text

-- what finishing does, by its answer; the bytes stay whatever it is, and after a fault it is as settled as it was
abbrev pub Finishes : SinkView → SinkView → Result (Unit {0}) SinkFault → Type 0
Finishes old new (Ok done) = (old.faults ≤ new.faults) × (new.settled ≡ true)
Finishes old new (Err Failed) = Rose old.faults new.faults × (new.settled ≡ old.settled)
Finishes old new (Err Memory) = (old.faults ≤ new.faults) × (new.settled ≡ old.settled)
