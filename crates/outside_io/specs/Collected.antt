-- An output in memory, whose calls fail as a list says.
use Rattle.std.specs.Prelude.{◌≡◌, ◌≢◌, ℕ, List, [], ◌++◌, Bool, true, false, Some, Contains, Result, Ok, Err}
use Rattle.outside_io.specs.declared.sink.SinkFault.{SinkFault}
use Rattle.outside_io.specs.declared.sink.SinkFault.TheVariants.{Failed, Memory}
use Rattle.base_words.specs.Counts.{counted}
use Rattle.outside_io.specs.Writing.{SinkView}

-- an output in memory: its bytes, the calls that fail, how many were made, the faults, and whether it is settled
pub record SinkState : Type 0 where
  pub bytes : List ℕ
  pub fails : List ℕ
  pub calls : ℕ
  pub faults : ℕ
  pub settled : Bool

abbrev pub sink_view : SinkState → SinkView
sink_view s = record { holds = Some s.bytes; faults = s.faults; settled = s.settled }

-- a call fails exactly where the list names it
abbrev pub CollectFails : SinkState → Result (Unit {0}) SinkFault → Type 0
CollectFails old (Ok done) = ¬ Contains old.fails (counted old.calls)
CollectFails old (Err Failed) = Contains old.fails (counted old.calls)
CollectFails old (Err Memory) = ¬ Contains old.fails (counted old.calls)

-- where the list names no call, none fails
abbrev pub NeverFails : SinkState → Result (Unit {0}) SinkFault → Type 0
NeverFails old result = old.fails ≡ [] → result ≢ Err Failed

-- an output after one more call, of either kind
abbrev pub called : SinkState → SinkState
called s = record s { calls = counted s.calls }

-- how each call begins: it is counted, and is a fault where the list names it
abbrev pub Begins : SinkState → SinkState → Result (Unit {0}) SinkFault → Type 0
Begins old new (Ok done) = (new ≡ called old) × ¬ Contains old.fails (counted old.calls)
Begins old new (Err Failed) = (new ≡ record (called old) { faults = counted old.faults }) × Contains old.fails (counted old.calls)
Begins old new (Err Memory) = ⊥

-- what a put leaves: the bytes stand behind the others, or none do, and it isn't settled any more
abbrev pub PutLeaves : SinkState → SinkState → List ℕ → Result (Unit {0}) SinkFault → Type 0
PutLeaves old new text (Ok done) = new ≡ record (called old) { bytes = old.bytes ++ text; settled = false }
PutLeaves old new text (Err Failed) = new ≡ record (called old) { faults = counted old.faults; settled = false }
PutLeaves old new text (Err Memory) = new ≡ record (called old) { settled = false }

-- what a finish leaves: it is settled, or as settled as it was; it takes no memory
abbrev pub FinishLeaves : SinkState → SinkState → Result (Unit {0}) SinkFault → Type 0
FinishLeaves old new (Ok done) = new ≡ record (called old) { settled = true }
FinishLeaves old new (Err Failed) = new ≡ record (called old) { faults = counted old.faults }
FinishLeaves old new (Err Memory) = ⊥
