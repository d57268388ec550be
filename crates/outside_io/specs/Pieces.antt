-- Texts that are put one after another.
use Rattle.std.specs.Prelude.{List, ◌++◌, ℕ, Result, Err}
use Rattle.outside_io.specs.declared.sink.SinkFault.{SinkFault}
use Rattle.outside_io.specs.Writing.{SinkView, Took, Starves, Puts}

-- a text and another are one text: where both were taken, whatever became of the second, and where the output stopped in the first
pub record PiecesJoin : Type 0 where
  pub taken : (a b c : SinkView) (first second : List ℕ) → Took a b first → Took b c second → Took a c (first ++ second)
  pub behind : (a b c : SinkView) (first second : List ℕ) (result : Result (Unit {0}) SinkFault) → Took a b first → Puts b c second result → Puts a c (first ++ second) result
  pub stopped : (a b : SinkView) (first second : List ℕ) (fault : SinkFault) → Puts a b first (Err fault) → Puts a b (first ++ second) (Err fault)

-- where memory was wanting before anything was put, it was wanting within any text
abbrev pub StarvesBeforeAny : Type 0
StarvesBeforeAny = (sink : SinkView) (text : List ℕ) → Starves sink sink text
