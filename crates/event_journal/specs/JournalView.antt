-- What a contract sees of a journal.
use Rattle.std.specs.Prelude.{ℕ, List}
use Rattle.base_words.specs.declared.events.Event.{Event}

-- the entries in order, and how many more can come with no memory
pub record JournalView : Type 0 where
  pub entries : List Event
  pub room : ℕ
