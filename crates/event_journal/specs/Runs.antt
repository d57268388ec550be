-- Runs, and the entries that they stand for.
use Rattle.std.specs.Prelude.{List, flat_map, replicate}
use Rattle.base_words.specs.declared.events.Event.{Event}
use Rattle.event_journal.specs.declared.run.Run.{Run}

-- a run's entry, as often as it comes
abbrev pub expanded : Run → List Event
expanded r = replicate r.count r.event

-- the entries of runs, one run after another
abbrev pub entries_of : List Run → List Event
entries_of runs = flat_map expanded runs
