use Rattle.std.proofs.Common.{◌≡◌, Bool, count_by, ◌+◌, ◌<◌, ◌≤◌, ◌^◌, length}
use Rattle.base_words.specs.declared.events.Event.{Event}
use Rattle.event_journal.specs.Counting.{AnswersBy}
use Rattle.event_journal.specs.Runs.{entries_of}
use Rattle.event_journal.proofs.journal.Journal.count_of.Given as goal

abbrev pub invariant-loop-run : goal.invariant-loop-run
invariant-loop-run g l = record {
  can : (goal.iterator-loop-run g).can_next l.run-iterator;
  ends : (goal.iterator-loop-run g).is_finite l.run-iterator;
  left : (passes : Event → Bool) → AnswersBy (goal.F-post g l.test) passes
      → l.count + count_by passes (entries_of l.run-iterator) ≡ count_by passes l.self.entries;
  room : l.count + length (entries_of l.run-iterator) ≤ length l.self.entries;
  small : length l.self.entries < 2 ^ 64;
}
