-- What a journal keeps, and what it stands for: the runs that have ended and how many entries these are, the entry of the run
-- that goes on, how many entries there are in all, and a mark of the last entry.
use Rattle.std.specs.Prelude.{◌≡◌, ◌↔◌, ℕ, ◌+◌, ◌-◌, ◌*◌, ◌^◌, ◌<◌, min, List, [], ◌∷◌, ◌++◌, length, Option, Some, None}
use Rattle.base_words.specs.declared.ids.ProcId.{ProcId}
use Rattle.base_words.specs.declared.ids.VcpuId.{VcpuId}
use Rattle.base_words.specs.declared.events.Event.{Event}
use Rattle.base_words.specs.declared.events.Event.TheVariants.{Direct}
use Rattle.event_journal.specs.declared.run.Run.{Run}
use Rattle.event_journal.specs.JournalView.{JournalView}
use Rattle.event_journal.specs.Runs.{entries_of}
use Rattle.event_journal.specs.RunCount.{HasRuns}

-- the run that goes on, if there is one
abbrev pub ended_by : Option Event → ℕ → List Run
ended_by None count = []
ended_by (Some e) count = record { event = e; count = count } ∷ []

-- all runs
abbrev pub runs_in : List Run → ℕ → Option Event → ℕ → List Run
runs_in ended before last entries = ended ++ ended_by last (entries - before)

-- the journal: a new run takes a place, and the entries are counted in 64 bits
abbrev pub view_of : ℕ → List Run → ℕ → Option Event → ℕ → JournalView
view_of capacity ended before last entries = record {
  entries = entries_of (runs_in ended before last entries);
  room = min (capacity - length ended) (2 ^ 64 - 1 - entries);
}

-- the run that goes on isn't empty, and where there is none there are no entries
abbrev pub GoesOn : Option Event → ℕ → ℕ → Type 0
GoesOn None before entries = (before ≡ 0) × (entries ≡ 0)
GoesOn (Some e) before entries = before < entries

-- a mark is the number of a processor and a virtual processor exactly where the last entry is their Direct
abbrev pub IsMarkOf : ℕ → Option Event → Type 0
IsMarkOf mark last =
    (p : ProcId) (v : VcpuId) → p.0 < 256 → v.0 < 256 → (mark ≡ p.0 * 256 + v.0) ↔ (last ≡ Some (Direct p v))

-- what is kept agrees
pub record Agree (ended : List Run) (before : ℕ) (last : Option Event) (entries mark : ℕ) : Type 0 where
  pub counted : before ≡ length (entries_of ended)
  pub goes_on : GoesOn last before entries
  pub runs : HasRuns (entries_of (runs_in ended before last entries)) (length (runs_in ended before last entries))
  pub marked : IsMarkOf mark last
