-- A cell that fails.
use Rattle.std.specs.Prelude.{◌≡◌, ◌<◌, ℕ, true, false, [], ◌∷◌, ◌++◌, length, slice_set}
use Rattle.base_words.specs.declared.events.Event.TheVariants.{End as Ending}
use Rattle.isolation_law.specs.CellFailure.{end_by, failure_of}
use Rattle.isolation_law.specs.CellUse.{uses}
use Rattle.isolation_law.specs.GuestState.{GuestState, is_dead}
use Rattle.isolation_law.specs.Phases.{GoesOn, GoesOnOrLingers}
use Rattle.isolation_law.specs.Run.{Run}
use Rattle.guest_course.specs.declared.course.Course.{Course}
use Rattle.guest_course.specs.EndCalls.{letting_go}
use Rattle.guest_course.specs.Failures.{dead_cells}

-- the cell has failed from now on, and all else is as it was
pub record Marks (c : Course) (cell : ℕ) (d : Course) : Type 0 where
  pub same : d ≡ record c { dead = d.dead }
  pub cells : dead_cells d.dead ≡ slice_set (dead_cells c.dead) cell true

-- it hadn't before, and a guest that goes on doesn't use it
pub record MayOutlive (s : GuestState) (cell : ℕ) : Type 0 where
  pub phase : GoesOnOrLingers s
  pub lives : is_dead s cell ≡ false
  pub unused : uses s cell ≡ false

-- it is one of the machine's and hadn't before, and the guest goes on and uses it
pub record EndsBy (s : GuestState) (cell : ℕ) : Type 0 where
  pub goes_on : GoesOn s
  pub is_cell : cell < length s.dead
  pub lives : is_dead s cell ≡ false
  pub used : uses s cell ≡ true

-- the cell fails, and the guest ends by it, directly after these pages have been let go
abbrev pub FailsSo : GuestState → ℕ → GuestState → Type 0
FailsSo s cell t = Run s (failure_of cell ∷ letting_go 0 s.pages ++ Ending (end_by cell) ∷ []) t
