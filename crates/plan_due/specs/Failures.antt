-- How often a journal tells that a cell failed.
use Rattle.std.specs.Prelude.{ℕ, List, Bool, if◌then◌else◌, count_by}
use Rattle.base_words.specs.declared.events.Event.{Event}
use Rattle.isolation_law.specs.CellFailure.{is_failure}

abbrev pub failures_in : ℕ → List Event → ℕ
failures_in c journal = count_by (is_failure c) journal

-- once, or never
abbrev pub once_if : Bool → ℕ
once_if b = if b then 1 else 0
