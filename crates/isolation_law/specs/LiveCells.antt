-- No frame of a cell that has failed is used and no virtual processor is loaded in one, but in that by which the guest has to end.
use Rattle.std.specs.Prelude.{◌≡◌, ℕ, true, Some}
use Rattle.base_words.specs.declared.events.End.TheVariants.{CellFailed}
use Rattle.isolation_law.specs.GuestState.{GuestState, is_dead}
use Rattle.isolation_law.specs.CellUse.{uses}
use Rattle.isolation_law.specs.Phases.{owed}

abbrev pub UsesLive : GuestState → Type 0
UsesLive s = (c : ℕ) → is_dead s c ≡ true → uses s c ≡ true → owed s ≡ Some (CellFailed (record { 0 = c }))
