-- How many pages have a move that isn't over.
use Rattle.std.specs.Prelude.{ℕ, Bool, count_by, is_some}
use Rattle.private_machine.specs.Backing.{Page}
use Rattle.isolation_law.specs.GuestState.{GuestState}

abbrev pub is_moving : Page → Bool
is_moving g = is_some g.move

abbrev pub moving_count : GuestState → ℕ
moving_count s = count_by is_moving s.pages
