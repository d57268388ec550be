-- The policy's choices that are due: each begin, skip and end of a move of a page clears those of it.
use Rattle.std.specs.Prelude.{ℕ, ◌==◌, if◌then◌else◌, List, map, Option, Some, None, is_some}
use Rattle.private_machine.specs.Backing.{Page, page_at}
use Rattle.isolation_law.specs.Parts.{Wish}
use Rattle.isolation_law.specs.GuestState.{GuestState}

abbrev pub without_due : ℕ → Option Wish → Option Wish
without_due q None = None
without_due q (Some wish) = if wish.page == q then None else Some wish

abbrev pub cleared : ℕ → GuestState → GuestState
cleared q s = record s { due = map (without_due q) s.due }

-- with all pages, all that move end
abbrev pub without_moving : List Page → Option Wish → Option Wish
without_moving pages None = None
without_moving pages (Some wish) = if is_some (page_at pages wish.page).move then None else Some wish
