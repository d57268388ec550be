-- A cell fails, and the guest ends.
use Rattle.std.specs.Prelude.{◌≡◌, ◌⊎◌, ℕ, ◌<◌, if◌then◌else◌, Bool, true, false, List, [], length, map, Option, Some, None, unwrap_or, slice_set}
use Rattle.base_words.specs.declared.events.End.{End}
use Rattle.base_words.specs.declared.events.End.TheVariants.{Halted, Budget, CellFailed}
use Rattle.base_words.specs.Membership.{HasNone}
use Rattle.private_machine.specs.Backing.{Copy, Change, Migrates, Replicates, Collapses, Breaks, TakesShared, GivesShared, Move}
use Rattle.isolation_law.specs.GuestState.{GuestState, page, is_dead}
use Rattle.isolation_law.specs.CellUse.{uses}
use Rattle.isolation_law.specs.Dues.{without_moving}
use Rattle.isolation_law.specs.MoveRows.{with_finished}
use Rattle.isolation_law.specs.Phases.{GoesOnOrLingers, owed}

-- a guest that uses the cell has to end by it; one that has ended otherwise stays as it was
abbrev pub with_failed : GuestState → ℕ → GuestState
with_failed s c = record s {
  dead = slice_set s.dead c true;
  closing = if uses s c then Some (CellFailed (record { 0 = c })) else s.closing;
}

-- Each cell fails once.
pub record CellFailsIn (s : GuestState) (c : ℕ) (t : GuestState) : Type 0 where
  pub phase : GoesOnOrLingers s
  pub is_cell : c < length s.dead
  pub once : is_dead s c ≡ false
  pub after : t ≡ with_failed s c

-- Directly before an end each page that is being taken shared is let go, whatever processors it waits for. Where no end is
-- owed yet, it is the plan's that has to follow.
pub record LetsGo (s : GuestState) (q : ℕ) (t : GuestState) : Type 0 where
  pub not_ended : s.end ≡ None
  pub target : Copy
  pub waiting : List Bool
  pub open_move : (page s q).move ≡ Some (record { change = TakesShared target; waiting = waiting })
  pub early : owed s ≡ None → HasNone waiting → ⊥
  pub after : t ≡ record (with_finished s q (TakesShared target)) { closing = Some (unwrap_or (owed s) Budget) }

abbrev pub takes : Change → Bool
takes (Migrates target) = false
takes (Replicates target) = false
takes Collapses = false
takes (Breaks target) = false
takes (TakesShared target) = true
takes (GivesShared target) = false

abbrev pub is_taking : Option Move → Bool
is_taking None = false
is_taking (Some m) = takes m.change

-- the plan's end comes where no move could be done
pub record PlanIsDone (s : GuestState) : Type 0 where
  pub not_ended : s.end ≡ None
  pub no_other : (owed s ≡ None) ⊎ (owed s ≡ Some Budget)
  pub all_wait : (q : ℕ) (m : Move) → (page s q).move ≡ Some m → HasNone m.waiting → ⊥

abbrev pub MayEnd : GuestState → End → Type 0
MayEnd s Halted = (s.end ≡ None) × (owed s ≡ Some Halted)
MayEnd s Budget = PlanIsDone s
MayEnd s (CellFailed c) = (s.end ≡ None) × (owed s ≡ Some (CellFailed c))

-- what is left by an end: no further end has to follow; all frames are released, and with them the pages; the moves end, and
-- what was due of their pages
abbrev pub ended : End → GuestState → GuestState
ended end s = record s { end = Some end; closing = None; pages = []; operations = []; spares = []; due = map (without_moving s.pages) s.due }

-- The guest ends, where no page is being taken shared.
pub record Ends (s : GuestState) (end : End) (t : GuestState) : Type 0 where
  pub may : MayEnd s end
  pub takes_nothing : (q : ℕ) → is_taking (page s q).move ≡ false
  pub after : t ≡ ended end s
