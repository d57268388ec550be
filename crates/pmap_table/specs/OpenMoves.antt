-- The open move of a page.
use Rattle.std.specs.Prelude.{◌≡◌, ◌<◌, false, length, Option, Some, None}
use Rattle.private_machine.specs.Backing.{Change, Migrates, Replicates, Collapses, Breaks, TakesShared, GivesShared, Move, Page}
use Rattle.private_machine.specs.PageMove.{kind_of}
use Rattle.pmap_table.specs.declared.open_move.Change.{Change as Kept}
use Rattle.pmap_table.specs.declared.open_move.Change.TheVariants.{Migrate, Replicate, Collapse, Break, TakeShared, GiveShared}
use Rattle.pmap_table.specs.declared.open_move.PendingMove.{PendingMove}
use Rattle.pmap_table.specs.declared.open_move.OpenMove.{OpenMove}
use Rattle.pmap_table.specs.Frames.{copy_of, shared_copy_of}

-- what is kept of a move
abbrev pub change_of : Kept → Change
change_of (Migrate target) = Migrates (copy_of target)
change_of (Replicate target) = Replicates (copy_of target)
change_of Collapse = Collapses
change_of (Break target) = Breaks (copy_of target)
change_of (TakeShared target) = TakesShared (shared_copy_of target)
change_of (GiveShared target) = GivesShared (copy_of target)

abbrev pub move_of : PendingMove → Move
move_of m = record { change = change_of m.change; waiting = m.waiting }

-- it takes the page shared
abbrev pub TakesPage : Kept → Type 0
TakesPage (Migrate target) = ⊥
TakesPage (Replicate target) = ⊥
TakesPage Collapse = ⊥
TakesPage (Break target) = ⊥
TakesPage (TakeShared target) = Unit {0}
TakesPage (GiveShared target) = ⊥

-- what is told of it
abbrev pub told : Move → OpenMove
told m = record { kind = kind_of m.change; waiting = m.waiting }

-- a page on which such a move can be done: one that migrates or is replicated is the guest's own, and there is a place for one more
-- replica
abbrev pub FitsChange : Page → Change → Type 0
FitsChange g (Migrates target) = g.shared ≡ false
FitsChange g (Replicates target) = (g.shared ≡ false) × (length g.replicas < 7)
FitsChange g Collapses = Unit {0}
FitsChange g (Breaks target) = Unit {0}
FitsChange g (TakesShared target) = Unit {0}
FitsChange g (GivesShared target) = Unit {0}

abbrev pub FitsMove : Page → Option Move → Type 0
FitsMove g None = Unit {0}
FitsMove g (Some m) = FitsChange g m.change
