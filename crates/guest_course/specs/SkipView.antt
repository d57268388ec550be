-- How contracts see the moves that weren't begun.
use Rattle.std.specs.Prelude.{map}
use Rattle.node_frames.specs.declared.answers.Shown.{Shown}
use Rattle.node_frames.specs.declared.answers.Shown.TheVariants as showed
use Rattle.isolation_law.specs.Parts.{Cause, Ended, DeadCell, Shared, Replicated, SameNode, NoReplica, NoFrame, AllHeld, AtLimit, Lost, SkipEntry, Wish as Wanting, Shown as NodeShown}
use Rattle.guest_course.specs.declared.place.Wish.{Wish}
use Rattle.guest_course.specs.declared.skips.SkipCause.{SkipCause}
use Rattle.guest_course.specs.declared.skips.SkipCause.TheVariants as causes
use Rattle.guest_course.specs.declared.skips.SkipEntry.{SkipEntry as Skipped}

-- what was asked for
abbrev pub wanting : Wish → Wanting
wanting w = record { page = w.page.0; kind = w.kind; node = w.node.0 }

-- what a node without a frame showed
abbrev pub shown_of : Shown → NodeShown
shown_of showed.AllHeld = AllHeld
shown_of (showed.AtLimit seen) = AtLimit seen
shown_of (showed.Lost seen) = Lost seen

-- why it wasn't begun
abbrev pub cause_of : SkipCause → Cause
cause_of causes.Ended = Ended
cause_of (causes.DeadCell cell) = DeadCell cell.0
cause_of causes.Shared = Shared
cause_of causes.Replicated = Replicated
cause_of causes.SameNode = SameNode
cause_of causes.NoReplica = NoReplica
cause_of (causes.NoFrame list) = NoFrame (map shown_of list)

abbrev pub skip_of : Skipped → SkipEntry
skip_of e = record { wish = wanting e.wish; by = e.by; cause = cause_of e.cause }
