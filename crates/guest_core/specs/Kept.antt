-- What the type of a guest keeps.
use Rattle.std.specs.Prelude.{◌≡◌, ◌<◌, ◌≤◌, List, length, None}
use Rattle.base_words.specs.declared.events.Event.{Event}
use Rattle.shootdown.specs.declared.view.SidedNote.{SidedNote}
use Rattle.isolation_law.specs.GuestState.{GuestState}
use Rattle.isolation_law.specs.Phases.{GoesOn}
use Rattle.isolation_law.specs.Run.{Run}
use Rattle.isolation_law.specs.Start.{Boot, IsBoot, start as started}
use Rattle.guest_course.specs.CourseView.{state_of}
use Rattle.guest_course.specs.CourseRules.{IsSound}
use Rattle.guest_core.specs.declared.parts.Parts.{Parts}
use Rattle.guest_core.specs.GuestView.{entries_due}
use Rattle.guest_core.specs.Holding.{HasFrames}
use Rattle.guest_core.specs.Noting.{IsNoted}
use Rattle.guest_core.specs.Using.{AreUses}
use Rattle.guest_core.specs.Wiring.{IsWired, Posted}

-- The journal is a run from the guest's start to its state, and the seat's notes are in step with both.
pub record Kept (b : Boot) (s : GuestState) (journal : List Event) (notes : List SidedNote) : Type 0 where
  pub run : Run (started b) journal s
  pub noted : IsNoted s journal notes
  pub around : s.around ≡ b.around
  pub processors : length s.processors ≡ length b.around.processors
  pub vcpus : length s.vcpus ≡ b.vcpus

-- A guest whose virtual processors have all halted has ended. Its holder holds what it holds, and its counters are those of the cells
-- that it uses. The journal has room for each unload and for the end of each open move. Its ends of the wires tell what it sent and took.
pub record IsKept (g : Parts) : Type 0 where
  pub sound : IsSound g.course
  pub seat : g.seat.number ≡ g.number.0
  pub booted : IsBoot g.start
  pub kept : Kept g.start (state_of g.course) g.journal.entries g.seat.notes
  pub goes_on : g.course.ended ≡ None → GoesOn (state_of g.course)
  pub frames : HasFrames (state_of g.course) g.holder.view
  pub used : AreUses (state_of g.course) g.uses
  pub at_home : g.start.around.home < length g.start.around.nodes
  pub owed : entries_due (state_of g.course) ≤ g.journal.room
  pub few_guests : length g.start.around.homes ≤ 8
  pub wired : IsWired g.wiring.wires.value g.wiring.passes g.start.around
  pub posted : Posted (state_of g.course) g.journal.entries g.wiring.passes
