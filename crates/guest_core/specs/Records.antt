-- What a guest leaves of its run.
use Rattle.std.specs.Prelude.{◌≡◌, map, option_map, Some}
use Rattle.isolation_law.specs.GuestState.{GuestState}
use Rattle.isolation_law.specs.Run.{Run}
use Rattle.isolation_law.specs.Start.{Boot, start}
use Rattle.guest_course.specs.CourseView.{got_of, hand_of}
use Rattle.guest_course.specs.SkipView.{skip_of}
use Rattle.guest_core.specs.declared.records.GuestRecord.{GuestRecord}

-- the journal leads from the guest's start to this state, in which it has ended so, and has printed, sent
-- and taken this; and these moves weren't begun
pub record IsRecord (b : Boot) (s : GuestState) (left : GuestRecord) : Type 0 where
  pub run : Run (start b) left.journal.entries s
  pub end : s.end ≡ Some left.end
  pub console : left.console ≡ s.devices.console
  pub sent : left.sent ≡ s.devices.sent
  pub cells : map (λ c. c.0) left.cells ≡ s.sent_from
  pub received : map got_of left.received ≡ s.received
  pub discarded : map got_of left.discarded ≡ s.discarded
  pub in_hand : option_map hand_of left.in_hand ≡ s.hand
  pub skips : map skip_of left.skips ≡ s.skips
