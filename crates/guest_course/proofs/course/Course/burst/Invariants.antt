use Rattle.std.proofs.Common.{◌-◌, ◌≡◌, ◌≢◌, ◌<◌, ◌≤◌, ◌⊎◌, None}
use Rattle.private_machine.specs.RegisterPage.{has_page}
use Rattle.isolation_law.specs.GuestState.{due_on}
use Rattle.guest_course.specs.CourseView.{state_of}
use Rattle.guest_course.specs.CourseRules.{IsSound}
use Rattle.guest_course.specs.Packets.{SamePackets}
use Rattle.guest_course.specs.StepCalls.{MayStep, StepsMany}
use Rattle.guest_devs.specs.Quiet.{AreQuiet}
use Rattle.guest_course.specs.Windows.{IsWindowOn}
use Rattle.guest_course.proofs.course.Course.burst.Given as goal

abbrev pub invariant-loop-made : goal.invariant-loop-made
invariant-loop-made l = record {
  sound : IsSound l.self;
  paged : l.paged ≡ has_page l.self.around.profile;
  may : MayStep (state_of l.self) l.processor.0 l.vcpu.0;
  steps : StepsMany l.made (state_of l.fn.self) l.processor.0 l.vcpu.0 (state_of l.self);
  quiet : AreQuiet l.quiet l.vcpu.0 l.self.vcpus.items l.self.devs.state.page;
  window : IsWindowOn l.self l.processor.0 l.vcpu.0 l.window;
  fewer : l.made < l.limit;
  limited : l.limit ≤ l.most;
  limit : ((l.limit ≡ l.most) × (due_on (state_of l.self) l.processor.0 ≡ None)) ⊎ ((l.limit ≡ 1) × (due_on (state_of l.self) l.processor.0 ≢ None));
  print_room : l.self.devs.print_room ≡ l.fn.self.devs.print_room;
  send_room : l.self.devs.send_room ≡ l.fn.self.devs.send_room;
  room : l.self.pmap.room ≡ l.fn.self.pmap.room;
  cells : l.self.sent_from ≡ l.fn.self.sent_from;
  skips : l.self.skips ≡ l.fn.self.skips;
  packets : SamePackets l.fn.self l.self;
}

abbrev pub decreases-loop-made : goal.decreases-loop-made
decreases-loop-made l = l.limit - l.made
