-- A packet that comes to hand is the last one taken.
use Rattle.std.proofs.Common.{◌≡◌, ◌≤◌, Some, option_map, sym, ap, ◌∙◌, subst}
use Rattle.isolation_law.specs.GuestState.{GuestState}
use Rattle.isolation_law.specs.Surroundings.{Surroundings}
use Rattle.wire_queue.specs.Between.{Made}
use Rattle.wire_queue.specs.PassLists.{IsListOf}
use Rattle.guest_course.specs.CourseView.{hand_of, state_of}
use Rattle.guest_course.specs.declared.course.Course.{Course}
use Rattle.guest_core.specs.GuestView.{entries_due}
use Rattle.guest_core.specs.Wiring.{IsWired}
use Rattle.guest_core.proofs.ActLemmas.{acts-hand}
use Rattle.guest_core.proofs.HandProofs.{fits-hand, kept-comes, goes-comes, frames-come, wired-again}
use Rattle.guest_core.proofs.UsingProofs.{uses-come}
use Rattle.guest_core.proofs.WiringProofs.{posted-comes}
use Rattle.guest_core.proofs.parts.Parts.fetch.Goals as goal

pub returns-in-Some-clause-kept : goal.returns-in-Some-clause-kept
returns-in-Some-clause-kept g c =
    let old = c.args.self.now in
    let k = c.requires.kept in
    let s = state_of old.course in
    let t = state_of c.take_in_hand.new.self in
    let w = c.laws.ensures.takes in
    let comes = c.take_in_hand.ensures.comes in
    let held : t.hand ≡ Some (hand_of c.in-Some.packet) = ap (λ (x : Course). option_map hand_of x.hand) c.take_in_hand.ensures.same in
    let wires = old.wiring.wires.value in
    let list : IsListOf wires c.next.new.self.passes = subst (λ (m : Made). IsListOf m c.next.new.self.passes) (sym c.requires.wires) c.in-Some.ensures.list in
    let again = wired-again wires old.wiring.passes c.next.new.self.passes old.start.around k.wired list (c.in-Some.ensures.taken.takes.only.guest ∙ c.in-Some.ensures.taken.vain.guest) in
    let here : IsWired wires old.wiring.passes s.around = subst (λ (x : Surroundings). IsWired wires old.wiring.passes x) (sym k.kept.around) k.wired in
    record {
      sound = c.take_in_hand.ensures.sound;
      seat = k.seat;
      booted = k.booted;
      kept = kept-comes c.run_grows.ensures.hand old.start s t old.journal.entries old.seat.notes k.kept comes;
      goes_on = λ on. goes-comes s t comes;
      frames = frames-come s t old.holder.view k.frames comes;
      used = uses-come s t old.uses k.used comes;
      at_home = k.at_home;
      owed = subst (λ (x : GuestState). entries_due x ≤ old.journal.room) (sym comes.after) k.owed;
      few_guests = k.few_guests;
      wired = subst (λ (m : Made). IsWired m c.next.new.self.passes old.start.around) (ap (λ x. x.value) (sym c.in-Some.ensures.wires)) again;
      posted = posted-comes w wires s t old.journal.entries old.wiring.passes c.next.new.self.passes c.in-Some.packet here k.posted comes held c.in-Some.ensures.taken;
    }

pub returns-in-Some-clause-acts : goal.returns-in-Some-clause-acts
returns-in-Some-clause-acts g c = acts-hand (state_of c.args.self.now.course) (state_of c.take_in_hand.new.self) c.take_in_hand.ensures.comes

pub take_in_hand-requires-clause-fits : goal.take_in_hand-requires-clause-fits
take_in_hand-requires-clause-fits g c =
    let old = c.args.self.now in
    let s = state_of old.course in
    let k = c.requires.kept in
    let wires = old.wiring.wires.value in
    let here : IsWired wires old.wiring.passes s.around = subst (λ (x : Surroundings). IsWired wires old.wiring.passes x) (sym k.kept.around) k.wired in
    fits-hand wires s.around old.wiring.passes c.next.new.self.passes c.in-Some.packet here old.course.around.site.shape.has_frames c.in-Some.ensures.taken
