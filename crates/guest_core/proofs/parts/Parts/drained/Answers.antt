-- The ends tell the same, so each guest is kept.
use Rattle.std.proofs.Common.{◌≡◌, ◌<◌, sym, ap, ◌∙◌, subst}
use Rattle.wire_queue.specs.Between.{Made, guest_count}
use Rattle.wire_queue.specs.ListSteps.{SameEnds}
use Rattle.wire_queue.specs.PassLists.{IsListOf}
use Rattle.guest_course.specs.CourseView.{state_of}
use Rattle.guest_core.specs.declared.parts.Parts.{Parts}
use Rattle.guest_core.specs.declared.wiring.Wiring.{Wiring}
use Rattle.guest_core.specs.Kept.{IsKept}
use Rattle.guest_core.specs.Wiring.{IsWired}
use Rattle.guest_core.proofs.HandProofs.{wired-again}
use Rattle.guest_core.proofs.WiringProofs.{posted-asked, there-from}
use Rattle.guest_core.proofs.parts.Parts.drained.Goals as goal

asked : (old : Parts) (new : Wiring) (wires : Made) → IsKept old → old.wiring.wires.value ≡ wires → IsListOf wires new.passes → SameEnds old.wiring.passes new.passes → new.wires ≡ old.wiring.wires → IsKept (record old { wiring = new })
asked old new wires k of list same still = record {
  sound = k.sound;
  seat = k.seat;
  booted = k.booted;
  kept = k.kept;
  goes_on = k.goes_on;
  frames = k.frames;
  used = k.used;
  at_home = k.at_home;
  owed = k.owed;
  few_guests = k.few_guests;
  wired = subst (λ (m : Made). IsWired m new.passes old.start.around) (sym (ap (λ x. x.value) still))
      (wired-again old.wiring.wires.value old.wiring.passes new.passes old.start.around k.wired (subst (λ (m : Made). IsListOf m new.passes) (sym of) list) same.guest);
  posted = posted-asked (state_of old.course) old.journal.entries old.wiring.passes new.passes k.posted same;
}

pub returns-clause-kept : goal.returns-clause-kept
returns-clause-kept g c =
    let k = c.requires.kept in
    let w = c.requires.wires in
    let e = c.has_taken.ensures in
    let wires = c.args.resources.now.wires.now in
    (asked c.args.self.now c.has_taken.new.self wires k.0 w.0 e.lists.0 e.same.0 e.wires.0, asked c.args.from.now c.has_taken.new.from wires k.1 w.1 e.lists.1 e.same.1 e.wires.1)

pub has_taken-requires-clause-there : goal.has_taken-requires-clause-there
has_taken-requires-clause-there g c =
    let k = c.requires.kept in
    let w = c.requires.wires in
    let old = c.args.self.now in
    let sender = c.args.from.now in
    let same : sender.wiring.wires.value ≡ old.wiring.wires.value = w.1 ∙ sym w.0 in
    there-from old.wiring.wires.value old.wiring.passes old.start.around sender.wiring.passes.guest.0 k.0.wired (subst (λ (m : Made). sender.wiring.passes.guest.0 < guest_count m) same k.1.wired.is_guest) c.requires.other
