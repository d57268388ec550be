-- The parts are those of the law's start.
use Rattle.std.proofs.Common.{◌≡◌, ℕ, ◌*◌, ◌<◌, ◌≤◌, List, [], None, Some, length, refl, sym, ap, ◌∙◌, subst, arith}
use Rattle.std.proofs.lemmas.List.{length-map}
use Rattle.std.specs.Prelude.{All}
use Rattle.base_words.specs.declared.events.End.{End}
use Rattle.base_words.specs.declared.ids.CellId.{CellId}
use Rattle.base_words.specs.declared.frame.Frame.{Frame}
use Rattle.isolation_law.specs.GuestState.{GuestState}
use Rattle.isolation_law.specs.Start.{Boot, IsBoot, start as started}
use Rattle.guest_course.specs.BootCalls.{AreWhole, MayBoot, given_blocks, boot_of}
use Rattle.guest_course.specs.CourseView.{state_of, surroundings}
use Rattle.guest_core.specs.GuestView.{entries_due}
use Rattle.guest_core.specs.Holding.{IsHolding, frames_around}
use Rattle.guest_core.specs.Kept.{Kept}
use Rattle.guest_core.specs.Starting.{booted_with}
use Rattle.guest_core.proofs.BootLemmas.{same-boot, may-boot, is-boot, nothing-due, kept-start}
use Rattle.guest_core.proofs.EnterProofs.{none-handed, of-these}
use Rattle.guest_core.proofs.HoldingLemmas.{holding-start}
use Rattle.wire_queue.specs.Between.{Made}
use Rattle.wire_queue.specs.declared.lists.PassList.{PassList}
use Rattle.base_words.specs.declared.events.Event.{Event}
use Rattle.guest_core.specs.Wiring.{IsWired, Posted}
use Rattle.guest_core.proofs.WiringProofs.{posted-start}
use Rattle.guest_core.specs.Using.{AreUses}
use Rattle.guest_core.proofs.ShapeLemmas.{nodes-of}
use Rattle.guest_core.proofs.UsingProofs.{uses-start, all-within}
use Rattle.guest_core.proofs.parts.Parts.boot.Goals as goal

pub boot-requires : goal.boot-requires
boot-requires c =
    let made = c.in_ok-frames.ensures in
    subst (λ (l : List Frame). MayBoot c.args.around c.args.vcpus l c.args.disk) (sym made.filled)
    (may-boot c.args.around c.args.image c.args.vcpus c.args.frames c.args.disk c.requires.may (subst AreWhole made.filled made.whole))

-- each frame is the machine's
pub count_frames-requires-clause-within : goal.count_frames-requires-clause-within
count_frames-requires-clause-within c =
    let shape = c.args.around.site.shape in
    subst (λ (n : ℕ). All (λ (f : Frame). f.number.0 < n * shape.frames) c.args.frames) (nodes-of c.args.around)
    (all-within c.args.frames (frames_around (surroundings c.args.around)) (λ frame some. c.requires.holds.within frame some))

-- what the guest was started from
abbrev from : goal.After-drop-frames-inside-2 → Boot
from c = booted_with c.args.around c.args.image c.args.vcpus c.args.frames c.args.disk c.args.input.now

state-is : (c : goal.After-drop-frames-inside-2) → state_of c.in_ok-boot.field-0 ≡ started (from c)
state-is c =
    c.in_ok-boot.ensures.start
    ∙ ap (λ (l : List Frame). started (boot_of c.args.around c.args.image.entry c.args.vcpus l (given_blocks c.args.disk) c.args.input.now)) c.in_ok-frames.ensures.filled
    ∙ ap started (same-boot c.args.around c.args.image c.args.vcpus c.args.frames c.args.disk c.args.input.now c.requires.may.backed)

pub returns-clause-kept : goal.returns-clause-kept
returns-clause-kept c =
    let b = from c in
    let start = c.start.view_is ∙ c.of-start.ensures in
    let state = state-is c in
    let kept = kept-start b (c.run_grows.ensures.none (started b)) in
    let none : entries_due (state_of c.in_ok-boot.field-0) ≡ 0 = ap entries_due state ∙ nothing-due b in
    let made = c.in_ok-frames.ensures in
    record {
      sound = c.in_ok-boot.ensures.sound;
      seat = sym c.number-number.ensures;
      booted = subst IsBoot (sym start) (is-boot c.args.around c.args.image c.args.vcpus c.args.frames c.args.disk c.args.input.now c.requires.may (subst AreWhole made.filled made.whole));
      kept = subst (λ (x : Boot). Kept x (state_of c.in_ok-boot.field-0) c.new.result.entries c.args.seat.notes) (sym start)
          (subst (λ (s : GuestState). Kept b s c.new.result.entries c.args.seat.notes) (sym state)
          (of-these b (started b) [] _ [] _ (ap (λ x. x.entries) c.new.ensures) c.requires.no_notes kept));
      goes_on = λ on. c.in_ok-boot.ensures.goes_on;
      frames = record {
        holding = subst (λ (s : GuestState). IsHolding s c.args.holder.view) (sym state) (holding-start b c.args.holder.view c.requires.holds);
        given_back = λ end is. absurd (not-ended end (sym (ap (λ (s : GuestState). s.end) state) ∙ is));
      };
      used = subst (λ (g : GuestState). AreUses g c.in_ok-uses.uses) (sym state) (uses-start b c.args.frames c.args.around.site.shape c.in_ok-uses.uses refl (record { frames = refl; cells = refl }) c.in_ok-uses.ensures.cells c.in_ok-uses.ensures.counts);
      at_home = subst (λ (x : Boot). x.around.home < length x.around.nodes) (sym start) (subst (λ (n : ℕ). c.args.around.home.0 < n) (sym (length-map c.args.around.site.shape.cells (λ (x : CellId). x.0) ∙ c.args.around.site.shape.has_cells)) c.requires.may.at_home);
      owed = omega (arith, none);
      few_guests = subst (λ (x : Boot). length x.around.homes ≤ 8) (sym start) (subst (λ (n : ℕ). n ≤ 8) (sym (length-map c.args.around.site.homes (λ (x : CellId). x.0))) c.requires.may.few_guests);
      wired = subst (λ (x : Boot). IsWired c.of.result.wires.value c.of.result.passes x.around) (sym start) (subst (λ (l : PassList). IsWired c.of.result.wires.value l (from c).around) (sym c.of.ensures.passes) (subst (λ (m : Made). IsWired m c.args.passes (from c).around) (sym c.of.ensures.wires) c.requires.wired));
      posted = subst (λ (s : GuestState). Posted s c.new.result.entries c.of.result.passes) (sym state) (subst (λ (j : List Event). Posted (started b) j c.of.result.passes) (sym (ap (λ x. x.entries) c.new.ensures)) (subst (Posted (started b) []) (sym c.of.ensures.passes) (posted-start b c.args.passes c.requires.unused)));
    }
  where
    not-ended : (end : End) → None ≡ Some end → ⊥
    not-ended end is = cc

pub returns-clause-start : goal.returns-clause-start
returns-clause-start c = record {
  number_is = c.number-number.ensures;
  start_is = c.start.view_is ∙ c.of-start.ensures;
  board_is = refl;
  table_is = refl;
  state_is = state-is c;
  no_entries = ap (λ x. x.entries) c.new.ensures;
  no_notes = c.requires.no_notes;
  wires_are = c.of.ensures.wires;
  passes_are = c.of.ensures.passes;
  disk_is = refl;
  none_handed = none-handed c.in_ok-boot.field-0 (ap (λ (s : GuestState). s.hand) (state-is c));
}
