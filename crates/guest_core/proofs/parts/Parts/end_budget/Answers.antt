-- The moves that are done are finished, then the guest ends, and it is kept.
use Rattle.std.proofs.Common.{◌≡◌, ℕ, ◌≤◌, Some, None, List, [], ◌∷◌, ◌++◌, map, sym, ap, ◌∙◌, subst, arith, append_assoc}
use Rattle.std.specs.Global.{Vec}
use Rattle.base_words.specs.declared.ids.CellId.{CellId}
use Rattle.base_words.specs.declared.events.Event.{Event}
use Rattle.base_words.specs.declared.events.Event.TheVariants.{End as Ending}
use Rattle.base_words.specs.declared.events.End.{End}
use Rattle.base_words.specs.declared.events.End.TheVariants.{Budget}
use Rattle.guest_course.specs.CourseView.{state_of}
use Rattle.guest_course.specs.EndCalls.{letting_go}
use Rattle.guest_core.specs.GuestView.{guest_of, entries_due, calls_room}
use Rattle.guest_core.specs.Kept.{Kept}
use Rattle.guest_core.specs.MoveCalls.{finishing}
use Rattle.guest_core.specs.Wiring.{Posted}
use Rattle.guest_core.proofs.EndLemmas.{plan-done}
use Rattle.guest_core.proofs.LettingLemmas.{kept-closed, letting-open, quiet-closing}
use Rattle.guest_core.proofs.RoomLemmas.{two-entries}
use Rattle.guest_core.proofs.WiringProofs.{posted-same, takes-none}
use Rattle.guest_core.proofs.parts.Parts.end_budget.Goals as goal

at-least : (a b : ℕ) → 2 ≤ a → a ≤ b → 2 ≤ b
at-least a b had more = omega (arith, had, more)

pub close-requires-clause-room : goal.close-requires-clause-room
close-requires-clause-room c =
    let mid = c.finish_all.new.self in
    let s = state_of mid.course in
    let some : 2 ≤ (guest_of mid).room = at-least _ _ c.requires.room c.finish_all.ensures.room in
    let room = two-entries mid.journal.room (entries_due s) (calls_room mid.course) some in
    omega (arith, room, letting-open 0 s.pages)

pub returns-clause-ends : goal.returns-clause-ends
returns-clause-ends c =
    let old = c.args.self.now in
    let m = state_of c.finish_all.new.self.course in
    let s = state_of old.course in
    let t = state_of c.close.new.course in
    let e = c.finish_all.ensures in
    let closing = letting_go 0 m.pages ++ Ending Budget ∷ [] in
    record {
      mid = m;
      finishes = e.makes.makes.run;
      ended = c.close.ensures.ended;
      devices = rw c.close.ensures.devs e.devices;
      hand = (takes-none c.finish_all.new.self.course c.close.new.course c.close.ensures.packets).hand ∙ e.hand;
      ends = (c.close.ensures.ends (plan-done (state_of c.finish_all.new.self.course) (c.finish_all.ensures.kept.goes_on c.finish_all.ensures.not_ended) c.finish_all.ensures.none));
      makes = record {
        journal = c.close.ensures.entries ∙ ap (λ (l : List Event). l ++ closing) e.makes.makes.journal ∙ append_assoc old.journal.entries (finishing 0 s.pages) closing;
        run = c.run_grows.ensures.run s m t (finishing 0 s.pages) closing e.makes.makes.run (c.close.ensures.ends (plan-done (state_of c.finish_all.new.self.course) (c.finish_all.ensures.kept.goes_on c.finish_all.ensures.not_ended) c.finish_all.ensures.none));
      };
    }

pub returns-clause-kept : goal.returns-clause-kept
returns-clause-kept c =
    let mid = c.finish_all.new.self in
    let s = state_of mid.course in
    let t = state_of c.close.new.course in
    let k = c.finish_all.ensures.kept in
    let w = c.laws.ensures.rows in
    let e = c.close.ensures in
    let kept = kept-closed c.run_grows.ensures.hand w c.laws.ensures.runs mid.start s t mid.journal.entries s.pages Budget mid.seat.notes k.kept (c.close.ensures.ends (plan-done (state_of c.finish_all.new.self.course) (c.finish_all.ensures.kept.goes_on c.finish_all.ensures.not_ended) c.finish_all.ensures.none)) in
    let some : 2 ≤ (guest_of mid).room = at-least _ _ c.requires.room c.finish_all.ensures.room in
    let room = two-entries mid.journal.room (entries_due s) (calls_room mid.course) some in
    record {
      sound = e.sound;
      seat = k.seat;
      booted = k.booted;
      kept = subst (λ (j : List Event). Kept mid.start t j mid.seat.notes) (sym e.entries) kept;
      goes_on = λ on. absurd (no Budget (sym e.ended ∙ on));
      frames = e.frames;
      used = e.used;
      at_home = k.at_home;
      owed = omega (arith, e.due, room, letting-open 0 s.pages, e.room);
      few_guests = k.few_guests;
      wired = k.wired;
      posted = subst (λ (j : List Event). Posted t j mid.wiring.passes) (sym e.entries) (posted-same c.laws.ensures.takes s t mid.journal.entries (letting_go 0 s.pages ++ Ending Budget ∷ []) mid.wiring.passes k.posted (takes-none mid.course c.close.new.course e.packets) e.packets.sent (ap (λ (l : Vec CellId). map (λ (c : CellId). c.0) l.items) e.cells) e.around (quiet-closing s s.pages Budget));
    }
  where
    no : (e : End) → Some e ≡ None → ⊥
    no e is = cc
