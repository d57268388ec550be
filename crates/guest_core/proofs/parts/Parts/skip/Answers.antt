-- What was asked for is noted with its cause, and the guest is kept.
use Rattle.std.specs.Vec.{vec_len}
use Rattle.std.proofs.Common.{rules, ◌≡◌, ◌<◌, ℕ, List, [], ◌∷◌, ◌++◌, Ok, length, map, refl, sym, ap, ◌∙◌, subst, arith}
use Rattle.base_words.specs.declared.events.Event.{Event}
use Rattle.base_words.specs.declared.events.Event.TheVariants.{Skip}
use Rattle.base_words.specs.declared.ids.ProcId.{ProcId}
use Rattle.shootdown.specs.Notes.{Seat, Token, sided}
use Rattle.shootdown.specs.declared.view.SidedNote.{SidedNote}
use Rattle.pmap_table.specs.PageMap.{PageMap}
use Rattle.isolation_law.specs.GuestState.{GuestState}
use Rattle.isolation_law.specs.Parts.{SkipEntry}
use Rattle.isolation_law.specs.SkipRow.{Skips}
use Rattle.guest_course.specs.CourseView.{state_of}
use Rattle.guest_course.specs.SkipView.{wanting, cause_of}
use Rattle.isolation_law.specs.Causes.{IsCause}
use Rattle.isolation_law.specs.Surroundings.{Surroundings}
use Rattle.guest_core.specs.MoveCalls.{IsPlanned, told_by}
use Rattle.guest_core.specs.declared.answers.Asked.TheVariants.{Skipped}
use Rattle.guest_core.proofs.ActLemmas.{acts-skipped, same-last}
use Rattle.guest_core.specs.GuestCalls.{processor_of}
use Rattle.guest_core.specs.GuestView.{open_count}
use Rattle.guest_core.specs.Wiring.{Posted}
use Rattle.guest_core.proofs.AskLemmas.{asks-skip, is-asker, told-sided, kept-skip, skips-added, goes-on-skipped, quiet-skip}
use Rattle.guest_core.proofs.OpenCounts.{calls-less, no-less}
use Rattle.guest_core.proofs.EnterProofs.{handed-same, of-these, one-row}
use Rattle.guest_core.proofs.HoldingLemmas.{frames-stay}
use Rattle.guest_core.proofs.KeptProofs.{as-many}
use Rattle.guest_core.proofs.RoomLemmas.{two-entries, less-room}
use Rattle.guest_core.proofs.UsingProofs.{uses-row}
use Rattle.guest_core.proofs.WiringProofs.{posted-same, quiet-one}
use Rattle.guest_core.proofs.parts.Parts.skip.Goals as goal

pub skip-requires-clause-asked : goal.skip-requires-clause-asked
skip-requires-clause-asked c =
    let old = c.args.self.now in
    let k = c.requires.kept in
    asks-skip (state_of old.course) (processor_of c.args.token.now) (wanting c.args.wish) c.args.by c.requires.asked (subst (λ (w : Surroundings). IsPlanned w (wanting c.args.wish)) (sym k.kept.around) c.requires.may_ask.planned)
    (c.dues_fit.ensures.run old.start old.journal.entries (state_of old.course) k.booted k.kept.run)

pub skip-requires-clause-caused : goal.skip-requires-clause-caused
skip-requires-clause-caused c =
    let s = state_of c.args.self.now.course in
    subst (λ (p : ℕ). IsCause s p (wanting c.args.wish) (cause_of c.args.cause)) (sym (is-asker s (processor_of c.args.token.now) (wanting c.args.wish) c.args.by c.requires.asked)) c.requires.caused

pub skip-requires-clause-page : goal.skip-requires-clause-page
skip-requires-clause-page c =
    let old = c.args.self.now in
    let k = c.requires.kept in
    λ on. subst (λ (n : ℕ). c.args.wish.page.0 < n) (sym (c.pages_stay.ensures.run old.start old.journal.entries (state_of old.course) k.booted k.kept.run on)) (c.requires.may_ask.is_page on)

pub returns-clause-kept : goal.returns-clause-kept
returns-clause-kept c =
    let old = c.args.self.now in
    let token : Token = c.args.token.now in
    let s = state_of old.course in
    let t = state_of c.skip.new.self in
    let k = c.requires.kept in
    let q : ProcId = processor_of token in
    let n = length s.skips in
    let entry : SkipEntry = record { wish = wanting c.args.wish; by = c.args.by; cause = cause_of c.args.cause } in
    let w = c.laws.ensures.rows in
    let first : Skips s (length old.course.skips.items) t = c.skip.ensures.skips in
    let row : Skips s n t = subst (λ (j : ℕ). Skips s j t) first.next first in
    let added : t.skips ≡ s.skips ++ entry ∷ [] = skips-added old.course c.skip.new.self _ c.skip.ensures.entry in
    let there : q.0 < length s.processors = subst (λ (j : ℕ). q.0 < j) (sym k.kept.processors) c.requires.may.notes.is_processor in
    let kept = kept-skip w c.laws.ensures.runs old.start s t old.journal.entries old.seat.notes q entry c.requires.asked k.kept there row added in
    let long : vec_len old.course.skips ≡ length old.course.skips.items = search rules in
    let journal = c.push.ensures.entries ∙ ap (λ (j : ℕ). old.journal.entries ++ Skip j ∷ []) (c.len-place.ensures ∙ long ∙ first.next) in
    let loads = as-many w s t (Skip n) row (λ r. refl) in
    let open-same : open_count t ≡ open_count s = ap (λ (m : PageMap). open_count (record s { pages = m.pages })) c.skip.ensures.pages in
    let room = two-entries _ _ _ c.requires.room in
    let around = w.around s t (Skip n) row in
    let exchanged = c.exchanges.ensures.skips s t n row in
    record {
      sound = c.skip.ensures.sound;
      seat = ap (λ (x : Seat). x.number) c.note_ask.ensures.seat ∙ k.seat;
      booted = k.booted;
      kept = of-these old.start t _ _ _ _ journal (ap (λ (x : Seat). x.notes) c.note_ask.ensures.seat ∙ ap (λ (l : List SidedNote). old.seat.notes ++ l) (told-sided s q (wanting c.args.wish) c.args.by c.requires.asked)) kept;
      goes_on = λ on. goes-on-skipped s t n row (k.goes_on (sym c.skip.ensures.ended ∙ on));
      frames = frames-stay s t _ exchanged around (ap (λ (x : GuestState). x.end) row.after) k.frames;
      used = uses-row w s t (Skip n) old.uses row (c.uses_change.ensures.skips s t n row) (λ r. refl) k.used;
      at_home = k.at_home;
      owed = omega (arith, loads, open-same, room, c.push.ensures.room);
      few_guests = k.few_guests;
      wired = k.wired;
      posted = subst (λ (j : List Event). Posted t j old.wiring.passes) (sym journal) (posted-same c.laws.ensures.takes s t old.journal.entries (Skip n ∷ []) old.wiring.passes k.posted (quiet-skip s t n row)
          (ap (λ (x : GuestState). x.devices.sent) row.after) (ap (λ (x : GuestState). x.sent_from) row.after) around (quiet-one s (Skip n) refl (λ x. tt)));
    }

pub returns-clause-skips : goal.returns-clause-skips
returns-clause-skips c =
    let old = c.args.self.now in
    let s = state_of old.course in
    let t = state_of c.skip.new.self in
    let n = length s.skips in
    let first : Skips s (length old.course.skips.items) t = c.skip.ensures.skips in
    let row : Skips s n t = subst (λ (j : ℕ). Skips s j t) first.next first in
    let long : vec_len old.course.skips ≡ length old.course.skips.items = search rules in
    record {
      makes = record {
        makes = record {
          journal = c.push.ensures.entries ∙ ap (λ (j : ℕ). old.journal.entries ++ Skip j ∷ []) (c.len-place.ensures ∙ long ∙ first.next);
          run = one-row s t (Skip n) row;
        };
        passes = refl;
      };
      noted = skips-added old.course c.skip.new.self _ c.skip.ensures.entry;
      view = refl;
    }

pub returns-clause-leaves : goal.returns-clause-leaves
returns-clause-leaves c =
    let old = c.args.self.now in
    let token : Token = c.args.token.now in
    let s = state_of old.course in
    let t = state_of c.skip.new.self in
    let loads = as-many c.laws.ensures.rows s t (Skip (length old.course.skips.items)) c.skip.ensures.skips (λ r. refl) in
    let open-same : open_count t ≡ open_count s = ap (λ (m : PageMap). open_count (record s { pages = m.pages })) c.skip.ensures.pages in
    let e = c.skip.ensures in
    record {
      learns = record {
        seat = ap (λ (x : Seat). x.notes) c.note_ask.ensures.seat;
        token_is = c.note_ask.ensures.token ∙ ap (λ (j : ℕ). record token { notes = token.notes ++ map (sided j) (told_by c.args.by (wanting c.args.wish) (Ok Skipped)) }) c.requires.kept.seat;
      };
      same = record { number = refl; start = refl; disk = refl; board = ap (λ (x : Seat). x.board) c.note_ask.ensures.seat; table = refl; wires = refl; own = refl };
      handed = handed-same old.course c.skip.new.self e.packets.hand;
      room = less-room _ _ _ _ _ _ (omega (arith, loads, open-same, c.push.ensures.room))
          (calls-less old.course c.skip.new.self (no-less _ _ e.print_room) (no-less _ _ e.send_room) (no-less _ _ (rw e.cells refl)) (no-less _ _ (rw e.packets.received refl)) (no-less _ _ (rw e.packets.discarded refl)) (no-less _ _ (ap (λ (m : PageMap). m.room) e.pages)) e.place_room);
    }

pub returns-clause-acts : goal.returns-clause-acts
returns-clause-acts c =
    let s = state_of c.args.self.now.course in
    let t = state_of c.skip.new.self in
    let row : Skips s (length c.args.self.now.course.skips.items) t = c.skip.ensures.skips in
    let added = skips-added c.args.self.now.course c.skip.new.self _ c.skip.ensures.entry in
    acts-skipped s t (length c.args.self.now.course.skips.items) c.args.token.now.number (wanting c.args.wish) row
    (ap (λ (e : SkipEntry). e.wish) (same-last s.skips row.entry (record { wish = wanting c.args.wish; by = c.args.by; cause = cause_of c.args.cause }) (sym (ap (λ (x : GuestState). x.skips) row.after) ∙ added)))
