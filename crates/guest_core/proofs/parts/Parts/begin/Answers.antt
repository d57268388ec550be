-- A move begins that the plan asks for, with the frame that was taken for it, or no frame was found.
use Rattle.std.proofs.Common.{◌≡◌, ◌<◌, ℕ, Some, None, List, [], ◌∷◌, ◌++◌, Ok, Err, length, map, refl, sym, ap, ◌∙◌, subst, arith}
use Rattle.std.proofs.lemmas.List.{append-nil}
use Rattle.base_words.specs.declared.events.Event.{Event}
use Rattle.base_words.specs.declared.events.Event.TheVariants.{Begin}
use Rattle.base_words.specs.declared.events.End.{End}
use Rattle.base_words.specs.declared.ids.ProcId.{ProcId}
use Rattle.base_words.specs.declared.moves.By.{By}
use Rattle.base_words.specs.declared.moves.MoveKind.{MoveKind}
use Rattle.private_machine.specs.Backing.{Change}
use Rattle.private_machine.specs.PageMove.{gained, kind_of}
use Rattle.pmap_table.specs.OpenMoves.{change_of}
use Rattle.shootdown.specs.Notes.{Seat, Token, sided}
use Rattle.shootdown.specs.declared.notes.Note.{Note}
use Rattle.shootdown.specs.declared.view.SidedNote.{SidedNote}
use Rattle.isolation_law.specs.CellUse.{held, used_frames}
use Rattle.isolation_law.specs.Causes.{first_cause}
use Rattle.isolation_law.specs.DuesFit.{DuesFit}
use Rattle.isolation_law.specs.Exchange.{Exchanged}
use Rattle.isolation_law.specs.GuestState.{GuestState}
use Rattle.isolation_law.specs.MoveRows.{Asks, Begins}
use Rattle.isolation_law.specs.Parts.{Wish}
use Rattle.isolation_law.specs.Surroundings.{Surroundings, home_cell}
use Rattle.isolation_law.specs.UseChange.{UseChanged}
use Rattle.guest_course.specs.CourseView.{state_of}
use Rattle.guest_course.specs.SkipView.{wanting}
use Rattle.node_frames.specs.declared.answers.FindFault.{FindFault}
use Rattle.guest_core.specs.Frames.{HasTakenFor, Refuses}
use Rattle.guest_core.specs.GuestCalls.{processor_of}
use Rattle.guest_core.specs.GuestView.{guest_of}
use Rattle.guest_core.specs.MoveCalls.{AsksBy, IsPlanned, NodeShows, told_by}
use Rattle.guest_core.specs.declared.answers.Asked.TheVariants.{Begun}
use Rattle.guest_core.specs.Wiring.{Posted}
use Rattle.guest_core.proofs.ActLemmas.{acts-begun}
use Rattle.guest_core.proofs.AskLemmas.{asks-begin, told-begun, told-failed, told-sided, kept-begin, quiet-begin, frame-asks}
use Rattle.guest_core.proofs.GainLemmas.{held-now, used-now, holding-now, uses-now, same-change}
use Rattle.guest_core.proofs.OpenCounts.{calls-less, no-less, open-more}
use Rattle.guest_core.proofs.EnterProofs.{handed-same, of-these, one-row}
use Rattle.guest_core.proofs.KeptProofs.{as-many}
use Rattle.guest_core.proofs.RoomLemmas.{two-entries, less-room}
use Rattle.guest_core.proofs.WiringProofs.{posted-same, quiet-one}
use Rattle.guest_core.proofs.parts.Parts.begin.Goals as goal
use Rattle.guest_core.proofs.parts.Parts.begin.Goals.{After-note_ask}

pub change_for-taken-requires-clause-spread : goal.change_for-taken-requires-clause-spread
change_for-taken-requires-clause-spread c = c.frames_spread.ensures c.args.self.now.start c.args.self.now.journal.entries _ c.requires.kept.booted c.requires.kept.kept.run

-- as the move may begin, whoever asked for it
asked : (s : GuestState) (p : ProcId) (wish : Wish) (by : By) (w : Surroundings) (kind : MoveKind) → s.around ≡ w → kind ≡ wish.kind → AsksBy s p wish by → IsPlanned w wish → DuesFit s → first_cause s p.0 wish ≡ None
    → Asks s by (record { page = wish.page; kind = kind; node = wish.node }) None
asked s p wish by w kind around same is planned fit none =
    subst (λ (k : MoveKind). Asks s by (record { page = wish.page; kind = k; node = wish.node }) None) (sym same) (asks-begin s p wish by is (subst (λ (x : Surroundings). IsPlanned x wish) (sym around) planned) fit none)

pub begin-requires-clause-asked : goal.begin-requires-clause-asked
begin-requires-clause-asked c =
    let old = c.args.self.now in
    let k = c.requires.kept in (
      c.args.by,
      asked (state_of old.course) (processor_of c.args.token.now) (wanting c.args.wish) c.args.by old.start.around (kind_of (change_of c.in-Ok.change)) k.kept.around c.in-Ok.ensures.taken.is_kind c.requires.asked c.requires.may_ask.planned
          (c.dues_fit.ensures.run old.start old.journal.entries (state_of old.course) k.booted k.kept.run) c.requires.no_cause,
    )

pub returns-in-Err-NoFrame-clause-asks : goal.returns-in-Err-NoFrame-clause-asks
returns-in-Err-NoFrame-clause-asks c =
    let old = c.args.self.now in
    let s = state_of old.course in
    let lends = c.args.resources.now.table.now.terms.lends in
    let view = c.change_for-taken.new.holder.view in
    let shown = c.in-Err-NoFrame.shown in
    let shows : NodeShows s.around lends (home_cell s.around) c.args.wish.node.0 shown old.holder.view view =
    subst (λ (f : FindFault). Refuses s lends (home_cell s.around) (c.args.wish.node ∷ []) f old.holder.view view) c.in-Err-NoFrame.field-0-is c.in-Err-NoFrame.ensures.refused in
    record {
      by = c.args.by;
      asker = c.requires.asked;
      asks = frame-asks lends (home_cell old.start.around) (guest_of old) (guest_of c.skip.new.self) c.change_for-taken.new.holder.table view (processor_of c.args.token.now) c.args.by (wanting c.args.wish) shown c.skip.result c.skip.ensures.answer
          (subst (λ (x : Surroundings). NodeShows s.around lends (home_cell x) c.args.wish.node.0 shown old.holder.view view) c.requires.kept.kept.around shows) c.skip.ensures.skips;
      leaves = record {
        learns = record { seat = c.skip.ensures.leaves.learns.seat; token_is = c.skip.ensures.leaves.learns.token_is };
        same = record {
          number = c.skip.ensures.leaves.same.number;
          start = c.skip.ensures.leaves.same.start;
          disk = c.skip.ensures.leaves.same.disk;
          board = c.skip.ensures.leaves.same.board;
          table = c.skip.ensures.leaves.same.table ∙ c.change_for-taken.ensures.same;
          wires = c.skip.ensures.leaves.same.wires;
          own = c.skip.ensures.leaves.same.own;
        };
        handed = c.skip.ensures.leaves.handed;
        room = c.skip.ensures.leaves.room;
      };
      acts = c.skip.ensures.acts;
    }

pub returns-in-Err-Memory-clause-asks : goal.returns-in-Err-Memory-clause-asks
returns-in-Err-Memory-clause-asks c =
    let old = c.args.self.now in
    let token : Token = c.args.token.now in
    let s = state_of old.course in
    let by = c.args.by in
    let wish = wanting c.args.wish in
    let none : told_by by wish (Err (record {})) ≡ [] = told-failed by wish (record {}) in
    record {
      by = by;
      asker = c.requires.asked;
      asks = record {
        no_cause = c.requires.no_cause;
        no_move = c.requires.rests;
        seeks = c.in-Err-Memory.ensures.seeks;
        rests = record {
          stays = record {
            journal = refl;
            state = refl;
            view = subst (λ (f : FindFault). Refuses s c.args.resources.now.table.now.terms.lends (home_cell s.around) (c.args.wish.node ∷ []) f old.holder.view c.change_for-taken.new.holder.view) c.in-Err-Memory.field-0-is c.in-Err-Memory.ensures.refused;
          };
          passes = refl;
        };
      };
      leaves = record {
        learns = record {
          seat = sym (append-nil old.seat.notes) ∙ ap (λ (l : List Note). old.seat.notes ++ map (sided token.number) l) (sym none);
          token_is = ap (λ (l : List SidedNote). record token { notes = l }) (sym (append-nil token.notes) ∙ ap (λ (l : List Note). token.notes ++ map (sided old.number.0) l) (sym none));
        };
        same = record { number = refl; start = refl; disk = refl; board = refl; table = c.change_for-taken.ensures.same; wires = refl; own = refl };
        handed = refl;
        room = omega arith;
      };
      acts = λ is. tt;
    }

-- ---- the begin

begun-row : (c : After-note_ask) → Begins (state_of c.args.self.now.course) c.args.wish.page.0 c.args.wish.kind c.args.wish.node.0 c.args.by (state_of c.begin.new.self)
begun-row c = subst (λ (kind : MoveKind). Begins (state_of c.args.self.now.course) c.args.wish.page.0 kind c.args.wish.node.0 c.args.by (state_of c.begin.new.self)) c.in-Ok.ensures.taken.is_kind
    (c.begin.ensures.begins c.args.by
    (asked (state_of c.args.self.now.course) (processor_of c.args.token.now) (wanting c.args.wish) c.args.by c.args.self.now.start.around (kind_of (change_of c.in-Ok.change)) c.requires.kept.kept.around c.in-Ok.ensures.taken.is_kind c.requires.asked
    c.requires.may_ask.planned (c.dues_fit.ensures.run c.args.self.now.start c.args.self.now.journal.entries (state_of c.args.self.now.course) c.requires.kept.booted c.requires.kept.kept.run) c.requires.no_cause))

pub returns-clause-kept : goal.returns-clause-kept
returns-clause-kept c =
    let old = c.args.self.now in
    let token : Token = c.args.token.now in
    let s = state_of old.course in
    let t = state_of c.begin.new.self in
    let k = c.requires.kept in
    let q : ProcId = processor_of token in
    let wish = c.args.wish in
    let by = c.args.by in
    let change : Change = change_of c.in-Ok.change in
    let took : HasTakenFor s (wanting wish) change c.change_for-taken.new.holder.view c.change_for-taken.new.uses = c.in-Ok.ensures.taken in
    let e = c.begin.ensures in
    let w = c.laws.ensures.rows in
    let row : Begins s wish.page.0 wish.kind wish.node.0 by t = begun-row c in
    let entry : Event = Begin wish.page wish.kind wish.node by in
    let there : q.0 < length s.processors = subst (λ (j : ℕ). q.0 < j) (sym k.kept.processors) c.requires.may.notes.is_processor in
    let kept = kept-begin w c.laws.ensures.runs old.start s t old.journal.entries old.seat.notes q wish.page wish.kind wish.node by c.requires.asked k.kept there row in
    let changes : row.change ≡ change = same-change s t wish.page.0 wish.kind wish.node.0 by change row e.opened in
    let exchanged : Exchanged s t (gained change) [] = subst (λ (x : Change). Exchanged s t (gained x) []) changes (c.exchanges.ensures.begins s t wish.page.0 wish.kind wish.node.0 by row) in
    let used : UseChanged s t (gained change) [] = subst (λ (x : Change). UseChanged s t (gained x) []) changes (c.uses_change.ensures.begins s t wish.page.0 wish.kind wish.node.0 by row) in
    let around = w.around s t entry row in
    let loads = as-many w s t entry row (λ r. refl) in
    let opens = open-more s t wish.page.0 wish.kind wish.node.0 by row in
    let room = two-entries _ _ _ c.requires.room in
    let journal = c.push.ensures.entries in
    record {
      sound = e.sound;
      seat = ap (λ (x : Seat). x.number) c.note_ask.ensures.seat ∙ k.seat;
      booted = k.booted;
      kept = of-these old.start t _ _ _ _ journal (ap (λ (x : Seat). x.notes) c.note_ask.ensures.seat ∙ ap (λ (l : List SidedNote). old.seat.notes ++ l) (told-sided s q (wanting wish) by c.requires.asked)) kept;
      goes_on = λ on. e.goes_on;
      frames = record {
        holding = holding-now s.around t (gained change ++ held s) _ (held-now s t (gained change) exchanged) around took.held_too;
        given_back = λ end is. absurd (still end (sym e.goes_on.not_ended ∙ is));
      };
      used = uses-now s t (gained change ++ used_frames s) _ (used-now s t (gained change) used) around (ap (λ (x : GuestState). x.processors) row.after) took.counted_too;
      at_home = k.at_home;
      owed = omega (arith, loads, opens, room, c.push.ensures.room);
      few_guests = k.few_guests;
      wired = k.wired;
      posted = subst (λ (j : List Event). Posted t j old.wiring.passes) (sym journal) (posted-same c.laws.ensures.takes s t old.journal.entries (entry ∷ []) old.wiring.passes k.posted (quiet-begin s t wish.page.0 wish.kind wish.node.0 by row)
          (ap (λ (x : GuestState). x.devices.sent) row.after) (ap (λ (x : GuestState). x.sent_from) row.after) around (quiet-one s entry refl (λ x. tt)));
    }
  where
    still : (end : End) → None ≡ Some end → ⊥
    still end is = cc

pub returns-clause-asks : goal.returns-clause-asks
returns-clause-asks c =
    let old = c.args.self.now in
    let token : Token = c.args.token.now in
    let s = state_of old.course in
    let t = state_of c.begin.new.self in
    let wish = c.args.wish in
    let by = c.args.by in
    let e = c.begin.ensures in
    let row : Begins s wish.page.0 wish.kind wish.node.0 by t = begun-row c in
    let loads = as-many c.laws.ensures.rows s t (Begin wish.page wish.kind wish.node by) row (λ r. refl) in
    let opens = open-more s t wish.page.0 wish.kind wish.node.0 by row in
    let told = sym (told-begun by (wanting wish)) in
    record {
      by = by;
      asker = c.requires.asked;
      asks = record { makes = record { journal = c.push.ensures.entries; run = one-row s t (Begin wish.page wish.kind wish.node by) row }; passes = refl };
      leaves = record {
        learns = record {
          seat = ap (λ (x : Seat). x.notes) c.note_ask.ensures.seat ∙ ap (λ (l : List Note). old.seat.notes ++ map (sided token.number) l) told;
          token_is = c.note_ask.ensures.token ∙ ap (λ (l : List Note). record token { notes = token.notes ++ map (sided old.seat.number) l }) told ∙ ap (λ (j : ℕ). record token { notes = token.notes ++ map (sided j) (told_by by (wanting wish) (Ok Begun)) }) c.requires.kept.seat;
        };
        same = record { number = refl; start = refl; disk = refl; board = ap (λ (x : Seat). x.board) c.note_ask.ensures.seat; table = c.change_for-taken.ensures.same; wires = refl; own = refl };
        handed = handed-same old.course c.begin.new.self e.packets.hand;
        room = less-room _ _ _ _ _ _ (omega (arith, loads, opens, c.push.ensures.room))
            (calls-less old.course c.begin.new.self (no-less _ _ e.print_room) (no-less _ _ e.send_room) (no-less _ _ (rw e.cells refl)) (no-less _ _ (rw e.packets.received refl)) (no-less _ _ (rw e.packets.discarded refl)) (omega (arith, e.room)) (no-less _ _ (rw e.skips refl)));
      };
      acts = acts-begun s t wish.kind wish.node.0 by token.number (wanting wish) row;
    }
