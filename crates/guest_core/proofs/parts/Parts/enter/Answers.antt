-- A step that the processor made by itself is its row, and the guest is kept; a trap has changed nothing.
use Rattle.std.proofs.Common.{◌≡◌, ℕ, ◌<◌, ◌++◌, [], ◌∷◌, List, length, refl, sym, ap, ◌∙◌, subst, arith}
use Rattle.base_words.specs.declared.events.Event.{Event}
use Rattle.base_words.specs.declared.events.Event.TheVariants.{Direct}
use Rattle.base_words.specs.declared.ids.ProcId.{ProcId}
use Rattle.shootdown.specs.declared.notes.Note.TheVariants.{Made}
use Rattle.shootdown.specs.Notes.{Seat, Token, sided}
use Rattle.isolation_law.specs.Phases.{GoesOn}
use Rattle.guest_course.specs.CourseView.{state_of}
use Rattle.guest_course.specs.StepCalls.{StepsDirect}
use Rattle.guest_core.specs.GuestCalls.{processor_of}
use Rattle.guest_core.specs.Wiring.{Posted}
use Rattle.guest_core.proofs.HoldingLemmas.{frames-stay}
use Rattle.guest_core.proofs.KeptProofs.{direct-due}
use Rattle.guest_core.proofs.EnterProofs.{handed-same, kept-direct, of-these, one-row}
use Rattle.guest_core.proofs.RoomLemmas.{two-entries, KeepsCalls, as-used, room-used}
use Rattle.guest_core.proofs.UsingProofs.{uses-row}
use Rattle.guest_core.proofs.WiringProofs.{posted-same, quiet-one}
use Rattle.guest_core.proofs.parts.Parts.enter.Goals as goal

pub returns-in-Direct-clause-kept : goal.returns-in-Direct-clause-kept
returns-in-Direct-clause-kept g c =
    let old = c.args.self.now in
    let token : Token = c.args.token.now in
    let s = state_of old.course in
    let m = state_of c.step.new.self in
    let k = c.requires.kept in
    let q : ProcId = processor_of token in
    let v = c.args.vcpu in
    let same : c.number-processor.result ≡ q = ap (λ (n : ℕ). record { 0 = n }) c.number-processor.ensures in
    let w = c.laws.ensures.rows in
    let there : q.0 < length s.processors = subst (λ (n : ℕ). q.0 < n) (sym k.kept.processors) c.requires.may.notes.is_processor in
    let did : StepsDirect s q.0 v.0 m c.in-Direct.access = subst (λ (n : ℕ). StepsDirect s n v.0 m c.in-Direct.access) c.number-processor.ensures c.in-Direct.ensures.executes in
    let on : GoesOn m = c.step.ensures.goes_on in
    let kept = kept-direct w c.laws.ensures.runs old.start s m old.journal.entries old.seat.notes q v k.kept there did.row in
    let due = direct-due w c.laws.ensures.moves s m q v did.row in
    let room = two-entries _ _ _ c.requires.room in
    let around = w.around s m (Direct q v) did.row in
    let journal = c.push_direct.ensures.entries ∙ ap (λ (p : ProcId). old.journal.entries ++ Direct p v ∷ []) same in
    let x = c.laws.ensures.takes in
    let packets = c.step.ensures.packets in
    record {
      sound = c.step.ensures.sound;
      seat = ap (λ (x : Seat). x.number) c.note.ensures.seat ∙ k.seat;
      booted = k.booted;
      kept = of-these old.start m _ _ _ _ journal (ap (λ (x : Seat). x.notes) c.note.ensures.seat ∙ ap (λ (p : ProcId). old.seat.notes ++ sided q.0 (Made (Direct p v)) ∷ []) same) kept;
      goes_on = λ e. on;
      frames = frames-stay s m _ (c.exchanges.ensures.steps s m q.0 v.0 did.row) around (on.not_ended ∙ sym did.row.goes_on.not_ended) k.frames;
      used = uses-row w s m (Direct q v) old.uses did.row (c.uses_change.ensures.steps s m q.0 v.0 did.row) (λ r. refl) k.used;
      at_home = k.at_home;
      owed = omega (arith, due, room, c.push_direct.ensures.room);
      few_guests = k.few_guests;
      wired = k.wired;
      posted = subst (λ (j : List Event). Posted m j old.wiring.passes) (sym journal)
          (posted-same x s m old.journal.entries (Direct q v ∷ []) old.wiring.passes k.posted
          (record { received = rw packets.received refl; discarded = rw packets.discarded refl; hand = rw packets.hand refl })
          packets.sent (rw c.step.ensures.cells refl) around (quiet-one s (Direct q v) refl (λ x. tt)));
    }

pub returns-in-Direct-clause-leaves : goal.returns-in-Direct-clause-leaves
returns-in-Direct-clause-leaves g c =
    let old = c.args.self.now in
    let token : Token = c.args.token.now in
    let s = state_of old.course in
    let m = state_of c.step.new.self in
    let q : ProcId = processor_of token in
    let v = c.args.vcpu in
    let same : c.number-processor.result ≡ q = ap (λ (n : ℕ). record { 0 = n }) c.number-processor.ensures in
    let did : StepsDirect s q.0 v.0 m c.in-Direct.access = subst (λ (n : ℕ). StepsDirect s n v.0 m c.in-Direct.access) c.number-processor.ensures c.in-Direct.ensures.executes in
    let due = direct-due c.laws.ensures.rows c.laws.ensures.moves s m q v did.row in
    let done = c.step.ensures in
    let keeps : KeepsCalls old.course c.step.new.self = record { print_room = done.print_room; send_room = done.send_room; cells = done.cells; received = done.packets.received; discarded = done.packets.discarded; begins = omega (arith, done.room); skips = done.skips } in
    record {
      learns = record {
        seat = ap (λ (x : Seat). x.notes) c.note.ensures.seat ∙ ap (λ (p : ProcId). old.seat.notes ++ sided token.number (Made (Direct p v)) ∷ []) same;
        token_is = c.note.ensures.token ∙ ap (λ (p : ProcId). record token { notes = token.notes ++ sided old.seat.number (Made (Direct p v)) ∷ [] }) same ∙ ap (λ (n : ℕ). record token { notes = token.notes ++ sided n (Made (Direct (processor_of token) v)) ∷ [] }) c.requires.kept.seat;
      };
      same = record { number = refl; start = refl; disk = refl; board = ap (λ (x : Seat). x.board) c.note.ensures.seat; table = refl; wires = refl; own = refl };
      handed = handed-same old.course c.step.new.self done.packets.hand;
      room = room-used _ _ old.course c.step.new.self (as-used old.course c.step.new.self keeps) (omega (arith, due, c.push_direct.ensures.room));
    }

pub returns-in-Direct-clause-turns : goal.returns-in-Direct-clause-turns
returns-in-Direct-clause-turns g c =
    let old = c.args.self.now in
    let token : Token = c.args.token.now in
    let s = state_of old.course in
    let m = state_of c.step.new.self in
    let q : ProcId = processor_of token in
    let v = c.args.vcpu in
    let same : c.number-processor.result ≡ q = ap (λ (n : ℕ). record { 0 = n }) c.number-processor.ensures in
    let did : StepsDirect s q.0 v.0 m c.in-Direct.access = subst (λ (n : ℕ). StepsDirect s n v.0 m c.in-Direct.access) c.number-processor.ensures c.in-Direct.ensures.executes in
    record { rest = c.requires.rest; makes = record { makes = record { journal = c.push_direct.ensures.entries ∙ ap (λ (p : ProcId). old.journal.entries ++ Direct p v ∷ []) same; run = one-row s m (Direct q v) did.row }; passes = refl }; direct = did }
