-- The read is its row, and the guest is kept: the frames that its page dropped are given back and counted no more.
use Rattle.std.proofs.Common.{◌≡◌, inr, ℕ, false, ◌<◌, ◌++◌, [], ◌∷◌, List, Some, None, length, refl, sym, ap, ◌∙◌, subst, arith}
use Rattle.base_words.specs.declared.events.Event.{Event}
use Rattle.base_words.specs.declared.events.Event.TheVariants.{Emulate}
use Rattle.base_words.specs.declared.ids.ProcId.{ProcId}
use Rattle.shootdown.specs.declared.notes.Note.TheVariants.{Made}
use Rattle.shootdown.specs.Notes.{Seat, Token, sided}
use Rattle.private_machine.specs.DeviceAct.{ReadsDisk}
use Rattle.private_machine.specs.PageMove.{dropped_taken, untied_taken}
use Rattle.isolation_law.specs.Exchange.{Exchanged}
use Rattle.isolation_law.specs.GuestState.{GuestState, page}
use Rattle.isolation_law.specs.StepRows.{EndsRead}
use Rattle.isolation_law.specs.Surroundings.{Surroundings}
use Rattle.isolation_law.specs.UseChange.{UseChanged}
use Rattle.guest_course.specs.Acting.{page_used, IsOwnRead}
use Rattle.guest_course.specs.CourseView.{state_of}
use Rattle.guest_core.specs.GuestCalls.{processor_of}
use Rattle.guest_core.specs.GuestView.{guest_of}
use Rattle.guest_core.specs.Holding.{FitsAround}
use Rattle.guest_core.specs.Wiring.{Posted}
use Rattle.guest_core.proofs.EnterProofs.{handed-same, kept-step, of-these, one-row, stepped-on}
use Rattle.guest_core.proofs.GivingLemmas.{reads-or-sends}
use Rattle.guest_core.proofs.KeptProofs.{read-due}
use Rattle.guest_core.proofs.LettingLemmas.{quiet-step}
use Rattle.guest_core.proofs.MoveLemmas.{counts-dropped, holds-dropped}
use Rattle.guest_core.proofs.RoomLemmas.{UsesCall, no-more, room-used, two-entries}
use Rattle.guest_core.proofs.UntiedLemmas.{taken-page, taken-within, to-count}
use Rattle.guest_core.proofs.WiringProofs.{posted-same, posts-none, same-ends, takes-none}
use Rattle.guest_core.proofs.parts.Parts.end_read.Goals as goal

-- the page of the read
same-page : (b c q r : ℕ) → ReadsDisk b q ≡ ReadsDisk c r → q ≡ r
same-page b c q r e = cc

same-some : (q r : ℕ) → Some q ≡ Some r → q ≡ r
same-some q r e = cc

none-some : {A : Type 0} (a : A) → None ≡ Some a → ⊥
none-some a e = cc

pub give_back-requires-clause-fits : goal.give_back-requires-clause-fits
give_back-requires-clause-fits c = subst (λ (x : Surroundings). FitsAround c.args.resources.now.table.now x) (sym ((c.laws.ensures.rows.around (state_of c.args.self.now.course) (state_of c.end_read-freed.new.self) (Emulate (processor_of c.args.token.now) c.args.vcpu) (inr (c.end_read-freed.ensures.ends c.args.token.now.number c.requires.left.traps))) ∙ c.requires.kept.kept.around)) c.requires.shared.table.fits

pub give_back-requires-clause-at_home : goal.give_back-requires-clause-at_home
give_back-requires-clause-at_home c = subst (λ (x : Surroundings). x.home < length x.nodes) (sym ((c.laws.ensures.rows.around (state_of c.args.self.now.course) (state_of c.end_read-freed.new.self) (Emulate (processor_of c.args.token.now) c.args.vcpu) (inr (c.end_read-freed.ensures.ends c.args.token.now.number c.requires.left.traps))) ∙ c.requires.kept.kept.around)) c.requires.kept.at_home

pub give_back-requires-clause-freed : goal.give_back-requires-clause-freed
give_back-requires-clause-freed c =
    let old = c.args.self.now in
    let s = state_of old.course in
    let t = state_of c.end_read-freed.new.self in
    let k = c.requires.kept in
    let p = processor_of c.args.token.now in
    let v = c.args.vcpu in
    let w = c.laws.ensures.rows in
    let row : EndsRead s p.0 v.0 t = c.end_read-freed.ensures.ends p.0 c.requires.left.traps in
    let same : row.q ≡ c.args.page.0 = same-page row.b c.requires.own.block_read row.q c.args.page.0 (sym row.reads ∙ c.requires.own.reads) in
    let gone = dropped_taken (page s c.args.page.0) in
    let ex : Exchanged s t [] gone = subst (λ (q : ℕ). Exchanged s t [] (dropped_taken (page s q))) same (c.exchanges.ensures.ends_read s t p.0 v.0 row) in
    record {
      copies = gone;
      numbers = c.end_read-freed.ensures.freed;
      held_too = holds-dropped s t gone old.holder.view ex (c.laws.ensures.rows.around (state_of c.args.self.now.course) (state_of c.end_read-freed.new.self) (Emulate (processor_of c.args.token.now) c.args.vcpu) (inr (c.end_read-freed.ensures.ends c.args.token.now.number c.requires.left.traps))) k.frames.holding;
    }

pub untied_by_taking-untied-requires : goal.untied_by_taking-untied-requires
untied_by_taking-untied-requires c = taken-page (state_of c.args.self.now.course) c.args.page.0 c.requires.own.taken

pub count_untied-requires : goal.count_untied-requires
count_untied-requires c =
    let old = c.args.self.now in
    let s = state_of old.course in
    let t = state_of c.end_read-freed.new.self in
    let k = c.requires.kept in
    let p = processor_of c.args.token.now in
    let v = c.args.vcpu in
    let w = c.laws.ensures.rows in
    let row : EndsRead s p.0 v.0 t = c.end_read-freed.ensures.ends p.0 c.requires.left.traps in
    let same : row.q ≡ c.args.page.0 = same-page row.b c.requires.own.block_read row.q c.args.page.0 (sym row.reads ∙ c.requires.own.reads) in
    let around = w.around s t (Emulate p v) (inr row) in
    let gone = untied_taken (page s c.args.page.0) in
    let used : UseChanged s t [] gone = subst (λ (q : ℕ). UseChanged s t [] (untied_taken (page s q))) same (c.uses_change.ensures.ends_read s t p.0 v.0 row) in
    to-count s t c.untied_by_taking-untied.result gone old.uses around c.untied_by_taking-untied.ensures (taken-within s c.args.page.0 old.holder.view (taken-page s c.args.page.0 c.requires.own.taken) k.frames.holding)
    (counts-dropped s t gone old.uses used around (w.processors s t (Emulate p v) (inr row)) (λ r. w.loaded s t (Emulate p v) r (inr row)) k.used)

pub returns-clause-kept : goal.returns-clause-kept
returns-clause-kept c =
    let old = c.args.self.now in
    let d = c.end_read-freed.new.self in
    let s = state_of old.course in
    let t = state_of d in
    let k = c.requires.kept in
    let q = processor_of c.args.token.now in
    let v = c.args.vcpu in
    let e = c.end_read-freed.ensures in
    let w = c.laws.ensures.rows in
    let row : EndsRead s q.0 v.0 t = e.ends q.0 c.requires.left.traps in
    let same : c.number-processor.result ≡ q = ap (λ (n : ℕ). record { 0 = n }) c.number-processor.ensures in
    let there : q.0 < length s.processors = subst (λ (n : ℕ). q.0 < n) (sym k.kept.processors) c.requires.may.notes.is_processor in
    let kept = kept-step w c.laws.ensures.runs old.start s t old.journal.entries old.seat.notes q v k.kept there (inr row) in
    let journal = c.push.ensures.entries ∙ ap (λ (p : ProcId). old.journal.entries ++ Emulate p v ∷ []) same in
    let room = two-entries _ _ _ c.requires.room in
    record {
      sound = e.sound;
      seat = ap (λ (x : Seat). x.number) c.note.ensures.seat ∙ k.seat;
      booted = k.booted;
      kept = of-these old.start t _ _ _ _ journal (ap (λ (x : Seat). x.notes) c.note.ensures.seat ∙ ap (λ (p : ProcId). old.seat.notes ++ sided q.0 (Made (Emulate p v)) ∷ []) same) kept;
      goes_on = λ is. e.goes_on;
      frames = record { holding = c.give_back.ensures.holding; given_back = λ end is. absurd (none-some end (sym e.goes_on.not_ended ∙ is)) };
      used = c.count_untied.ensures;
      at_home = k.at_home;
      owed = omega (arith, read-due w c.laws.ensures.moves s t q v row, room, c.push.ensures.room);
      few_guests = k.few_guests;
      wired = k.wired;
      posted = subst (λ (j : List Event). Posted t j old.wiring.passes) (sym journal) (posted-same c.laws.ensures.takes s t old.journal.entries (Emulate q v ∷ []) old.wiring.passes k.posted (takes-none old.course d e.packets)
          e.packets.sent (ap (λ (x : GuestState). x.sent_from) row.after) (w.around s t (Emulate q v) (inr row)) (quiet-step s q v false []));
    }

pub returns-clause-turns : goal.returns-clause-turns
returns-clause-turns c =
    let old = c.args.self.now in
    let d = c.end_read-freed.new.self in
    let s = state_of old.course in
    let t = state_of d in
    let q = processor_of c.args.token.now in
    let v = c.args.vcpu in
    let e = c.end_read-freed.ensures in
    let own = c.requires.own in
    let row : EndsRead s q.0 v.0 t = e.ends q.0 c.requires.left.traps in
    let same : c.number-processor.result ≡ q = ap (λ (n : ℕ). record { 0 = n }) c.number-processor.ensures in
    let posts = posts-none s t (takes-none old.course d e.packets) e.packets.sent (ap (λ (x : GuestState). x.sent_from) row.after) (c.laws.ensures.rows.around s t (Emulate q v) (inr row)) in
    stepped-on _ (guest_of old) _ q v c.requires.rest
    (record {
      free = λ r at. inr (subst (IsOwnRead s v.0) (same-some c.args.page.0 r (sym (ap page_used own.reads) ∙ at)) own);
      copies = λ b r at rests. absurd (none-some _ (sym rests ∙ ap (λ (x : ℕ). (page s x).move) (same-page b own.block_read r c.args.page.0 (sym at ∙ own.reads)) ∙ own.taken.open_move));
      plain = λ r length to need at is. absurd (reads-or-sends own.block_read c.args.page.0 r length to (sym own.reads ∙ at));
    })
    (inr row) e.goes_on
    (record { journal = c.push.ensures.entries ∙ ap (λ (p : ProcId). old.journal.entries ++ Emulate p v ∷ []) same; run = one-row s t (Emulate q v) (inr row) })
    (record { out = None; whole = tt; sends = posts.sends; sent = same-ends old.wiring.passes })

pub returns-clause-leaves : goal.returns-clause-leaves
returns-clause-leaves c =
    let old = c.args.self.now in
    let token : Token = c.args.token.now in
    let d = c.end_read-freed.new.self in
    let s = state_of old.course in
    let t = state_of d in
    let k = c.requires.kept in
    let q = processor_of token in
    let v = c.args.vcpu in
    let e = c.end_read-freed.ensures in
    let row : EndsRead s q.0 v.0 t = e.ends q.0 c.requires.left.traps in
    let same : c.number-processor.result ≡ q = ap (λ (n : ℕ). record { 0 = n }) c.number-processor.ensures in
    let uses : UsesCall old.course d = record {
      print_room = omega (arith, e.print_room);
      send_room = e.send_room;
      cells = e.cell_room;
      received = no-more _ _ e.packets.received;
      discarded = no-more _ _ e.packets.discarded;
      begins = omega (arith, e.room);
      skips = no-more _ _ e.skips;
    } in
    record {
      learns = record {
        seat = ap (λ (x : Seat). x.notes) c.note.ensures.seat ∙ ap (λ (p : ProcId). old.seat.notes ++ sided token.number (Made (Emulate p v)) ∷ []) same;
        token_is = c.note.ensures.token ∙ ap (λ (p : ProcId). record token { notes = token.notes ++ sided old.seat.number (Made (Emulate p v)) ∷ [] }) same ∙ ap (λ (n : ℕ). record token { notes = token.notes ++ sided n (Made (Emulate (processor_of token) v)) ∷ [] }) k.seat;
      };
      same = record { number = refl; start = refl; disk = refl; board = ap (λ (x : Seat). x.board) c.note.ensures.seat; table = c.give_back.ensures.same; wires = refl; own = refl };
      handed = handed-same old.course d e.packets.hand;
      room = room-used _ _ old.course d uses (omega (arith, read-due c.laws.ensures.rows c.laws.ensures.moves s t q v row, c.push.ensures.room));
    }
