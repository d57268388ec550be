-- The end of a move is its row, and the guest is kept: the frames that it dropped are given back and counted no more.
use Rattle.std.proofs.Common.{◌≡◌, inl, ◌<◌, Some, None, length, refl, sym, ap, ◌∙◌, subst, arith}
use Rattle.base_words.specs.declared.events.End.{End}
use Rattle.base_words.specs.declared.events.Event.{Event}
use Rattle.base_words.specs.declared.events.Event.TheVariants.{Finish}
use Rattle.private_machine.specs.PageMove.{dropped, untied}
use Rattle.isolation_law.specs.GuestState.{GuestState, page}
use Rattle.isolation_law.specs.Surroundings.{Surroundings}
use Rattle.guest_course.specs.CourseView.{state_of}
use Rattle.guest_core.specs.Holding.{FitsAround}
use Rattle.guest_core.proofs.ActLemmas.{acts-finished}
use Rattle.guest_core.proofs.EnterProofs.{one-row}
use Rattle.guest_core.proofs.KeptProofs.{kept-none, finish-due}
use Rattle.guest_core.proofs.MoveLemmas.{holds-dropped, counts-dropped, kept-made, posted-finish}
use Rattle.guest_core.proofs.RoomLemmas.{KeepsCalls, room-kept}
use Rattle.guest_core.proofs.UntiedLemmas.{to-count, untied-within}
use Rattle.guest_core.proofs.parts.Parts.finish.Goals as goal

pub give_back-requires-clause-fits : goal.give_back-requires-clause-fits
give_back-requires-clause-fits c =
    let around = c.laws.ensures.rows.around (state_of c.args.self.now.course) (state_of c.finish_move-freed.new.self) (Finish c.args.page) (inl c.finish_move-freed.ensures.finishes) ∙ c.requires.kept.kept.around in
    subst (λ (x : Surroundings). FitsAround c.args.resources.now.table.now x) (sym around) c.requires.shared.table.fits

pub give_back-requires-clause-at_home : goal.give_back-requires-clause-at_home
give_back-requires-clause-at_home c =
    let around = c.laws.ensures.rows.around (state_of c.args.self.now.course) (state_of c.finish_move-freed.new.self) (Finish c.args.page) (inl c.finish_move-freed.ensures.finishes) ∙ c.requires.kept.kept.around in
    subst (λ (x : Surroundings). x.home < length x.nodes) (sym around) c.requires.kept.at_home

pub give_back-requires-clause-freed : goal.give_back-requires-clause-freed
give_back-requires-clause-freed c =
    let old = c.args.self.now in
    let s = state_of old.course in
    let t = state_of c.finish_move-freed.new.self in
    let k = c.requires.kept in
    let q = c.args.page in
    let w = c.laws.ensures.rows in
    let row = c.finish_move-freed.ensures.finishes in
    let around = w.around s t (Finish q) (inl row) in
    record {
      copies = dropped (page s q.0) row.move.change;
      numbers = c.finish_move-freed.ensures.freed row.move row.open_move;
      held_too = holds-dropped s t _ old.holder.view (c.exchanges.ensures.finishes s t q.0 row) around k.frames.holding;
    }

pub count_untied-requires : goal.count_untied-requires
count_untied-requires c =
    let old = c.args.self.now in
    let s = state_of old.course in
    let t = state_of c.finish_move-freed.new.self in
    let k = c.requires.kept in
    let q = c.args.page in
    let w = c.laws.ensures.rows in
    let row = c.finish_move-freed.ensures.finishes in
    let around = w.around s t (Finish q) (inl row) in
    to-count s t c.untied-untied.result (untied (page s q.0) row.move.change) old.uses around (c.untied-untied.ensures row.move row.open_move) (untied-within s q.0 row.move old.holder.view c.requires.page row.open_move k.frames.holding)
    (counts-dropped s t _ old.uses (c.uses_change.ensures.finishes s t q.0 row) around (w.processors s t (Finish q) (inl row)) (λ r. w.loaded s t (Finish q) r (inl row)) k.used)

pub push-requires : goal.push-requires
push-requires c =
    let due = finish-due c.laws.ensures.rows c.laws.ensures.moves (state_of c.args.self.now.course) (state_of c.finish_move-freed.new.self) c.args.page c.finish_move-freed.ensures.finishes in
    omega (arith, due, c.requires.kept.owed)

pub returns-clause-kept : goal.returns-clause-kept
returns-clause-kept c =
    let old = c.args.self.now in
    let s = state_of old.course in
    let t = state_of c.finish_move-freed.new.self in
    let k = c.requires.kept in
    let q = c.args.page in
    let w = c.laws.ensures.rows in
    let row = c.finish_move-freed.ensures.finishes in
    let e : Event = Finish q in
    kept-made old e c.finish_move-freed.new.self c.give_back.new.holder c.count_untied.new.uses c.push.new.self k (record {
      sound = c.finish_move-freed.ensures.sound;
      kept = kept-none w c.laws.ensures.runs old.start s t old.journal.entries old.seat.notes e k.kept (inl row) refl;
      goes_on = λ on. c.finish_move-freed.ensures.goes_on;
      frames = record { holding = c.give_back.ensures.holding; given_back = λ end is. absurd (not-ended end (sym c.finish_move-freed.ensures.goes_on.not_ended ∙ is)) };
      used = c.count_untied.ensures;
      owed = omega (arith, finish-due w c.laws.ensures.moves s t q row, k.owed, c.push.ensures.room);
      posted = posted-finish w c.laws.ensures.takes s t old.journal.entries old.wiring.passes q k.posted row;
      entries = c.push.ensures.entries;
    })
  where
    not-ended : (end : End) → None ≡ Some end → ⊥
    not-ended end is = cc

pub returns-clause-makes : goal.returns-clause-makes
returns-clause-makes c = record {
  makes = record {
    journal = c.push.ensures.entries;
    run = one-row (state_of c.args.self.now.course) (state_of c.finish_move-freed.new.self) (Finish c.args.page) (inl c.finish_move-freed.ensures.finishes);
  };
  passes = refl;
}

pub returns-clause-room : goal.returns-clause-room
returns-clause-room c =
    let before = c.args.self.now.course in
    let after = c.finish_move-freed.new.self in
    let done = c.finish_move-freed.ensures in
    let keeps : KeepsCalls before after = record { print_room = done.print_room; send_room = done.send_room; cells = done.cells; received = done.packets.received; discarded = done.packets.discarded; begins = done.room; skips = done.skips } in
    room-kept _ _ before after keeps (omega (arith, finish-due c.laws.ensures.rows c.laws.ensures.moves (state_of before) (state_of after) c.args.page done.finishes, c.push.ensures.room))

pub returns-clause-hand : goal.returns-clause-hand
returns-clause-hand c = ap (λ (x : GuestState). x.hand) c.finish_move-freed.ensures.finishes.after

pub returns-clause-acts : goal.returns-clause-acts
returns-clause-acts c = acts-finished (state_of c.args.self.now.course) (state_of c.finish_move-freed.new.self) c.args.page.0 c.finish_move-freed.ensures.finishes
