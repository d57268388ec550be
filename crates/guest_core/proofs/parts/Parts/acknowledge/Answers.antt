-- The acknowledgement is its row, and the guest is kept.
use Rattle.std.proofs.Common.{refl, ap, arith}
use Rattle.base_words.specs.declared.events.Event.{Event}
use Rattle.base_words.specs.declared.events.Event.TheVariants.{Ack}
use Rattle.isolation_law.specs.GuestState.{GuestState}
use Rattle.guest_course.specs.CourseView.{state_of}
use Rattle.guest_core.proofs.EnterProofs.{one-row}
use Rattle.guest_core.proofs.HoldingLemmas.{frames-stay}
use Rattle.guest_core.proofs.KeptProofs.{kept-none, ack-due}
use Rattle.guest_core.proofs.MoveLemmas.{kept-made, posted-ack}
use Rattle.guest_core.proofs.RoomLemmas.{two-entries, KeepsCalls, as-used, room-used}
use Rattle.guest_core.proofs.UsingProofs.{uses-row}
use Rattle.guest_core.proofs.parts.Parts.acknowledge.Goals as goal

pub returns-clause-kept : goal.returns-clause-kept
returns-clause-kept c =
    let old = c.args.self.now in
    let s = state_of old.course in
    let t = state_of c.acknowledge.new.self in
    let k = c.requires.kept in
    let p = c.args.processor in
    let q = c.args.page in
    let w = c.laws.ensures.rows in
    let row = c.acknowledge.ensures.acks in
    let ex = c.exchanges.ensures.acks s t p.0 q.0 row in
    let e : Event = Ack p q in
    let room = two-entries _ _ _ c.requires.room in
    kept-made old e c.acknowledge.new.self old.holder old.uses c.push.new.self k (record {
      sound = c.acknowledge.ensures.sound;
      kept = kept-none w c.laws.ensures.runs old.start s t old.journal.entries old.seat.notes e k.kept row refl;
      goes_on = λ on. c.acknowledge.ensures.goes_on;
      frames = frames-stay s t _ ex (w.around s t e row) (ap (λ (x : GuestState). x.end) row.after) k.frames;
      used = uses-row w s t e old.uses row (c.uses_change.ensures.acks s t p.0 q.0 row) (λ r. refl) k.used;
      owed = omega (arith, ack-due w c.laws.ensures.moves s t p q row, room, c.push.ensures.room);
      posted = posted-ack w c.laws.ensures.takes s t old.journal.entries old.wiring.passes p q k.posted row;
      entries = c.push.ensures.entries;
    })

pub returns-clause-makes : goal.returns-clause-makes
returns-clause-makes c = record {
  makes = record {
    journal = c.push.ensures.entries;
    run = one-row (state_of c.args.self.now.course) (state_of c.acknowledge.new.self) (Ack c.args.processor c.args.page) c.acknowledge.ensures.acks;
  };
  passes = refl;
}

pub returns-clause-room : goal.returns-clause-room
returns-clause-room c =
    let before = c.args.self.now.course in
    let after = c.acknowledge.new.self in
    let done = c.acknowledge.ensures in
    let keeps : KeepsCalls before after = record { print_room = done.print_room; send_room = done.send_room; cells = done.cells; received = done.packets.received; discarded = done.packets.discarded; begins = omega (arith, done.room); skips = done.skips } in
    room-used _ _ before after (as-used before after keeps) (omega (arith, ack-due c.laws.ensures.rows c.laws.ensures.moves (state_of before) (state_of after) c.args.processor c.args.page done.acks, c.push.ensures.room))
