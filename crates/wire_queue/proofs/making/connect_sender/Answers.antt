use Rattle.std.proofs.Common.{◌≢◌, ◌+◌, Option, sym, ap, subst, arith}
use Rattle.std.specs.Global.{Vec}
use Rattle.wire_queue.specs.Lines.{terms_of}
use Rattle.wire_queue.specs.WireParts.{ids_of}
use Rattle.wire_queue.specs.Making.{MadeBelow, MadeTo}
use Rattle.wire_queue.specs.declared.lists.PassList.{PassList}
use Rattle.wire_queue.specs.declared.wire.WireQueue.{WireQueue}
use Rattle.wire_queue.proofs.QueueTables.{count_ids, count_sends, count_takes}
use Rattle.wire_queue.proofs.MadeLemmas.{as_seen, one_more, below_more, to_more, to_itself, next_below}
use Rattle.wire_queue.proofs.making.connect_sender.Goals as goal
use Rattle.wire_queue.proofs.making.connect_sender.Goals.{then-to-from+in_ok-connect, else-to-from}

abbrev Rows : Type 0
Rows = Vec (Vec (Option WireQueue))

abbrev Lists : Type 0
Lists = Vec PassList

pub connect-requires-clause-wire : goal.connect-requires-clause-wire
connect-requires-clause-wire c =
    let m = c.loop-to.invariant.made.queues_all in
    (omega (arith, m.rows_all, count_ids c.loop-to.rows.items), omega (arith, m.places_all c.args.from.0 c.requires.within))

pub connect-requires-clause-send : goal.connect-requires-clause-send
connect-requires-clause-send c =
    let m = c.loop-to.invariant.made.sends_all in
    (omega (arith, m.rows_all, count_sends c.loop-to.lists.items), omega (arith, m.places_all c.args.from.0 c.requires.within))

pub connect-requires-clause-take : goal.connect-requires-clause-take
connect-requires-clause-take c =
    let m = c.loop-to.invariant.made.takes_all in
    (omega (arith, m.rows_all, count_takes c.loop-to.lists.items), omega (arith, m.places_all c.loop-to.to c.loop-to-test.true))

pub loop-to-preserved : goal.loop-to-preserved
loop-to-preserved c =
    let n = c.args.guests in
    let from = c.args.from.0 in
    let terms = terms_of c.args.shape.now c.args.homes.now in
    let old = c.loop-to.invariant in
    elim c.if-to-from.branch [
      | then-to-from+in_ok-connect w ↦
          let queues = ap (λ (r : Rows). ids_of r.items) w.rows-is in
          let lists = ap (λ (l : Lists). l.items) w.lists-is in
          let differ : from ≢ c.loop-to.to = λ same. w.if-to-from.true (sym same) in
          let before = ids_of c.loop-to.rows.items in
          let after = ids_of w.connect.new.rows.items in
          let lists_before = c.loop-to.lists.items in
          let lists_after = w.connect.new.lists.items in
          let is = w.in_ok-connect.ensures in
          let made = one_more n terms before after lists_before lists_after from c.loop-to.to old.made is c.requires.within c.loop-to-test.true differ in
          let below = below_more n terms before after lists_before lists_after from c.loop-to.to old.made is c.requires.within c.loop-to-test.true old.below in
          let to = to_more n terms before after lists_before lists_after from c.loop-to.to old.made is c.requires.within c.loop-to-test.true old.to in record {
            made = as_seen n terms after _ lists_after _ queues lists made;
            below = subst (MadeBelow n from) (sym queues) below;
            to = subst (MadeTo from (c.loop-to.to + 1)) (sym queues) to;
          }
      | else-to-from w ↦
          let queues = ap (λ (r : Rows). ids_of r.items) w.rows-is in
          let lists = ap (λ (l : Lists). l.items) w.lists-is in record {
            made = as_seen n terms (ids_of c.loop-to.rows.items) _ c.loop-to.lists.items _ queues lists old.made;
            below = subst (MadeBelow n from) (sym queues) old.below;
            to = subst (MadeTo from (c.loop-to.to + 1)) (sym queues) (to_itself from c.loop-to.to (ids_of c.loop-to.rows.items) w.if-to-from.false old.to);
          }
    ]

pub returns-clause-below : goal.returns-clause-below
returns-clause-below c =
    next_below c.args.guests c.args.from.0 (ids_of c.loop-to.rows.items) c.loop-to.invariant.below
    (λ t t_there differ. c.loop-to.invariant.to t (omega arith) differ)
