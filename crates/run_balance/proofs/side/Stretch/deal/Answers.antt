use Rattle.std.proofs.Common.{ap, ◌∙◌, arith, length, slice_get}
use Rattle.std.proofs.lemmas.Option.{slice_get_within}
use Rattle.run_balance.proofs.Puts.{length_put_less}
use Rattle.run_balance.proofs.Stretches.{deals_item, deals_last}
use Rattle.run_balance.proofs.side.Stretch.deal.Goals as goal

pub put-requires-clause-fits : goal.put-requires-clause-fits
put-requires-clause-fits c =
    let k = c.requires.is in
    let s = c.args.self.now in
    let less = slice_get_within k.0 s.dealt c.args.item k.2 in
    let long = ap length k.1.dealer.put ∙ length_put_less k.0 s.dealt c.args.owners less in
    (λ i. slice_get (k.3 i) (long i)) ∙ k.2

pub put-requires-clause-room : goal.put-requires-clause-room
put-requires-clause-room c =
    let k = c.requires.is in
    let s = c.args.self.now in
    let less = slice_get_within k.0 s.dealt c.args.item k.2 in
    let long = ap length k.1.dealer.put ∙ length_put_less k.0 s.dealt c.args.owners less in
    let index = k.1.dealer.index in
    let room = k.1.dealer.room in
    omega arith

pub put_marks-requires-clause-room : goal.put_marks-requires-clause-room
put_marks-requires-clause-room c =
    let k = c.requires.is in
    let s = c.args.self.now in
    let less = slice_get_within k.0 s.dealt c.args.item k.2 in
    let long = ap length k.1.dealer.put ∙ length_put_less k.0 s.dealt c.args.owners less in
    let index = k.1.dealer.index in
    let room = k.1.dealer.room in
    let next = c.put.ensures.same.1 in
    let more = c.put.ensures.same.0.3 in
    omega arith

pub returns-then-self-clause-is : goal.returns-then-self-clause-is
returns-then-self-clause-is c share is at =
    deals_last share c.args.owners c.args.self.now c.put.new.dealer c.put_marks.new.dealer c.args.item is at
    c.put.ensures.same.0 c.put.ensures.same.1 c.put.ensures.view c.if-self.true c.put_marks.ensures.same.0 c.put_marks.ensures.same.1 c.put_marks.ensures.view

pub returns-else-self-clause-is : goal.returns-else-self-clause-is
returns-else-self-clause-is c share is at =
    deals_item share c.args.owners c.args.self.now c.put.new.dealer c.args.item is at c.put.ensures.same.0 c.put.ensures.same.1 c.put.ensures.view c.if-self.false
