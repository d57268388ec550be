use Rattle.std.proofs.Common.{◌≡◌, ◌<◌, ◌+◌, sym, ap, ◌∙◌, subst, refl, arith, ℕ, length, set}
use Rattle.std.proofs.lemmas.Grind.{common_steps}
use Rattle.std.proofs.lemmas.Option.{slice_get_within}
use Rattle.crossbeam_deque.specs.Handles.{view}
use Rattle.run_balance.specs.Rule.{Takes}
use Rattle.run_balance.specs.Shares.{whose_at}
use Rattle.run_balance.specs.Sides.{side_at}
use Rattle.run_balance.specs.Owners.{reached_of}
use Rattle.run_balance.specs.declared.side.Side.TheVariants.{Other}
use Rattle.run_balance.specs.declared.task.Task.{Task}
use Rattle.run_balance.specs.declared.task.Task.TheVariants.{Item, End}
use Rattle.run_balance.proofs.Steps.{no_mark, seat_item, seat_end, seat_none}
use Rattle.run_balance.proofs.Owning.{item_room}
use Rattle.run_balance.proofs.owner.Owner.find.Goals as goal

pub steal_task-requires-clause-no_mark : goal.steal_task-requires-clause-no_mark
steal_task-requires-clause-no_mark c =
    let k = c.requires.kept in
    let o = c.args.self.now in
    let is = k.4 in
    let d = c.args.at in
    let less : d < length k.0 = slice_get_within k.0 d k.3 k.5 in
    let at : side_at o.sides.items d ≡ Other c.in-Other.seat = grind (arith, common_steps, c.index_mut.ensures.value, c.in-Other.is, is.sides_all, less) in
    let whose : whose_at k.1 d ≡ c.args.from.0 = sym (is.whose d k.3 k.5).0 ∙ k.7 in
    no_mark k.0 k.1 k.2 o d (Other c.in-Other.seat) is less at (let e = ap (reached_of o) whose in let f = c.requires.first in omega arith)

pub note-requires : goal.note-requires
note-requires c =
    let k = c.requires.kept in
    let o = c.args.self.now in
    let is = k.4 in
    let d = c.args.at in
    let less : d < length k.0 = slice_get_within k.0 d k.3 k.5 in
    let at : side_at o.sides.items d ≡ Other c.in-Other.seat = grind (arith, common_steps, c.index_mut.ensures.value, c.in-Other.is, is.sides_all, less) in
    let takes : Takes (view c.in-Other.seat) (Item c.in-Some-Item.item) (view c.steal_task.new.seat) = subst (λ (t : Task). Takes (view c.in-Other.seat) t (view c.steal_task.new.seat)) c.in-Some-Item.field-0-is c.in-Some-Item.ensures.some in
    record { room = item_room k.0 k.1 k.2 o d (Other c.in-Other.seat) (Other c.steal_task.new.seat) c.in-Some-Item.item is less at takes }

pub returns-in-Some-Item-clause-kept : goal.returns-in-Some-Item-clause-kept
returns-in-Some-Item-clause-kept c deques line owners q is there from_is =
    let o = c.args.self.now in
    let d = c.args.at in
    let less : d < length deques = slice_get_within deques d q there in
    let at : side_at o.sides.items d ≡ Other c.in-Other.seat = grind (arith, common_steps, c.index_mut.ensures.value, c.in-Other.is, is.sides_all, less) in
    let takes : Takes (view c.in-Other.seat) (Item c.in-Some-Item.item) (view c.steal_task.new.seat) = subst (λ (t : Task). Takes (view c.in-Other.seat) t (view c.steal_task.new.seat)) c.in-Some-Item.field-0-is c.in-Some-Item.ensures.some in
    let whose : whose_at line d ≡ c.args.from.0 = sym (is.whose d q there).0 ∙ from_is in
    seat_item deques line owners o d c.in-Other.seat c.steal_task.new.seat (Rattle.std.specs.Vec.with_item o.sides d (Other c.steal_task.new.seat)) c.note.new.taken c.note.new.froms c.in-Some-Item.item is less at c.steal_task.ensures.same takes refl
    (ap (reached_of o) whose ∙ c.requires.first) c.note.ensures.taken c.note.ensures.from c.note.ensures.capacity.0 c.note.ensures.capacity.1

pub returns-in-Some-End-clause-kept : goal.returns-in-Some-End-clause-kept
returns-in-Some-End-clause-kept c deques line owners q is there from_is =
    let o = c.args.self.now in
    let d = c.args.at in
    let less : d < length deques = slice_get_within deques d q there in
    let at : side_at o.sides.items d ≡ Other c.in-Other.seat = grind (arith, common_steps, c.index_mut.ensures.value, c.in-Other.is, is.sides_all, less) in
    let takes : Takes (view c.in-Other.seat) End (view c.steal_task.new.seat) = subst (λ (t : Task). Takes (view c.in-Other.seat) t (view c.steal_task.new.seat)) c.in-Some-End.field-0-is c.in-Some-End.ensures.some in
    let whose : whose_at line d ≡ c.args.from.0 = sym (is.whose d q there).0 ∙ from_is in
    let few = (is.whose d q there).1 in
    seat_end deques line owners o d c.args.from.0 c.in-Other.seat c.steal_task.new.seat (Rattle.std.specs.Vec.with_item o.sides d (Other c.steal_task.new.seat)) (Rattle.std.specs.Vec.with_item o.reached c.number.result (d + 1)) is less at
    c.steal_task.ensures.same takes refl whose (let e : c.args.from.0 < owners = omega arith in e) c.requires.other c.requires.first (ap (λ (k : ℕ). set o.reached.items k (d + 1)) c.number.ensures)

pub returns-in-None-clause-kept : goal.returns-in-None-clause-kept
returns-in-None-clause-kept c deques line owners q is there from_is =
    let o = c.args.self.now in
    let d = c.args.at in
    let less : d < length deques = slice_get_within deques d q there in
    let at : side_at o.sides.items d ≡ Other c.in-Other.seat = grind (arith, common_steps, c.index_mut.ensures.value, c.in-Other.is, is.sides_all, less) in
    seat_none deques line owners o d c.in-Other.seat c.steal_task.new.seat (Rattle.std.specs.Vec.with_item o.sides d (Other c.steal_task.new.seat)) is less at c.steal_task.ensures.same c.in-None.ensures.none refl
