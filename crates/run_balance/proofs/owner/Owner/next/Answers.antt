use Rattle.std.proofs.Common.{◌≡◌, ◌<◌, ◌+◌, ap, subst, refl, arith, ℕ, length, set}
use Rattle.std.proofs.lemmas.Grind.{common_steps}
use Rattle.crossbeam_deque.specs.Handles.{worker_view}
use Rattle.run_balance.specs.Rule.{Takes}
use Rattle.run_balance.specs.Shares.{flat, share_at}
use Rattle.run_balance.specs.Sides.{side_at}
use Rattle.run_balance.specs.Owners.{reached_of, stretch_of}
use Rattle.run_balance.specs.declared.side.Side.TheVariants.{Own}
use Rattle.run_balance.specs.declared.task.Task.{Task}
use Rattle.run_balance.specs.declared.task.Task.TheVariants.{Item, End}
use Rattle.run_balance.proofs.Steps.{own_side, no_mark, next_item, next_end, next_none, same_side, took_own, found_end, found_none, found_past}
use Rattle.run_balance.proofs.Owning.{item_room}
use Rattle.run_balance.proofs.owner.Owner.next.Goals as goal

pub take_first-requires-clause-is : goal.take_first-requires-clause-is
take_first-requires-clause-is c =
    let o = c.args.self.now in
    let is = c.requires.kept.2 in
    let d = c.index-at.result.now in
    let now : d ≡ stretch_of o = grind (arith, common_steps, c.index-at.ensures, c.number-own.ensures, is.reached_all, is.number) in
    let less : d < length c.requires.kept.0 = (let a = is.sides_all in let b = c.len.ensures in let e = c.if-at-len.false in omega arith) in
    let s = c.in-Own.stretch in
    let at : side_at o.sides.items d ≡ Own s = grind (arith, common_steps, c.index_mut.ensures.value, c.in-Own.is, is.sides_all, less) in
    (share_at (flat c.requires.kept.1) d, length c.requires.kept.1, (own_side c.requires.kept.0 (flat c.requires.kept.1) (length c.requires.kept.1) o d s is less at).1)

pub take_first-requires-clause-no_mark : goal.take_first-requires-clause-no_mark
take_first-requires-clause-no_mark c =
    let o = c.args.self.now in
    let is = c.requires.kept.2 in
    let d = c.index-at.result.now in
    let now : d ≡ stretch_of o = grind (arith, common_steps, c.index-at.ensures, c.number-own.ensures, is.reached_all, is.number) in
    let less : d < length c.requires.kept.0 = (let a = is.sides_all in let b = c.len.ensures in let e = c.if-at-len.false in omega arith) in
    let s = c.in-Own.stretch in
    let at : side_at o.sides.items d ≡ Own s = grind (arith, common_steps, c.index_mut.ensures.value, c.in-Own.is, is.sides_all, less) in
    let own = own_side c.requires.kept.0 (flat c.requires.kept.1) (length c.requires.kept.1) o d s is less at in
    no_mark c.requires.kept.0 (flat c.requires.kept.1) (length c.requires.kept.1) o d (Own s) is less at (let e = ap (reached_of o) own.0 in omega arith)

pub note-requires : goal.note-requires
note-requires c =
    let o = c.args.self.now in
    let is = c.requires.kept.2 in
    let d = c.index-at.result.now in
    let now : d ≡ stretch_of o = grind (arith, common_steps, c.index-at.ensures, c.number-own.ensures, is.reached_all, is.number) in
    let less : d < length c.requires.kept.0 = (let a = is.sides_all in let b = c.len.ensures in let e = c.if-at-len.false in omega arith) in
    let s = c.in-Own.stretch in
    let at : side_at o.sides.items d ≡ Own s = grind (arith, common_steps, c.index_mut.ensures.value, c.in-Own.is, is.sides_all, less) in
    let takes : Takes (worker_view s.dealer) (Item c.in-Some-Item.item) (worker_view c.take_first.new.self.dealer) = subst (λ (t : Task). Takes (worker_view s.dealer) t (worker_view c.take_first.new.self.dealer)) c.in-Some-Item.field-0-is c.in-Some-Item.ensures.some in
    record { room = item_room c.requires.kept.0 (flat c.requires.kept.1) (length c.requires.kept.1) o d (Own s) (Own c.take_first.new.self) c.in-Some-Item.item is less at takes }

pub returns-in-Some-Item-clause-kept : goal.returns-in-Some-Item-clause-kept
returns-in-Some-Item-clause-kept c deques shares of =
    let o = c.args.self.now in
    let is = of in
    let d = c.index-at.result.now in
    let now : d ≡ stretch_of o = grind (arith, common_steps, c.index-at.ensures, c.number-own.ensures, is.reached_all, is.number) in
    let less : d < length deques = (let a = is.sides_all in let b = c.len.ensures in let e = c.if-at-len.false in omega arith) in
    let s = c.in-Own.stretch in
    let at : side_at o.sides.items d ≡ Own s = grind (arith, common_steps, c.index_mut.ensures.value, c.in-Own.is, is.sides_all, less) in
    let takes : Takes (worker_view s.dealer) (Item c.in-Some-Item.item) (worker_view c.take_first.new.self.dealer) = subst (λ (t : Task). Takes (worker_view s.dealer) t (worker_view c.take_first.new.self.dealer)) c.in-Some-Item.field-0-is c.in-Some-Item.ensures.some in
    next_item deques (flat shares) (length shares) o d s c.take_first.new.self (Rattle.std.specs.Vec.with_item o.sides d (Own c.take_first.new.self)) c.note.new.taken c.note.new.froms c.in-Some-Item.item is less at now c.take_first.ensures.is c.take_first.ensures.same.1 c.take_first.ensures.same.2 takes refl
    c.note.ensures.taken c.note.ensures.from c.note.ensures.capacity.0 c.note.ensures.capacity.1

pub returns-in-Some-Item-clause-some : goal.returns-in-Some-Item-clause-some
returns-in-Some-Item-clause-some c =
    let o = c.args.self.now in
    let is = c.requires.kept.2 in
    let d = c.index-at.result.now in
    let now : d ≡ stretch_of o = grind (arith, common_steps, c.index-at.ensures, c.number-own.ensures, is.reached_all, is.number) in
    let less : d < length c.requires.kept.0 = (let a = is.sides_all in let b = c.len.ensures in let e = c.if-at-len.false in omega arith) in
    let s = c.in-Own.stretch in
    let at : side_at o.sides.items d ≡ Own s = grind (arith, common_steps, c.index_mut.ensures.value, c.in-Own.is, is.sides_all, less) in
    let all = is.sides_all in
    took_own o (record o { sides = (Rattle.std.specs.Vec.with_item o.sides d (Own c.take_first.new.self)); taken = c.note.new.taken; from = c.note.new.froms }) d s c.take_first.new.self c.in-Some-Item.item at (let z : d < length o.sides.items = omega arith in z) now c.take_first.ensures.same.1 refl refl refl c.note.ensures.taken c.note.ensures.from

pub returns-in-Some-End-clause-kept : goal.returns-in-Some-End-clause-kept
returns-in-Some-End-clause-kept c deques shares of =
    let o = c.args.self.now in
    let is = of in
    let d = c.index-at.result.now in
    let now : d ≡ stretch_of o = grind (arith, common_steps, c.index-at.ensures, c.number-own.ensures, is.reached_all, is.number) in
    let less : d < length deques = (let a = is.sides_all in let b = c.len.ensures in let e = c.if-at-len.false in omega arith) in
    let s = c.in-Own.stretch in
    let at : side_at o.sides.items d ≡ Own s = grind (arith, common_steps, c.index_mut.ensures.value, c.in-Own.is, is.sides_all, less) in
    let takes : Takes (worker_view s.dealer) End (worker_view c.take_first.new.self.dealer) = subst (λ (t : Task). Takes (worker_view s.dealer) t (worker_view c.take_first.new.self.dealer)) c.in-Some-End.field-0-is c.in-Some-End.ensures.some in
    next_end deques (flat shares) (length shares) o d s c.take_first.new.self (Rattle.std.specs.Vec.with_item o.sides d (Own c.take_first.new.self)) (Rattle.std.specs.Vec.with_item o.reached c.number-own.result (d + 1)) is less at now c.take_first.ensures.is c.take_first.ensures.same.1 c.take_first.ensures.same.2 takes refl
    (ap (λ (k : ℕ). set o.reached.items k (d + 1)) c.number-own.ensures)

pub returns-in-Some-End-clause-none : goal.returns-in-Some-End-clause-none
returns-in-Some-End-clause-none c deques shares of =
    let o = c.args.self.now in
    let is = of in
    let d = c.index-at.result.now in
    let now : d ≡ stretch_of o = grind (arith, common_steps, c.index-at.ensures, c.number-own.ensures, is.reached_all, is.number) in
    let less : d < length deques = (let a = is.sides_all in let b = c.len.ensures in let e = c.if-at-len.false in omega arith) in
    let s = c.in-Own.stretch in
    let at : side_at o.sides.items d ≡ Own s = grind (arith, common_steps, c.index_mut.ensures.value, c.in-Own.is, is.sides_all, less) in
    let takes : Takes (worker_view s.dealer) End (worker_view c.take_first.new.self.dealer) = subst (λ (t : Task). Takes (worker_view s.dealer) t (worker_view c.take_first.new.self.dealer)) c.in-Some-End.field-0-is c.in-Some-End.ensures.some in
    found_end deques shares o (record o { reached = (Rattle.std.specs.Vec.with_item o.reached c.number-own.result (d + 1)); sides = (Rattle.std.specs.Vec.with_item o.sides d (Own c.take_first.new.self)) }) d s c.take_first.new.self (worker_view c.take_first.new.self.dealer) is less at now takes refl refl
    (ap (λ (k : ℕ). set o.reached.items k (d + 1)) c.number-own.ensures) refl refl

pub returns-in-None-clause-kept : goal.returns-in-None-clause-kept
returns-in-None-clause-kept c deques shares of =
    let o = c.args.self.now in
    let is = of in
    let d = c.index-at.result.now in
    let now : d ≡ stretch_of o = grind (arith, common_steps, c.index-at.ensures, c.number-own.ensures, is.reached_all, is.number) in
    let less : d < length deques = (let a = is.sides_all in let b = c.len.ensures in let e = c.if-at-len.false in omega arith) in
    let s = c.in-Own.stretch in
    let at : side_at o.sides.items d ≡ Own s = grind (arith, common_steps, c.index_mut.ensures.value, c.in-Own.is, is.sides_all, less) in
    next_none deques (flat shares) (length shares) o d s c.take_first.new.self (Rattle.std.specs.Vec.with_item o.sides d (Own c.take_first.new.self)) is less at c.take_first.ensures.is c.take_first.ensures.same.1 c.take_first.ensures.same.2 c.in-None.ensures.none.0 refl

pub returns-in-None-clause-none : goal.returns-in-None-clause-none
returns-in-None-clause-none c deques shares of =
    let o = c.args.self.now in
    let is = of in
    let d = c.index-at.result.now in
    let now : d ≡ stretch_of o = grind (arith, common_steps, c.index-at.ensures, c.number-own.ensures, is.reached_all, is.number) in
    let less : d < length deques = (let a = is.sides_all in let b = c.len.ensures in let e = c.if-at-len.false in omega arith) in
    let s = c.in-Own.stretch in
    let at : side_at o.sides.items d ≡ Own s = grind (arith, common_steps, c.index_mut.ensures.value, c.in-Own.is, is.sides_all, less) in
    found_none deques shares o (record o { sides = (Rattle.std.specs.Vec.with_item o.sides d (Own c.take_first.new.self)) }) d s c.take_first.new.self is less at now c.in-None.ensures.none.1 c.take_first.ensures.same.1 refl refl refl refl refl

pub returns-in_default : goal.returns-in_default
returns-in_default c = record {
  kept = λ deques shares of.
      let o = c.args.self.now in
      let is = of in
      let d = c.index-at.result.now in
      let now : d ≡ stretch_of o = grind (arith, common_steps, c.index-at.ensures, c.number-own.ensures, is.reached_all, is.number) in
      let less : d < length deques = (let a = is.sides_all in let b = c.len.ensures in let e = c.if-at-len.false in omega arith) in
      let at : side_at o.sides.items d ≡ c.index_mut.result.now = grind (arith, common_steps, c.index_mut.ensures.value, is.sides_all, less) in
      same_side deques (flat shares) (length shares) o d c.index_mut.result.now (Rattle.std.specs.Vec.with_item o.sides d c.index_mut.result.now) is less at refl;
  some = tt;
  none = λ deques shares of.
      let o = c.args.self.now in
      let is = of in
      let d = c.index-at.result.now in
      let now : d ≡ stretch_of o = grind (arith, common_steps, c.index-at.ensures, c.number-own.ensures, is.reached_all, is.number) in
      let less : d < length deques = (let a = is.sides_all in let b = c.len.ensures in let e = c.if-at-len.false in omega arith) in
      let at : side_at o.sides.items d ≡ c.index_mut.result.now = grind (arith, common_steps, c.index_mut.ensures.value, is.sides_all, less) in
      found_past deques shares o (record o { sides = Rattle.std.specs.Vec.with_item o.sides d c.index_mut.result.now }) d c.index_mut.result.now is less at c.in_default.not-Own now refl refl refl refl refl;
}
