use Rattle.std.proofs.Common.{◌≡◌, ◌<◌, ◌+◌, ◌++◌, ◌∷◌, [], ℕ, List, length, set, Some, slice_get, slice_index_or, sym, ap, ◌∙◌, subst, refl, arith, append_assoc}
use Rattle.std.proofs.lemmas.List.{length_push}
use Rattle.std.proofs.lemmas.Option.{slice_get-get_or}
use Rattle.std.specs.Vec.Iter.{into_iter_items}
use Rattle.run_balance.specs.Making.{ArePlaced}
use Rattle.run_balance.specs.declared.making.Made.{Made}
use Rattle.run_balance.specs.declared.owner.Owner.{Owner}
use Rattle.run_balance.specs.declared.side.Side.TheVariants.{Own}
use Rattle.run_balance.proofs.NewOwners.{placed_more, room_there, at_yielded}
use Rattle.run_balance.proofs.making.place_all.Goals as goal

pub place_one-requires : goal.place_one-requires
place_one-requires c =
    let f = c.loop-m.invariant in
    let made = c.args.made.items in
    let before : List Made = c.loop-m.yielded in
    let m = c.in-Some.m in
    let owners = c.loop-m.owners in
    let parts : made ≡ before ++ m ∷ into_iter_items c.next.new.self = f.2 ∙ ap (λ (l : List Made). before ++ l) c.in-Some.ensures.steps.0 in
    let at : slice_get made (length before) ≡ Some m = at_yielded made before m (into_iter_items c.next.new.self) parts in
    let number : c.number.result ≡ m.whose.0 = c.number.ensures in
    let own : Owner = slice_index_or owners c.number.result c.index-owners-number.result in
    let few = c.requires.whose (length before) m at in
    let long = f.4.long in
    let there : slice_get owners m.whose.0 ≡ Some own = (λ i. slice_get owners (sym number i)) ∙ slice_get-get_or owners c.number.result c.index-owners-number.result (let e : c.number.result < length owners = omega arith in e) in
    let room = room_there made (length before) c.args.owners.now owners m own c.requires f.4 at there in
    let is = f.3 in
    omega arith

pub loop-m-preserved : goal.loop-m-preserved
loop-m-preserved c =
    let f = c.loop-m.invariant in
    let made = c.args.made.items in
    let before : List Made = c.loop-m.yielded in
    let m = c.in-Some.m in
    let owners = c.loop-m.owners in
    let parts : made ≡ before ++ m ∷ into_iter_items c.next.new.self = f.2 ∙ ap (λ (l : List Made). before ++ l) c.in-Some.ensures.steps.0 in
    let at : slice_get made (length before) ≡ Some m = at_yielded made before m (into_iter_items c.next.new.self) parts in
    let number : c.number.result ≡ m.whose.0 = c.number.ensures in
    let own : Owner = slice_index_or owners c.number.result c.index-owners-number.result in
    let few = c.requires.whose (length before) m at in
    let long = f.4.long in
    let there : slice_get owners m.whose.0 ≡ Some own = (λ i. slice_get owners (sym number i)) ∙ slice_get-get_or owners c.number.result c.index-owners-number.result (let e : c.number.result < length owners = omega arith in e) in
    let room = room_there made (length before) c.args.owners.now owners m own c.requires f.4 at there in
    let is : c.loop-m.place ≡ length before = f.3 in
    let later : Owner = record own { sides = c.place_one.new.sides } in (
      tt,
      tt,
      parts ∙ sym (append_assoc before (m ∷ []) (into_iter_items c.next.new.self)),
      ap (λ (n : ℕ). n + 1) is ∙ sym (length_push before m),
      subst (λ (x : ℕ × ℕ). ArePlaced made x.0 c.args.owners.now (set owners x.1 later)) (λ i. (sym (length_push before m) i, sym number i))
          (placed_more made (length before) c.args.owners.now owners m own later f.4 at there refl refl refl refl room (c.place_one.ensures ∙ ap (λ (k : ℕ). set own.sides.items k (Own m.stretch)) is)),
    )
