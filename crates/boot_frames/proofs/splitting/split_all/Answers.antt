use Rattle.std.proofs.Common.{rules, ◌≡◌, ◌∙◌, ◌++◌, ◌∷◌, [], List, length, refl, ap, subst, sym, arith, All}
use Rattle.std.specs.Vec.Iter.{into_iter_items}
use Rattle.std.specs.List.{AllZip}
use Rattle.std.proofs.lemmas.List.Elements.{All-head, All-tail}
use Rattle.boot_frames.specs.Givings.{HasAll, IsCountable, Gives}
use Rattle.boot_frames.specs.declared.lots.Lot.{Lot}
use Rattle.boot_frames.specs.declared.taken.Taken.{Taken}
use Rattle.boot_frames.proofs.SplitLemmas.{has_named, has_rest, zip_push}
use Rattle.boot_frames.proofs.splitting.split_all.Goals as goal
use Rattle.node_frames.specs.Layout.{layout_of}

pub split_off-requires-clause-has : goal.split_off-requires-clause-has
split_off-requires-clause-has c =
    let layout = (layout_of c.args.shape.now) in
    let left = into_iter_items c.next.new.self in
    has_named layout c.loop-one.holder.view c.in-Some.one left (subst (λ (l : List Taken). HasAll layout c.loop-one.holder.view l) c.in-Some.ensures.steps.0 c.loop-one.invariant.5)

pub split_off-requires-clause-countable : goal.split_off-requires-clause-countable
split_off-requires-clause-countable c =
    let layout = (layout_of c.args.shape.now) in
    let left = into_iter_items c.next.new.self in
    All-head (IsCountable layout) c.in-Some.one left (subst (λ (l : List Taken). All (IsCountable layout) l) c.in-Some.ensures.steps.0 c.loop-one.invariant.4)

pub loop-one-preserved : goal.loop-one-preserved
loop-one-preserved c =
    let table = c.args.table.now in
    let layout = (layout_of c.args.shape.now) in
    let i = c.loop-one.invariant in
    let one = c.in-Some.one in
    let left = into_iter_items c.next.new.self in
    let turn = c.in-Some.ensures.steps.0 in
    let grown : c.push.new.self.items ≡ c.loop-one.lots.items ++ c.split_off.result ∷ [] = search rules in (
      tt,
      tt,
      c.split_off.ensures.same ∙ i.2,
      subst (λ (l : List Lot). AllZip (Gives table layout) (c.loop-one.yielded ++ one ∷ []) l) (sym grown)
          (zip_push (Gives table layout) c.loop-one.yielded c.loop-one.lots.items one c.split_off.result i.3 c.split_off.ensures.gives),
      All-tail (IsCountable layout) one left (subst (λ (l : List Taken). All (IsCountable layout) l) turn i.4),
      has_rest layout c.loop-one.holder.view c.split_off.new.holder.view one left (subst (λ (l : List Taken). HasAll layout c.loop-one.holder.view l) turn i.5) c.split_off.ensures.rest,
      (let fewer = ap (λ (l : List Taken). length l) turn in let less = c.in-Some.ensures.steps.1 in let same = i.6 in omega arith),
    )

nothing : (ts : List Taken) → length ts ≡ 0 → ts ≡ []
nothing [] none = refl
nothing (t ∷ ts) some = absurd (omega arith)

pub returns-clause-rest : goal.returns-clause-rest
returns-clause-rest c =
    let layout = (layout_of c.args.shape.now) in
    let none : into_iter_items c.loop-one.one-iterator ≡ [] = nothing (into_iter_items c.loop-one.one-iterator) (c.loop-one.invariant.6 ∙ c.in-None.ensures.steps.0) in
    let all : HasAll layout c.loop-one.holder.view [] = subst (λ (l : List Taken). HasAll layout c.loop-one.holder.view l) none c.loop-one.invariant.5 in
    c.no_frame_and_no_loan_is_no_hold.ensures c.loop-one.holder.view all.frames all.loans
