use Rattle.std.proofs.Common.{◌≡◌, set, slice_index_or, sym, ap, ◌∙◌, subst}
use Rattle.std.proofs.lemmas.Option.{get_or_from_slice_get}
use Rattle.crossbeam_deque.specs.Handles.{worker_view}
use Rattle.run_balance.specs.Sides.{side_at}
use Rattle.run_balance.specs.Gathering.{Gathers}
use Rattle.run_balance.specs.declared.owner.Owner.{Owner}
use Rattle.run_balance.specs.declared.side.Stretch.{Stretch}
use Rattle.run_balance.specs.declared.side.Side.TheVariants.{Spent}
use Rattle.run_balance.proofs.Gathered.{else_spent, stretch_or, all_parts, settled_of, same_after}
use Rattle.run_balance.proofs.gathering.gather.Goals as goal

pub settle-requires-clause-all : goal.settle-requires-clause-all
settle-requires-clause-all c =
    let h = c.requires in
    let owners = c.args.owners.now in
    let place = c.args.place in
    let was : Owner = slice_index_or owners c.args.own c.index-owners-own.result in
    let same : was ≡ h.own = get_or_from_slice_get owners c.args.own h.own c.index-owners-own.result h.there in
    let later : Owner = record was { sides = c.take_out.new.sides } in
    let rest : later.sides.items ≡ set h.own.sides.items place Spent = c.take_out.ensures.rest ∙ ap (λ (o : Owner). set o.sides.items place Spent) same in
    let spent = else_spent place h.own later h.inside rest (ap (λ (o : Owner). o.number) same) (ap (λ (o : Owner). o.reached) same) (ap (λ (o : Owner). o.taken) same) (ap (λ (o : Owner). o.from) same) in
    let stretch : c.in-Own.stretch ≡ h.stretch = ap (stretch_or h.stretch) (sym c.in-Own.is ∙ c.take_out.ensures.out ∙ ap (λ (o : Owner). side_at o.sides.items place) same ∙ h.side) in
    let g : Gathers place (worker_view h.stretch.dealer) (set owners c.args.own later) (worker_view c.collect.new.dealer) =
    subst (λ (s : Stretch). Gathers place (worker_view s.dealer) (set owners c.args.own later) (worker_view c.collect.new.dealer)) stretch c.collect.ensures.gathers in
    all_parts place c.args.own owners later (worker_view c.collect.new.dealer) h spent.1 g

pub returns-clause-settled : goal.returns-clause-settled
returns-clause-settled c =
    let h = c.requires in
    let owners = c.args.owners.now in
    let place = c.args.place in
    let was : Owner = slice_index_or owners c.args.own c.index-owners-own.result in
    let same : was ≡ h.own = get_or_from_slice_get owners c.args.own h.own c.index-owners-own.result h.there in
    let later : Owner = record was { sides = c.take_out.new.sides } in
    let rest : later.sides.items ≡ set h.own.sides.items place Spent = c.take_out.ensures.rest ∙ ap (λ (o : Owner). set o.sides.items place Spent) same in
    let spent = else_spent place h.own later h.inside rest (ap (λ (o : Owner). o.number) same) (ap (λ (o : Owner). o.reached) same) (ap (λ (o : Owner). o.taken) same) (ap (λ (o : Owner). o.from) same) in
    let stretch : c.in-Own.stretch ≡ h.stretch = ap (stretch_or h.stretch) (sym c.in-Own.is ∙ c.take_out.ensures.out ∙ ap (λ (o : Owner). side_at o.sides.items place) same ∙ h.side) in
    let g : Gathers place (worker_view h.stretch.dealer) (set owners c.args.own later) (worker_view c.collect.new.dealer) =
    subst (λ (s : Stretch). Gathers place (worker_view s.dealer) (set owners c.args.own later) (worker_view c.collect.new.dealer)) stretch c.collect.ensures.gathers in
    settled_of place c.args.own owners later (worker_view c.collect.new.dealer) c.settle.ensures.settled.0 h spent.1 g c.settle.ensures.settled.1

pub returns-clause-others : goal.returns-clause-others
returns-clause-others c =
    let h = c.requires in
    let owners = c.args.owners.now in
    let place = c.args.place in
    let was : Owner = slice_index_or owners c.args.own c.index-owners-own.result in
    let same : was ≡ h.own = get_or_from_slice_get owners c.args.own h.own c.index-owners-own.result h.there in
    let later : Owner = record was { sides = c.take_out.new.sides } in
    let rest : later.sides.items ≡ set h.own.sides.items place Spent = c.take_out.ensures.rest ∙ ap (λ (o : Owner). set o.sides.items place Spent) same in
    let spent = else_spent place h.own later h.inside rest (ap (λ (o : Owner). o.number) same) (ap (λ (o : Owner). o.reached) same) (ap (λ (o : Owner). o.taken) same) (ap (λ (o : Owner). o.from) same) in
    same_after place c.args.own owners c.collect.new.owners h.own later h.there spent.0 c.collect.ensures.owners
