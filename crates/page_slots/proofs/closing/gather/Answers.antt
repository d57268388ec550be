use Rattle.std.proofs.Common.{◌≡◌, ◌∙◌, ◌++◌, ◌∷◌, [], List, sym, ap, subst, All, append_assoc}
use Rattle.std.specs.Vec.Iter.{into_iter_items}
use Rattle.std.proofs.lemmas.List.Elements.{All-head, All-tail}
use Rattle.page_slots.specs.Slots.{CallerState}
use Rattle.page_slots.specs.Steps.{Own}
use Rattle.page_slots.proofs.Moves.{meets}
use Rattle.page_slots.proofs.GatheringLemmas.{joined-more}
use Rattle.page_slots.proofs.closing.gather.Goals as goal

pub join_seat-requires : goal.join_seat-requires
join_seat-requires c =
    let i = c.loop-caller.invariant in
    let IsOf = λ (x : CallerState). x.slots ≡ c.args.pages.now.table_id in
    let all = subst (λ (l : List CallerState). All IsOf l) c.in-Some.ensures.steps.0 i.3 in (
      i.2 ∙ c.requires.table.0,
      ap (λ (x : CallerState). x.slots) c.caller.view_is ∙ All-head IsOf c.in-Some.caller (into_iter_items c.next.new.self) all,
      ap (λ (m : Own). m.1) c.caller.invariant.list,
      c.requires.table.1,
      meets _ _ _ _ _ (ap (λ (m : Own). m.0.held) c.caller.invariant.list),
    )

pub loop-caller-preserved : goal.loop-caller-preserved
loop-caller-preserved c =
    let i = c.loop-caller.invariant in
    let IsOf = λ (x : CallerState). x.slots ≡ c.args.pages.now.table_id in
    let x = c.in-Some.caller in
    let rest = into_iter_items c.next.new.self in
    let done = i.4.0 in (
      tt,
      tt,
      c.join_seat.ensures.0 ∙ i.2,
      All-tail IsOf x rest (subst (λ (l : List CallerState). All IsOf l) c.in-Some.ensures.steps.0 i.3),
      (
        done ++ x ∷ [],
        append_assoc done (x ∷ []) rest ∙ ap (λ l. done ++ l) (sym c.in-Some.ensures.steps.0) ∙ i.4.1,
        joined-more _ done c.caller.inside x _ _ i.4.2 c.caller.view_is c.caller.invariant c.join_seat.ensures.2,
      ),
    )
