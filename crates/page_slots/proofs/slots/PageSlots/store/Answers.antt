use Rattle.std.proofs.Common.{refl, ap, ◌∙◌}
use Rattle.page_slots.specs.declared.access.Entry.{Entry}
use Rattle.page_slots.specs.Slots.{with_access}
use Rattle.page_slots.proofs.Accesses.{caller-longer, still-caller}
use Rattle.page_slots.proofs.slots.PageSlots.store.Goals as goal

pub invariant_of-caller-2 : goal.invariant_of-caller-2
invariant_of-caller-2 g c =
    still-caller c.caller.inside c.caller.invariant c.store-entry.result _ _ _ _ c.in_ok-kept.ensures.ok c.put.ensures.put _ refl refl c.saturating_add-caller-inside.ensures

pub returns-clause-ok : goal.returns-clause-ok
returns-clause-ok g c =
    caller-longer c.caller.inside c.caller.invariant c.store-entry.result _ _ _ _ c.in_ok-kept.ensures.ok c.put.ensures.put _ _ c.args.caller.now c.caller.view_is refl (c.put.ensures.table ∙ c.in_ok-kept.ensures.table)
    ∙ ap (λ (e : Entry). with_access c.args.caller.now e.access) c.store-entry.ensures.entry
