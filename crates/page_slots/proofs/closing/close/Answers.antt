use Rattle.std.proofs.Common.{◌≡◌, ◌∙◌, sym, ap, subst, arith}
use Rattle.std.specs.Vec.Iter.{into_iter_items}
use Rattle.page_slots.specs.Closing.{AreHistoriesOf}
use Rattle.page_slots.specs.Slots.{MadeSlots}
use Rattle.page_slots.specs.declared.protocol.Terms.{Terms}
use Rattle.page_slots.proofs.ClosingLemmas.{all_home, all_told}
use Rattle.page_slots.proofs.GatheringLemmas.{all_joined, others_are, first_is_of}
use Rattle.page_slots.proofs.closing.close.Goals as goal

pub gather-requires-clause-table : goal.gather-requires-clause-table
gather-requires-clause-table c =
    let all = sym (c.into_iter-others.ensures.rest ∙ c.into_vec.ensures) ∙ c.in-Some.ensures.cases.0 in
    let words = c.slots.invariant.words in
    let some_pages = c.slots.invariant.some in (
      first_is_of c.args.slots _ c.args.callers (into_iter_items c.next.new.self) c.in-Some.first c.first.inside c.requires all (sym (ap (λ (m : MadeSlots). m.id) c.slots.view_is)) c.first.view_is,
      omega arith,
    )

pub gather-requires-clause-callers : goal.gather-requires-clause-callers
gather-requires-clause-callers c =
    let all = sym (c.into_iter-others.ensures.rest ∙ c.into_vec.ensures) ∙ c.in-Some.ensures.cases.0 in
    others_are c.args.slots _ c.args.callers (into_iter_items c.next.new.self) c.in-Some.first c.requires all (sym (ap (λ (m : MadeSlots). m.id) c.slots.view_is))

pub close_with-closed-requires : goal.close_with-closed-requires
close_with-closed-requires c =
    let all = sym (c.into_iter-others.ensures.rest ∙ c.into_vec.ensures) ∙ c.in-Some.ensures.cases.0 in
    c.gather.ensures.table
    ∙ first_is_of c.args.slots _ c.args.callers (into_iter_items c.next.new.self) c.in-Some.first c.first.inside c.requires all (sym (ap (λ (m : MadeSlots). m.id) c.slots.view_is)) c.first.view_is

pub take_all-histories-requires-clause-home : goal.take_all-histories-requires-clause-home
take_all-histories-requires-clause-home c =
    let all = sym (c.into_iter-others.ensures.rest ∙ c.into_vec.ensures) ∙ c.in-Some.ensures.cases.0 in
    let joined = all_joined c.first.inside c.in-Some.first (into_iter_items c.next.new.self) c.args.callers _ c.first.view_is c.first.invariant all c.gather.ensures.joined in
    let known = c.slots.invariant.known in
    let pages : c.slots.inside.table.shared.key.pages ≡ c.slots.inside.terms.pages = ap (λ (t : Terms). t.pages) known in
    let callers = sym (ap (λ (m : MadeSlots). m.callers) c.slots.view_is) ∙ sym (ap (λ (t : Terms). t.callers) known) in
    λ p less. all_home _ c.args.slots c.args.callers _ _ joined.0 _ _ c.close_with-closed.ensures.values.2 joined.2 joined.1 c.requires callers p (omega arith)

pub returns : goal.returns
returns c =
    let all = sym (c.into_iter-others.ensures.rest ∙ c.into_vec.ensures) ∙ c.in-Some.ensures.cases.0 in
    let joined = all_joined c.first.inside c.in-Some.first (into_iter_items c.next.new.self) c.args.callers _ c.first.view_is c.first.invariant all c.gather.ensures.joined in
    let known = c.slots.invariant.known in
    let callers = sym (ap (λ (m : MadeSlots). m.callers) c.slots.view_is) ∙ sym (ap (λ (t : Terms). t.callers) known) in
    let pages = sym (ap (λ (m : MadeSlots). m.pages) c.slots.view_is) ∙ sym (ap (λ (t : Terms). t.pages) known) in
    subst (AreHistoriesOf c.args.slots c.args.callers) (sym c.from_vec.ensures)
    (all_told _ c.args.slots c.args.callers _ _ joined.0 _ _ c.close_with-closed.ensures.values.2 joined.2 joined.1 c.requires callers
    c.take_all-histories.result.items c.take_all-histories.ensures.taken (c.take_all-histories.ensures.count ∙ sym (ap (λ (t : Terms). t.pages) known)) pages)
