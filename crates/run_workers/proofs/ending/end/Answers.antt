use Rattle.std.proofs.Common.{rules, ◌≡◌, None, Some, sym, ap, ◌∙◌, subst}
use Rattle.base_words.specs.declared.events.End.TheVariants.{Budget}
use Rattle.isolation_law.specs.GuestState.{GuestState}
use Rattle.guest_core.specs.GuestView.{Monitored, IsSameGuest, shared_by}
use Rattle.guest_core.specs.MoveCalls.{EndsByPlan}
use Rattle.guest_core.specs.Wiring.{IsWired, Posted}
use Rattle.wire_queue.specs.declared.lists.PassList.{PassList}
use Rattle.run_workers.specs.Ending.{EndsSo}
use Rattle.run_workers.proofs.EndLemmas.{has-left, none-of, some-of, ends-so, ends-by-plan, ended-before}
use Rattle.run_workers.proofs.SettledLemmas.{are-of}
use Rattle.run_workers.proofs.ending.end.Goals.{then-is_none+in_ok-make_room, else-is_none}
use Rattle.run_workers.proofs.ending.end.Goals as goal

pub returns-clause-left : goal.returns-clause-left
returns-clause-left c =
    let same : IsSameGuest c.args.guest c.if-is_none.guest = elim c.if-is_none.branch [
      | then-is_none+in_ok-make_room w ↦ search rules
      | else-is_none w ↦ search rules
    ] in
    let is = c.into_record-record.ensures in
    let ends : EndsSo c.args.guest c.if-is_none.guest.state c.into_record-record.result.2 = elim c.if-is_none.branch [
      | then-is_none+in_ok-make_room w ↦ ends-by-plan c.args.guest w.make_room.new.self c.if-is_none.guest c.into_record-record.result.2
          (is.passes ∙ ap (λ (m : Monitored). m.passes) w.guest-is ∙ w.end_budget.ensures.passes ∙ w.make_room.ensures.passes) w.make_room.ensures.stays.state (sym c.end.ensures.end ∙ none-of c.end.result w.if-is_none.ensures)
          (subst (λ (m : Monitored). EndsByPlan w.make_room.new.self m) (sym w.guest-is) w.end_budget.ensures.ends)
      | else-is_none w ↦ subst (λ (m : Monitored). EndsSo c.args.guest m.state c.into_record-record.result.2) (sym w.guest-is)
          (ended-before c.args.guest c.into_record-record.result.2 (is.passes ∙ ap (λ (m : Monitored). m.passes) w.guest-is) c.requires.goes_on)
    ] in
    has-left c.isolation_from.ensures.around c.args.guest c.if-is_none.guest c.into_record-record.result.0 c.into_record-record.result.2 c.into_record-record.result.3 ends same is.left is.journal is.seat is.notes is.sides
    (subst (λ (l : PassList). IsWired c.if-is_none.guest.wires l c.if-is_none.guest.start.around) (sym is.passes) is.wired) (subst (Posted c.if-is_none.guest.state c.if-is_none.guest.journal) (sym is.passes) is.posted)

pub end_budget-requires-clause-shared : goal.end_budget-requires-clause-shared
end_budget-requires-clause-shared c = are-of (shared_by c.args.resources.now) c.args.guest c.make_room.new.self c.in_ok-make_room.ensures.same c.requires.shared

pub end_budget-requires-clause-not_ended : goal.end_budget-requires-clause-not_ended
end_budget-requires-clause-not_ended c = ap (λ (s : GuestState). s.end) c.in_ok-make_room.ensures.stays.state ∙ sym c.end.ensures.end ∙ none-of c.end.result c.if-is_none.ensures

pub into_record-record-requires : goal.into_record-record-requires
into_record-record-requires c = λ none. elim c.if-is_none.branch [
  | then-is_none+in_ok-make_room w ↦
      let ends = w.end_budget.ensures.ends in
      let ended = ends-so 0 ends.mid.pages ends.mid w.end_budget.new.self.state ends.ends in
      let both : None ≡ Some Budget = sym none ∙ ap (λ (m : Monitored). m.state.end) w.guest-is ∙ ended in
      absurd cc
  | else-is_none w ↦ some-of c.end.result w.if-is_none.ensures (c.end.ensures.end ∙ ap (λ (m : Monitored). m.state.end) (sym w.guest-is) ∙ none)
]
