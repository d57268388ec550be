-- What a guest leaves are its ends of the wires of the run.
use Rattle.std.proofs.Common.{sym, ◌∙◌, subst}
use Rattle.wire_queue.specs.Between.{Made}
use Rattle.wire_queue.specs.PassLists.{IsListOf}
use Rattle.wire_queue.specs.declared.lists.PassList.{PassList}
use Rattle.guest_tests.proofs.lane.Lane.finish.Goals as goal

pub returns : goal.returns
returns g c =
    let is = c.into_record-record.ensures in
    subst (λ (m : Made). IsListOf m c.into_record-record.result.2) (c.end_by_plan.ensures.same.wires ∙ c.requires.wires) (subst (λ (l : PassList). IsListOf c.end_by_plan.new.guest.wires l) (sym is.passes) is.wired.list)
