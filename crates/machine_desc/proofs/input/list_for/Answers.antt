use Rattle.std.proofs.Common.{rules}
use Rattle.std.proofs.lemmas.List.Sorted.{answers_always}
use Rattle.machine_desc.specs.Input.{at_of}
use Rattle.machine_desc.proofs.input.list_for.Goals as goal

pub returns : goal.returns
returns c =
    let sort = c.in_ok-sort_by_key.ensures in
    let in_order = sort.sorted at_of (answers_always _ _ _ (λ f a r g h. search rules)) in
    let ties = sort.stable at_of (answers_always _ _ _ (λ f a r g h. search rules)) in
    rw c.from_vec.ensures (record {
      same = rw c.in_ok-entries.ensures at sort.permutation;
      in_order = in_order;
      ties = rw c.in_ok-entries.ensures at ties;
    })
