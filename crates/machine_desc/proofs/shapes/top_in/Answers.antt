use Rattle.std.proofs.lemmas.Result.{err_from_is_err_and}
use Rattle.machine_desc.specs.Shapes.{top_at}
use Rattle.machine_desc.proofs.shapes.top_in.Goals as goal

pub returns-in_err-input-clause-top : goal.returns-in_err-input-clause-top
unfolding top_at
returns-in_err-input-clause-top c =
    let p = err_from_is_err_and c.from_residual-in_err-input.result c.from_residual-in_err-input.ensures.1 in
    rw (p.1, p.2)
    (λ memory. rw (c.in_ok-only.ensures, c.in_ok-machine.ensures, c.in_ok-cells.ensures.cell, c.in_ok-guests.ensures.cell, c.in_ok-policy.ensures, c.in_ok-work.ensures.cell, c.in_err-input.ensures.cell memory))
