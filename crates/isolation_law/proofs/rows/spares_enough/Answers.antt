-- By the count of pages that need a spare.
use Rattle.std.proofs.Common.{◌≡◌, ℕ, cond, arith, ap, Bool}
use Rattle.private_machine.specs.Backing.{no_page}
use Rattle.isolation_law.specs.GuestState.{page}
use Rattle.isolation_law.specs.PageRules.{needs_spare}
use Rattle.isolation_law.proofs.Lists.{count_by-set}
use Rattle.isolation_law.proofs.rows.spares_enough.Goals as goal

pub returns : goal.returns
returns c s q co lt needs =
    let one : cond {A = ℕ} (needs_spare (page s q)) 1 0 ≡ 1 = ap (λ (b : Bool). cond {A = ℕ} b 1 0) needs in
    let without = count_by-set needs_spare s.pages q no_page no_page lt in
    let enough = co.consistent.enough in
    omega (arith, one, without, enough)
