use Rattle.std.proofs.Common.{◌≡◌, ◌+◌, ◌-◌, take, drop, ap, arith}
use Rattle.flat_machine.proofs.memory.page_from.Goals as goal

pub returns : goal.returns
returns c =
    let start = c.args.start in
    let long : start + 4096 - start ≡ 4096 = omega arith in
    ap (λ k. take k (drop start c.args.memory.now)) long
