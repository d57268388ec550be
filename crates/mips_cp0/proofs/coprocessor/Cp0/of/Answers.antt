-- No step was done since.
use Rattle.std.proofs.Common.{rules, ◌≡◌, ◌<◌, ap, arith}
use Rattle.base_words.specs.Fields.{sum}
use Rattle.mips_cp0.proofs.coprocessor.Cp0.of.Goals as goal

pub returns : goal.returns
returns c =
    let r = c.args.registers in
    let within : r.count < 4294967296 = search rules in
    ap (λ n. record r { count = n }) (let e : sum r.count 0 ≡ r.count = omega arith in e)
