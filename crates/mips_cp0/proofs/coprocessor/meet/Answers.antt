-- The timer comes.
use Rattle.std.proofs.Common.{if◌then◌else◌, true, ap, sym, ◌∙◌, eq-eqb}
use Rattle.base_words.specs.Fields.{sum}
use Rattle.base_words.specs.Coprocessor.{with_timer, next_random}
use Rattle.mips_cp0.proofs.coprocessor.meet.Goals as goal

pub returns : goal.returns
returns c =
    let r = c.args.registers.now in
    ap (λ n. record r { random = n; count = sum r.count 1; cause = with_timer true r.cause }) c.random_after-registers.ensures
    ∙ ap (λ b. record r { random = next_random r.random r.wired; count = sum r.count 1; cause = if b then with_timer true r.cause else r.cause }) (sym (eq-eqb (sum r.count 1) r.compare c.requires))
