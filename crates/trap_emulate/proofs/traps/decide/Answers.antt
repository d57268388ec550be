use Rattle.std.proofs.Common.{◌∙◌}
use Rattle.trap_emulate.proofs.TryLemmas.{tried-word, act_next-word}
use Rattle.trap_emulate.proofs.traps.decide.Goals as goal

pub returns-in-Privileged-clause-decides : goal.returns-in-Privileged-clause-decides
returns-in-Privileged-clause-decides c m v at line holds =
    let off = rw c.in-Privileged.is at line in
    let word = rw c.in-Privileged.is at holds in (
      tried-word m v c.in-Privileged.word c.args.vcpu.now.registers off word at.registers ∙ c.privileged.ensures.done m v c.args.standing.now.pages at,
      act_next-word m v c.in-Privileged.word c.args.vcpu.now.registers off word at.registers ∙ c.privileged.ensures.acts m v c.args.standing.now.pages at,
    )
