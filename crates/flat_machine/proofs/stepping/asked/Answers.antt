-- What is asked of a register is passed and waited for as it would be.
use Rattle.std.proofs.Common.{Ok, sym, subst}
use Rattle.base_words.specs.declared.effect.Request.{Request}
use Rattle.base_words.specs.declared.instr.Instr.{Instr}
use Rattle.base_words.specs.Instruction.{effect}
use Rattle.base_words.specs.OpcodeMap.{decoded}
use Rattle.mips_alu.specs.Execution.{Executes}
use Rattle.private_machine.specs.RegisterPage.{opened}
use Rattle.flat_machine.proofs.AskedLemmas.{executes_opened}
use Rattle.flat_machine.proofs.stepping.asked.Goals as goal

pub returns-in-Ok : goal.returns-in-Ok
returns-in-Ok c =
    let old = c.args.regs.now in
    let new = c.execute.new.regs in
    let does = effect (decoded c.args.word) old in
    let executed : Executes does old new (Ok c.in-Ok.request) = subst (λ (i : Instr). Executes (effect i old) old new (Ok c.in-Ok.request)) c.decode.ensures c.in-Ok.ensures in
    subst (λ (r : Request). Executes (opened c.args.is_open does) old new (Ok r)) (sym c.redirected.ensures) (executes_opened c.args.is_open does old new c.in-Ok.request executed)
