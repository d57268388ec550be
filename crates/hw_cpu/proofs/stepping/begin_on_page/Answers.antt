-- What is asked of a register is passed and waited for as it would be.
use Rattle.std.proofs.Common.{Bool, Ok, sym, subst}
use Rattle.base_words.specs.declared.effect.Request.{Request}
use Rattle.base_words.specs.Instruction.{effect}
use Rattle.base_words.specs.OpcodeMap.{decoded}
use Rattle.mips_alu.specs.Execution.{Executes}
use Rattle.private_machine.specs.RegisterPage.{opened}
use Rattle.hw_cpu.proofs.PageLemmas.{executes_opened, executes-closed}
use Rattle.hw_cpu.proofs.stepping.begin_on_page.Goals as goal

pub returns-in-Ok : goal.returns-in-Ok
returns-in-Ok c =
    let old = c.args.regs.now in
    let new = c.begin_paged.new.regs in
    let does = effect (decoded c.args.word) old in
    let executed : Executes does old new (Ok c.in-Ok.request) = c.in-Ok.ensures in
    subst (λ (r : Request). Executes (opened c.args.is_open does) old new (Ok r)) (sym c.redirected.ensures) (executes_opened c.args.is_open does old new c.in-Ok.request executed)

pub returns-then-not-paged : goal.returns-then-not-paged
returns-then-not-paged c =
    let old = c.args.regs.now in
    let new = c.begin.new.regs in
    let does = effect (decoded c.args.word) old in
    subst (λ (b : Bool). Executes (opened b does) old new c.begin.result) (sym (c.requires.closed c.if-not-paged.true)) (executes-closed does old new c.begin.result c.begin.ensures)
