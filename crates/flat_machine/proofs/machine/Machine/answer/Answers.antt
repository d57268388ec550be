use Rattle.std.proofs.Common.{Ok, ap, sym, ◌∙◌}
use Rattle.base_words.specs.Coprocessor.{register_at, writes}
use Rattle.base_words.specs.Instruction.{advanced}
use Rattle.mips_alu.specs.Execution.{passed_system}
use Rattle.private_machine.specs.Vcpu.{with_registers, with_cp0, system_done}
use Rattle.private_machine.specs.PrivateMachine.{vcpu}
use Rattle.flat_machine.specs.FlatView.{machine_of}
use Rattle.flat_machine.proofs.MachineLemmas.{on_vcpu-twice}
use Rattle.flat_machine.proofs.machine.Machine.answer.Goals as goal

pub returns-in-Load-clause-attempts : goal.returns-in-Load-clause-attempts
returns-in-Load-clause-attempts c = rw c.in-Load.is c.load.ensures.attempts

pub returns-in-Store-clause-attempts : goal.returns-in-Store-clause-attempts
returns-in-Store-clause-attempts c = rw c.in-Store.is c.store.ensures.attempts

pub returns-in-WriteCp0-clause-attempts : goal.returns-in-WriteCp0-clause-attempts
returns-in-WriteCp0-clause-attempts c =
    let m = machine_of c.args.self.now in
    let v = c.args.vcpu.0 in
    rw c.in-WriteCp0.is (ap Ok (on_vcpu-twice m v (with_registers (advanced (vcpu m v).registers))
    (λ x. with_cp0 (writes x.cp0 (register_at c.in-WriteCp0.number) c.in-WriteCp0.value) x) c.requires.there ∙ sym c.write_cp0.ensures.written))

pub returns-in-System-clause-attempts : goal.returns-in-System-clause-attempts
returns-in-System-clause-attempts c =
    let m = machine_of c.args.self.now in
    let v = c.args.vcpu.0 in
    rw c.in-System.is (ap Ok (on_vcpu-twice m v (with_registers (passed_system c.in-System.op (vcpu m v).registers))
    (system_done c.in-System.op) c.requires.there ∙ sym c.do_system.ensures.done))

pub returns-in-Err-clause-attempts : goal.returns-in-Err-clause-attempts
returns-in-Err-clause-attempts c = rw (c.in-LoadLinked.is) c.in-Err.ensures.attempts

pub returns-in-Err-store_conditional-clause-attempts : goal.returns-in-Err-store_conditional-clause-attempts
returns-in-Err-store_conditional-clause-attempts c = rw (c.in-StoreConditional.is) c.in-Err-store_conditional.ensures.attempts
