use Rattle.std.proofs.Common.{◌≡◌, Bool, true, set, refl, sym, ◌∙◌, subst}
use Rattle.std.proofs.lemmas.List.{get_or_default}
use Rattle.base_words.specs.Instruction.{effect}
use Rattle.base_words.specs.OpcodeMap.{decoded}
use Rattle.base_words.specs.Coprocessor.{in_user_mode}
use Rattle.private_machine.specs.declared.vcpu.Vcpu.{Vcpu}
use Rattle.private_machine.specs.OwnStep.{is_usable, usable}
use Rattle.private_machine.specs.PrivateMachine.{PrivateMachine, vcpu, is_open, left}
use Rattle.private_machine.specs.RegisterPage.{opened}
use Rattle.private_machine.specs.Vcpu.{no_vcpu, with_registers}
use Rattle.mips_alu.specs.Execution.{Executes}
use Rattle.flat_machine.specs.Attempts.{Begins}
use Rattle.flat_machine.specs.FlatView.{machine_of}
use Rattle.flat_machine.proofs.AskedLemmas.{begins-opened}
use Rattle.flat_machine.proofs.SoundLemmas.{IsSound-with_item}
use Rattle.flat_machine.proofs.machine.Machine.begin.Goals as goal

pub returns-clause-sound : goal.returns-clause-sound
returns-clause-sound c = IsSound-with_item c.args.self.now c.args.vcpu.0 _ c.index_mut.result.now c.requires.sound c.index_mut.ensures.value refl

-- the virtual processor that begins, and what is left of it
pub returns-clause-begins : goal.returns-clause-begins
returns-clause-begins c =
    let m = machine_of c.args.self.now in
    let v = c.args.vcpu.0 in
    let old = c.index_mut.result.now in
    let new = c.asked.new.regs in
    let here : old ≡ vcpu m v = c.index_mut.ensures.value ∙ get_or_default m.vcpus v old no_vcpu c.requires.there in
    let goes : Begins m v (effect (decoded c.args.word) (vcpu m v).registers) (left m v new) c.asked.result =
    begins-opened m v (effect (decoded c.args.word) (vcpu m v).registers) new c.asked.result c.requires.there
    (subst (λ (x : Vcpu). Executes (opened (is_open m v) (effect (decoded c.args.word) x.registers)) x.registers new c.asked.result) here
    (subst (λ (b : Bool). Executes (opened b (effect (decoded c.args.word) old.registers)) old.registers new c.asked.result) c.is_open-is_open.ensures c.asked.ensures)) in
    let left_so : PrivateMachine = record m { vcpus = set m.vcpus v (with_registers new old) } in
    let may : is_usable c.args.word (in_user_mode (vcpu m v).cp0.status) ≡ true = sym c.is_usable.ensures ∙ c.if-not-is_usable.false in
    subst (λ (b : Bool). Begins m v (usable b (effect (decoded c.args.word) (vcpu m v).registers)) left_so c.asked.result) (sym may)
    (subst (λ (n : PrivateMachine). Begins m v (effect (decoded c.args.word) (vcpu m v).registers) n c.asked.result) (λ i. record m { vcpus = set m.vcpus v (with_registers new (sym here i)) }) goes)
