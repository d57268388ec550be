-- Where the step at hand leads, and what it does with a page, where no interrupt is due and the word at the program counter is known.
use Rattle.std.proofs.Common.{◌≡◌, ℕ, Bool, false, if◌then◌else◌, Ok, Err, ap, ◌∙◌}
use Rattle.base_words.specs.declared.exception.Exception.TheVariants.{Interrupt}
use Rattle.base_words.specs.declared.regs.Regs.{Regs}
use Rattle.base_words.specs.Coprocessor.{in_user_mode, interrupts}
use Rattle.base_words.specs.Instruction.{effect}
use Rattle.base_words.specs.OpcodeMap.{decoded}
use Rattle.private_machine.specs.DeviceAct.{NoAct}
use Rattle.private_machine.specs.OwnStep.{fetched, is_usable, usable, executed, decided, attempted}
use Rattle.private_machine.specs.PrivateMachine.{PrivateMachine, vcpu}
use Rattle.private_machine.specs.StepAct.{act_executed, act_decided, act_next}
use Rattle.trap_emulate.specs.Emulation.{tried}

pub tried-word : (m : PrivateMachine) (v word : ℕ) (regs : Regs) → interrupts (vcpu m v).cp0 ≡ false → fetched m v ≡ Ok word → (vcpu m v).registers ≡ regs
    → tried m v ≡ executed m v (usable (is_usable word (in_user_mode (vcpu m v).cp0.status)) (effect (decoded word) regs))
tried-word m v word regs line holds same =
    ap (λ (b : Bool). if b then Err Interrupt else attempted m v) line
    ∙ ap (decided m v) holds
    ∙ ap (λ (r : Regs). executed m v (usable (is_usable word (in_user_mode (vcpu m v).cp0.status)) (effect (decoded word) r))) same

pub act_next-word : (m : PrivateMachine) (v word : ℕ) (regs : Regs) → interrupts (vcpu m v).cp0 ≡ false → fetched m v ≡ Ok word → (vcpu m v).registers ≡ regs
    → act_next m v ≡ act_executed m v (usable (is_usable word (in_user_mode (vcpu m v).cp0.status)) (effect (decoded word) regs))
act_next-word m v word regs line holds same =
    ap (λ (b : Bool). if b then NoAct else act_decided m v (fetched m v)) line
    ∙ ap (act_decided m v) holds
    ∙ ap (λ (r : Regs). act_executed m v (usable (is_usable word (in_user_mode (vcpu m v).cp0.status)) (effect (decoded word) r))) same
