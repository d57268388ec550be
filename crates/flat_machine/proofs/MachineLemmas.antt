-- Accesses that change a virtual processor twice, as the code changes it once.
use Rattle.std.proofs.Common.{◌≡◌, ℕ, ◌%◌, ◌<◌, length, set, true, false, Option, Some, None, Ok, ap, sym, ◌∙◌, arith}
use Rattle.std.proofs.lemmas.List.{get_or-set_same, set-set}
use Rattle.base_words.specs.declared.place.Place.TheVariants.{Memory}
use Rattle.base_words.specs.Memory.{word_at}
use Rattle.base_words.specs.Instruction.{advanced, with_register}
use Rattle.private_machine.specs.declared.vcpu.Vcpu.{Vcpu}
use Rattle.private_machine.specs.Vcpu.{no_vcpu, with_registers, with_link}
use Rattle.private_machine.specs.PrivateMachine.{PrivateMachine, vcpu, on_vcpu, left}
use Rattle.private_machine.specs.Links.{line_of, is_linked, word_offset, word_around, written}
use Rattle.private_machine.specs.Access.{linked_load, if_linked, conditional_store}
use Rattle.flat_machine.proofs.SoundLemmas.{length-unlinked_others, unlinked_others-own}

-- a virtual processor is changed twice
pub on_vcpu-twice : (m : PrivateMachine) (v : ℕ) (f g : Vcpu → Vcpu) → v < length m.vcpus → on_vcpu (on_vcpu m v f) v g ≡ on_vcpu m v (λ c. g (f c))
on_vcpu-twice m v f g there =
    let x = f (vcpu m v) in
    ap (λ y. record m { vcpus = set (set m.vcpus v x) v (g y) }) (get_or-set_same m.vcpus v x no_vcpu there)
    ∙ ap (λ ys. record m { vcpus = ys }) (set-set m.vcpus v x (g x))

-- an aligned offset is its word's
pub word_offset-aligned : (offset : ℕ) → offset % 4 % 4 ≡ 0 → word_offset offset ≡ offset
word_offset-aligned offset aligned = omega (arith, aligned)

-- what is put into a register where a line is linked, or none
abbrev pub put_with : Option ℕ → ℕ → ℕ → Vcpu → Vcpu
put_with line target value c = with_link line (with_registers (with_register (advanced c.registers) target value) c)

pub linked_load-once : (m : PrivateMachine) (v target offset word line : ℕ) → v < length m.vcpus → offset % 4 % 4 ≡ 0 → word ≡ word_around m offset → line ≡ line_of offset
    → linked_load m v (advanced (vcpu m v).registers) target (Ok (Memory offset)) ≡ Ok (on_vcpu m v (put_with (Some line) target word))
linked_load-once m v target offset word line there aligned is_word is_line =
    let same : word_at m.memory offset ≡ word = ap (word_at m.memory) (sym (word_offset-aligned offset aligned)) ∙ sym is_word in
    ap (λ w. Ok (on_vcpu (left m v (with_register (advanced (vcpu m v).registers) target w)) v (with_link (Some (line_of offset))))) same
    ∙ ap (λ l. Ok (on_vcpu (left m v (with_register (advanced (vcpu m v).registers) target word)) v (with_link (Some l)))) (sym is_line)
    ∙ ap Ok (on_vcpu-twice m v (with_registers (with_register (advanced (vcpu m v).registers) target word)) (with_link (Some line)) there)

-- the one that stores keeps its place
pub vcpu-written : (m : PrivateMachine) (v offset word : ℕ) → v < length m.vcpus → vcpu (written m v offset word) v ≡ vcpu m v
vcpu-written m v offset word there = unlinked_others-own (line_of offset) v m.vcpus there

pub stored_if-once : (m : PrivateMachine) (v target value offset : ℕ) → v < length m.vcpus → is_linked (vcpu m v).link (line_of offset) ≡ true
    → conditional_store m v (advanced (vcpu m v).registers) target value (Ok (Memory offset)) ≡ Ok (on_vcpu (written m v offset value) v (put_with None target 1))
stored_if-once m v target value offset there links =
    let w = written m v offset value in
    let own = vcpu-written m v offset value there in
    let below : v < length w.vcpus = omega (arith, there, length-unlinked_others (line_of offset) v m.vcpus) in
    ap (λ b. Ok (if_linked b m v (advanced (vcpu m v).registers) target value offset)) links
    ∙ ap Ok (on_vcpu-twice w v (with_registers (with_register (advanced (vcpu m v).registers) target 1)) (with_link None) below)
    ∙ ap (λ c. Ok (on_vcpu w v (λ x. with_link None (with_registers (with_register (advanced c.registers) target 1) x)))) (sym own)

pub stored_not-once : (m : PrivateMachine) (v target value offset : ℕ) → v < length m.vcpus → is_linked (vcpu m v).link (line_of offset) ≡ false
    → conditional_store m v (advanced (vcpu m v).registers) target value (Ok (Memory offset)) ≡ Ok (on_vcpu m v (put_with None target 0))
stored_not-once m v target value offset there links =
    ap (λ b. Ok (if_linked b m v (advanced (vcpu m v).registers) target value offset)) links
    ∙ ap Ok (on_vcpu-twice m v (with_registers (with_register (advanced (vcpu m v).registers) target 0)) (with_link None) there)
