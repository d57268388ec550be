-- How many virtual processors there are, before and after an own step.
use Rattle.std.proofs.Common.{◌≡◌, ℕ, false, List, length, map, sym, ap, ◌∙◌, length-set}
use Rattle.std.proofs.lemmas.List.{length-map}
use Rattle.base_words.specs.declared.tlb.Entry.{Entry}
use Rattle.private_machine.specs.declared.vcpu.Vcpu.{Vcpu}
use Rattle.private_machine.specs.DeviceAct.{Act, StoresTo, ReadsDisk, WritesDisk, SendsPage, WritesEntry, NoAct}
use Rattle.private_machine.specs.OwnStep.{own_step, joined}
use Rattle.private_machine.specs.PrivateMachine.{PrivateMachine}
use Rattle.isolation_law.specs.GuestState.{GuestState, vcpu_of}
use Rattle.isolation_law.specs.Content.{content}
use Rattle.isolation_law.specs.StepAct.{at_hand}
use Rattle.isolation_law.proofs.DirectContent.{tlbs-joined}
use Rattle.isolation_law.proofs.TlbEffects.{tlbs, Left, step-left}

pub by-tlbs : (cs ds : List Vcpu) → map (λ c. c.tlb) cs ≡ map (λ c. c.tlb) ds → length cs ≡ length ds
by-tlbs cs ds same = sym (length-map cs (λ c. c.tlb)) ∙ ap length same ∙ length-map ds (λ c. c.tlb)

left-count : (m n : PrivateMachine) (v : ℕ) (act : Act) → Left m v act n → length (tlbs n) ≡ length (tlbs m)
left-count m n v (StoresTo q) left = ap length left.tlbs_same
left-count m n v (ReadsDisk b q) left = ap length left.tlbs_same
left-count m n v (WritesDisk b q) left = ap length left.tlbs_same
left-count m n v (SendsPage q length to) left = ap (λ (l : List (List Entry)). Rattle.std.specs.Prelude.length l) left.tlbs_same
left-count m n v (WritesEntry index) left = ap length left.tlbs_other ∙ length-set (tlbs m) v _
left-count m n v NoAct left = ap length left.tlbs_same

pub own-count : (s : GuestState) (v : ℕ) → (vcpu_of s v).halted ≡ false → length (own_step (content s) v).vcpus ≡ length s.vcpus
own-count s v running =
    sym (length-map (own_step (content s) v).vcpus (λ c. c.tlb))
    ∙ left-count (joined (content s) v) (own_step (content s) v) v (at_hand s v) (step-left (content s) v running)
    ∙ ap length (tlbs-joined (content s) v)
    ∙ length-map s.vcpus (λ c. c.tlb)
