-- One virtual processor of a machine is changed.
use Rattle.std.proofs.Common.{◌≡◌, ℕ, ◌<◌, List, length, get_or, set, ap, sym, ◌∙◌}
use Rattle.std.proofs.lemmas.List.{get_or-set_same, get_or_default, set-set}
use Rattle.private_machine.specs.declared.vcpu.Vcpu.{Vcpu}
use Rattle.private_machine.specs.Vcpu.{no_vcpu}
use Rattle.private_machine.specs.DevicePage.{DevicePage}
use Rattle.private_machine.specs.PrivateMachine.{PrivateMachine, vcpu, on_vcpu}
use Rattle.trap_emulate.specs.GuestView.{machine_of}

-- it is changed twice
pub on_vcpu-twice : (m : PrivateMachine) (v : ℕ) (f g : Vcpu → Vcpu) → v < length m.vcpus → on_vcpu (on_vcpu m v f) v g ≡ on_vcpu m v (λ c. g (f c))
on_vcpu-twice m v f g there =
    let x = f (vcpu m v) in
    ap (λ y. record m { vcpus = set (set m.vcpus v x) v (g y) }) (get_or-set_same m.vcpus v x no_vcpu there)
    ∙ ap (λ ys. record m { vcpus = ys }) (set-set m.vcpus v x (g x))

-- it becomes the one that the code wrote
pub on_vcpu-is : (pages : ℕ) (vcpus : List Vcpu) (page : DevicePage) (memory : List ℕ) (disk : List (List ℕ)) (v : ℕ) (f : Vcpu → Vcpu) (new kept : Vcpu)
    → v < length vcpus → new ≡ f (get_or vcpus v kept) → on_vcpu (machine_of pages vcpus page memory disk) v f ≡ machine_of pages (set vcpus v new) page memory disk
on_vcpu-is pages vcpus page memory disk v f new kept there is =
    ap (λ y. machine_of pages (set vcpus v y) page memory disk) (ap f (get_or_default vcpus v no_vcpu kept there) ∙ sym is)
