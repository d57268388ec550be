-- No virtual processor halts by a step of which an act was left.
use Rattle.std.proofs.Common.{◌≡◌, ℕ, zero, suc, ◌&&◌, Bool, true, List, [], ◌∷◌, map, refl, ap, ◌∙◌}
use Rattle.private_machine.specs.declared.vcpu.Vcpu.{Vcpu}
use Rattle.private_machine.specs.Vcpu.{with_line_on, ticking}
use Rattle.private_machine.specs.DevicePage.{DevicePage}
use Rattle.private_machine.specs.Links.{unlinked_page}
use Rattle.private_machine.specs.Signals.{changed}
use Rattle.isolation_law.specs.Phases.{all_halted}
use Rattle.guest_course.specs.declared.task.Task.{Task}
use Rattle.guest_course.specs.declared.task.Task.TheVariants as tasks
use Rattle.guest_course.specs.Joining.{waits_for, lined_if, lined}
use Rattle.guest_course.specs.LeavingCalls.{passing, passed, left_vcpus}
use Rattle.guest_course.specs.Tasks.{done_vcpus}
use Rattle.guest_course.proofs.JoinLemmas.{by-first}

halted-changed : (f : Vcpu → Vcpu) → ((c : Vcpu) → (f c).halted ≡ c.halted) → (v : ℕ) (cs : List Vcpu) → all_halted (changed v f cs) ≡ all_halted cs
halted-changed f same v [] = refl
halted-changed f same zero (c ∷ cs) = ap (λ (b : Bool). b && all_halted cs) (same c)
halted-changed f same (suc v) (c ∷ cs) = ap (λ (b : Bool). c.halted && b) (halted-changed f same v cs)

pub halted-unlinked : (q : ℕ) (cs : List Vcpu) → all_halted (map (unlinked_page q) cs) ≡ all_halted cs
halted-unlinked q [] = refl
halted-unlinked q (c ∷ cs) = ap (λ (b : Bool). c.halted && b) (halted-unlinked q cs)

pub halted-lined : (cs : List Vcpu) → all_halted (changed 0 (with_line_on 3 true) cs) ≡ all_halted cs
halted-lined [] = refl
halted-lined (c ∷ cs) = refl

joined-halted : (v : ℕ) (waits : Bool) (cs : List Vcpu) → all_halted (lined v waits cs) ≡ all_halted cs
joined-halted v waits cs = by-first (λ n b. all_halted (lined_if b waits cs) ≡ all_halted cs) v (halted-changed (with_line_on 2 waits) (λ c. refl) 0 cs) refl

done-halted : (task : Task) (cs : List Vcpu) → all_halted (done_vcpus task cs) ≡ all_halted cs
done-halted (tasks.Refuse status) cs = refl
done-halted (tasks.Read block q) cs = halted-unlinked q.0 cs
done-halted (tasks.Write block q) cs = refl
done-halted (tasks.Take q) cs = halted-unlinked q.0 cs
done-halted (tasks.Send parcel) cs = refl
done-halted tasks.Skip cs = refl

pub left-halted : (v : ℕ) (task : Task) (cs : List Vcpu) (page : DevicePage) → all_halted (left_vcpus v task cs page) ≡ all_halted cs
left-halted v task cs page =
    halted-changed ticking (λ c. refl) v (done_vcpus task (passed v cs page)) ∙ done-halted task (passed v cs page)
    ∙ halted-changed passing (λ c. refl) v (lined v (waits_for cs page) cs) ∙ joined-halted v (waits_for cs page) cs
