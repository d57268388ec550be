-- The virtual processor that is loaded may step.
use Rattle.std.proofs.Common.{◌≡◌, ◌<◌, Option, Some, None, false, is_some, length, refl, ap, sym, ◌∙◌}
use Rattle.std.proofs.lemmas.List.{get_or_default}
use Rattle.private_machine.specs.Vcpu.{no_vcpu}
use Rattle.private_machine.specs.declared.vcpu.Vcpu.{Vcpu}
use Rattle.guest_course.specs.CourseView.{state_of}
use Rattle.guest_core.proofs.parts.Parts.runs_next.Goals as goal

not-some : {A : Type 0} (x : Option A) → is_some x ≡ false → x ≡ None
not-some None e = refl
not-some (Some a) e = cc

pub returns-clause-runs : goal.returns-clause-runs
returns-clause-runs c =
    let s = state_of c.args.self.now.course in
    let v = c.in-Some.vcpu in
    let there : v.0 < length s.vcpus = c.requires.kept.sound.loaded c.number-2.result.0 v.0 (sym c.in-Some.ensures) in
    record {
      not_ended = not-some _ (sym c.is_some.ensures ∙ c.if-is_some.false);
      running = ap (λ (x : Vcpu). x.halted) (get_or_default s.vcpus v.0 no_vcpu c.index.result.now there ∙ sym c.index.ensures) ∙ c.if-index.false;
    }
