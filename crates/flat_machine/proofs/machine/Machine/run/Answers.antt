-- Steps ahead are so many more, and a step is one.
use Rattle.std.proofs.Common.{◌≡◌, ◌+◌, ℕ, Result, Ok, Err, OnErr, length, replicate, ap, sym, ◌∙◌, arith}
use Rattle.base_words.specs.declared.ids.VcpuId.{VcpuId}
use Rattle.base_words.specs.declared.events.OwnEvent.TheVariants.{Step}
use Rattle.private_machine.specs.OwnStep.{own_step}
use Rattle.private_machine.specs.PrivateMachine.{PrivateMachine}
use Rattle.private_machine.specs.PrivateRun.{private_run}
use Rattle.flat_machine.specs.FlatView.{machine_of}
use Rattle.flat_machine.proofs.WindowLemmas.{run-again}
use Rattle.flat_machine.proofs.StretchLemmas.{run-more}
use Rattle.flat_machine.proofs.machine.Machine.run.Goals as goal

-- so many steps, and so many more
more : (m k n : PrivateMachine) (made some : ℕ) (v : VcpuId) → k ≡ private_run m (replicate made (Step v)) → n ≡ private_run k (replicate some (Step v)) → n ≡ private_run m (replicate (made + some) (Step v))
more m k n made some v before goes = goes ∙ ap (λ (w : PrivateMachine). private_run w (replicate some (Step v))) before ∙ sym (run-more m made some (Step v))

abbrev count-of : PrivateMachine → ℕ
count-of m = length m.vcpus

on-err : {A E : Type 0} (r : Result A E) (P : Type 0) → P → OnErr r P
on-err (Ok x) P p = tt
on-err (Err x) P p = p

pub loop-made-preserved : goal.loop-made-preserved
loop-made-preserved c =
    let before = c.loop-made.invariant in
    let goes = c.run_ahead-made.ensures in
    let few = goes.few in
    let was = before.few in
    record {
      sound = goes.sound;
      count = goes.count ∙ ap count-of c.look_ahead.ensures.same ∙ before.count;
      window = goes.window;
      ready = goes.ready;
      few = omega (arith, few, was);
      made = more (machine_of c.args.self.now) (machine_of c.look_ahead.new.self) (machine_of c.run_ahead-made.new.self) c.loop-made.made c.run_ahead-made.result c.args.vcpu (c.look_ahead.ensures.same ∙ before.made) goes.made;
    }

pub loop-made-preserved-then-made-steps : goal.loop-made-preserved-then-made-steps
loop-made-preserved-then-made-steps c =
    let before = c.loop-made.invariant in
    let goes = c.run_ahead-made.ensures in
    let made = c.loop-made.made + c.run_ahead-made.result in
    let less = c.if-made-steps.true in
    let so = more (machine_of c.args.self.now) (machine_of c.look_ahead.new.self) (machine_of c.run_ahead-made.new.self) c.loop-made.made c.run_ahead-made.result c.args.vcpu (c.look_ahead.ensures.same ∙ before.made) goes.made in
    record {
      sound = c.own_step.ensures.sound;
      count = c.own_step.ensures.count ∙ goes.count ∙ ap count-of c.look_ahead.ensures.same ∙ before.count;
      window = c.own_step.ensures.window;
      ready = c.own_step.ensures.ready;
      few = omega (arith, less);
      made = c.in_ok-own_step.ensures.stepped ∙ ap (λ (w : PrivateMachine). own_step w c.args.vcpu.0) so ∙ sym (run-again (machine_of c.args.self.now) made (Step c.args.vcpu));
    }

pub returns-in_err-own_step-clause-wants : goal.returns-in_err-own_step-clause-wants
returns-in_err-own_step-clause-wants c =
    let before = c.loop-made.invariant in
    let goes = c.run_ahead-made.ensures in
    let so = more (machine_of c.args.self.now) (machine_of c.look_ahead.new.self) (machine_of c.run_ahead-made.new.self) c.loop-made.made c.run_ahead-made.result c.args.vcpu (c.look_ahead.ensures.same ∙ before.made) goes.made in
    on-err c.from_residual-in_err-own_step.result _ (c.loop-made.made + c.run_ahead-made.result, c.if-made-steps.true, c.in_err-own_step.ensures.refused ∙ so)

pub returns-in_err-look_ahead-clause-wants : goal.returns-in_err-look_ahead-clause-wants
returns-in_err-look_ahead-clause-wants c = on-err c.from_residual.result _ (c.loop-made.made, c.loop-made-test.true, c.look_ahead.ensures.same ∙ c.loop-made.invariant.made)
