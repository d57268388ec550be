-- A step is made by what was prepared, the act and the tick.
use Rattle.std.proofs.Common.{◌<◌, ◌-◌, ℕ, length, ap, sym, ◌∙◌, subst, arith}
use Rattle.std.proofs.lemmas.List.{length-set}
use Rattle.private_machine.specs.Vcpu.{space_of}
use Rattle.private_machine.specs.PrivateMachine.{PrivateMachine, vcpu}
use Rattle.guest_devs.specs.Quiet.{AreQuiet}
use Rattle.flat_machine.specs.FlatView.{machine_of}
use Rattle.flat_machine.specs.declared.window.KeptPages.{KeptPages}
use Rattle.flat_machine.specs.Windows.{AreKept}
use Rattle.flat_machine.proofs.CountLemmas.{acted-count}
use Rattle.flat_machine.proofs.WindowLemmas.{quiet-after, running-after, kept-after}
use Rattle.flat_machine.proofs.machine.Machine.own_step.Goals as goal

pub tick-requires-clause-there : goal.tick-requires-clause-there
tick-requires-clause-there c =
    let count = λ (m : PrivateMachine). length m.vcpus in
    let acted = ap count c.act-change.ensures.acted ∙ acted-count (machine_of c.prepare-quiet.new.self) c.args.vcpu.0 in
    omega (arith, acted ∙ c.prepare-quiet.ensures.count ∙ ap count c.in_ok-starts.ensures.same, c.requires.there)

pub returns-in-Memory-clause-window : goal.returns-in-Memory-clause-window
returns-in-Memory-clause-window c =
    let count = λ (m : PrivateMachine). length m.vcpus in
    let v = c.args.vcpu.0 in
    let m : PrivateMachine = machine_of c.prepare-quiet.new.self in
    let k : PrivateMachine = machine_of c.act-change.new.self in
    let before = c.prepare-quiet.ensures.window in
    let acted = ap count c.act-change.ensures.acted ∙ acted-count m v in
    let there : v < length k.vcpus = omega (arith, acted ∙ c.prepare-quiet.ensures.count ∙ ap count c.in_ok-starts.ensures.same, c.requires.there) in
    let keeps = c.act-change.ensures.keeps c.in-Memory.is in
    let quiet = quiet-after c.quiet_steps_pass.ensures c.prepare-quiet.new.window.quiet v m k there keeps before.quiet in
    let pages : KeptPages = record c.prepare-quiet.new.window.pages { fetched = c.act-change.new.fetched } in
    let kept = kept-after m k v pages there keeps (record { fetched = c.act-change.ensures.fetched; loaded = before.kept.loaded; stored = before.kept.stored }) in
    let less = c.saturating_sub-window.ensures in
    record {
      quiet = subst (λ (n : ℕ). AreQuiet n v (machine_of c.tick.new.self).vcpus (machine_of c.tick.new.self).devices) (sym c.saturating_sub-window.ensures)
          (subst (λ (x : PrivateMachine). AreQuiet (c.prepare-quiet.new.window.quiet - 1) v x.vcpus x.devices) (sym c.tick.ensures.ticked) quiet);
      running = λ some. ap (λ (x : PrivateMachine). (vcpu x v).halted) c.tick.ensures.ticked ∙ running-after m k v there keeps (before.running (omega (arith, less, some)));
      kept = subst (λ (x : PrivateMachine). AreKept (space_of (vcpu x v)) x.pages pages) (sym c.tick.ensures.ticked) kept;
    }

pub returns-in-Machine-clause-count : goal.returns-in-Machine-clause-count
returns-in-Machine-clause-count c =
    let count = λ (m : PrivateMachine). length m.vcpus in
    ap count c.tick.ensures.ticked ∙ length-set c.act-change.new.self.vcpus.items c.args.vcpu.0 _
    ∙ ap count c.act-change.ensures.acted ∙ acted-count (machine_of c.prepare-quiet.new.self) c.args.vcpu.0
    ∙ c.prepare-quiet.ensures.count ∙ ap count c.in_ok-starts.ensures.same
