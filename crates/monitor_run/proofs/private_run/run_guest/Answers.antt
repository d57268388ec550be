use Rattle.std.proofs.Common.{◌∙◌, ap, sym, subst, ℕ, length}
use Rattle.std.specs.Prelude.{All}
use Rattle.std.proofs.lemmas.List.{length-replicate}
use Rattle.private_machine.specs.PrivateMachine.{PrivateMachine}
use Rattle.monitor_run.specs.Alone.{MayRun}
use Rattle.monitor_run.proofs.private_run.run_guest.Goals as goal

pub run_items-requires : goal.run_items-requires
run_items-requires c =
    let count = ap (λ (m : PrivateMachine). length m.vcpus) c.in_ok-flat.ensures ∙ length-replicate c.args.spec.now.vcpus _ in
    subst (λ (n : ℕ). All (MayRun c.args.guest n) c.args.items.now) (sym count) c.requires.items
