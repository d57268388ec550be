-- From the start.
use Rattle.std.proofs.Common.{List, refl, subst}
use Rattle.base_words.specs.declared.events.Event.{Event}
use Rattle.private_machine.specs.PrivateMachine.{PrivateMachine}
use Rattle.private_machine.specs.PrivateRun.{private_run}
use Rattle.isolation_law.specs.GuestState.{GuestState}
use Rattle.isolation_law.specs.Content.{content}
use Rattle.isolation_law.specs.Isolation.{Isolated}
use Rattle.isolation_law.specs.OwnHistory.{own}
use Rattle.isolation_law.specs.Run.{Run}
use Rattle.isolation_law.specs.Start.{Boot, IsBoot, private_start, start}
use Rattle.isolation_law.proofs.LawProofs.{Kept, run_kept, run-mirrors, start_kept}
use Rattle.isolation_law.proofs.LiveRuns.{run-live, start-live}
use Rattle.isolation_law.proofs.StartProofs.{start_coherent, start_content}

pub isolated : (b : Boot) (journal : List Event) (t : GuestState) → IsBoot b → Run (start b) journal t → Isolated b journal t
isolated b journal t is run =
    let s = start b in
    let kept : Kept t (private_run (private_start b) (own t.received journal)) =
    subst (λ (m : PrivateMachine). Kept t (private_run m (own t.received journal))) (start_content b is) (run_kept s t journal (content s) (start_kept s (start_coherent b is)) refl run) in
    record { coherent = λ on. record { consistent = kept.coherent on; mirrors = run-mirrors s t journal refl run }; uses_live = run-live s t journal (start-live b) run; same = kept.same; console = kept.console; sent = kept.sent }
