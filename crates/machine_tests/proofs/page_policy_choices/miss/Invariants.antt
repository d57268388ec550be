use Rattle.page_policy.specs.Pages.{AreCounters}
use Rattle.machine_tests.proofs.page_policy_choices.miss.Given as goal

abbrev pub invariant-loop : goal.invariant-loop
invariant-loop l = AreCounters 3 3 l.counters
