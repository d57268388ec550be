-- An end that is owed stays owed while pages are let go for it, whatever they held.
use Rattle.std.proofs.Common.{Bool, true, false, None, ◌≡◌, ℕ, Option, Some, ap, ◌∙◌}
use Rattle.std.specs.Prelude.{unwrap_or, if◌then◌else◌}
use Rattle.isolation_law.specs.EndRows.{LetsGo}
use Rattle.isolation_law.specs.GuestState.{GuestState}
use Rattle.isolation_law.specs.Phases.{owed, all_halted}
use Rattle.base_words.specs.declared.events.End.{End}
use Rattle.base_words.specs.declared.events.End.TheVariants.{Budget, Halted}

pub stays-owed : (s t : GuestState) (q : ℕ) (end : End) → LetsGo s q t → owed s ≡ Some end → owed t ≡ Some end
stays-owed s t q end row is = ap owed row.after ∙ by (all_halted s.vcpus) s.closing is
  where
    by : (b : Bool) (o : Option End) → (if b then Some Halted else o) ≡ Some end → (if b then Some Halted else Some (unwrap_or (if b then Some Halted else o) Budget)) ≡ Some end
    by true o e = e
    by false None e = cc
    by false (Some x) e = e
