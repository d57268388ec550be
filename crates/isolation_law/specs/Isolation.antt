-- The law over all journals: wherever one leads, the guest is its private machine after its own events.
use Rattle.std.specs.Prelude.{◌≡◌, List, None}
use Rattle.base_words.specs.declared.events.Event.{Event}
use Rattle.private_machine.specs.PrivateMachine.{PrivateMachine}
use Rattle.private_machine.specs.PrivateRun.{private_run}
use Rattle.isolation_law.specs.GuestState.{GuestState}
use Rattle.isolation_law.specs.Content.{content}
use Rattle.isolation_law.specs.Coherence.{Coherent}
use Rattle.isolation_law.specs.LiveCells.{UsesLive}
use Rattle.isolation_law.specs.OwnHistory.{own}
use Rattle.isolation_law.specs.Run.{Run}
use Rattle.isolation_law.specs.Start.{Boot, IsBoot, private_start, start}

-- the private machine from which a guest starts, after the own events of a journal
abbrev pub private_after : Boot → GuestState → List Event → PrivateMachine
private_after b t journal = private_run (private_start b) (own t.received journal)

-- until its end a guest is coherent, and what it sees is its private machine; it uses no failed cell but that of its end; and
-- what it printed and sent is for good what the private machine printed and sent
pub record Isolated (b : Boot) (journal : List Event) (t : GuestState) : Type 0 where
  pub coherent : t.end ≡ None → Coherent t
  pub uses_live : UsesLive t
  pub same : t.end ≡ None → content t ≡ private_after b t journal
  pub console : t.devices.console ≡ (private_after b t journal).devices.console
  pub sent : t.devices.sent ≡ (private_after b t journal).devices.sent

abbrev pub IsolationHolds : Type 0
IsolationHolds = (b : Boot) (journal : List Event) (t : GuestState) → IsBoot b → Run (start b) journal t → Isolated b journal t
