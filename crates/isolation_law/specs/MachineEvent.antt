-- The entries of a guest's journal: where each may come, and what it changes. What a row doesn't name stays.
use Rattle.std.specs.Prelude.{◌⊎◌}
use Rattle.base_words.specs.declared.events.Event.{Event}
use Rattle.base_words.specs.declared.events.Event.TheVariants.{Direct, Refill, Emulate, Begin, Ack, Finish, Load, Unload, PacketIn, Discard, Skip, CellFails, End as Ending}
use Rattle.isolation_law.specs.GuestState.{GuestState}
use Rattle.isolation_law.specs.EndRows.{CellFailsIn, LetsGo, Ends}
use Rattle.isolation_law.specs.LoadRows.{Loads, Unloads, Acks}
use Rattle.isolation_law.specs.MoveRows.{Begins, Finishes}
use Rattle.isolation_law.specs.PacketRows.{Receives, EndsDelivery, Discards}
use Rattle.isolation_law.specs.RefillRow.{Refills}
use Rattle.isolation_law.specs.SkipRow.{Skips}
use Rattle.isolation_law.specs.StepRows.{Steps, Emulates, EndsRead}

-- the state before, the entry, and the state after
abbrev pub Row : GuestState → Event → GuestState → Type 0
Row s (Load p v) t = Loads s p.0 v.0 t
Row s (Unload p) t = Unloads s p.0 t
Row s (Direct p v) t = Steps s p.0 v.0 t
Row s (Refill p) t = Refills s p.0 t
Row s (Emulate p v) t = Emulates s p.0 v.0 t ⊎ EndsRead s p.0 v.0 t
Row s (Begin q kind node by) t = Begins s q.0 kind node.0 by t
Row s (Ack p q) t = Acks s p.0 q.0 t
Row s (Finish q) t = Finishes s q.0 t ⊎ LetsGo s q.0 t
Row s (PacketIn k) t = Receives s k t ⊎ EndsDelivery s k t
Row s (Discard k) t = Discards s k t
Row s (Skip k) t = Skips s k t
Row s (CellFails c) t = CellFailsIn s c.0 t
Row s (Ending end) t = Ends s end t
