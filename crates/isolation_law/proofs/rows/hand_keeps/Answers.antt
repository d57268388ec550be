-- The rule says nothing of what is in hand but its length and its place.
use Rattle.std.proofs.Common.{ap}
use Rattle.isolation_law.specs.GuestState.{GuestState}
use Rattle.isolation_law.proofs.rows.hand_keeps.Goals as goal
use Rattle.isolation_law.proofs.SmallRows as small
use Rattle.isolation_law.proofs.LiveCellProofs.{hand-live}
use Rattle.isolation_law.proofs.MirrorProofs.{hand-mirrors}

pub returns-clause-coherent : goal.returns-clause-coherent
returns-clause-coherent c s t co row = record { consistent = small.hand_keeps s t co.consistent row; mirrors = hand-mirrors s t co.mirrors row }

pub returns-clause-uses_live : goal.returns-clause-uses_live
returns-clause-uses_live c = hand-live

pub returns-clause-same : goal.returns-clause-same
returns-clause-same c = small.hand_content

pub returns-clause-around : goal.returns-clause-around
returns-clause-around c s t row = ap (λ (x : GuestState). x.around) row.after
