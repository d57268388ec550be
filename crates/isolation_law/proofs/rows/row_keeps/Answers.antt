-- A row is a run of one entry.
use Rattle.std.proofs.Common.{inl, refl, [], ◌∷◌}
use Rattle.isolation_law.specs.Content.{content}
use Rattle.isolation_law.proofs.rows.row_keeps.Goals as goal
use Rattle.isolation_law.proofs.LawProofs.{run_kept, run_coherent, start_kept}
use Rattle.isolation_law.proofs.LiveCellProofs.{row-live}
use Rattle.isolation_law.proofs.AroundProofs.{row-around}

pub returns-clause-coherent : goal.returns-clause-coherent
returns-clause-coherent c s t e co row = run_coherent s t (e ∷ []) co (s, t, inl refl, row, inl refl)

pub returns-clause-uses_live : goal.returns-clause-uses_live
returns-clause-uses_live c = row-live

pub returns-clause-same : goal.returns-clause-same
returns-clause-same c s t e co row = (run_kept s t (e ∷ []) (content s) (start_kept s co.consistent) co.mirrors (s, t, inl refl, row, inl refl)).same

pub returns-clause-console : goal.returns-clause-console
returns-clause-console c s t e co row = (run_kept s t (e ∷ []) (content s) (start_kept s co.consistent) co.mirrors (s, t, inl refl, row, inl refl)).console

pub returns-clause-sent : goal.returns-clause-sent
returns-clause-sent c s t e co row = (run_kept s t (e ∷ []) (content s) (start_kept s co.consistent) co.mirrors (s, t, inl refl, row, inl refl)).sent

pub returns-clause-around : goal.returns-clause-around
returns-clause-around c = row-around
