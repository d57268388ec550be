-- By the row on failures, and row by row.
use Rattle.std.proofs.Common.{Bool, None, if◌then◌else◌, Some, ap, ◌∙◌}
use Rattle.isolation_law.specs.GuestState.{GuestState}
use Rattle.isolation_law.specs.CellFailure.{end_by}
use Rattle.isolation_law.proofs.cells.cell_failure.Goals as goal
use Rattle.isolation_law.proofs.LiveCellProofs.{owes-by-use}
use Rattle.isolation_law.proofs.CellRuns.{by-failure-alone, row-as}

pub returns-clause-used : goal.returns-clause-used
returns-clause-used c s t k on row used = owes-by-use s t k on row ∙ ap (λ (b : Bool). if b then Some (end_by k) else None) used

pub returns-clause-unused : goal.returns-clause-unused
returns-clause-unused c s t k on row unused = record {
  not_ended = ap (λ (x : GuestState). x.end) row.after ∙ on.not_ended;
  owes_no_end = owes-by-use s t k on row ∙ ap (λ (b : Bool). if b then Some (end_by k) else None) unused;
}

pub returns-clause-alone : goal.returns-clause-alone
returns-clause-alone c = by-failure-alone

pub returns-clause-due : goal.returns-clause-due
returns-clause-due c = row-as

pub returns-clause-comes : goal.returns-clause-comes
returns-clause-comes c s t k row = row.may.1
