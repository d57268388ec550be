-- By each entry, and over a journal.
use Rattle.isolation_law.proofs.law.halts_stay.Goals as goal
use Rattle.isolation_law.proofs.HaltProofs.{row-keep, run-keep, direct-runs, emulated-runs}
use Rattle.isolation_law.proofs.LoadedProofs.{row-loading}
use Rattle.isolation_law.proofs.WorldsProofs.{row-count}

pub returns-clause-row : goal.returns-clause-row
returns-clause-row c s t e v row halted = row-keep s t e row v halted

pub returns-clause-run : goal.returns-clause-run
returns-clause-run c s t journal v run halted = run-keep s t journal run v halted

pub returns-clause-no_step : goal.returns-clause-no_step
returns-clause-no_step c = direct-runs

pub returns-clause-no_emulated_step : goal.returns-clause-no_emulated_step
returns-clause-no_emulated_step c = emulated-runs

pub returns-clause-count : goal.returns-clause-count
returns-clause-count c = row-count

pub returns-clause-processors : goal.returns-clause-processors
returns-clause-processors c s t e row = (row-loading s t e row).count

pub returns-clause-loaded : goal.returns-clause-loaded
returns-clause-loaded c s t e r row = (row-loading s t e row).loaded r
