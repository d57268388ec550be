use Rattle.cell_depend.proofs.Using.{used_where_counted, used_by_counters}
use Rattle.cell_depend.proofs.law.used_where_counted.Goals as goal

pub returns-clause-plain : goal.returns-clause-plain
returns-clause-plain c = used_where_counted

pub returns-clause-kept : goal.returns-clause-kept
returns-clause-kept c = used_by_counters
