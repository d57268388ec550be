use Rattle.guest_boot.proofs.BootLemmas.{source-at, sources-count}
use Rattle.guest_boot.proofs.laws.sources_are_their_guests.Goals as goal

pub returns-clause-count : goal.returns-clause-count
returns-clause-count c = sources-count

pub returns-clause-each : goal.returns-clause-each
returns-clause-each c = source-at
