-- By why a half isn't writable.
use Rattle.isolation_law.proofs.rows.read_only_needs.Goals as goal
use Rattle.isolation_law.proofs.ReadOnlyProofs.{read-only}

pub returns : goal.returns
returns c s p v word w offset co = read-only s p v word w offset co.consistent
