use Rattle.std.proofs.Common.{◌≡◌, ◌++◌}
use Rattle.boot_frames.specs.Claims.{cache_claims}
use Rattle.boot_frames.proofs.claiming.push_caches.Given as goal

abbrev pub invariant-loop-cell : goal.invariant-loop-cell
invariant-loop-cell l = l.claims.items ≡ l.initial.claims.items ++ cache_claims l.cache 0 l.cell
