use Rattle.std.proofs.Common.{◌≡◌, ◌++◌, take}
use Rattle.boot_frames.specs.Claims.{page_claims}
use Rattle.boot_frames.proofs.claiming.push_pages.Given as goal

abbrev pub invariant-loop-number : goal.invariant-loop-number
invariant-loop-number l = l.claims.items ≡ l.initial.claims.items ++ page_claims 0 (take l.number l.needs)
