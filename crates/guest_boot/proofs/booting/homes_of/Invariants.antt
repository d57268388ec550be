use Rattle.std.proofs.Common.{◌≡◌, map, take}
use Rattle.guest_boot.specs.Booting.{home_in}
use Rattle.guest_boot.proofs.booting.homes_of.Given as goal

abbrev pub invariant-loop-spec : goal.invariant-loop-spec
invariant-loop-spec l = map (λ c. c.0) l.homes ≡ map (home_in l.machine) (take l.spec-index l.spec-items)
