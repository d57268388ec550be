use Rattle.std.proofs.Common.{◌<◌, List, ◌∙◌, subst, arith}
use Rattle.std.proofs.lemmas.Option.{slice_get_within}
use Rattle.boot_frames.specs.Chain.{after_claims}
use Rattle.boot_frames.specs.Claims.{cache_claim, cache_claims}
use Rattle.boot_frames.specs.Lots.{Serves}
use Rattle.boot_frames.specs.declared.claims.Claim.{Claim}
use Rattle.boot_frames.proofs.ClaimLemmas.{length-caches, cache_at, take-caches}
use Rattle.boot_frames.proofs.LotLemmas.{length-lots, lot_at}
use Rattle.boot_frames.proofs.law.each_cell_has_its_lot.Goals as goal

pub returns-clause-all : goal.returns-clause-all
returns-clause-all c = λ table layout left cache cells lots all. length-lots table layout left (cache_claims cache 0 cells) lots all ∙ length-caches cache 0 cells

pub returns-clause-each : goal.returns-clause-each
returns-clause-each c = λ table layout left cache cells lots all cell lot at.
    let count = length-lots table layout left (cache_claims cache 0 cells) lots all ∙ length-caches cache 0 cells in
    let below = slice_get_within lots cell lot at in
    let within : cell < cells = omega arith in
    subst (λ (l : List Claim). Serves table layout (after_claims layout l left) (cache_claim cache cell) lot) (take-caches cache 0 cells cell (omega arith))
    (lot_at table layout left (cache_claims cache 0 cells) lots all cell (cache_claim cache cell) lot (cache_at cache cells cell within) at)
