use Rattle.std.proofs.Common.{List, ◌++◌, ◌∷◌, [], sym, ap, ◌∙◌, append_assoc}
use Rattle.boot_frames.specs.Claims.{cache_claim, cache_claims}
use Rattle.boot_frames.specs.declared.claims.Claim.{Claim}
use Rattle.boot_frames.proofs.ClaimLemmas.{caches-push}
use Rattle.boot_frames.proofs.claiming.push_caches.Goals as goal

pub loop-cell-preserved : goal.loop-cell-preserved
loop-cell-preserved c =
    let start = c.args.claims.now.items in
    let cache = c.args.cache in
    let k = c.loop-cell.cell in
    c.in_ok-push.ensures.items ∙ ap (λ (l : List Claim). l ++ cache_claim cache k ∷ []) c.loop-cell.invariant
    ∙ append_assoc start (cache_claims cache 0 k) (cache_claim cache k ∷ []) ∙ ap (λ (l : List Claim). start ++ l) (sym (caches-push cache k))
