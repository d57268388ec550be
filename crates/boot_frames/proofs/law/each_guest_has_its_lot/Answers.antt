use Rattle.std.proofs.Common.{List, ◌∙◌, subst}
use Rattle.boot_frames.specs.Chain.{after_claims}
use Rattle.boot_frames.specs.Claims.{page_claim, page_claims}
use Rattle.boot_frames.specs.Lots.{Serves}
use Rattle.boot_frames.specs.declared.claims.Claim.{Claim}
use Rattle.boot_frames.proofs.ClaimLemmas.{length-pages, page_at, take-pages}
use Rattle.boot_frames.proofs.LotLemmas.{length-lots, lot_at}
use Rattle.boot_frames.proofs.law.each_guest_has_its_lot.Goals as goal

pub returns-clause-all : goal.returns-clause-all
returns-clause-all c = λ table layout left needs lots all. length-lots table layout left (page_claims 0 needs) lots all ∙ length-pages 0 needs

pub returns-clause-each : goal.returns-clause-each
returns-clause-each c = λ table layout left needs lots all guest need lot is at.
    subst (λ (l : List Claim). Serves table layout (after_claims layout l left) (page_claim guest need) lot) (take-pages 0 needs guest)
    (lot_at table layout left (page_claims 0 needs) lots all guest (page_claim guest need) lot (page_at needs guest need is) at)
