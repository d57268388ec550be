use Rattle.std.proofs.Common.{List, length, sym, ◌∙◌, subst}
use Rattle.std.proofs.lemmas.Result.{err_from_is_err_and}
use Rattle.node_frames.specs.Left.{Left}
use Rattle.boot_frames.specs.Chain.{first_short, Tells}
use Rattle.boot_frames.specs.Claims.{claims_of}
use Rattle.boot_frames.specs.Counts.{counted_left}
use Rattle.boot_frames.specs.declared.claims.Claim.{Claim}
use Rattle.boot_frames.specs.declared.claims.Taker.TheVariants.{Cache}
use Rattle.boot_frames.proofs.AdmitLemmas.{admits_more}
use Rattle.boot_frames.proofs.ChainLemmas.{tells_later}
use Rattle.boot_frames.proofs.ClaimLemmas.{Homes, claims_home}
use Rattle.boot_frames.proofs.admitting.admit.Goals as goal
use Rattle.node_frames.specs.Layout.{layout_of}

abbrev none : Claim
none = record { taker = Cache (record { 0 = 0 }); frames = 0 }

pub admit_claim-requires-clause-home : goal.admit_claim-requires-clause-home
admit_claim-requires-clause-home c =
    let layout = layout_of c.args.shape.now in
    let claims = c.as_slice-claim-items.ensures.value ∙ c.in_ok-claims.ensures in
    subst (Homes layout) (sym claims) (claims_home layout (length c.args.lends.now) c.args.cache c.args.needs.now c.requires.nodes) c.loop-claim.claim-index none c.loop-claim-test.true

pub returns-in_err-admit_claim : goal.returns-in_err-admit_claim
returns-in_err-admit_claim c =
    let layout = (layout_of c.args.shape.now) in
    let i = c.loop-claim.invariant in
    let fault = c.in_err-admit_claim.field-0.0 in
    let claims = c.as_slice-claim-items.ensures.value ∙ c.in_ok-claims.ensures in
    let told = tells_later layout c.as_slice-claim-items.result.now c.loop-claim.claim-index none (counted_left layout c.all-counts.result) (counted_left layout c.loop-claim.counts) fault
    c.loop-claim-test.true i.0 i.1 c.in_err-admit_claim.ensures.exactly in
    let here = subst (λ (l : Left). Tells (first_short layout (claims_of (length c.args.lends.now) c.args.cache c.args.needs.now) l) fault) c.all-counts.ensures
    (subst (λ (l : List Claim). Tells (first_short layout l (counted_left layout c.all-counts.result)) fault) claims told) in
    let p = err_from_is_err_and c.from_residual-in_err-admit_claim.result c.from_residual-in_err-admit_claim.ensures.1 in
    record { exactly = rw (p.1, p.2) here }

pub loop-claim-preserved : goal.loop-claim-preserved
loop-claim-preserved c =
    let layout = (layout_of c.args.shape.now) in
    let i = c.loop-claim.invariant in
    admits_more layout c.as_slice-claim-items.result.now c.loop-claim.claim-index none (counted_left layout c.all-counts.result) (counted_left layout c.loop-claim.counts) (counted_left layout c.admit_claim.new.counts)
    c.loop-claim-test.true i.0 i.1 c.in_ok-admit_claim.ensures.exactly c.in_ok-admit_claim.ensures.left
