use Rattle.std.proofs.Common.{◌≡◌, ◌+◌, List, [], ◌∷◌, ◌++◌, take, get_or, sym, ◌∙◌, subst}
use Rattle.std.proofs.lemmas.List.{take_more}
use Rattle.std.proofs.lemmas.Result.{err_from_is_err_and}
use Rattle.node_frames.specs.Left.{left_of}
use Rattle.boot_frames.specs.Takings.{TakesAll}
use Rattle.boot_frames.specs.declared.claims.Claim.{Claim}
use Rattle.boot_frames.specs.declared.claims.Taker.TheVariants.{Cache}
use Rattle.boot_frames.specs.declared.taken.Taken.{Taken}
use Rattle.boot_frames.proofs.ChainLemmas.{tells_later}
use Rattle.boot_frames.proofs.TakeLemmas.{takes_more}
use Rattle.boot_frames.proofs.filling.take_all.Goals as goal
use Rattle.node_frames.specs.Layout.{layout_of}

abbrev none : Claim
none = record { taker = Cache (record { 0 = 0 }); frames = 0 }

pub returns-in_err-take_for-clause-short : goal.returns-in_err-take_for-clause-short
returns-in_err-take_for-clause-short c =
    let layout = (layout_of c.args.shape.now) in
    let left = left_of layout c.args.table.now.terms.lends c.args.holder.now.view in
    let i = c.loop-claim.invariant.1 in
    let told = tells_later layout c.args.claims.now c.loop-claim.claim-index none left _ c.in_err-take_for.field-0.0 c.loop-claim-test.true i.none i.after c.in_err-take_for.ensures.short in
    let p = err_from_is_err_and c.from_residual.result c.from_residual.ensures.1 in
    rw (p.1, p.2) told

pub loop-claim-preserved : goal.loop-claim-preserved
loop-claim-preserved c =
    let table = c.args.table.now in
    let layout = (layout_of c.args.shape.now) in
    let claims = c.args.claims.now in
    let k = c.loop-claim.claim-index in
    let n : Claim = get_or claims k none in
    let t : Taken = c.in_ok-take_for.field-0 in
    let i = c.loop-claim.invariant.1 in
    let grown : c.push.new.self.items ≡ c.loop-claim.taken.items ++ t ∷ [] = c.in_ok-push.ensures.items in
    let more = takes_more table layout (take k claims) c.loop-claim.taken.items n t _ _ _ i c.in_ok-take_for.ensures.none c.in_ok-take_for.ensures.home c.in_ok-take_for.ensures.taken in (
      c.take_for.ensures.same ∙ c.loop-claim.invariant.0,
      subst (λ (ts : List Taken). TakesAll table layout (take (k + 1) claims) ts c.args.holder.now.view c.take_for.new.holder.view) (sym grown)
          (subst (λ (ns : List Claim). TakesAll table layout ns (c.loop-claim.taken.items ++ t ∷ []) c.args.holder.now.view c.take_for.new.holder.view) (sym (take_more claims k none c.loop-claim-test.true)) more),
    )
