use Rattle.std.proofs.Common.{◌≡◌, List, ◌++◌, ◌∷◌, [], length, take, get_or, sym, ap, ◌∙◌, append_assoc, arith}
use Rattle.std.proofs.lemmas.List.{take_more, length-take}
use Rattle.boot_frames.specs.Claims.{page_claim, page_claims}
use Rattle.boot_frames.specs.declared.claims.Claim.{Claim}
use Rattle.boot_frames.specs.declared.needs.Need.{Need}
use Rattle.boot_frames.proofs.ClaimLemmas.{pages-push}
use Rattle.boot_frames.proofs.claiming.push_pages.Goals as goal

abbrev none : Need
none = record { node = record { 0 = 0 }; pages = 0 }

pub loop-number-preserved : goal.loop-number-preserved
loop-number-preserved c =
    let start = c.args.claims.now.items in
    let needs = c.args.needs.now in
    let k = c.loop-number.number in
    let need : Need = get_or needs k none in
    let few : k ≡ length (take k needs) = let l = length-take k needs in let w = c.loop-number-test.true in omega arith in
    c.in_ok-push.ensures.items ∙ ap (λ (l : List Claim). l ++ page_claim k need ∷ []) c.loop-number.invariant
    ∙ append_assoc start (page_claims 0 (take k needs)) (page_claim k need ∷ [])
    ∙ ap (λ (l : List Claim). start ++ l) (sym (ap (page_claims 0) (take_more needs k none c.loop-number-test.true) ∙ pages-push (take k needs) need k few))
