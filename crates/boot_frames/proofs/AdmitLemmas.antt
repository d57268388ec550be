-- One claim more that gets its frames by numbers.
use Rattle.std.proofs.Common.{◌≡◌, ℕ, ◌+◌, ◌<◌, List, [], ◌∷◌, length, take, get_or, None, sym, ap, ◌∙◌}
use Rattle.std.proofs.lemmas.List.{take_more}
use Rattle.node_frames.specs.Layout.{Layout}
use Rattle.node_frames.specs.Left.{Left}
use Rattle.boot_frames.specs.Chain.{after_claim, after_claims, first_short}
use Rattle.boot_frames.specs.declared.claims.Claim.{Claim}
use Rattle.boot_frames.proofs.ChainLemmas.{chain-append, after_claims-push}

pub admits_more : (layout : Layout) (claims : List Claim) (k : ℕ) (d : Claim) (left now after : Left) → k < length claims
    → first_short layout (take k claims) left ≡ None → now ≡ after_claims layout (take k claims) left
    → first_short layout (get_or claims k d ∷ []) now ≡ None → after ≡ after_claim layout (get_or claims k d) now
    → (first_short layout (take (k + 1) claims) left ≡ None) × (after ≡ after_claims layout (take (k + 1) claims) left)
admits_more layout claims k d left now after within none at here next =
    let c : Claim = get_or claims k d in
    let grown = take_more claims k d within in (
      ap (λ (cs : List Claim). first_short layout cs left) grown
          ∙ chain-append layout (take k claims) (c ∷ []) left none
          ∙ ap (first_short layout (c ∷ [])) (sym at) ∙ here,
      next ∙ ap (after_claim layout c) at ∙ sym (after_claims-push layout (take k claims) c left)
          ∙ ap (λ (cs : List Claim). after_claims layout cs left) (sym grown),
    )
