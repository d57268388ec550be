-- The chain of claims, one more at its end.
use Rattle.std.proofs.Common.{◌≡◌, ℕ, ◌+◌, ◌<◌, ◌≤◌, if◌then◌else◌, Bool, List, [], ◌∷◌, ◌++◌, length, take, drop, get_or, Some, None, refl, sym, ap, ◌∙◌, lt-ltb, le-ltb, lt_of_not-le}
use Rattle.std.specs.Prelude.{Option}
use Rattle.std.proofs.lemmas.Option.{none-some}
use Rattle.std.proofs.lemmas.List.{take_more, take-append-drop}
use mathlib.Core.Logic.{dite}
use native.Mathlib.Decide.{dec_le}
use Rattle.node_frames.specs.Layout.{Layout}
use Rattle.node_frames.specs.Left.{Left}
use Rattle.boot_frames.specs.Claims.{has_of}
use Rattle.boot_frames.specs.Chain.{after_claim, after_claims, shortage_of, first_short, Tells}
use Rattle.boot_frames.specs.declared.claims.Claim.{Claim}
use Rattle.boot_frames.specs.declared.answers.Shortage.{Shortage}
use Rattle.boot_frames.specs.declared.answers.Shortage.TheVariants.{Memory, Cell, Guest}

-- the shortage of a claim
abbrev pub shortage_in : Layout → Claim → Left → Shortage
shortage_in layout claim left = shortage_of claim.taker claim.frames (has_of layout claim.taker left)

-- the step of the chain, by the test
abbrev pub Chosen : Layout → Claim → List Claim → Left → Bool → Option Shortage
Chosen layout claim claims left b = if b then Some (shortage_in layout claim left) else first_short layout claims (after_claim layout claim left)

pub chain-short : (layout : Layout) (claim : Claim) (claims : List Claim) (left : Left) → has_of layout claim.taker left < claim.frames → first_short layout (claim ∷ claims) left ≡ Some (shortage_in layout claim left)
chain-short layout claim claims left less = ap (Chosen layout claim claims left) (lt-ltb (has_of layout claim.taker left) claim.frames less)

pub chain-enough : (layout : Layout) (claim : Claim) (claims : List Claim) (left : Left) → claim.frames ≤ has_of layout claim.taker left → first_short layout (claim ∷ claims) left ≡ first_short layout claims (after_claim layout claim left)
chain-enough layout claim claims left more = ap (Chosen layout claim claims left) (le-ltb (has_of layout claim.taker left) claim.frames more)

-- where the first of the claims is not short, it has enough
pub chain_enough : (layout : Layout) (claim : Claim) (claims : List Claim) (left : Left) → first_short layout (claim ∷ claims) left ≡ None → claim.frames ≤ has_of layout claim.taker left
chain_enough layout claim claims left none = dite (dec_le claim.frames (has_of layout claim.taker left))
    (λ enough. enough)
    (λ short. absurd (none-some (shortage_in layout claim left) (sym none ∙ chain-short layout claim claims left (lt_of_not-le short))))

-- claims behind others that all have enough
pub chain-append : (layout : Layout) (cs ds : List Claim) (left : Left) → first_short layout cs left ≡ None → first_short layout (cs ++ ds) left ≡ first_short layout ds (after_claims layout cs left)
chain-append layout [] ds left none = refl
chain-append layout (c ∷ cs) ds left none =
    let enough = chain_enough layout c cs left none in
    chain-enough layout c (cs ++ ds) left enough
    ∙ chain-append layout cs ds (after_claim layout c left) (sym (chain-enough layout c cs left enough) ∙ none)

-- claims behind one that is short change nothing
pub chain-later : (layout : Layout) (cs ds : List Claim) (left : Left) (short : Shortage) → first_short layout cs left ≡ Some short → first_short layout (cs ++ ds) left ≡ Some short
chain-later layout [] ds left short is = absurd (none-some short is)
chain-later layout (c ∷ cs) ds left short is = dite (dec_le c.frames (has_of layout c.taker left))
    (λ enough. chain-enough layout c (cs ++ ds) left enough ∙ chain-later layout cs ds (after_claim layout c left) short (sym (chain-enough layout c cs left enough) ∙ is))
    (λ less. chain-short layout c (cs ++ ds) left (lt_of_not-le less) ∙ sym (chain-short layout c cs left (lt_of_not-le less)) ∙ is)

-- fewer claims where none is short
pub chain-fewer : (layout : Layout) (cs ds : List Claim) (left : Left) → first_short layout (cs ++ ds) left ≡ None → first_short layout cs left ≡ None
chain-fewer layout [] ds left none = refl
chain-fewer layout (c ∷ cs) ds left none =
    let enough = chain_enough layout c (cs ++ ds) left none in
    chain-enough layout c cs left enough ∙ chain-fewer layout cs ds (after_claim layout c left) (sym (chain-enough layout c (cs ++ ds) left enough) ∙ none)

pub after_claims-push : (layout : Layout) (cs : List Claim) (c : Claim) (left : Left) → after_claims layout (cs ++ c ∷ []) left ≡ after_claim layout c (after_claims layout cs left)
after_claims-push layout [] c left = refl
after_claims-push layout (d ∷ cs) c left = after_claims-push layout cs c (after_claim layout d left)

-- what is told is the shortage, unless memory was wanting
pub told_short : (short : Option Shortage) (fault : Shortage) → short ≡ Some fault → Tells short fault
told_short short Memory is = tt
told_short short (Cell cell needs has) is = is
told_short short (Guest guest needs has) is = is

later : (layout : Layout) (claims : List Claim) (k : ℕ) (d : Claim) (left now : Left) (fault : Shortage) → k < length claims → first_short layout (take k claims) left ≡ None
    → now ≡ after_claims layout (take k claims) left → first_short layout (get_or claims k d ∷ []) now ≡ Some fault → first_short layout claims left ≡ Some fault
later layout claims k d left now fault within none at told =
    let c : Claim = get_or claims k d in
    let here : first_short layout (take k claims ++ c ∷ []) left ≡ Some fault =
    chain-append layout (take k claims) (c ∷ []) left none ∙ ap (first_short layout (c ∷ [])) (sym at) ∙ told in
    ap (λ (l : List Claim). first_short layout l left) (sym (take-append-drop (k + 1) claims) ∙ ap (λ (l : List Claim). l ++ drop (k + 1) claims) (take_more claims k d within))
    ∙ chain-later layout (take k claims ++ c ∷ []) (drop (k + 1) claims) left fault here

-- a refusal of the next claim, where those before it have enough
pub tells_later : (layout : Layout) (claims : List Claim) (k : ℕ) (d : Claim) (left now : Left) (fault : Shortage) → k < length claims → first_short layout (take k claims) left ≡ None
    → now ≡ after_claims layout (take k claims) left → Tells (first_short layout (get_or claims k d ∷ []) now) fault → Tells (first_short layout claims left) fault
tells_later layout claims k d left now Memory within none at told = tt
tells_later layout claims k d left now (Cell cell needs has) within none at told = later layout claims k d left now (Cell cell needs has) within none at told
tells_later layout claims k d left now (Guest guest needs has) within none at told = later layout claims k d left now (Guest guest needs has) within none at told
