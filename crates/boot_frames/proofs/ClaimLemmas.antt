-- The claims of cells and of guests, one by one.
use Rattle.std.proofs.Common.{◌≡◌, ℕ, zero, suc, ◌+◌, ◌<◌, ◌≤◌, List, [], ◌∷◌, ◌++◌, length, take, Some, refl, ap, ◌∙◌, arith, add-one}
use Rattle.std.specs.Prelude.{slice_get, All}
use Rattle.std.proofs.lemmas.List.Elements.{All-nil, All-cons, All-head, All-tail, All-append}
use Rattle.std.proofs.lemmas.Option.{none-some, same_Some}
use Rattle.node_frames.specs.Layout.{Layout}
use Rattle.boot_frames.specs.Claims.{IsAtHome, cache_claim, cache_claims, page_claim, page_claims, claims_of}
use Rattle.boot_frames.specs.declared.claims.Claim.{Claim}
use Rattle.boot_frames.specs.declared.needs.Need.{Need}

-- ---- one more

caches-more : (cache cell n : ℕ) → cache_claims cache cell (suc n) ≡ cache_claims cache cell n ++ cache_claim cache (cell + n) ∷ []
caches-more cache cell zero = ap (λ (k : ℕ). cache_claim cache k ∷ []) (omega arith)
caches-more cache cell (suc n) = ap (λ (l : List Claim). cache_claim cache cell ∷ l)
    (caches-more cache (cell + 1) n ∙ ap (λ (k : ℕ). cache_claims cache (cell + 1) n ++ cache_claim cache k ∷ []) (omega arith))

pub caches-push : (cache n : ℕ) → cache_claims cache 0 (n + 1) ≡ cache_claims cache 0 n ++ cache_claim cache n ∷ []
caches-push cache n = ap (cache_claims cache 0) (add-one n) ∙ caches-more cache 0 n ∙ ap (λ (k : ℕ). cache_claims cache 0 n ++ cache_claim cache k ∷ []) (omega arith)

pages-more : (guest : ℕ) (needs : List Need) (need : Need) → page_claims guest (needs ++ need ∷ []) ≡ page_claims guest needs ++ page_claim (guest + length needs) need ∷ []
pages-more guest [] need = ap (λ (k : ℕ). page_claim k need ∷ []) (omega arith)
pages-more guest (n ∷ needs) need = ap (λ (l : List Claim). page_claim guest n ∷ l)
    (pages-more (guest + 1) needs need ∙ ap (λ (k : ℕ). page_claims (guest + 1) needs ++ page_claim k need ∷ []) (omega arith))

pub pages-push : (needs : List Need) (need : Need) (n : ℕ) → n ≡ length needs → page_claims 0 (needs ++ need ∷ []) ≡ page_claims 0 needs ++ page_claim n need ∷ []
pages-push needs need n is = pages-more 0 needs need ∙ ap (λ (k : ℕ). page_claims 0 needs ++ page_claim k need ∷ []) (omega arith)

-- ---- how many, and each

pub length-caches : (cache cell n : ℕ) → length (cache_claims cache cell n) ≡ n
length-caches cache cell zero = refl
length-caches cache cell (suc n) = ap suc (length-caches cache (cell + 1) n)

pub length-pages : (guest : ℕ) (needs : List Need) → length (page_claims guest needs) ≡ length needs
length-pages guest [] = refl
length-pages guest (need ∷ needs) = ap suc (length-pages (guest + 1) needs)

cache_there : (cache cell n k : ℕ) → k < n → slice_get (cache_claims cache cell n) k ≡ Some (cache_claim cache (cell + k))
cache_there cache cell zero k within = absurd (omega arith)
cache_there cache cell (suc n) zero within = ap (λ (j : ℕ). Some (cache_claim cache j)) (omega arith)
cache_there cache cell (suc n) (suc k) within = cache_there cache (cell + 1) n k (omega arith) ∙ ap (λ (j : ℕ). Some (cache_claim cache j)) (omega arith)

pub cache_at : (cache n k : ℕ) → k < n → slice_get (cache_claims cache 0 n) k ≡ Some (cache_claim cache k)
cache_at cache n k within = cache_there cache 0 n k within ∙ ap (λ (j : ℕ). Some (cache_claim cache j)) (omega arith)

page_there : (guest : ℕ) (needs : List Need) (k : ℕ) (need : Need) → slice_get needs k ≡ Some need → slice_get (page_claims guest needs) k ≡ Some (page_claim (guest + k) need)
page_there guest [] k need is = absurd (none-some need is)
page_there guest (n ∷ needs) zero need is = (λ i. Some (page_claim (here i) (same_Some n need is i)))
  where
    here : guest ≡ guest + 0
    here = omega arith
page_there guest (n ∷ needs) (suc k) need is = page_there (guest + 1) needs k need is ∙ ap (λ (j : ℕ). Some (page_claim j need)) (omega arith)

pub page_at : (needs : List Need) (k : ℕ) (need : Need) → slice_get needs k ≡ Some need → slice_get (page_claims 0 needs) k ≡ Some (page_claim k need)
page_at needs k need is = page_there 0 needs k need is ∙ ap (λ (j : ℕ). Some (page_claim j need)) (omega arith)

-- ---- the first of them

pub take-caches : (cache cell n k : ℕ) → k ≤ n → take k (cache_claims cache cell n) ≡ cache_claims cache cell k
take-caches cache cell n zero most = refl
take-caches cache cell zero (suc k) most = absurd (omega arith)
take-caches cache cell (suc n) (suc k) most = ap (λ (l : List Claim). cache_claim cache cell ∷ l) (take-caches cache (cell + 1) n k (omega arith))

pub take-pages : (guest : ℕ) (needs : List Need) (k : ℕ) → take k (page_claims guest needs) ≡ page_claims guest (take k needs)
take-pages guest needs zero = refl
take-pages guest [] (suc k) = refl
take-pages guest (need ∷ needs) (suc k) = ap (λ (l : List Claim). page_claim guest need ∷ l) (take-pages (guest + 1) needs k)

-- ---- at home

abbrev pub Homes : Layout → List Claim → Type 0
Homes layout claims = All (λ (claim : Claim). IsAtHome layout claim.taker) claims

caches_home : (layout : Layout) (cache cell n : ℕ) → Homes layout (cache_claims cache cell n)
caches_home layout cache cell zero = All-nil (λ (claim : Claim). IsAtHome layout claim.taker)
caches_home layout cache cell (suc n) = All-cons (λ (claim : Claim). IsAtHome layout claim.taker) (cache_claim cache cell) (cache_claims cache (cell + 1) n) tt (caches_home layout cache (cell + 1) n)

pages_home : (layout : Layout) (guest : ℕ) (needs : List Need) → All (λ (need : Need). need.node.0 < layout.nodes) needs → Homes layout (page_claims guest needs)
pages_home layout guest [] all = All-nil (λ (claim : Claim). IsAtHome layout claim.taker)
pages_home layout guest (need ∷ needs) all = All-cons (λ (claim : Claim). IsAtHome layout claim.taker) (page_claim guest need) (page_claims (guest + 1) needs)
    (All-head (λ (n : Need). n.node.0 < layout.nodes) need needs all)
    (pages_home layout (guest + 1) needs (All-tail (λ (n : Need). n.node.0 < layout.nodes) need needs all))

pub claims_home : (layout : Layout) (cells cache : ℕ) (needs : List Need) → All (λ (need : Need). need.node.0 < layout.nodes) needs → Homes layout (claims_of cells cache needs)
claims_home layout cells cache needs all = All-append (λ (claim : Claim). IsAtHome layout claim.taker) (cache_claims cache 0 cells) (page_claims 0 needs) (caches_home layout cache 0 cells) (pages_home layout 0 needs all)
