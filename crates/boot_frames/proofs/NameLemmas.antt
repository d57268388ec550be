-- Whom a shortage names.
use Rattle.std.proofs.Common.{◌≡◌, ℕ, zero, suc, ◌+◌, ◌<◌, List, [], ◌∷◌, Some, None, refl, sym, ap, ◌∙◌, subst, arith, lt_of_not-le, ◌≤◌}
use Rattle.std.specs.Prelude.{Option, slice_get}
use Rattle.std.proofs.lemmas.Option.{none-some, same_Some}
use mathlib.Core.Logic.{dite}
use native.Mathlib.Decide.{ℕ_discrete, dec_le}
use Rattle.node_frames.specs.Layout.{Layout}
use Rattle.node_frames.specs.Left.{Left, cell_frames}
use Rattle.boot_frames.specs.Claims.{has_of, cache_claim, cache_claims, page_claim, page_claims, claims_of}
use Rattle.boot_frames.specs.Chain.{after_claim, after_claims, first_short}
use Rattle.boot_frames.specs.declared.needs.Need.{Need}
use Rattle.boot_frames.specs.declared.answers.Shortage.{Shortage}
use Rattle.boot_frames.specs.declared.answers.Shortage.TheVariants.{Cell, Guest}
use Rattle.boot_frames.proofs.ChainLemmas.{chain-short, chain-enough, chain_enough, chain-append, chain-later}
use Rattle.boot_frames.proofs.OwnLemmas.{caches_same}

-- of the cells from this one on, those below another have enough
abbrev pub Enough : Layout → ℕ → ℕ → ℕ → Left → Type 0
Enough layout cache cell next left = (other : ℕ) → cell ≤ other → other < next → cache ≤ cell_frames layout left other

-- the shortage names the first of the cells from this one on whose nodes have too few
pub record CellFrom (layout : Layout) (cache cell n : ℕ) (left : Left) (short : Shortage) : Type 0 where
  pub place : ℕ
  pub within : place < n
  pub frames : ℕ
  pub are : frames ≡ cell_frames layout left (cell + place)
  pub few : frames < cache
  pub lower : Enough layout cache cell (cell + place) left
  pub is : short ≡ Cell (record { 0 = cell + place }) cache frames

-- what the first cell takes changes nothing for those behind it
one_lower : (layout : Layout) (cache cell next : ℕ) (left : Left) → cache ≤ cell_frames layout left cell → Enough layout cache (cell + 1) next (after_claim layout (cache_claim cache cell) left) → Enough layout cache cell next left
one_lower layout cache cell next left enough rest = λ other above below. dite (ℕ_discrete other cell)
    (λ e. subst (λ (k : ℕ). cache ≤ cell_frames layout left k) (sym e) enough)
    (λ ne. let same = caches_same layout cache cell 1 other left (omega arith) in let more = rest other (omega arith) below in omega arith)

pub caches_name : (layout : Layout) (cache cell n : ℕ) (left : Left) (short : Shortage) → first_short layout (cache_claims cache cell n) left ≡ Some short → CellFrom layout cache cell n left short
caches_name layout cache cell zero left short is = absurd (none-some short is)
caches_name layout cache cell (suc n) left short is = dite (dec_le cache (cell_frames layout left cell))
    (λ enough.
    let c = cache_claim cache cell in
    let rest = caches_name layout cache (cell + 1) n (after_claim layout c left) short (sym (chain-enough layout c (cache_claims cache (cell + 1) n) left enough) ∙ is) in
    let next : cell + 1 + rest.place ≡ cell + suc rest.place = omega arith in
    record {
      lower = one_lower layout cache cell (cell + suc rest.place) left enough (λ other above below. rest.lower other above (omega arith));
      place = suc rest.place;
      within = (let w = rest.within in omega arith);
      frames = rest.frames;
      are = rest.are ∙ caches_same layout cache cell 1 (cell + 1 + rest.place) left (omega arith) ∙ ap (cell_frames layout left) next;
      few = rest.few;
      is = rest.is ∙ ap (λ (k : ℕ). Cell (record { 0 = k }) cache rest.frames) next;
    })
    (λ less.
    let here : cell ≡ cell + 0 = omega arith in
    record {
      lower = λ other above below. absurd (omega arith);
      place = 0;
      within = omega arith;
      frames = cell_frames layout left cell;
      are = ap (cell_frames layout left) here;
      few = lt_of_not-le less;
      is = same_Some short _ (sym is ∙ chain-short layout (cache_claim cache cell) (cache_claims cache (cell + 1) n) left (lt_of_not-le less)) ∙ ap (λ (k : ℕ). Cell (record { 0 = k }) cache (cell_frames layout left cell)) here;
    })

-- where none of them is short each has enough
pub caches_enough : (layout : Layout) (cache cell n : ℕ) (left : Left) → first_short layout (cache_claims cache cell n) left ≡ None → Enough layout cache cell (cell + n) left
caches_enough layout cache cell zero left none = λ other above below. absurd (omega arith)
caches_enough layout cache cell (suc n) left none =
    let c = cache_claim cache cell in
    let enough = chain_enough layout c (cache_claims cache (cell + 1) n) left none in
    let rest = caches_enough layout cache (cell + 1) n (after_claim layout c left) (sym (chain-enough layout c (cache_claims cache (cell + 1) n) left enough) ∙ none) in
    one_lower layout cache cell (cell + suc n) left enough (λ other above below. rest other above (omega arith))

-- the shortage names one of the guests, whose first one has this number
pub record GuestFrom (guest : ℕ) (needs : List Need) (short : Shortage) : Type 0 where
  pub place : ℕ
  pub need : Need
  pub there : slice_get needs place ≡ Some need
  pub has : ℕ
  pub few : has < need.pages
  pub is : short ≡ Guest (record { 0 = guest + place }) need.pages has

pub pages_name : (layout : Layout) (guest : ℕ) (needs : List Need) (left : Left) (short : Shortage) → first_short layout (page_claims guest needs) left ≡ Some short → GuestFrom guest needs short
pages_name layout guest [] left short is = absurd (none-some short is)
pages_name layout guest (need ∷ needs) left short is = dite (dec_le need.pages (has_of layout (page_claim guest need).taker left))
    (λ enough.
    let c = page_claim guest need in
    let rest = pages_name layout (guest + 1) needs (after_claim layout c left) short (sym (chain-enough layout c (page_claims (guest + 1) needs) left enough) ∙ is) in
    let next : guest + 1 + rest.place ≡ guest + suc rest.place = omega arith in
    record {
      place = suc rest.place;
      need = rest.need;
      there = rest.there;
      has = rest.has;
      few = rest.few;
      is = rest.is ∙ ap (λ (k : ℕ). Guest (record { 0 = k }) rest.need.pages rest.has) next;
    })
    (λ less.
    let c = page_claim guest need in
    let here : guest ≡ guest + 0 = omega arith in
    record {
      place = 0;
      need = need;
      there = refl;
      has = has_of layout c.taker left;
      few = lt_of_not-le less;
      is = same_Some short _ (sym is ∙ chain-short layout c (page_claims (guest + 1) needs) left (lt_of_not-le less)) ∙ ap (λ (k : ℕ). Guest (record { 0 = k }) need.pages (has_of layout c.taker left)) here;
    })

-- a shortage of the cells and guests is one of the cells', or else one of the guests' where no cell is short
pub named_by : (layout : Layout) (cells cache : ℕ) (needs : List Need) (left : Left) (short : Shortage) (P : Type 0) → first_short layout (claims_of cells cache needs) left ≡ Some short
    → (CellFrom layout cache 0 cells left short → P) → (GuestFrom 0 needs short → first_short layout (cache_claims cache 0 cells) left ≡ None → P) → P
named_by layout cells cache needs left short P is cell guest = by (first_short layout (cache_claims cache 0 cells) left) refl
  where
    by : (o : Option Shortage) → first_short layout (cache_claims cache 0 cells) left ≡ o → P
    by (Some s) e =
        let same = same_Some s short (sym (chain-later layout (cache_claims cache 0 cells) (page_claims 0 needs) left s e) ∙ is) in
        cell (subst (CellFrom layout cache 0 cells left) same (caches_name layout cache 0 cells left s e))
    by None e = guest (pages_name layout 0 needs (after_claims layout (cache_claims cache 0 cells) left) short (sym (chain-append layout (cache_claims cache 0 cells) (page_claims 0 needs) left e) ∙ is)) e
