use Rattle.std.proofs.Common.{◌≡◌, ℕ, List, ◌++◌, take, drop, sym, ap, ◌∙◌, subst, arith, length-append}
use Rattle.std.proofs.lemmas.List.{take-append-drop}
use Rattle.std.proofs.lemmas.Result.{err_from_is_err_and}
use Rattle.node_frames.specs.Layout.{Layout, layout_of}
use Rattle.frame_words.specs.FrameRights.{first_view}
use Rattle.frame_words.specs.declared.terms.Terms.{Terms}
use Rattle.frame_words.specs.declared.view.View.{View}
use Rattle.node_frames.specs.Left.{Left, left_of, first_left}
use Rattle.boot_frames.specs.Chain.{after_claims, first_short, Tells}
use Rattle.boot_frames.specs.Claims.{cache_claims, page_claims, claims_of}
use Rattle.boot_frames.specs.Lots.{ServesAll, times_given}
use Rattle.boot_frames.specs.Takings.{OnlyTook, TakesForAll}
use Rattle.boot_frames.specs.declared.claims.Claim.{Claim}
use Rattle.boot_frames.specs.declared.lots.Lot.{Lot}
use Rattle.boot_frames.proofs.ClaimLemmas.{Homes, claims_home, length-caches}
use Rattle.boot_frames.proofs.LotLemmas.{length-lots, lots_parts}
use Rattle.boot_frames.proofs.TakeLemmas.{all_countable}
use Rattle.boot_frames.proofs.ServeLemmas.{first_only, serves_all, times_same}
use Rattle.boot_frames.proofs.placement.place.Goals as goal
use Rattle.boot_frames.proofs.placement.place.Goals.{In_ok-caches}

-- what is left to a holder that was just made
made : (terms : Terms) (layout : Layout) (v : View) → v ≡ first_view terms → left_of layout terms.lends (first_view terms) ≡ first_left layout terms.lends → left_of layout terms.lends v ≡ first_left layout terms.lends
made terms layout v is all = ap (left_of layout terms.lends) is ∙ all

pub take_all-requires-clause-at_home : goal.take_all-requires-clause-at_home
take_all-requires-clause-at_home c =
    let layout = layout_of c.args.shape.now in
    subst (Homes layout) (sym (c.as_slice.ensures.value ∙ c.in_ok-claims.ensures)) (claims_home layout c.args.cells c.args.cache c.args.needs.now c.requires.nodes)

pub take_all-requires-clause-only : goal.take_all-requires-clause-only
take_all-requires-clause-only c = subst (OnlyTook c.args.table.now.terms (layout_of c.args.shape.now)) (sym c.requires.first) (first_only c.args.table.now.terms (layout_of c.args.shape.now) c.requires.fresh (c.first_holder_has_all.ensures c.args.table.now.terms (layout_of c.args.shape.now) c.requires.fresh))

pub returns-in_err-taken-clause-exactly : goal.returns-in_err-taken-clause-exactly
returns-in_err-taken-clause-exactly c =
    let layout = (layout_of c.args.shape.now) in
    let terms = c.args.table.now.terms in
    let fault = c.in_err-taken.field-0.0 in
    let left = made terms layout c.args.holder.now.view c.requires.first (c.first_holder_has_all.ensures terms layout c.requires.fresh) in
    let claims = c.as_slice.ensures.value ∙ c.in_ok-claims.ensures in
    let told = subst (λ (l : Left). Tells (first_short layout (claims_of c.args.cells c.args.cache c.args.needs.now) l) fault) left
    (subst (λ (l : List Claim). Tells (first_short layout l (left_of layout terms.lends c.args.holder.now.view)) fault) claims c.in_err-taken.ensures.short) in
    let p = err_from_is_err_and c.from_residual-in_err-taken.result c.from_residual-in_err-taken.ensures.1 in
    rw (p.1, p.2) told

pub split_all-requires-clause-countable : goal.split_all-requires-clause-countable
split_all-requires-clause-countable c =
    all_countable c.args.table.now (layout_of c.args.shape.now) _ c.as_slice.result.now c.in_ok-taken.taken.items c.requires.fits c.in_ok-taken.ensures.taken.taken

pub split_all-requires-clause-has : goal.split_all-requires-clause-has
split_all-requires-clause-has c =
    c.in_ok-taken.ensures.taken.has (ap (λ (v : View). v.holds) c.requires.first)

-- each claim in order has its lot
all_lots : (c : In_ok-caches) → ServesAll c.args.table.now (layout_of c.args.shape.now) (first_left (layout_of c.args.shape.now) c.args.table.now.terms.lends) (claims_of c.args.cells c.args.cache c.args.needs.now) c.in_ok-caches.caches.items
all_lots c =
    let table = c.args.table.now in
    let layout = (layout_of c.args.shape.now) in
    let lots = c.in_ok-caches.caches.items in
    let left = made table.terms layout c.args.holder.now.view c.requires.first (c.first_holder_has_all.ensures table.terms layout c.requires.fresh) in
    let taken = subst (λ (l : Left). TakesForAll table.terms layout l c.as_slice.result.now c.in_ok-taken.taken.items) left c.in_ok-taken.ensures.taken.taken in
    subst (λ (l : List Claim). ServesAll table layout (first_left layout table.terms.lends) l lots) (c.as_slice.ensures.value ∙ c.in_ok-claims.ensures)
    (serves_all table layout (first_left layout table.terms.lends) c.as_slice.result.now c.in_ok-taken.taken.items lots taken c.in_ok-caches.ensures.gives)

pub split_off-requires : goal.split_off-requires
split_off-requires c =
    let claims = claims_of c.args.cells c.args.cache c.args.needs.now in
    let all = length-lots c.args.table.now (layout_of c.args.shape.now) _ claims c.in_ok-caches.caches.items (all_lots (goal.at.split_off-requires c).In_ok-caches) in
    let parts = length-append (cache_claims c.args.cache 0 c.args.cells) (page_claims 0 c.args.needs.now) in
    let caches = length-caches c.args.cache 0 c.args.cells in
    let len = c.in_ok-caches.caches.ok.0 in omega arith

pub returns-clause-exactly : goal.returns-clause-exactly
returns-clause-exactly c =
    let layout = (layout_of c.args.shape.now) in
    let terms = c.args.table.now.terms in
    let left = made terms layout c.args.holder.now.view c.requires.first (c.first_holder_has_all.ensures terms layout c.requires.fresh) in
    (λ i. first_short layout (sym (c.as_slice.ensures.value ∙ c.in_ok-claims.ensures) i) (sym left i)) ∙ c.in_ok-taken.ensures.taken.none

-- the lots of the cells, and then those of the guests
two_parts : (c : In_ok-caches) → (
    ServesAll c.args.table.now (layout_of c.args.shape.now) (first_left (layout_of c.args.shape.now) c.args.table.now.terms.lends) (cache_claims c.args.cache 0 c.args.cells) (take c.args.cells c.in_ok-caches.caches.items)
    × ServesAll c.args.table.now (layout_of c.args.shape.now) (after_claims (layout_of c.args.shape.now) (cache_claims c.args.cache 0 c.args.cells) (first_left (layout_of c.args.shape.now) c.args.table.now.terms.lends))
    (page_claims 0 c.args.needs.now) (drop c.args.cells c.in_ok-caches.caches.items))
two_parts c =
    let table = c.args.table.now in
    let layout = (layout_of c.args.shape.now) in
    let left = first_left layout table.terms.lends in
    let caches = cache_claims c.args.cache 0 c.args.cells in
    let pages = page_claims 0 c.args.needs.now in
    let lots = c.in_ok-caches.caches.items in
    let count = length-caches c.args.cache 0 c.args.cells in
    let parts = lots_parts table layout left caches pages lots (all_lots c) in (
      subst (λ (n : ℕ). ServesAll table layout left caches (take n lots)) count parts.0,
      subst (λ (n : ℕ). ServesAll table layout (after_claims layout caches left) pages (drop n lots)) count parts.1,
    )

pub returns-clause-caches : goal.returns-clause-caches
returns-clause-caches c =
    let layout = (layout_of c.args.shape.now) in
    subst (λ (l : List Lot). ServesAll c.args.table.now layout (first_left layout c.args.table.now.terms.lends) (cache_claims c.args.cache 0 c.args.cells) l) (sym c.in_ok-guests.ensures.items)
    (two_parts (goal.at.returns-clause-caches c).In_ok-caches).0

pub returns-clause-guests : goal.returns-clause-guests
returns-clause-guests c =
    let layout = (layout_of c.args.shape.now) in
    let caches = cache_claims c.args.cache 0 c.args.cells in
    subst (λ (l : List Lot). ServesAll c.args.table.now layout (after_claims layout caches (first_left layout c.args.table.now.terms.lends)) (page_claims 0 c.args.needs.now) l) (sym c.in_ok-guests.ensures.tail)
    (two_parts (goal.at.returns-clause-guests c).In_ok-caches).1

pub returns-clause-apart : goal.returns-clause-apart
returns-clause-apart c = λ frame.
    let table = c.args.table.now in
    let layout = (layout_of c.args.shape.now) in
    let lots = c.in_ok-caches.caches.items in
    let all = c.in_ok-taken.ensures.taken.has (ap (λ (v : View). v.holds) c.requires.first) in
    let most = c.in_ok-taken.ensures.taken.only.once frame in
    let held = all.frames frame in
    let same = times_same table layout c.in_ok-taken.taken.items lots frame c.in_ok-caches.ensures.gives in
    let whole : times_given frame (c.split_off.new.self.items ++ c.in_ok-guests.guests.items) ≡ times_given frame lots =
    ap (times_given frame) ((λ i. c.in_ok-guests.ensures.items i ++ c.in_ok-guests.ensures.tail i) ∙ take-append-drop c.args.cells lots) in
    omega arith
