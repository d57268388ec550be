-- What the lot of a cell's cache has.
use Rattle.std.proofs.Common.{◌≡◌, ℕ, zero, suc, ◌+◌, ◌*◌, ◌<◌, cond, List, [], ◌∷◌, ◌++◌, length, map, None, refl, ap, ◌∙◌, arith}
use Rattle.std.specs.Prelude.{All, slice_index_or}
use Rattle.std.specs.List.{range_with_len}
use Rattle.std.proofs.lemmas.List.{append-nil}
use Rattle.std.proofs.lemmas.List.Elements.{All-nil, All-cons, All-head, All-tail}
use Rattle.std.proofs.lemmas.List.Sums.{sum_by-cons}
use Rattle.std.proofs.lemmas.Option.{slice_get-get_or}
use Rattle.base_words.specs.declared.frame.Frame.{Frame}
use Rattle.node_frames.specs.Layout.{Layout}
use Rattle.frame_words.specs.Holders.{MadeTable, IsMade}
use Rattle.frame_words.specs.Splits.{named, frames_named, loans_from}
use Rattle.frame_words.specs.Steps.{begun_with}
use Rattle.frame_words.specs.declared.view.View.{View}
use Rattle.node_frames.specs.Places.{IsOn}
use Rattle.node_frames.specs.BootOrder.{cell_nodes}
use Rattle.node_frames.specs.Left.{Left, after_searches}
use Rattle.boot_frames.specs.Claims.{cache_claim, cache_claims}
use Rattle.boot_frames.specs.Chain.{after_claims, first_short}
use Rattle.boot_frames.specs.Loans.{cell_of_frame, is_lent, loans_in, loans_of}
use Rattle.boot_frames.specs.Lots.{Serves, ServesAll}
use Rattle.boot_frames.specs.declared.lots.Lot.{Lot}
use Rattle.boot_frames.proofs.ChainLemmas.{chain-enough}
use Rattle.boot_frames.proofs.LoanLemmas.{lent_home}
use Rattle.boot_frames.proofs.OwnLemmas.{lies_inside}

-- each frame lies in the cell
abbrev pub AreInside : Layout → ℕ → List Frame → Type 0
AreInside layout cell frames = All (λ (f : Frame). cell_of_frame layout f ≡ cell) frames

pub cache_inside : (table : MadeTable) (layout : Layout) (left : Left) (cache cell : ℕ) (lot : Lot) → 0 < layout.frames → ((node k : ℕ) → k < layout.frames → IsOn layout node (node * layout.frames + k))
    → Serves table layout left (cache_claim cache cell) lot → AreInside layout cell lot.frames
cache_inside table layout left cache cell lot some on s = λ k d below.
    let f : Frame = slice_index_or lot.frames k d in
    lies_inside layout cell f.number.0 (after_searches layout cell (cell_nodes layout cell) k left) some on (s.taken.placed k f (slice_get-get_or lot.frames k d below))

-- so they take no loan
no_loans : (layout : Layout) (home cell : ℕ) (frames : List Frame) → AreInside layout home frames → loans_in layout home frames cell ≡ 0
no_loans layout home cell [] all = refl
no_loans layout home cell (f ∷ frames) all =
    let inside = All-head (λ (x : Frame). cell_of_frame layout x ≡ home) f frames all in
    sum_by-cons (λ (x : Frame). cond {A = ℕ} (is_lent layout home cell x) 1 0) f frames
    ∙ (λ i. cond {A = ℕ} (lent_home layout home cell f inside i) 1 0 + no_loans layout home cell frames (All-tail (λ (x : Frame). cell_of_frame layout x ≡ home) f frames all) i)

pub cache_exactly : (table : MadeTable) (layout : Layout) (left : Left) (cache cell : ℕ) (lot : Lot) → AreInside layout cell lot.frames
    → Serves table layout left (cache_claim cache cell) lot → lot.holder.view ≡ begun_with (frames_named lot.frames)
cache_exactly table layout left cache cell lot inside s =
    s.holds
    ∙ (λ i. begun_with (frames_named lot.frames ++ loans_from 0 (map (λ (other : ℕ). no_loans layout cell other lot.frames inside i) (range_with_len 0 8))))
    ∙ ap begun_with (append-nil (frames_named lot.frames))

-- ---- empty caches

pub empty_enough : (layout : Layout) (cell n : ℕ) (left : Left) → first_short layout (cache_claims 0 cell n) left ≡ None
empty_enough layout cell zero left = refl
empty_enough layout cell (suc n) left = chain-enough layout (cache_claim 0 cell) (cache_claims 0 (cell + 1) n) left (omega arith) ∙ empty_enough layout (cell + 1) n left

pub empty_left : (layout : Layout) (cell n : ℕ) (left : Left) → after_claims layout (cache_claims 0 cell n) left ≡ left
empty_left layout cell zero left = refl
empty_left layout cell (suc n) left = empty_left layout (cell + 1) n left

nothing : (fs : List Frame) → length fs ≡ 0 → fs ≡ []
nothing [] none = refl
nothing (f ∷ fs) some = absurd (omega arith)

abbrev pub IsEmpty : MadeTable → Lot → Type 0
IsEmpty table lot = (lot.holder.view.holds ≡ []) × IsMade table lot.holder

empty_lot : (table : MadeTable) (layout : Layout) (left : Left) (cell : ℕ) (lot : Lot) → Serves table layout left (cache_claim 0 cell) lot → IsEmpty table lot
empty_lot table layout left cell lot s =
    let none : lot.frames ≡ [] = nothing lot.frames s.taken.count in
    (ap (λ (v : View). v.holds) (s.holds ∙ ap (λ (fs : List Frame). begun_with (named fs (loans_of layout cell fs))) none), s.made)

pub empty_lots : (table : MadeTable) (layout : Layout) (left : Left) (cell n : ℕ) (lots : List Lot) → ServesAll table layout left (cache_claims 0 cell n) lots → All (IsEmpty table) lots
empty_lots table layout left cell zero [] all = All-nil (IsEmpty table)
empty_lots table layout left cell zero (lot ∷ lots) all = absurd all
empty_lots table layout left cell (suc n) [] all = absurd all
empty_lots table layout left cell (suc n) (lot ∷ lots) all = All-cons (IsEmpty table) lot lots (empty_lot table layout left cell lot all.0) (empty_lots table layout left (cell + 1) n lots all.1)
