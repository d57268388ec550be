-- The index that each cell gets, by its lot.
use Rattle.std.proofs.Common.{◌≡◌, ℕ, zero, suc, ◌+◌, ◌%◌, ◌<◌, ◌≤◌, List, [], ◌∷◌, ◌++◌, map, length, Some, refl, sym, ap, ◌∙◌, subst, arith}
use Rattle.std.specs.Prelude.{slice_get}
use Rattle.std.proofs.lemmas.List.{length-map}
use Rattle.std.proofs.lemmas.Option.{slice_get_within}
use Rattle.frame_words.specs.Holders.{Holding, MadeTable}
use Rattle.node_frames.specs.Layout.{Layout}
use Rattle.node_frames.specs.Left.{Left}
use Rattle.cow_disk.specs.IndexParts.{place_of}
use Rattle.cow_disk.specs.IndexView.{Index}
use Rattle.boot_frames.specs.declared.lots.Lot.{Lot}
use Rattle.block_caches.specs.Filling.{AreCaches, DiskSeen, IsCache, kept_in, kept_with, left_for, wanted}
use Rattle.block_caches.specs.Holding.{AreHeld, IsHeld}
use Rattle.block_caches.proofs.Lots.{IsCellLot, lot-frame, lot-held}

-- the index of a cell over the frames of a lot
abbrev pub index_for : ℕ → List DiskSeen → ℕ → Lot → Index
index_for numbers disks cell lot = kept_with (wanted (cell % 256) numbers disks) (record { entries = []; frames = map place_of lot.frames })

-- the indexes of the cells from this one on, and their holders
abbrev pub indexes_for : ℕ → List DiskSeen → ℕ → List Lot → List Index
indexes_for numbers disks cell [] = []
indexes_for numbers disks cell (lot ∷ lots) = index_for numbers disks cell lot ∷ indexes_for numbers disks (suc cell) lots

abbrev pub holders_of : List Lot → List Holding
holders_of lots = map (λ (lot : Lot). lot.holder) lots

pub length-indexes_for : (numbers : ℕ) (disks : List DiskSeen) (cell : ℕ) (lots : List Lot) → length (indexes_for numbers disks cell lots) ≡ length lots
length-indexes_for numbers disks cell [] = refl
length-indexes_for numbers disks cell (lot ∷ lots) = ap suc (length-indexes_for numbers disks (suc cell) lots)

-- one cell more
pub indexes_for-push : (numbers : ℕ) (disks : List DiskSeen) (cell : ℕ) (lots : List Lot) (lot : Lot) → indexes_for numbers disks cell (lots ++ lot ∷ []) ≡ indexes_for numbers disks cell lots ++ index_for numbers disks (cell + length lots) lot ∷ []
indexes_for-push numbers disks cell [] lot = ap (λ n. index_for numbers disks n lot ∷ []) (let same : cell ≡ cell + 0 = omega arith in same)
indexes_for-push numbers disks cell (first ∷ lots) lot =
    ap (λ (l : List Index). index_for numbers disks cell first ∷ l)
    (indexes_for-push numbers disks (suc cell) lots lot
    ∙ ap (λ n. indexes_for numbers disks (suc cell) lots ++ index_for numbers disks n lot ∷ []) (let same : suc cell + length lots ≡ cell + suc (length lots) = omega arith in same))

-- the index of each cell is that of its lot
pub record IsIndexFor (numbers : ℕ) (disks : List DiskSeen) (lots : List Lot) (first place : ℕ) (index : Index) : Type 0 where
  pub lot : Lot
  pub there : slice_get lots place ≡ Some lot
  pub is_it : index ≡ index_for numbers disks (first + place) lot

pub indexes_for-at : (numbers : ℕ) (disks : List DiskSeen) (first : ℕ) (lots : List Lot) (place : ℕ) (index : Index) → slice_get (indexes_for numbers disks first lots) place ≡ Some index → IsIndexFor numbers disks lots first place index
indexes_for-at numbers disks first [] place index at = absurd cc
indexes_for-at numbers disks first (lot ∷ lots) zero index at =
    let it : index ≡ index_for numbers disks first lot = cc in
    record { lot = lot; there = refl; is_it = it ∙ ap (λ n. index_for numbers disks n lot) (let same : first ≡ first + 0 = omega arith in same) }
indexes_for-at numbers disks first (lot ∷ lots) (suc place) index at =
    let rest = indexes_for-at numbers disks (suc first) lots place index at in
    record { lot = rest.lot; there = rest.there; is_it = rest.is_it ∙ ap (λ n. index_for numbers disks n rest.lot) (let same : suc first + place ≡ first + suc place = omega arith in same) }

-- ---- the caches

-- each lot is that of its cell
abbrev pub AreCellLots : MadeTable → Layout → Left → ℕ → List Lot → Type 0
AreCellLots table layout left cache lots = (cell : ℕ) (lot : Lot) → slice_get lots cell ≡ Some lot → IsCellLot table layout (left_for layout left cache cell) cache cell lot

lot-cache : (table : MadeTable) (layout : Layout) (left : Left) (cache numbers : ℕ) (disks : List DiskSeen) (cell : ℕ) (lot : Lot) → cell < 8 → IsCellLot table layout (left_for layout left cache cell) cache cell lot → IsCache table.terms layout left cache numbers disks cell (index_for numbers disks (0 + cell) lot)
lot-cache table layout left cache numbers disks cell lot few is = record {
  count = length-map lot.frames place_of ∙ is.serves.taken.count;
  frames = lot-frame table layout (left_for layout left cache cell) cache cell lot is;
  entries = ap (λ n. kept_in (wanted n numbers disks) (map place_of lot.frames)) (let same : (0 + cell) % 256 ≡ cell = omega arith in same);
}

pub are-caches : (table : MadeTable) (layout : Layout) (left : Left) (cache cells numbers : ℕ) (disks : List DiskSeen) (lots : List Lot) → cells ≤ 8 → length lots ≡ cells → AreCellLots table layout left cache lots → AreCaches table.terms layout left cache cells numbers disks (indexes_for numbers disks 0 lots)
are-caches table layout left cache cells numbers disks lots few count all = record {
  count = length-indexes_for numbers disks 0 lots ∙ count;
  each = λ cell index at.
      let it = indexes_for-at numbers disks 0 lots cell index at in
      let within = slice_get_within lots cell it.lot it.there in
      subst (IsCache table.terms layout left cache numbers disks cell) (sym it.is_it)
      (lot-cache table layout left cache numbers disks cell it.lot (omega (arith, within, count, few)) (all cell it.lot it.there));
}

-- ---- their holders

held-from : (table : MadeTable) (numbers : ℕ) (disks : List DiskSeen) (first : ℕ) (lots : List Lot) → ((place : ℕ) (lot : Lot) (index : Index) → slice_get lots place ≡ Some lot → index.frames ≡ map place_of lot.frames → IsHeld table index lot.holder) → AreHeld table (indexes_for numbers disks first lots) (holders_of lots)
held-from table numbers disks first [] all = tt
held-from table numbers disks first (lot ∷ lots) all =
    (all 0 lot (index_for numbers disks first lot) refl refl, held-from table numbers disks (suc first) lots (λ place other index at same. all (suc place) other index at same))

pub are-held : (table : MadeTable) (layout : Layout) (left : Left) (cache numbers : ℕ) (disks : List DiskSeen) (lots : List Lot) → AreCellLots table layout left cache lots → AreHeld table (indexes_for numbers disks 0 lots) (holders_of lots)
are-held table layout left cache numbers disks lots all =
    held-from table numbers disks 0 lots (λ cell lot index at same. lot-held table layout (left_for layout left cache cell) cache cell lot index (all cell lot at) same)
