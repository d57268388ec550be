-- What a cell has of its lot: the frames of its index, which its holder has once each and nothing else.
use Rattle.std.proofs.Common.{◌≡◌, ℕ, ◌+◌, ◌<◌, ◌==◌, if◌then◌else◌, false, List, [], ◌∷◌, map, Option, Some, None, refl, sym, ap, ◌∙◌, subst, arith}
use Rattle.std.specs.Prelude.{All, count_by, slice_get}
use Rattle.std.specs.Option.{option_map}
use Rattle.std.proofs.lemmas.Bool.Decides.{nat_tests}
use Rattle.std.proofs.lemmas.List.Elements.{All-head, All-tail, All-map, All-weaker}
use Rattle.std.proofs.lemmas.List.Sums.{sum_by-cons}
use Rattle.std.proofs.lemmas.Option.{slice_get-map, slice_get_within, get_or_from_slice_get}
use Rattle.base_words.specs.declared.frame.Frame.{Frame}
use Rattle.frame_words.specs.Holders.{MadeTable}
use Rattle.frame_words.specs.Splits.{frame_times}
use Rattle.frame_words.specs.Views.{frame_holds, cell_loans}
use Rattle.node_frames.specs.Layout.{Layout}
use Rattle.node_frames.specs.Left.{Left}
use Rattle.cow_disk.specs.Giving.{AreBelow, is_number}
use Rattle.cow_disk.specs.IndexParts.{place_of}
use Rattle.cow_disk.specs.IndexView.{Index}
use Rattle.cow_disk.specs.declared.index.CacheFrame.{CacheFrame}
use Rattle.boot_frames.specs.Claims.{cache_claim}
use Rattle.boot_frames.specs.Loans.{cell_of_frame, is_lent, loans_in}
use Rattle.boot_frames.specs.Lots.{IsNew, Serves}
use Rattle.boot_frames.specs.declared.lots.Lot.{Lot}
use Rattle.block_caches.specs.Filling.{IsCacheFrame}
use Rattle.block_caches.specs.Holding.{IsHeld}

-- what the laws of lots say of the lot of a cell
pub record IsCellLot (table : MadeTable) (layout : Layout) (left : Left) (cache cell : ℕ) (lot : Lot) : Type 0 where
  pub serves : Serves table layout left (cache_claim cache cell) lot
  pub frames : (frame : ℕ) → frame_holds lot.holder.view frame ≡ frame_times frame lot.frames
  pub loans : (other : ℕ) → other < 8 → cell_loans lot.holder.view other ≡ loans_in layout cell lot.frames other
  pub inside : All (λ (f : Frame). cell_of_frame layout f ≡ cell) lot.frames

-- ---- the holder

count_by-places : (frame : ℕ) (frames : List Frame) → count_by (is_number frame) (map place_of frames) ≡ frame_times frame frames
count_by-places frame [] = refl
count_by-places frame (f ∷ frames) =
    sum_by-cons _ (place_of f) (map place_of frames) ∙ ap (λ n. (if f.number.0 == frame then 1 else 0) + n) (count_by-places frame frames)

not-lent : (layout : Layout) (home cell : ℕ) (f : Frame) → cell_of_frame layout f ≡ home → is_lent layout home cell f ≡ false
not-lent layout home cell f inside = grind (arith, nat_tests)

-- frames of the home cell take no loan
no-loans : (layout : Layout) (home cell : ℕ) (frames : List Frame) → All (λ (f : Frame). cell_of_frame layout f ≡ home) frames → loans_in layout home frames cell ≡ 0
no-loans layout home cell [] inside = refl
no-loans layout home cell (f ∷ frames) inside =
    let P = λ (f : Frame). cell_of_frame layout f ≡ home in
    let first = ap {B = ℕ} (λ b. if b then 1 else 0) (not-lent layout home cell f (All-head P f frames inside)) in
    let rest = no-loans layout home cell frames (All-tail P f frames inside) in
    sum_by-cons _ f frames ∙ omega (arith, first, rest)

pub lot-held : (table : MadeTable) (layout : Layout) (left : Left) (cache cell : ℕ) (lot : Lot) (index : Index) → IsCellLot table layout left cache cell lot → index.frames ≡ map place_of lot.frames → IsHeld table index lot.holder
lot-held table layout left cache cell lot index is same = record {
  made = is.serves.made;
  holds = record {
    holds = λ frame. is.frames frame ∙ sym (count_by-places frame lot.frames) ∙ ap (λ (l : List CacheFrame). count_by (is_number frame) l) (sym same);
    no_loans = λ other few. is.loans other few ∙ no-loans layout cell other lot.frames is.inside;
  };
  below = subst (AreBelow table.terms.frames) (sym same) (All-map (λ (f : CacheFrame). f.number.0 < table.terms.frames) place_of lot.frames (All-weaker (IsNew table.terms) (λ (f : Frame). f.number.0 < table.terms.frames) (λ f new. new.within) lot.frames is.serves.taken.new));
}

-- ---- the frames

All-at : (P : Frame → Type 0) (frames : List Frame) (k : ℕ) (f : Frame) → All P frames → slice_get frames k ≡ Some f → P f
All-at P frames k f all at = subst P (get_or_from_slice_get frames k f f at) (all k f (slice_get_within frames k f at))

mapped : (o : Option Frame) (f : CacheFrame) → option_map place_of o ≡ Some f → (g : Frame) × (o ≡ Some g) × (place_of g ≡ f)
mapped None f e = absurd cc
mapped (Some g) f e = (g, refl, cc)

-- the frames of a cell's index are those of its lot
pub lot-frame : (table : MadeTable) (layout : Layout) (left : Left) (cache cell : ℕ) (lot : Lot) → IsCellLot table layout left cache cell lot → (k : ℕ) (f : CacheFrame) → slice_get (map place_of lot.frames) k ≡ Some f → IsCacheFrame table.terms layout left cell k f
lot-frame table layout left cache cell lot is k f at =
    let own = mapped (slice_get lot.frames k) f (sym (slice_get-map place_of lot.frames k) ∙ at) in
    let g = own.0 in
    let new = All-at (IsNew table.terms) lot.frames k g is.serves.taken.new own.1 in
    subst (IsCacheFrame table.terms layout left cell k) own.2
    (record {
      placed = is.serves.taken.placed k g own.1;
      within = new.within;
      inside = All-at (λ (f : Frame). cell_of_frame layout f ≡ cell) lot.frames k g is.inside own.1;
      first = new.first;
    })
