-- One event more, and the counters are those of the rows.
use Rattle.std.proofs.Common.{◌≡◌, ℕ, ◌+◌, ◌-◌, ◌<◌, ◌≤◌, false, cond, eqb, List, [], length, arith, refl, ap, sym, ◌∙◌, inl, inr, get_or-set_same, get_or-set_other}
use Rattle.std.proofs.Math.ListN.{length-set, get_or-map}
use Rattle.std.proofs.lemmas.Bool.{eq-eqb, ne_eqb}
use Rattle.std.proofs.lemmas.Bool.Decides.{eqb_tells}
use Rattle.std.proofs.lemmas.List.{length-map}
use Rattle.std.proofs.lemmas.List.Sorted.{sum_by-IsPermutation}
use Rattle.std.specs.List.Sorted.{IsPermutation}
use Rattle.base_words.specs.declared.frame.Shape.{Shape}
use Rattle.base_words.specs.declared.ids.CellId.{CellId}
use Rattle.base_words.specs.declared.ids.FrameNo.{FrameNo}
use Rattle.cell_depend.specs.declared.uses.CellCount.{CellCount}
use Rattle.cell_depend.specs.CellUse.{Rows, lies_in, is_cell}
use Rattle.cell_depend.specs.Counters.{UsesState, AreCounts, no_use, count_at, with_count, with_frame, without_frame, without_frames, with_vcpu, without_vcpu}
use Rattle.cell_depend.specs.Events.{IsCounted, IsUncounted, Leaves, Joins}
use Rattle.cell_depend.proofs.Counting.{count_by-Leaves}

-- the counts of a cell, after those of a cell became others: its own, or another's
count_at-with_count : (uses : UsesState) (cell : ℕ) (count : CellCount) (q : ℕ) → cell < length uses.counts
    → count_at (with_count uses cell count) q ≡ cond (eqb cell q) count (count_at uses q)
count_at-with_count uses cell count q within =
    elim (eqb_tells cell q) [
      | inl same ↦ rw (same.0, ← same.1) (get_or-set_same uses.counts cell count no_use within)
      | inr other ↦ rw other.0 (get_or-set_other uses.counts cell q count no_use (λ e. other.1 (sym e)))
    ]

-- the frames of a cell become others: those of this cell alone, and its virtual processors stay
with_frames : (uses : UsesState) (cell q n : ℕ) → cell < length uses.counts
    → (count_at (with_count uses cell (record (count_at uses cell) { frames = n })) q).frames ≡ cond (eqb cell q) n (count_at uses q).frames
with_frames uses cell q n within =
    let changed = count_at-with_count uses cell (record (count_at uses cell) { frames = n }) q within in
    rw changed (elim (eqb_tells cell q) [ inl same ↦ rw same.0 refl | inr other ↦ rw other.0 refl ])

with_frames-vcpus : (uses : UsesState) (cell q n : ℕ) → cell < length uses.counts
    → (count_at (with_count uses cell (record (count_at uses cell) { frames = n })) q).vcpus ≡ (count_at uses q).vcpus
with_frames-vcpus uses cell q n within =
    let changed = count_at-with_count uses cell (record (count_at uses cell) { frames = n }) q within in
    rw changed (elim (eqb_tells cell q) [ inl same ↦ rw same.0 (ap (λ k. (count_at uses k).vcpus) same.1) | inr other ↦ rw other.0 refl ])

-- and the other way round
with_vcpus : (uses : UsesState) (cell q n : ℕ) → cell < length uses.counts
    → (count_at (with_count uses cell (record (count_at uses cell) { vcpus = n })) q).vcpus ≡ cond (eqb cell q) n (count_at uses q).vcpus
with_vcpus uses cell q n within =
    let changed = count_at-with_count uses cell (record (count_at uses cell) { vcpus = n }) q within in
    rw changed (elim (eqb_tells cell q) [ inl same ↦ rw same.0 refl | inr other ↦ rw other.0 refl ])

with_vcpus-frames : (uses : UsesState) (cell q n : ℕ) → cell < length uses.counts
    → (count_at (with_count uses cell (record (count_at uses cell) { vcpus = n })) q).frames ≡ (count_at uses q).frames
with_vcpus-frames uses cell q n within =
    let changed = count_at-with_count uses cell (record (count_at uses cell) { vcpus = n }) q within in
    rw changed (elim (eqb_tells cell q) [ inl same ↦ rw same.0 (ap (λ k. (count_at uses k).frames) same.1) | inr other ↦ rw other.0 refl ])

-- a counter that goes up, or down, as what it counts
more : (counter : ℕ → ℕ) (cell q old new : ℕ) → counter q ≡ old → new ≡ old + cond (eqb cell q) 1 0 → cond (eqb cell q) (counter cell + 1) (counter q) ≡ new
more counter cell q old new was one =
    elim (eqb_tells cell q) [
      | inl same ↦ let own = ap counter same.1 in let grown = rw same.0 at one in rw same.0 (omega (arith, own, was, grown))
      | inr other ↦ let none = rw other.0 at one in rw other.0 (omega (arith, was, none))
    ]

less : (counter : ℕ → ℕ) (cell q old new : ℕ) → counter q ≡ old → old ≡ new + cond (eqb cell q) 1 0 → cond (eqb cell q) (counter cell - 1) (counter q) ≡ new
less counter cell q old new was one =
    elim (eqb_tells cell q) [
      | inl same ↦ let own = ap counter same.1 in let grown = rw same.0 at one in rw same.0 (omega (arith, own, was, grown))
      | inr other ↦ let none = rw other.0 at one in rw other.0 (omega (arith, was, none))
    ]

-- a place among the counts of which one was changed
among : (uses : UsesState) (cell q : ℕ) (count : CellCount) → q < length (with_count uses cell count).counts → q < length uses.counts
among uses cell q count within = omega (arith, within, length-set {A = CellCount})

pub AreCounts-more_frame : (shape : Shape) (rows : Rows) (uses : UsesState) (frame : FrameNo) (cell : CellId) (frames : List FrameNo)
    → AreCounts shape rows uses → IsCounted shape uses frame cell → Joins frame rows.frames frames
    → AreCounts shape (record rows { frames = frames }) (with_frame uses cell.0)
AreCounts-more_frame shape rows uses frame cell frames are place joins = record {
  frames = λ q within.
      let grown = rw place.lies at (count_by-Leaves (lies_in shape q) frame frames rows.frames joins) in
      with_frames uses cell.0 q _ place.counted ∙ more (λ k. (count_at uses k).frames) cell.0 q _ _ (are.frames q (among uses cell.0 q _ within)) grown;
  vcpus = λ q within. with_frames-vcpus uses cell.0 q _ place.counted ∙ are.vcpus q (among uses cell.0 q _ within);
}

pub AreCounts-less_frame : (shape : Shape) (rows : Rows) (uses : UsesState) (frame : FrameNo) (cell : CellId) (rest : List FrameNo)
    → AreCounts shape rows uses → IsCounted shape uses frame cell → Leaves frame rows.frames rest
    → AreCounts shape (record rows { frames = rest }) (without_frame uses cell.0)
AreCounts-less_frame shape rows uses frame cell rest are place leaves = record {
  frames = λ q within.
      let left = rw place.lies at (count_by-Leaves (lies_in shape q) frame rows.frames rest leaves) in
      with_frames uses cell.0 q _ place.counted ∙ less (λ k. (count_at uses k).frames) cell.0 q _ _ (are.frames q (among uses cell.0 q _ within)) left;
  vcpus = λ q within. with_frames-vcpus uses cell.0 q _ place.counted ∙ are.vcpus q (among uses cell.0 q _ within);
}

pub AreCounts-more_vcpu : (shape : Shape) (rows : Rows) (uses : UsesState) (cell : CellId) (loaded : List CellId)
    → AreCounts shape rows uses → cell.0 < length uses.counts → Joins cell rows.loaded loaded
    → AreCounts shape (record rows { loaded = loaded }) (with_vcpu uses cell.0)
AreCounts-more_vcpu shape rows uses cell loaded are counted joins = record {
  frames = λ q within. with_vcpus-frames uses cell.0 q _ counted ∙ are.frames q (among uses cell.0 q _ within);
  vcpus = λ q within.
      with_vcpus uses cell.0 q _ counted
      ∙ more (λ k. (count_at uses k).vcpus) cell.0 q _ _ (are.vcpus q (among uses cell.0 q _ within)) (count_by-Leaves (is_cell q) cell loaded rows.loaded joins);
}

pub AreCounts-less_vcpu : (shape : Shape) (rows : Rows) (uses : UsesState) (cell : CellId) (rest : List CellId)
    → AreCounts shape rows uses → cell.0 < length uses.counts → Leaves cell rows.loaded rest
    → AreCounts shape (record rows { loaded = rest }) (without_vcpu uses cell.0)
AreCounts-less_vcpu shape rows uses cell rest are counted leaves = record {
  frames = λ q within. with_vcpus-frames uses cell.0 q _ counted ∙ are.frames q (among uses cell.0 q _ within);
  vcpus = λ q within.
      with_vcpus uses cell.0 q _ counted
      ∙ less (λ k. (count_at uses k).vcpus) cell.0 q _ _ (are.vcpus q (among uses cell.0 q _ within)) (count_by-Leaves (is_cell q) cell rows.loaded rest leaves);
}

-- ---- what stands in no cell that is counted

-- a cell past those that are counted is none of them
no-cell : (q : ℕ) (cell : CellId) (n : ℕ) → q < n → n ≤ cell.0 → is_cell q cell ≡ false
no-cell q cell n within past = ne_eqb cell.0 q (λ e. omega (arith, e))

pub AreCounts-frame_elsewhere : (shape : Shape) (rows : Rows) (uses : UsesState) (frame : FrameNo) (cell : CellId) (frames : List FrameNo)
    → AreCounts shape rows uses → IsUncounted shape uses frame cell → Joins frame rows.frames frames → AreCounts shape (record rows { frames = frames }) uses
AreCounts-frame_elsewhere shape rows uses frame cell frames are place joins = record {
  frames = λ q within.
      let grown = rw (place.lies, no-cell q cell (length uses.counts) within place.uncounted) at (count_by-Leaves (lies_in shape q) frame frames rows.frames joins) in
      omega (arith, grown, are.frames q within);
  vcpus = are.vcpus;
}

pub AreCounts-frame_left_elsewhere : (shape : Shape) (rows : Rows) (uses : UsesState) (frame : FrameNo) (cell : CellId) (rest : List FrameNo)
    → AreCounts shape rows uses → IsUncounted shape uses frame cell → Leaves frame rows.frames rest → AreCounts shape (record rows { frames = rest }) uses
AreCounts-frame_left_elsewhere shape rows uses frame cell rest are place leaves = record {
  frames = λ q within.
      let left = rw (place.lies, no-cell q cell (length uses.counts) within place.uncounted) at (count_by-Leaves (lies_in shape q) frame rows.frames rest leaves) in
      omega (arith, left, are.frames q within);
  vcpus = are.vcpus;
}

pub AreCounts-vcpu_elsewhere : (shape : Shape) (rows : Rows) (uses : UsesState) (cell : CellId) (loaded : List CellId)
    → AreCounts shape rows uses → length uses.counts ≤ cell.0 → Joins cell rows.loaded loaded → AreCounts shape (record rows { loaded = loaded }) uses
AreCounts-vcpu_elsewhere shape rows uses cell loaded are past joins = record {
  frames = are.frames;
  vcpus = λ q within.
      let grown = rw (no-cell q cell (length uses.counts) within past) at (count_by-Leaves (is_cell q) cell loaded rows.loaded joins) in
      omega (arith, grown, are.vcpus q within);
}

pub AreCounts-vcpu_left_elsewhere : (shape : Shape) (rows : Rows) (uses : UsesState) (cell : CellId) (rest : List CellId)
    → AreCounts shape rows uses → length uses.counts ≤ cell.0 → Leaves cell rows.loaded rest → AreCounts shape (record rows { loaded = rest }) uses
AreCounts-vcpu_left_elsewhere shape rows uses cell rest are past leaves = record {
  frames = are.frames;
  vcpus = λ q within.
      let left = rw (no-cell q cell (length uses.counts) within past) at (count_by-Leaves (is_cell q) cell rows.loaded rest leaves) in
      omega (arith, left, are.vcpus q within);
}

-- ---- all frames at once

pub AreCounts-no_frames : (shape : Shape) (rows : Rows) (uses : UsesState) → AreCounts shape rows uses → AreCounts shape (record rows { frames = [] }) (without_frames uses)
AreCounts-no_frames shape rows uses are = record {
  frames = λ q within. ap (λ (c : CellCount). c.frames) (get_or-map (λ (c : CellCount). record c { frames = 0 }) uses.counts q no_use);
  vcpus = λ q within. ap (λ (c : CellCount). c.vcpus) (get_or-map (λ (c : CellCount). record c { frames = 0 }) uses.counts q no_use)
      ∙ are.vcpus q (omega (arith, within, length-map uses.counts (λ (c : CellCount). record c { frames = 0 })));
}

-- what leaves was counted
pub counted-frame : (shape : Shape) (rows : Rows) (uses : UsesState) (frame : FrameNo) (cell : CellId) (rest : List FrameNo)
    → AreCounts shape rows uses → IsCounted shape uses frame cell → Leaves frame rows.frames rest → 0 < (count_at uses cell.0).frames
counted-frame shape rows uses frame cell rest are place leaves =
    let left = rw (place.lies, eq-eqb cell.0 cell.0 refl) at (count_by-Leaves (lies_in shape cell.0) frame rows.frames rest leaves) in
    omega (arith, left, are.frames cell.0 place.counted)

pub counted-vcpu : (shape : Shape) (rows : Rows) (uses : UsesState) (cell : CellId) (rest : List CellId)
    → AreCounts shape rows uses → cell.0 < length uses.counts → Leaves cell rows.loaded rest → 0 < (count_at uses cell.0).vcpus
counted-vcpu shape rows uses cell rest are counted leaves =
    let left = rw (eq-eqb cell.0 cell.0 refl) at (count_by-Leaves (is_cell cell.0) cell rows.loaded rest leaves) in
    omega (arith, left, are.vcpus cell.0 counted)

-- the order of the rows is nothing to the counts
pub AreCounts-reordered : (shape : Shape) (rows other : Rows) (uses : UsesState) → AreCounts shape rows uses
    → IsPermutation rows.frames other.frames → IsPermutation rows.loaded other.loaded → AreCounts shape other uses
AreCounts-reordered shape rows other uses are frames loaded = record {
  frames = λ q within. are.frames q within ∙ sym (sum_by-IsPermutation (λ f. cond (lies_in shape q f) 1 0) rows.frames other.frames frames);
  vcpus = λ q within. are.vcpus q within ∙ sym (sum_by-IsPermutation (λ c. cond (is_cell q c) 1 0) rows.loaded other.loaded loaded);
}
