-- Where a guest uses a cell, and where the plain count is above 0.
use Rattle.std.proofs.Common.{◌≡◌, ◌≢◌, ℕ, ◌<◌, length, ◌↔◌, true, Option, Some, None, Contains, arith, refl, ap, subst, inl, inr}
use Rattle.std.proofs.lemmas.Bool.{eqb-true, eq-eqb}
use Rattle.std.proofs.lemmas.Bool.Decides.{eqb_tells}
use Rattle.base_words.specs.declared.frame.Shape.{Shape}
use Rattle.base_words.specs.declared.ids.CellId.{CellId}
use Rattle.cell_depend.specs.CellUse.{Rows, IsUsed, is_cell, is_some_cell, lies_in, frames_in, vcpus_in, use_from_rows}
use Rattle.cell_depend.specs.Counters.{UsesState, AreCounts, count_at, total}
use Rattle.cell_depend.proofs.Counting.{item-counted, counted-item}

-- a cell is known by its number
is_cell-same : (a b : CellId) → is_cell b.0 a ≡ true → a ≡ b
is_cell-same a b same = ap (λ (n : ℕ). let c : CellId = record { 0 = n } in c) (eqb-true a.0 b.0 same)

is_some_cell-same : (a : Option CellId) (b : CellId) → is_some_cell b.0 a ≡ true → a ≡ Some b
is_some_cell-same None b same = cc
is_some_cell-same (Some a) b same = ap Some (is_cell-same a b same)

same-is_some_cell : (a : Option CellId) (b : CellId) → a ≡ Some b → is_some_cell b.0 a ≡ true
same-is_some_cell a b same = rw same (eq-eqb b.0 b.0 refl)

counted-used : (shape : Shape) (rows : Rows) (cell : CellId) → use_from_rows shape cell.0 rows ≢ 0 → IsUsed shape rows cell
counted-used shape rows cell some =
    elim (eqb_tells (frames_in shape cell.0 rows.frames) 0) [
      | inl none ↦
          let runs : vcpus_in cell.0 rows.loaded ≢ 0 = λ still. some (omega (arith, none.1, still)) in
          let found = item-counted (is_cell cell.0) rows.loaded runs in
          inr (subst (λ (c : CellId). Contains rows.loaded c) (is_cell-same found.0 cell found.2) found.1)
      | inr held ↦
          let found = item-counted (lies_in shape cell.0) rows.frames held.1 in
          inl (found.0, found.1, is_some_cell-same _ cell found.2)
    ]

used-counted : (shape : Shape) (rows : Rows) (cell : CellId) → IsUsed shape rows cell → use_from_rows shape cell.0 rows ≢ 0
used-counted shape rows cell (inl held) = let some = counted-item (lies_in shape cell.0) rows.frames held.0 held.1 (same-is_some_cell _ cell held.2) in λ none. some (omega (arith, none))
used-counted shape rows cell (inr runs) = let some = counted-item (is_cell cell.0) rows.loaded cell runs (eq-eqb cell.0 cell.0 refl) in λ none. some (omega (arith, none))

pub used_where_counted : (shape : Shape) (rows : Rows) (cell : CellId) → (use_from_rows shape cell.0 rows ≢ 0) ↔ IsUsed shape rows cell
used_where_counted shape rows cell = (counted-used shape rows cell, used-counted shape rows cell)

-- by the counters, where they are those of the rows
pub used_by_counters : (shape : Shape) (rows : Rows) (uses : UsesState) (cell : CellId) → AreCounts shape rows uses → cell.0 < length uses.counts
    → (total (count_at uses cell.0) ≢ 0) ↔ IsUsed shape rows cell
used_by_counters shape rows uses cell are within =
    let same : total (count_at uses cell.0) ≡ use_from_rows shape cell.0 rows = omega (arith, are.frames cell.0 within, are.vcpus cell.0 within) in
    rw same (used_where_counted shape rows cell)
