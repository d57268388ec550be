-- Loans counted cell by cell.
use Rattle.std.proofs.Common.{◌≡◌, ◌≢◌, ℕ, ◌+◌, ◌<◌, ◌==◌, true, false, List, length, set, get_or, take, sym, ap, ◌∙◌, subst, arith, eq-eqb, ne_eqb, length-set, get_or-set_same, get_or-set_other}
use Rattle.std.specs.Prelude.{not, ◌&&◌}
use Rattle.std.proofs.Math.Bool.{and-false}
use Rattle.std.proofs.lemmas.List.Sums.{count_by_more_no, count_by_more_yes, count_by-le-length}
use Rattle.std.proofs.lemmas.List.{length-take}
use mathlib.Core.Logic.{dite}
use native.Mathlib.Decide.{ℕ_discrete}
use Rattle.base_words.specs.declared.frame.Frame.{Frame}
use Rattle.node_frames.specs.Layout.{Layout}
use Rattle.boot_frames.specs.Loans.{cell_of_frame, is_lent, loans_in}

pub lent_here : (layout : Layout) (home cell : ℕ) (f : Frame) → cell_of_frame layout f ≡ cell → cell ≢ home → is_lent layout home cell f ≡ true
lent_here layout home cell f on outside = λ i. eq-eqb (cell_of_frame layout f) cell on i && not (ne_eqb cell home outside i)

pub lent_else : (layout : Layout) (home cell : ℕ) (f : Frame) → cell_of_frame layout f ≢ cell → is_lent layout home cell f ≡ false
lent_else layout home cell f off = λ i. ne_eqb (cell_of_frame layout f) cell off i && not (cell == home)

pub lent_home : (layout : Layout) (home cell : ℕ) (f : Frame) → cell_of_frame layout f ≡ home → is_lent layout home cell f ≡ false
lent_home layout home cell f inside = dite (ℕ_discrete cell home)
    (λ e. (λ i. (cell_of_frame layout f == cell) && not (eq-eqb cell home e i)) ∙ and-false (cell_of_frame layout f == cell))
    (λ ne. lent_else layout home cell f (λ (e : cell_of_frame layout f ≡ cell). ne (sym e ∙ inside)))

-- the loans of each cell among so many frames
pub record Counted (layout : Layout) (home : ℕ) (frames : List Frame) (loans : List ℕ) : Type 0 where
  pub cells : length loans ≡ 8
  pub each : (cell : ℕ) → cell < 8 → get_or loans cell 0 ≡ loans_in layout home frames cell

pub counted_lent : (layout : Layout) (home cell : ℕ) (frames : List Frame) (k : ℕ) (loans : List ℕ) (f : Frame) → k < length frames → get_or frames k f ≡ f
    → cell_of_frame layout f ≡ cell → cell ≢ home → cell < 8 → Counted layout home (take k frames) loans
    → Counted layout home (take (k + 1) frames) (set loans cell (get_or loans cell 0 + 1))
counted_lent layout home cell frames k loans f within is on outside low c = record {
  cells = length-set loans cell (get_or loans cell 0 + 1) ∙ c.cells;
  each = λ other below. dite (ℕ_discrete other cell)
      (λ e. subst (λ n. get_or (set loans cell (get_or loans cell 0 + 1)) n 0 ≡ loans_in layout home (take (k + 1) frames) n) (sym e)
      (let all = c.cells in let here = get_or-set_same loans cell (get_or loans cell 0 + 1) 0 (omega arith) in
      let before = c.each cell low in
      let more = count_by_more_yes (is_lent layout home cell) frames k f within (ap (is_lent layout home cell) is ∙ lent_here layout home cell f on outside) in omega arith))
      (λ ne. let there = get_or-set_other loans cell other (get_or loans cell 0 + 1) 0 ne in
      let before = c.each other below in
      let more = count_by_more_no (is_lent layout home other) frames k f within (ap (is_lent layout home other) is ∙ lent_else layout home other f (λ (e : cell_of_frame layout f ≡ other). ne (sym e ∙ on))) in omega arith);
}

pub counted_home : (layout : Layout) (home : ℕ) (frames : List Frame) (k : ℕ) (loans : List ℕ) (f : Frame) → k < length frames → get_or frames k f ≡ f
    → cell_of_frame layout f ≡ home → Counted layout home (take k frames) loans → Counted layout home (take (k + 1) frames) loans
counted_home layout home frames k loans f within is inside c = record {
  cells = c.cells;
  each = λ other below. c.each other below ∙ sym (count_by_more_no (is_lent layout home other) frames k f within (ap (is_lent layout home other) is ∙ lent_home layout home other f inside));
}

-- no cell has more loans than there are frames
pub counted_few : (layout : Layout) (home cell : ℕ) (frames : List Frame) (k : ℕ) (loans : List ℕ) → k < length frames → cell < 8 → Counted layout home (take k frames) loans → get_or loans cell 0 < length frames
counted_few layout home cell frames k loans within low c =
    let is = c.each cell low in
    let most = count_by-le-length (is_lent layout home cell) (take k frames) in
    let len = length-take k frames in omega arith
