-- How often a frame's word and a cell's word stand among named frames and loans.
use Rattle.std.proofs.Common.{◌≡◌, ℕ, zero, suc, ◌+◌, ◌<◌, ◌≤◌, ◌==◌, if◌then◌else◌, Bool, true, false, List, [], ◌∷◌, length, replicate, slice_index, refl, sym, ap, ◌∙◌, subst, arith, eq-eqb, ne_eqb}
use mathlib.Core.Logic.{dite}
use native.Mathlib.Decide.{ℕ_discrete}
use Rattle.base_words.specs.declared.frame.Frame.{Frame}
use Rattle.frame_words.specs.FrameWords.{cell_word, frame_word}
use Rattle.frame_words.specs.Views.{hold, times, KeepsRest}
use Rattle.frame_words.specs.Splits.{frames_named, loans_from, named, frame_times, KeepsUnnamed}
use Rattle.frame_words.specs.declared.view.View.{View}
use Rattle.frame_words.proofs.Bags.{one_if, times-append}

-- a frame's word among the words of frames
same_word : (a b : ℕ) → (a + 8 == b + 8) ≡ (a == b)
same_word a b = dite (ℕ_discrete a b)
    (λ e. eq-eqb (a + 8) (b + 8) (omega arith) ∙ sym (eq-eqb a b e))
    (λ ne. ne_eqb (a + 8) (b + 8) (λ (e : a + 8 ≡ b + 8). ne (omega arith)) ∙ sym (ne_eqb a b ne))

pub times-frames : (frame : ℕ) (fs : List Frame) → times (frame_word frame) (frames_named fs) ≡ frame_times frame fs
times-frames frame [] = refl
times-frames frame (f ∷ fs) = λ i. (if same_word f.number.0 frame i then 1 else 0) + times-frames frame fs i

-- a cell's word is none of them
pub no_frame : (cell : ℕ) (fs : List Frame) → cell < 8 → times (cell_word cell) (frames_named fs) ≡ 0
no_frame cell [] low = refl
no_frame cell (f ∷ fs) low =
    let here : one_if (frame_word f.number.0 == cell_word cell) ≡ 0 = ap one_if (ne_eqb (f.number.0 + 8) cell (λ (e : f.number.0 + 8 ≡ cell). omega arith)) in
    let rest = no_frame cell fs low in omega arith

-- so many loans of one cell
times-same : (n cell word : ℕ) (b : Bool) → (cell == word) ≡ b → times word (replicate n (hold cell 0)) ≡ (if b then n else 0)
times-same zero cell word true is = refl
times-same zero cell word false is = refl
times-same (suc n) cell word true is = let rest = times-same n cell word true is in let here : one_if (cell == word) ≡ 1 = ap one_if is in omega arith
times-same (suc n) cell word false is = let rest = times-same n cell word false is in let here : one_if (cell == word) ≡ 0 = ap one_if is in omega arith

-- the loans from a cell on have none of a lower cell, and none past their end
pub loans_before : (from word : ℕ) (ns : List ℕ) → word < from → times word (loans_from from ns) ≡ 0
loans_before from word [] low = refl
loans_before from word (n ∷ ns) low =
    let both = times-append word (replicate n (hold from 0)) (loans_from (from + 1) ns) in
    let here = times-same n from word false (ne_eqb from word (omega arith)) in
    let rest = loans_before (from + 1) word ns (omega arith) in omega arith

pub loans_past : (from word : ℕ) (ns : List ℕ) → from + length ns ≤ word → times word (loans_from from ns) ≡ 0
loans_past from word [] far = refl
loans_past from word (n ∷ ns) far =
    let both = times-append word (replicate n (hold from 0)) (loans_from (from + 1) ns) in
    let here = times-same n from word false (ne_eqb from word (omega arith)) in
    let rest = loans_past (from + 1) word ns (omega arith) in omega arith

pub loans_at : (from k : ℕ) (ns : List ℕ) → times (from + k) (loans_from from ns) ≡ slice_index ns k
loans_at from k [] = refl
loans_at from zero (n ∷ ns) =
    let both = times-append (from + 0) (replicate n (hold from 0)) (loans_from (from + 1) ns) in
    let here = times-same n from (from + 0) true (eq-eqb from (from + 0) (omega arith)) in
    let rest = loans_before (from + 1) (from + 0) ns (omega arith) in omega arith
loans_at from (suc k) (n ∷ ns) =
    let both = times-append (from + suc k) (replicate n (hold from 0)) (loans_from (from + 1) ns) in
    let here = times-same n from (from + suc k) false (ne_eqb from (from + suc k) (omega arith)) in
    let rest : times (from + suc k) (loans_from (from + 1) ns) ≡ slice_index ns k = subst (λ w. times w (loans_from (from + 1) ns) ≡ slice_index ns k) (omega arith) (loans_at (from + 1) k ns) in omega arith

-- a frame is named as often as it is among the frames, and a cell's loan as often as its number says
pub times-named_frame : (frame : ℕ) (fs : List Frame) (ns : List ℕ) → length ns ≤ 8 → times (frame_word frame) (named fs ns) ≡ frame_times frame fs
times-named_frame frame fs ns few =
    let both = times-append (frame_word frame) (frames_named fs) (loans_from 0 ns) in
    let here = times-frames frame fs in
    let rest = loans_past 0 (frame_word frame) ns (omega arith) in omega arith

pub times-named_cell : (cell : ℕ) (fs : List Frame) (ns : List ℕ) → cell < 8 → times (cell_word cell) (named fs ns) ≡ slice_index ns cell
times-named_cell cell fs ns low =
    let both = times-append (cell_word cell) (frames_named fs) (loans_from 0 ns) in
    let here = no_frame cell fs low in
    let rest : times cell (loans_from 0 ns) ≡ slice_index ns cell = subst (λ w. times w (loans_from 0 ns) ≡ slice_index ns cell) (omega arith) (loans_at 0 cell ns) in omega arith

pub keeps_unnamed : (v w : View) (fs : List Frame) (ns : List ℕ) → length ns ≤ 8 → KeepsRest v (named fs ns) w → KeepsUnnamed v fs ns w
keeps_unnamed v w fs ns few k = record {
  holds = λ frame. let a = k.often (frame_word frame) in let b = times-named_frame frame fs ns few in omega arith;
  lent = λ cell low. let a = k.often (cell_word cell) in let b = times-named_cell cell fs ns low in omega arith;
  stays = λ frame under less own. let b = times-named_frame frame fs ns few in k.stays (frame_word frame) under (omega arith) own;
  plain = λ cell low less own. let b = times-named_cell cell fs ns low in k.stays (cell_word cell) 0 (omega arith) own;
}
