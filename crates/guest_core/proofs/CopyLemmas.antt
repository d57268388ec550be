-- The frames that a holder has, as a list of copies: a guest's own are one such list, their order is nothing to the holder, and one goes
-- with a frame that is given back.
use Rattle.std.proofs.Common.{◌≡◌, ◌≢◌, ℕ, ◌+◌, ◌/◌, ◌<◌, ◌==◌, not, cond, if◌then◌else◌, Bool, true, false, List, [], ◌∷◌, ◌++◌, refl, sym, ap, ◌∙◌, subst, arith}
use Rattle.std.proofs.lemmas.Bool.{eq-eqb, ne_eqb}
use Rattle.std.proofs.lemmas.List.Elements.{All-contains}
use Rattle.std.proofs.lemmas.List.Sums.{sum_by-cons, sum_by-append}
use Rattle.std.specs.Prelude.{Contains}
use mathlib.Core.Logic.{dite}
use native.Mathlib.Decide.{ℕ_discrete}
use Rattle.frame_words.specs.FrameWords.{frame_word, cell_word, generation}
use Rattle.frame_words.specs.Views.{hold, times, held as held_by, frame_holds, cell_loans, HeldUnder, KeepsRest}
use Rattle.frame_words.specs.declared.view.Hold.{Hold}
use Rattle.frame_words.specs.declared.view.View.{View}
use Rattle.node_frames.specs.Layout.{Layout}
use Rattle.node_frames.specs.Places.{cell_of_node as layout_cell}
use Rattle.node_frames.specs.Searches.{Releases}
use Rattle.private_machine.specs.Backing.{Copy}
use Rattle.isolation_law.specs.Surroundings.{Surroundings, cell_of_node, cell_of_frame, home_cell}
use Rattle.isolation_law.specs.GuestState.{GuestState}
use Rattle.isolation_law.specs.CellUse.{held}
use Rattle.isolation_law.specs.Exchange.{count_of}
use Rattle.guest_core.specs.Holding.{is_copy, IsHolding, HoldsCopies}
use Rattle.guest_core.proofs.ShapeLemmas.{IsLayoutOf}

-- ---- a list of copies

-- the loans of a cell, counted in these surroundings
abbrev pub loans-in : Surroundings → ℕ → ℕ → ℕ
loans-in w cell n = if cell == home_cell w then 0 else n

abbrev pub in-cell : Surroundings → ℕ → ℕ → ℕ → Bool
in-cell w cell f g = cell_of_frame w f == cell

-- what a guest holds is one such list
pub copies-held : (s : GuestState) (v : View) → IsHolding s v → HoldsCopies s.around (held s) v
copies-held s v h = record { counted = h.counted; same_generation = h.same_generation; borrowed = h.borrowed; within = h.within }

pub held-copies : (s : GuestState) (v : View) → HoldsCopies s.around (held s) v → IsHolding s v
held-copies s v h = record { counted = h.counted; same_generation = h.same_generation; borrowed = h.borrowed; within = h.within }

-- a view with the same holds holds the same
pub same-holds : (s : GuestState) (v u : View) → u.holds ≡ v.holds → IsHolding s v → IsHolding s u
same-holds s v u same h = record {
  counted = λ frame. ap (times (frame_word frame)) same ∙ h.counted frame;
  same_generation = λ frame generation some. λ own has. h.same_generation frame generation some own (subst (λ (hs : List Hold). Contains hs (hold (frame_word frame) own)) same has);
  borrowed = λ cell low. ap (times (cell_word cell)) same ∙ h.borrowed cell low;
  within = h.within;
}

-- of each frame and generation there are as many in two lists
abbrev pub AsMany : List Copy → List Copy → Type 0
AsMany cs ds = (test : ℕ → ℕ → Bool) → count_of test ds ≡ count_of test cs

pub as-many-copies : (w : Surroundings) (cs ds : List Copy) (v : View) → AsMany cs ds → HoldsCopies w cs v → HoldsCopies w ds v
as-many-copies w cs ds v same h = record {
  counted = λ frame. h.counted frame ∙ sym (same (λ f g. f == frame));
  same_generation = λ frame generation some. h.same_generation frame generation (subst (λ (n : ℕ). 0 < n) (same (is_copy frame generation)) some);
  borrowed = λ cell low. h.borrowed cell low ∙ sym (ap (loans-in w cell) (same (in-cell w cell)));
  within = λ frame some. h.within frame (subst (λ (n : ℕ). 0 < n) (same (λ f g. f == frame)) some);
}

pub count-append : (test : ℕ → ℕ → Bool) (cs ds : List Copy) → count_of test (cs ++ ds) ≡ count_of test cs + count_of test ds
count-append test cs ds = sum_by-append (λ (c : Copy). cond {A = ℕ} (test c.frame c.generation) 1 0) cs ds

pub count-cons : (test : ℕ → ℕ → Bool) (c : Copy) (cs : List Copy) → count_of test (c ∷ cs) ≡ cond {A = ℕ} (test c.frame c.generation) 1 0 + count_of test cs
count-cons test c cs = sum_by-cons (λ (c : Copy). cond {A = ℕ} (test c.frame c.generation) 1 0) c cs

pub count-last : (test : ℕ → ℕ → Bool) (cs : List Copy) (c : Copy) → count_of test (cs ++ c ∷ []) ≡ count_of test cs + cond {A = ℕ} (test c.frame c.generation) 1 0
count-last test cs c = let none : count_of test [] ≡ 0 = refl in let split = count-append test cs (c ∷ []) in let one = count-cons test c [] in omega arith

-- ---- words and cells

abbrev pub one_if : Bool → ℕ
one_if b = if b then 1 else 0

-- the words of two frames are one word where the frames are one
pub same-word : (f k : ℕ) → one_if (frame_word f == frame_word k) ≡ cond {A = ℕ} (f == k) 1 0
same-word f k = dite (ℕ_discrete f k)
    (λ e. ap (λ (n : ℕ). one_if (frame_word n == frame_word k)) e ∙ one (frame_word k) ∙ sym (ap (λ (b : Bool). cond {A = ℕ} b 1 0) (eq-eqb f k e)))
    (λ ne. ap one_if (ne_eqb (frame_word f) (frame_word k) (λ (e : f + 8 ≡ k + 8). ne (omega arith))) ∙ sym (ap (λ (b : Bool). cond {A = ℕ} b 1 0) (ne_eqb f k ne)))
  where
    one : (n : ℕ) → one_if (n == n) ≡ 1
    one n = ap one_if (eq-eqb n n refl)

-- and no cell's
pub apart : (n m : ℕ) → n ≢ m → one_if (n == m) ≡ 0
apart n m ne = ap one_if (ne_eqb n m ne)

-- a loan comes and goes with a frame outside the home cell
pub lent : (w : Surroundings) (cell pays n m : ℕ) → n ≡ m + cond {A = ℕ} (pays == cell) 1 0 → loans-in w cell n ≡ loans-in w cell m + cond {A = ℕ} (not (pays == home_cell w)) (one_if (pays == cell)) 0
lent w cell pays n m counted = dite (ℕ_discrete cell (home_cell w))
    (λ e. let flag : (k : ℕ) → loans-in w cell k ≡ 0 = λ k. ap (λ (b : Bool). if b then 0 else k) (eq-eqb cell (home_cell w) e) in
    let unpaid : cond {A = ℕ} (not (pays == home_cell w)) (one_if (pays == cell)) 0 ≡ 0 = dite (ℕ_discrete pays (home_cell w))
    (λ home. ap (λ (b : Bool). cond {A = ℕ} (not b) (one_if (pays == cell)) 0) (eq-eqb pays (home_cell w) home))
    (λ away. ap (λ (b : Bool). cond {A = ℕ} (not (pays == home_cell w)) (one_if b) 0) (ne_eqb pays cell (λ h. away (h ∙ e))) ∙ nothing (not (pays == home_cell w))) in
    let a = flag n in let b = flag m in omega arith)
    (λ ne. let flag : (k : ℕ) → loans-in w cell k ≡ k = λ k. ap (λ (b : Bool). if b then 0 else k) (ne_eqb cell (home_cell w) ne) in
    let a = flag n in let b = flag m in
    dite (ℕ_discrete pays cell)
    (λ e. let one : cond {A = ℕ} (pays == cell) 1 0 ≡ 1 = ap (λ (b : Bool). cond {A = ℕ} b 1 0) (eq-eqb pays cell e) in
    let out : not (pays == home_cell w) ≡ true = ap not (ne_eqb pays (home_cell w) (λ h. ne (sym e ∙ h))) in
    let paid : cond {A = ℕ} (not (pays == home_cell w)) (one_if (pays == cell)) 0 ≡ 1 = (λ i. cond {A = ℕ} (out i) (one_if (eq-eqb pays cell e i)) 0) in omega arith)
    (λ no. let none : cond {A = ℕ} (pays == cell) 1 0 ≡ 0 = ap (λ (b : Bool). cond {A = ℕ} b 1 0) (ne_eqb pays cell no) in
    let paid : cond {A = ℕ} (not (pays == home_cell w)) (one_if (pays == cell)) 0 ≡ 0 = ap (λ (b : Bool). cond {A = ℕ} (not (pays == home_cell w)) (one_if b) 0) (ne_eqb pays cell no) ∙ nothing (not (pays == home_cell w)) in omega arith))
  where
    nothing : (b : Bool) → cond {A = ℕ} b 0 0 ≡ 0
    nothing true = refl
    nothing false = refl

-- ---- a frame is given back

-- what one hold less leaves
fewer : (v w : View) (x : Hold) → KeepsRest v (x ∷ []) w → (word : ℕ) → held_by word w + one_if (x.word == word) ≡ held_by word v
fewer v w x rest word = let e = rest.often word in omega arith

under-fewer : (v w : View) (gone : List Hold) (word generation : ℕ) → KeepsRest v gone w → HeldUnder v word generation → HeldUnder w word generation
under-fewer v w gone word generation rest h = λ own has. h own (All-contains (Contains v.holds) w.holds (hold word own) rest.among has)

-- how a frame and its loan leave a view
record Gives (v w : View) (frame pays : ℕ) (outside : Bool) : Type 0 where
  frames : (k : ℕ) → frame_holds w k + cond {A = ℕ} (frame == k) 1 0 ≡ frame_holds v k
  cells : (c : ℕ) → c < 8 → cell_loans w c + cond {A = ℕ} outside (one_if (pays == c)) 0 ≡ cell_loans v c
  under : (word generation : ℕ) → HeldUnder v word generation → HeldUnder w word generation

gives : (layout : Layout) (home frame : ℕ) (v w : View) → layout_cell layout (frame / layout.frames) < 8 → Releases layout home frame v w → Gives v w frame (layout_cell layout (frame / layout.frames)) (not (layout_cell layout (frame / layout.frames) == home))
gives layout home frame v w low r =
    let cell = layout_cell layout (frame / layout.frames) in
    let x : Hold = hold (frame_word frame) (generation r.given.seen) in
    dite (ℕ_discrete cell home)
    (λ e. let is = r.inside e in
    let flag : not (cell == home) ≡ false = ap not (eq-eqb cell home e) in
    subst (λ (u : View). Gives v u frame cell (not (cell == home))) (sym is) (subst (λ (b : Bool). Gives v r.between frame cell b) (sym flag) (record {
      frames = λ k. let a = fewer v r.between x r.given.rest (frame_word k) in let b = same-word frame k in omega arith;
      cells = λ c lt. let a = fewer v r.between x r.given.rest c in let b = apart (frame_word frame) c (λ (e : frame + 8 ≡ c). omega arith) in omega arith;
      under = λ word g h. under-fewer v r.between (x ∷ []) word g r.given.rest h;
    })))
    (λ ne. let out = r.outside ne in
    let y : Hold = hold (cell_word cell) (generation out.seen) in
    let flag : not (cell == home) ≡ true = ap not (ne_eqb cell home ne) in
    subst (λ (b : Bool). Gives v w frame cell b) (sym flag) (record {
      frames = λ k. let a = fewer v r.between x r.given.rest (frame_word k) in let b = same-word frame k in
          let c = fewer r.between w y out.rest (frame_word k) in let d = apart cell (frame_word k) (λ (e : cell ≡ k + 8). omega arith) in omega arith;
      cells = λ c lt. let a = fewer v r.between x r.given.rest c in let b = apart (frame_word frame) c (λ (e : frame + 8 ≡ c). omega arith) in
          let d = fewer r.between w y out.rest c in omega arith;
      under = λ word g h. under-fewer r.between w (y ∷ []) word g out.rest (under-fewer v r.between (x ∷ []) word g r.given.rest h);
    }))

more : (a b c : ℕ) → a ≡ b + c → 0 < b → 0 < a
more a b c e lt = omega arith

-- the cell that the layout tells of a frame's node is the frame's
pub pays-cell : (layout : Layout) (w : Surroundings) (frame : ℕ) → IsLayoutOf layout w → layout_cell layout (frame / layout.frames) ≡ cell_of_frame w frame
pays-cell layout w frame lies = lies.cells (frame / layout.frames) ∙ ap (λ (n : ℕ). cell_of_node w (frame / n)) lies.frames

pub copy-goes : (layout : Layout) (w : Surroundings) (cs : List Copy) (last : Copy) (v u : View) → IsLayoutOf layout w → layout_cell layout (last.frame / layout.frames) < 8
    → Releases layout (home_cell w) last.frame v u → HoldsCopies w (cs ++ last ∷ []) v → HoldsCopies w cs u
copy-goes layout w cs last v u lies low r h =
    let g = gives layout (home_cell w) last.frame v u low r in
    let more-of = λ (test : ℕ → ℕ → Bool). count-last test cs last in
    let cell-is = pays-cell layout w last.frame lies in
    record {
      counted = λ frame. let a = g.frames frame in let b = more-of (λ f x. f == frame) in let c = h.counted frame in omega arith;
      same_generation = λ frame generation some. g.under (frame_word frame) generation (h.same_generation frame generation (more _ _ _ (more-of (is_copy frame generation)) some));
      borrowed = λ cell lt.
          let pays = layout_cell layout (last.frame / layout.frames) in
          let counted : count_of (in-cell w cell) (cs ++ last ∷ []) ≡ count_of (in-cell w cell) cs + cond {A = ℕ} (pays == cell) 1 0 =
          more-of (in-cell w cell) ∙ ap (λ (n : ℕ). count_of (in-cell w cell) cs + cond {A = ℕ} (n == cell) 1 0) (sym cell-is) in
          let a = lent w cell pays (count_of (in-cell w cell) (cs ++ last ∷ [])) (count_of (in-cell w cell) cs) counted in let b = g.cells cell lt in let c = h.borrowed cell lt in omega arith;
      within = λ frame some. h.within frame (more _ _ _ (more-of (λ f x. f == frame)) some);
    }
