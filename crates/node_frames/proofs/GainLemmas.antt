-- What a view that is alone gains by a search, and that the frame is the lowest of its node.
use Rattle.std.proofs.Common.{◌≡◌, ℕ, ◌+◌, ◌*◌, ◌-◌, ◌/◌, ◌<◌, ◌≤◌, ◌==◌, if◌then◌else◌, Bool, true, false, List, [], ◌∷◌, get_or, slice_index, refl, sym, ap, ◌∙◌, subst, arith, eq-eqb, ne_eqb, get_or-set_other}
use Rattle.std.specs.Prelude.{Contains, not, ◌&&◌}
use Rattle.std.proofs.lemmas.List.Elements.{Contains-append_right}
use Rattle.std.proofs.lemmas.Nat.{mul-le}
use Rattle.std.proofs.Math.Bool.{and-false}
use mathlib.Core.Logic.{dite}
use native.Mathlib.Decide.{ℕ_discrete}
use Rattle.node_frames.specs.Layout.{Layout}
use Rattle.base_words.specs.declared.ids.NodeId.{NodeId}
use Rattle.frame_words.specs.AddingUp.{HoldsAddUp}
use Rattle.frame_words.specs.FrameWords.{generation, cell_word, frame_word}
use Rattle.frame_words.specs.Views.{hold, held, holding, frame_holds, cell_loans}
use Rattle.frame_words.specs.Splits.{HasLoan}
use Rattle.frame_words.specs.Holders.{MadeTable}
use Rattle.frame_words.specs.declared.view.Hold.{Hold}
use Rattle.frame_words.specs.declared.view.View.{View}
use Rattle.node_frames.specs.Places.{IsOn, cell_of_node, IsOutside, takes_loan, paying, FitsShape, AreNodes}
use Rattle.node_frames.specs.Searches.{Finds}
use Rattle.node_frames.specs.Alone.{IsLowest, Gains}
use Rattle.node_frames.proofs.SeekLemmas.{on_range, range_on, paying-home, paying-outside}
use Rattle.node_frames.proofs.AloneLemmas.{one_of, cell_low, node_within, paid_frame, paid_known, paid_alone}

-- the frames of a node
pub on_place : (layout : Layout) (node k : ℕ) → k < layout.frames → IsOn layout node (node * layout.frames + k)
on_place layout node k inside = range_on layout.frames node (node * layout.frames + k) (omega arith) (omega arith) (omega arith)

pub place_on : (layout : Layout) (node frame : ℕ) → 0 < layout.frames → IsOn layout node frame → (k : ℕ) × (k < layout.frames) × (frame ≡ node * layout.frames + k)
place_on layout node frame some on = let r = on_range layout.frames node frame some on in (frame - node * layout.frames, omega arith, omega arith)

pub frame_within : (table : MadeTable) (layout : Layout) (node frame : ℕ) → FitsShape table layout → node < layout.nodes → IsOn layout node frame → frame < table.terms.frames
frame_within table layout node frame fits within on =
    let all = fits.frames in
    let r = on_range layout.frames node frame fits.lies.has_frames on in
    let rows : (node + 1) * layout.frames ≤ layout.nodes * layout.frames = mul-le (node + 1) layout.frames layout.nodes layout.frames (omega arith) (omega arith) in omega arith

-- the loan that a frame of the node takes
abbrev lent_in : (layout : Layout) (home node cell : ℕ) → Bool
lent_in layout home node cell = (cell_of_node layout node == cell) && not (cell == home)

paid_cell : (layout : Layout) (home node cell : ℕ) (v : View) → held cell (paying layout home node v) ≡ one_of (lent_in layout home node cell) + held cell v
paid_cell layout home node cell v = dite (ℕ_discrete (cell_of_node layout node) home)
    (λ inside.
    let same = ap (held cell) (paying-home layout home node v inside) in
    let none : one_of (lent_in layout home node cell) ≡ 0 = ap one_of (dite (ℕ_discrete cell home)
    (λ e. (λ i. (cell_of_node layout node == cell) && not (eq-eqb cell home e i)) ∙ and-false (cell_of_node layout node == cell))
    (λ ne. λ i. ne_eqb (cell_of_node layout node) cell (λ (e : cell_of_node layout node ≡ cell). ne (sym e ∙ inside)) i && not (cell == home))) in omega arith)
    (λ outside.
    let more : held cell (paying layout home node v) ≡ one_of (cell_of_node layout node == cell) + held cell v =
    ap (held cell) (paying-outside layout home node (cell_of_node layout node) v refl outside) in
    dite (ℕ_discrete (cell_of_node layout node) cell)
    (λ e.
    let one : one_of (lent_in layout home node cell) ≡ 1 = ap one_of (λ i. eq-eqb (cell_of_node layout node) cell e i && not (ne_eqb cell home (λ (h : cell ≡ home). outside (e ∙ h)) i)) in
    let here = ap one_of (eq-eqb (cell_of_node layout node) cell e) in omega arith)
    (λ ne.
    let none : one_of (lent_in layout home node cell) ≡ 0 = ap one_of (λ i. ne_eqb (cell_of_node layout node) cell ne i && not (cell == home)) in
    let there = ap one_of (ne_eqb (cell_of_node layout node) cell ne) in omega arith))

paid_stays : (layout : Layout) (home node : ℕ) (v : View) (h : Hold) → Contains v.holds h → Contains (paying layout home node v).holds h
paid_stays layout home node v h there = step (cell_of_node layout node == home)
  where
    step : (b : Bool) → Contains (if b then v else holding v (cell_word (cell_of_node layout node)) 0).holds h
    step true = there
    step false = Contains-append_right (hold (cell_word (cell_of_node layout node)) 0 ∷ []) v.holds h there

module _ (hold_laws : HoldsAddUp) (layout : Layout) (lends : List ℕ) (home : ℕ) (order : List NodeId) (number g : ℕ) (v w : View) (alone : v.alone ≡ true)
    (f : Finds layout lends home order number g v w) (low : cell_of_node layout f.node.0 < 8) where
  abbrev paid : View
  paid = paying layout home f.node.0 v

  held-after : (word : ℕ) → held word w ≡ one_of (frame_word number == word) + held word paid
  held-after word = ap (held word) f.took.after

  stays-after : (h : Hold) → Contains paid.holds h → Contains w.holds h
  stays-after h there = subst (λ (u : View). Contains u.holds h) (sym f.took.after) (Contains-append_right (hold (frame_word number) g ∷ []) paid.holds h there)

  known-before : slice_index v.known (frame_word number) ≡ generation f.took.seen
  known-before = ap (λ (l : List ℕ). get_or l (frame_word number) 0) (sym (paid_known layout home f.node.0 v)) ∙ f.took.known (paid_alone layout home f.node.0 v ∙ alone)

  lowest : IsLowest layout number v
  lowest = record {
    unheld = sym (paid_frame hold_laws layout home f.node.0 number v low) ∙ f.took.unheld;
    fresh = (let known = known-before in let fresh = f.took.free.fresh in omega arith);
    lower = λ frame below on. f.own alone frame below (on ∙ f.on);
  }

  frames-after : (frame : ℕ) → frame_holds w frame ≡ one_of (number == frame) + frame_holds v frame
  frames-after frame =
      let after = held-after (frame_word frame) in
      let same = paid_frame hold_laws layout home f.node.0 frame v low in
      dite (ℕ_discrete number frame)
      (λ e. let one = ap one_of (eq-eqb number frame e) in let here = ap one_of (eq-eqb (number + 8) (frame + 8) (omega arith)) in omega arith)
      (λ ne. let none = ap one_of (ne_eqb number frame ne) in
      let there = ap one_of (ne_eqb (number + 8) (frame + 8) (λ (e : number + 8 ≡ frame + 8). ne (omega arith))) in omega arith)

  loans-after : (cell : ℕ) → cell < 8 → cell_loans w cell ≡ one_of (takes_loan layout home number cell) + cell_loans v cell
  loans-after cell below =
      let after = held-after (cell_word cell) in
      let none = ap one_of (ne_eqb (number + 8) cell (λ (e : number + 8 ≡ cell). omega arith)) in
      let paying_one = paid_cell layout home f.node.0 cell v in
      let on = ap (λ n. one_of (lent_in layout home n cell)) f.on in omega arith

  lent-after : IsOutside layout home (number / layout.frames) → HasLoan w.holds (cell_of_node layout (number / layout.frames))
  lent-after = subst (λ n. IsOutside layout home n → HasLoan w.holds (cell_of_node layout n)) (sym f.on)
      (λ outside. stays-after (hold (cell_word (cell_of_node layout f.node.0)) 0)
      (subst (λ (u : View). HasLoan u.holds (cell_of_node layout f.node.0)) (sym (paying-outside layout home f.node.0 (cell_of_node layout f.node.0) v refl outside)) (0, omega arith, refl)))

  gains : Gains layout home number g v w
  gains = record {
    frames = frames-after;
    loans = loans-after;
    under = subst (λ (u : View). Contains u.holds (hold (frame_word number) g)) (sym f.took.after) (0, omega arith, refl);
    lent = lent-after;
    stays = λ h there. stays-after h (paid_stays layout home f.node.0 v h there);
    next = f.took.next ∙ ap (λ n. n + 1) (sym known-before);
    known = λ frame apart.
        ap (λ (u : View). get_or u.known (frame_word frame) 0) f.took.after
        ∙ get_or-set_other paid.known (frame_word number) (frame_word frame) g 0 (λ (e : frame + 8 ≡ number + 8). apart (omega arith))
        ∙ ap (λ (l : List ℕ). get_or l (frame_word frame) 0) (paid_known layout home f.node.0 v);
  }

pub finds_lowest : HoldsAddUp → (table : MadeTable) (layout : Layout) (home : ℕ) (order : List NodeId) (number g : ℕ) (v w : View) → FitsShape table layout → AreNodes layout order → v.alone ≡ true
    → Finds layout table.terms.lends home order number g v w → IsLowest layout number v
finds_lowest hold_laws table layout home order number g v w fits nodes alone f =
    lowest hold_laws layout table.terms.lends home order number g v w alone f (cell_low table layout f.node.0 fits (node_within layout order f.place f.node nodes f.ordered))

pub finds_gains : HoldsAddUp → (table : MadeTable) (layout : Layout) (home : ℕ) (order : List NodeId) (number g : ℕ) (v w : View) → FitsShape table layout → AreNodes layout order → v.alone ≡ true
    → Finds layout table.terms.lends home order number g v w → Gains layout home number g v w
finds_gains hold_laws table layout home order number g v w fits nodes alone f =
    gains hold_laws layout table.terms.lends home order number g v w alone f (cell_low table layout f.node.0 fits (node_within layout order f.place f.node nodes f.ordered))
