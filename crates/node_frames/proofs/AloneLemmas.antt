-- What a search changes in what is left to a view that is alone.
use Rattle.std.proofs.Common.{◌≡◌, ◌≢◌, ℕ, ◌+◌, ◌-◌, ◌*◌, ◌<◌, ◌≤◌, ◌==◌, inl, ⊎_elim, if◌then◌else◌, Bool, true, false, List, ◌∷◌, length, get_or, Some, slice_index, refl, sym, ap, ◌∙◌, subst, arith, eq-eqb, ne_eqb, get_or-set_other, lt_of_not-le}
use Rattle.std.specs.Prelude.{not, ◌&&◌, slice_get}
use Rattle.std.proofs.Math.Bool.{and-false}
use Rattle.std.proofs.Math.ListN.{get_or-eq_default}
use Rattle.std.proofs.lemmas.Option.{get_or_from_slice_get, slice_get_within}
use mathlib.Core.Logic.{dite}
use native.Mathlib.Decide.{ℕ_discrete, dec_le}
use Rattle.node_frames.specs.Layout.{Layout}
use Rattle.base_words.specs.declared.ids.NodeId.{NodeId}
use Rattle.frame_words.specs.AddingUp.{HoldsAddUp}
use Rattle.frame_words.specs.FrameWords.{generation, cell_word, frame_word}
use Rattle.frame_words.specs.Views.{hold, held, times, holding}
use Rattle.frame_words.specs.Taking.{Takes}
use Rattle.frame_words.specs.Tails.{looked}
use Rattle.frame_words.specs.Refusals.{IsOwn}
use Rattle.frame_words.specs.Holders.{MadeTable}
use Rattle.frame_words.specs.declared.view.Look.{Look}
use Rattle.frame_words.specs.declared.view.View.{View}
use Rattle.node_frames.specs.Places.{IsOn, cell_of_node, paying, FitsShape, AreNodes}
use Rattle.node_frames.specs.Left.{is_free, left_of, one_less, taking}
use Rattle.node_frames.proofs.SeekLemmas.{on_range, range_on, paying-home, paying-outside}
use Rattle.node_frames.proofs.LeftLemmas.{sum_same, sum_more, one_less-here, one_less-else, loans-inside, loans-outside}

-- the cell of a node of the layout is one of eight
pub cell_lends : (table : MadeTable) (layout : Layout) (node : ℕ) → FitsShape table layout → node < layout.nodes → cell_of_node layout node < length table.terms.lends
cell_lends table layout node fits within =
    let all = fits.lies.has_cells in
    fits.cells node (record { 0 = 0 }) (omega arith)

pub cell_low : (table : MadeTable) (layout : Layout) (node : ℕ) → FitsShape table layout → node < layout.nodes → cell_of_node layout node < 8
cell_low table layout node fits within = let lends = cell_lends table layout node fits within in let few = table.terms.few_cells in omega arith

pub node_within : (layout : Layout) (order : List NodeId) (place : ℕ) (node : NodeId) → AreNodes layout order → slice_get order place ≡ Some node → node.0 < layout.nodes
node_within layout order place node all is = subst (λ (n : NodeId). n.0 < layout.nodes) (get_or_from_slice_get order place node node is) (all place node (slice_get_within order place node is))

-- one loan more or none
pub paid_frame : HoldsAddUp → (layout : Layout) (home node f : ℕ) (v : View) → cell_of_node layout node < 8 → held (frame_word f) (paying layout home node v) ≡ held (frame_word f) v
paid_frame hold_laws layout home node f v low = step (cell_of_node layout node == home)
  where
    step : (b : Bool) → held (frame_word f) (if b then v else holding v (cell_word (cell_of_node layout node)) 0) ≡ held (frame_word f) v
    step true = refl
    step false = hold_laws.more_else (cell_of_node layout node) (f + 8) 0 v.holds (λ (e : f + 8 ≡ cell_of_node layout node). omega arith)

pub paid_known : (layout : Layout) (home node : ℕ) (v : View) → (paying layout home node v).known ≡ v.known
paid_known layout home node v = step (cell_of_node layout node == home)
  where
    step : (b : Bool) → (if b then v else holding v (cell_word (cell_of_node layout node)) 0).known ≡ v.known
    step true = refl
    step false = refl

pub paid_alone : (layout : Layout) (home node : ℕ) (v : View) → (paying layout home node v).alone ≡ v.alone
paid_alone layout home node v = step (cell_of_node layout node == home)
  where
    step : (b : Bool) → (if b then v else holding v (cell_word (cell_of_node layout node)) 0).alone ≡ v.alone
    step true = refl
    step false = refl

abbrev free_of : ℕ → ℕ → Bool
free_of holds known = (holds == 0) && not (known == 4294967295)

-- a view's own frames and the spent ones are not free
pub own_taken : (v : View) (f : ℕ) → IsOwn v (frame_word f) → is_free v f ≡ false
own_taken v f own = ⊎_elim
    (λ (some : 0 < held (frame_word f) v). λ i. (ne_eqb (held (frame_word f) v) 0 (omega arith) i) && not (slice_index v.known (frame_word f) == 4294967295))
    (λ (spent : slice_index v.known (frame_word f) ≡ 4294967295). (λ i. (held (frame_word f) v == 0) && not (eq-eqb (slice_index v.known (frame_word f)) 4294967295 spent i)) ∙ and-false (held (frame_word f) v == 0))
    own

abbrev pub one_of : Bool → ℕ
one_of b = if b then 1 else 0

-- the view after a take: the frame is held, and all else as it was
module _ (hold_laws : HoldsAddUp) (layout : Layout) (home node number g : ℕ) (v w : View) (tail : List Look) (low : cell_of_node layout node < 8) (alone : v.alone ≡ true)
    (t : Takes (looked (paying layout home node v) tail) (frame_word number) g w) where
  here_before : is_free v number ≡ true
  here_before =
      let unheld : held (frame_word number) v ≡ 0 = sym (paid_frame hold_laws layout home node number v low) ∙ t.unheld in
      let known : slice_index v.known (frame_word number) ≡ generation t.seen = ap (λ (l : List ℕ). get_or l (frame_word number) 0) (sym (paid_known layout home node v)) ∙ t.known (paid_alone layout home node v ∙ alone) in
      let fresh = t.free.fresh in
      λ i. eq-eqb (held (frame_word number) v) 0 unheld i && not (ne_eqb (slice_index v.known (frame_word number)) 4294967295 (omega arith) i)

  here_after : is_free w number ≡ false
  here_after = own_taken w number (inl (let one = ap (held (frame_word number)) t.after ∙ hold_laws.more (frame_word number) g (paying layout home node v).holds in omega arith))

  else_same : (f : ℕ) → f ≢ number → is_free w f ≡ is_free v f
  else_same f apart =
      let holds : held (frame_word f) w ≡ held (frame_word f) v = ap (held (frame_word f)) t.after ∙ hold_laws.more_else (frame_word number) (frame_word f) g (paying layout home node v).holds (λ (e : f + 8 ≡ number + 8). apart (omega arith)) ∙ paid_frame hold_laws layout home node f v low in
      let known : slice_index w.known (frame_word f) ≡ slice_index v.known (frame_word f) =
      ap (λ (u : View). get_or u.known (frame_word f) 0) t.after
      ∙ get_or-set_other (paying layout home node v).known (frame_word number) (frame_word f) g 0 (λ (e : f + 8 ≡ number + 8). apart (omega arith))
      ∙ ap (λ (l : List ℕ). get_or l (frame_word f) 0) (paid_known layout home node v) in
      λ i. free_of (holds i) (known i)

  pub still_alone : w.alone ≡ true
  still_alone = ap (λ (u : View). u.alone) t.after ∙ paid_alone layout home node v ∙ alone

  cell_same : (c : ℕ) → c < 8 → held c w ≡ held c (paying layout home node v)
  cell_same c below = ap (held c) t.after ∙ hold_laws.more_else (frame_word number) c g (paying layout home node v).holds (λ (e : c ≡ number + 8). omega arith)

  -- the free frames of this node and of another
  pub frames-here : 0 < layout.frames → IsOn layout node number → (lends : List ℕ) → (left_of layout lends v).frames node ≡ (left_of layout lends w).frames node + 1
  frames-here filled on lends =
      let r = on_range layout.frames node number filled on in
      let place = number - node * layout.frames in
      let is : node * layout.frames + place ≡ number = omega arith in
      sum_more (λ k. one_of (is_free v (node * layout.frames + k))) (λ k. one_of (is_free w (node * layout.frames + k))) layout.frames place (omega arith)
      (ap (λ f. one_of (is_free v f)) is ∙ ap one_of here_before ∙ sym (ap (λ n. n + 1) (ap (λ f. one_of (is_free w f)) is ∙ ap one_of here_after)))
      (λ k ne. ap one_of (sym (else_same (node * layout.frames + k) (λ (e : node * layout.frames + k ≡ number). ne (omega arith)))))

  pub frames-else : IsOn layout node number → (lends : List ℕ) (n : ℕ) → n ≢ node → (left_of layout lends w).frames n ≡ (left_of layout lends v).frames n
  frames-else on lends n ne = sum_same (λ k. one_of (is_free w (n * layout.frames + k))) (λ k. one_of (is_free v (n * layout.frames + k))) layout.frames
      (λ k below. ap one_of (else_same (n * layout.frames + k) (λ (e : n * layout.frames + k ≡ number). ne (sym (range_on layout.frames n number (omega arith) (omega arith) (omega arith)) ∙ on))))

  -- what is left of it all
  pub left_after : 0 < layout.frames → IsOn layout node number → (lends : List ℕ) → length lends ≤ 8 → left_of layout lends w ≡ taking layout home (left_of layout lends v) node
  left_after filled on lends few = λ i. record { frames = λ n. frames n i; loans = λ c. loans c i }
    where
      frames : (n : ℕ) → (left_of layout lends w).frames n ≡ one_less (left_of layout lends v).frames node n
      frames n = dite (ℕ_discrete n node)
          (λ e. subst (λ n. (left_of layout lends w).frames n ≡ one_less (left_of layout lends v).frames node n) (sym e) (let a = frames-here filled on lends in let b = one_less-here (left_of layout lends v).frames node in omega arith))
          (λ ne. frames-else on lends n ne ∙ sym (one_less-else (left_of layout lends v).frames node n ne))

      loans : (c : ℕ) → (left_of layout lends w).loans c ≡ (taking layout home (left_of layout lends v) node).loans c
      loans c = dite (ℕ_discrete (cell_of_node layout node) home)
          (λ inside.
          let rest = loans-inside layout home (left_of layout lends v) node c inside in
          let pays : held c (paying layout home node v) ≡ held c v = ap (held c) (paying-home layout home node v inside) in
          dite (dec_le 8 c)
          (λ far. let none = get_or-eq_default lends 0 {n = c} (omega arith) in omega arith)
          (λ near. let low = lt_of_not-le near in let same = cell_same c low in omega arith))
          (λ outside.
          let rest = loans-outside layout home (left_of layout lends v) node c outside in
          let pays : held c (paying layout home node v) ≡ times c (hold (cell_of_node layout node) 0 ∷ v.holds) = ap (held c) (paying-outside layout home node (cell_of_node layout node) v refl outside) in
          dite (ℕ_discrete c (cell_of_node layout node))
          (λ e. subst (λ c. (left_of layout lends w).loans c ≡ (taking layout home (left_of layout lends v) node).loans c) (sym e)
          (let here = loans-outside layout home (left_of layout lends v) node (cell_of_node layout node) outside in
          let less = one_less-here (left_of layout lends v).loans (cell_of_node layout node) in
          let same = cell_same (cell_of_node layout node) low in
          let paid = ap (held (cell_of_node layout node)) (paying-outside layout home node (cell_of_node layout node) v refl outside) ∙ hold_laws.more (cell_of_node layout node) 0 v.holds in omega arith))
          (λ ne.
          let less = one_less-else (left_of layout lends v).loans (cell_of_node layout node) c ne in
          dite (dec_le 8 c)
          (λ far. let none = get_or-eq_default lends 0 {n = c} (omega arith) in omega arith)
          (λ near. let below = lt_of_not-le near in let same = cell_same c below in let paid = hold_laws.more_else (cell_of_node layout node) c 0 v.holds ne in omega arith)))
