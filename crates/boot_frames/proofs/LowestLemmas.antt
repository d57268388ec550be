-- A search by a view that only took frames finds the lowest frame of a node that it hasn't, and it still only took frames.
use Rattle.std.proofs.Common.{◌≡◌, ◌≢◌, ℕ, ◌+◌, ◌-◌, ◌*◌, ◌/◌, ◌<◌, ◌≤◌, ⊎_elim, if◌then◌else◌, Bool, refl, sym, ap, ◌∙◌, subst, arith, lt_of_not-le, eq-eqb, ne_eqb}
use Rattle.std.specs.Prelude.{slice_index}
use mathlib.Core.Logic.{dite}
use native.Mathlib.Decide.{ℕ_discrete, dec_le}
use Rattle.base_words.specs.declared.frame.Frame.{Frame}
use Rattle.node_frames.specs.Layout.{Layout}
use Rattle.frame_words.specs.FrameWords.{frame_word}
use Rattle.frame_words.specs.Views.{frame_holds, held}
use Rattle.frame_words.specs.Holders.{MadeTable}
use Rattle.frame_words.specs.declared.view.View.{View}
use Rattle.node_frames.specs.Places.{IsOn}
use Rattle.node_frames.specs.Left.{Left, left_of, one_less}
use Rattle.boot_frames.specs.Chain.{lowest_frame}
use Rattle.boot_frames.specs.Takings.{gone, OnlyTook, TakesNext}
use Rattle.boot_frames.specs.declared.claims.Taker.{Taker}
use Rattle.boot_frames.proofs.GainLemmas.{one_of}

one_less-here : (f : ℕ → ℕ) (k : ℕ) → one_less f k k ≡ f k - 1
one_less-here f k = ap (λ (b : Bool). if b then f k - 1 else f k) (eq-eqb k k refl)

one_less-else : (f : ℕ → ℕ) (k n : ℕ) → n ≢ k → one_less f k n ≡ f n
one_less-else f k n apart = ap (λ (b : Bool). if b then f n - 1 else f n) (ne_eqb n k apart)

module _ (table : MadeTable) (layout : Layout) (taker : Taker) (f : Frame) (v w : View) (on : (node k : ℕ) → k < layout.frames → IsOn layout node (node * layout.frames + k))
    (t : TakesNext table layout taker f v w) (within : f.number.0 < table.terms.frames)
    (place : (k : ℕ) × (k < layout.frames) × (f.number.0 ≡ t.next.node.0 * layout.frames + k)) (only : OnlyTook table.terms layout v) where
  abbrev node : ℕ
  node = t.next.node.0

  abbrev frees : View → ℕ → ℕ
  frees u = (left_of layout table.terms.lends u).frames

  -- the frame is held from now on, and each other as before
  held-here : frame_holds w f.number.0 ≡ 1
  held-here =
      let more = t.gains.frames f.number.0 in
      let one = ap one_of (eq-eqb f.number.0 f.number.0 refl) in
      let none = t.lowest.unheld in omega arith

  held-else : (frame : ℕ) → frame ≢ f.number.0 → frame_holds w frame ≡ frame_holds v frame
  held-else frame apart =
      let more = t.gains.frames frame in
      let none = ap one_of (ne_eqb f.number.0 frame (λ (e : f.number.0 ≡ frame). apart (sym e))) in omega arith

  -- a lower frame of the node is held
  lower_held : (k : ℕ) → k < place.0 → 0 < frame_holds v (node * layout.frames + k)
  lower_held k below =
      let frame = node * layout.frames + k in
      let inside = place.1 in
      let at = place.2 in
      dite (ℕ_discrete (frame_holds v frame) 0)
      (λ free. ⊎_elim
      (λ (some : 0 < held (frame_word frame) v). some)
      (λ (spent : slice_index v.known (frame_word frame) ≡ 4294967295).
      let known = only.known frame (omega arith) free in
      let fresh = only.fresh in absurd (omega arith))
      (t.lowest.lower frame (omega arith) (on node k (omega arith) ∙ sym t.next.on)))
      (λ some. omega arith)

  -- so the frame stands behind those that are gone
  gone-place : place.0 ≡ gone table.terms layout v node
  gone-place =
      let inside = place.1 in
      let g = gone table.terms layout v node in
      dite (ℕ_discrete place.0 g)
      (λ e. e)
      (λ ne. dite (dec_le g place.0)
      (λ above. let some = lower_held g (omega arith) in let none = only.high node g (omega arith) (omega arith) in absurd (omega arith))
      (λ under. let some = only.low node place.0 (lt_of_not-le under) in
      let none : frame_holds v (node * layout.frames + place.0) ≡ 0 = subst (λ n. frame_holds v n ≡ 0) place.2 t.lowest.unheld in absurd (omega arith)))

  pub found_lowest : lowest_frame layout (left_of layout table.terms.lends v) t.next.node ≡ f.number.0
  found_lowest = ap (λ k. node * layout.frames + k) (sym gone-place) ∙ sym place.2

  -- the node has one frame less
  after : (n : ℕ) → frees w n ≡ one_less (frees v) node n
  after n = ap (λ (l : Left). l.frames n) t.next.after

  gone-here : gone table.terms layout w node ≡ gone table.terms layout v node + 1
  gone-here =
      let a = after node in
      let b = one_less-here (frees v) node in
      let most = only.most node in
      let inside = place.1 in
      let at = gone-place in omega arith

  gone-else : (n : ℕ) → n ≢ node → gone table.terms layout w n ≡ gone table.terms layout v n
  gone-else n apart = ap (λ m. layout.frames - m) (after n ∙ one_less-else (frees v) node n apart)

  other_node : (n k : ℕ) → n ≢ node → k < layout.frames → frame_holds w (n * layout.frames + k) ≡ frame_holds v (n * layout.frames + k)
  other_node n k apart inside = held-else (n * layout.frames + k)
      (λ (e : n * layout.frames + k ≡ f.number.0). apart (sym (on n k inside) ∙ ap (λ m. m / layout.frames) e ∙ t.next.on))

  low-here : (k : ℕ) → k < gone table.terms layout w node → 0 < frame_holds w (node * layout.frames + k)
  low-here k below =
      let g = gone-here in
      let at = gone-place in
      let is = place.2 in
      dite (ℕ_discrete k place.0)
      (λ e. subst (λ n. 0 < frame_holds w n) (is ∙ ap (λ j. node * layout.frames + j) (sym e)) (let one = held-here in omega arith))
      (λ ne. let before = only.low node k (omega arith) in
      let same = held-else (node * layout.frames + k) (λ (e : node * layout.frames + k ≡ f.number.0). ne (omega arith)) in omega arith)

  high-here : (k : ℕ) → gone table.terms layout w node ≤ k → k < layout.frames → frame_holds w (node * layout.frames + k) ≡ 0
  high-here k above inside =
      let g = gone-here in
      let at = gone-place in
      let is = place.2 in
      held-else (node * layout.frames + k) (λ (e : node * layout.frames + k ≡ f.number.0). omega arith) ∙ only.high node k (omega arith) inside

  -- the view still only took frames
  pub found_only : OnlyTook table.terms layout w
  found_only = record {
    alone = t.next.alone;
    fresh = only.fresh;
    once = λ frame. dite (ℕ_discrete frame f.number.0)
        (λ e. subst (λ n. frame_holds w n ≤ 1) (sym e) (let one = held-here in omega arith))
        (λ ne. let same = held-else frame ne in let before = only.once frame in omega arith);
    known = λ frame inside free. dite (ℕ_discrete frame f.number.0)
        (λ e. let one = held-here in let none : frame_holds w f.number.0 ≡ 0 = subst (λ n. frame_holds w n ≡ 0) e free in absurd (omega arith))
        (λ ne. t.gains.known frame ne ∙ only.known frame inside (sym (held-else frame ne) ∙ free));
    most = λ n. dite (ℕ_discrete n node)
        (λ e. subst (λ m. frees w m ≤ layout.frames) (sym e) (let a = after node in let b = one_less-here (frees v) node in let most = only.most node in omega arith))
        (λ ne. let a = after n in let b = one_less-else (frees v) node n ne in let most = only.most n in omega arith);
    low = λ n k below. dite (ℕ_discrete n node)
        (λ e. subst (λ m. 0 < frame_holds w (m * layout.frames + k)) (sym e) (low-here k (subst (λ m. k < gone table.terms layout w m) e below)))
        (λ ne. let same = gone-else n ne in let before = only.low n k (omega arith) in let as_before = other_node n k ne (omega arith) in omega arith);
    high = λ n k above below. dite (ℕ_discrete n node)
        (λ e. subst (λ m. frame_holds w (m * layout.frames + k) ≡ 0) (sym e) (high-here k (subst (λ m. gone table.terms layout w m ≤ k) e above) below))
        (λ ne. let same = gone-else n ne in other_node n k ne below ∙ only.high n k (omega arith) below);
  }
