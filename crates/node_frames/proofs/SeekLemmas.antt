-- What a node gives: the scan over its frames, with its loan where it lies outside home.
use Rattle.std.proofs.Common.{◌≡◌, ◌≢◌, ℕ, ◌+◌, ◌*◌, ◌/◌, ◌<◌, ◌≤◌, ◌==◌, if◌then◌else◌, Bool, true, false, true≢false, inl, inr, ⊎_elim, List, [], ◌∷◌, ◌++◌, slice_index, refl, sym, ap, ◌∙◌, subst, arith, append_assoc, eq-eqb, ne_eqb, suc-mul, add-one}
use Rattle.std.proofs.Math.Nat.{div-mul-le_self, lt-div-mul-add, le-div_iff_mul-le}
use Rattle.std.proofs.lemmas.Nat.{div_below}
use Rattle.node_frames.specs.Layout.{Layout}
use Rattle.frame_words.specs.AddingUp.{HoldsAddUp, LooksAddUp, LooksTell}
use Rattle.frame_words.specs.FrameWords.{cell_word, frame_word}
use Rattle.frame_words.specs.Views.{hold, times, cell_loans, look, held, seeing, holding, dropping}
use Rattle.frame_words.specs.Taking.{Takes, GivesUp}
use Rattle.frame_words.specs.Borrowing.{Lends, FindsLimit, BorrowedBy}
use Rattle.frame_words.specs.Tails.{looked, GainNothing, borrows_of, repays_of}
use Rattle.frame_words.specs.Refusals.{IsOwn, IsAtLimit, IsLost}
use Rattle.frame_words.specs.declared.view.Look.{Look}
use Rattle.frame_words.specs.declared.view.View.{View}
use Rattle.frame_words.specs.declared.view.StepKind.TheVariants.{Load, Borrow, Repay}
use Rattle.frame_words.specs.declared.answers.Borrow.TheVariants as lent
use Rattle.node_frames.specs.Places.{cell_of_node, IsOutside, paying}
use Rattle.node_frames.specs.Scans.{ScansAll, ScansTo, GivesFrame, GivesNone}
use Rattle.node_frames.specs.declared.answers.Shown.TheVariants.{AllHeld, AtLimit, Lost}
use Rattle.node_frames.proofs.ScanLemmas.{looked-nil}

-- the frames of a node are those from its first to before its last
pub on_range : (per node f : ℕ) → 0 < per → f / per ≡ node → (node * per ≤ f) × (f < node * per + per)
on_range per node f some on =
    let low = div-mul-le_self f per in
    let high = lt-div-mul-add {a = f} {b = per} some in
    (subst (λ n. n * per ≤ f) on low, subst (λ n. f < n * per + per) on high)

pub range_on : (per node f : ℕ) → 0 < per → node * per ≤ f → f < node * per + per → f / per ≡ node
range_on per node f some low high =
    let above : f / per < node + 1 = div_below f per (node + 1) some (rw (add-one, suc-mul) (omega arith)) in
    let below : node ≤ f / per = (le-div_iff_mul-le {k = per} {x = node} {y = f} some).1 low in omega arith

-- the view that pays nothing for a frame of the home cell, and a loan for another
pub paying-home : (layout : Layout) (home node : ℕ) (v : View) → cell_of_node layout node ≡ home → paying layout home node v ≡ v
paying-home layout home node v inside = ap (λ (b : Bool). if b then v else holding v (cell_word (cell_of_node layout node)) 0) (eq-eqb (cell_of_node layout node) home inside)

pub paying-outside : (layout : Layout) (home node cell : ℕ) (v : View) → cell_of_node layout node ≡ cell → cell ≢ home → paying layout home node v ≡ holding v (cell_word cell) 0
paying-outside layout home node cell v is outside =
    ap (λ (b : Bool). if b then v else holding v (cell_word (cell_of_node layout node)) 0) (ne_eqb (cell_of_node layout node) home (λ e. outside (sym is ∙ e)))
    ∙ ap (λ c. holding v (cell_word c) 0) is

-- a loan is no hold of a frame
own_paid : HoldsAddUp → (v : View) (c f : ℕ) → c < 8 → IsOwn (holding v c 0) (frame_word f) → IsOwn v (frame_word f)
own_paid holds v c f low own = ⊎_elim
    (λ (some : 0 < times (f + 8) (hold c 0 ∷ v.holds)). let e = holds.more_else c (f + 8) 0 v.holds (λ (h : f + 8 ≡ c). omega arith) in inl (omega arith))
    (λ (spent : slice_index v.known (f + 8) ≡ 4294967295). inr spent)
    own

-- the loan that a frame outside home takes
abbrev Paid : Layout → ℕ → ℕ → View → View → Type 0
Paid layout home node v w = IsOutside layout home node → cell_loans w (cell_of_node layout node) ≡ cell_loans v (cell_of_node layout node) + 1

-- a loan that is left to a view that is alone
abbrev Room : Layout → List ℕ → ℕ → ℕ → View → Type 0
Room layout lends home node v = v.alone ≡ true → IsOutside layout home node → cell_loans v (cell_of_node layout node) < slice_index lends (cell_of_node layout node)

paid_outside : HoldsAddUp → (layout : Layout) (home node cell n g : ℕ) (v w : View) (tail : List Look) → cell < 8 → cell_of_node layout node ≡ cell → cell ≢ home
    → Takes (looked (paying layout home node v) tail) (frame_word n) g w → Paid layout home node v w
paid_outside holds layout home node cell n g v w tail low is outside t _ =
    let base = paying-outside layout home node cell v is outside in
    let t' = subst (λ (u : View). Takes (looked u tail) (frame_word n) g w) base t in
    subst (λ c. cell_loans w c ≡ cell_loans v c + 1) (sym is)
    (ap (held cell) t'.after ∙ holds.more_else (n + 8) cell g (hold cell 0 ∷ v.holds) (λ (h : cell ≡ n + 8). omega arith) ∙ holds.more cell 0 v.holds)

-- the scan's frame is the node's
pub gives_frame : LooksAddUp → LooksTell → (layout : Layout) (lends : List ℕ) (home node first last n g : ℕ) (v m w : View) (tail : List Look) → 0 < layout.frames → first ≡ node * layout.frames → last ≡ first + layout.frames
    → GainNothing tail → m ≡ looked (paying layout home node v) tail → (v.alone ≡ true → (frame : ℕ) → first ≤ frame → frame < n → IsOwn v (frame_word frame))
    → ((more : List Look) → Takes (looked (paying layout home node v) more) (frame_word n) g w → Paid layout home node v w) → Room layout lends home node v → ScansTo first last n g m w → GivesFrame layout lends home node n g v w
gives_frame looks tell layout lends home node first last n g v m w tail some from to nothing after own paid below s = record {
  tail = tail ++ s.tail;
  nothing = looks.nothing tail s.tail nothing (looks.loads_gain_nothing s.tail s.loads);
  on = range_on layout.frames node n some (let l = s.within.0 in omega arith) (let h = s.within.1 in omega arith);
  lower = λ frame below on. let r = on_range layout.frames node frame some on in tell.refused_behind tail s.tail (frame_word frame) (s.lower frame (omega arith) below);
  own = λ alone frame below on. let r = on_range layout.frames node frame some on in own alone frame (omega arith) below;
  took = took;
  paid = paid (tail ++ s.tail) took;
  below = below;
}
  where
    took : Takes (looked (paying layout home node v) (tail ++ s.tail)) (frame_word n) g w
    took = subst (λ (u : View). Takes u (frame_word n) g w) (ap (λ (u : View). looked u s.tail) after ∙ looks.looked_twice (paying layout home node v) tail s.tail) s.took

-- none of the home cell's node
pub gives_none_inside : LooksAddUp → (layout : Layout) (lends : List ℕ) (home node first last : ℕ) (v w : View) → 0 < layout.frames → first ≡ node * layout.frames → last ≡ first + layout.frames
    → ScansAll first last v w → GivesNone layout lends home node AllHeld v w
gives_none_inside looks layout lends home node first last v w some from to s = record {
  tail = s.tail;
  nothing = looks.loads_gain_nothing s.tail s.loads;
  even = λ cell. looks.loads_are_even cell s.tail s.loads;
  after = s.after;
  shows = λ frame on. let r = on_range layout.frames node frame some on in s.refused frame (omega arith) (omega arith);
  own = λ alone frame on. let r = on_range layout.frames node frame some on in s.own alone frame (omega arith) (omega arith);
}

-- the looks of a borrow that answers Lent
abbrev lending : ℕ → ℕ → List Look
lending c seen = look Load c seen ∷ look Borrow c seen ∷ []

lent_adds : (v : View) (c most : ℕ) (w : View) (l : Lends v c most w) → w ≡ looked (holding v c 0) (lending c l.seen)
lent_adds v c most w l = l.after ∙ ap (λ ls. record v { holds = hold c 0 ∷ v.holds; looks = ls }) (append_assoc v.looks (look Load c l.seen ∷ []) (look Borrow c l.seen ∷ []))

-- a frame with a loan
pub gives_frame_outside : HoldsAddUp → LooksAddUp → LooksTell → (layout : Layout) (lends : List ℕ) (home node cell first last n g : ℕ) (v m w : View) → 0 < layout.frames → first ≡ node * layout.frames → last ≡ first + layout.frames
    → cell < 8 → cell_of_node layout node ≡ cell → cell ≢ home → Lends v cell (slice_index lends cell) m → ScansTo first last n g m w → GivesFrame layout lends home node n g v w
gives_frame_outside holds looks tell layout lends home node cell first last n g v m w some from to low is outside l s =
    gives_frame looks tell layout lends home node first last n g v m w (lending cell l.seen) some from to (refl, (refl, tt))
    (lent_adds v cell (slice_index lends cell) m l ∙ ap (λ (u : View). looked u (lending cell l.seen)) (sym (paying-outside layout home node cell v is outside)))
    (λ alone frame above below. own_paid holds v cell frame low (subst (λ (u : View). u.alone ≡ true → IsOwn u (frame_word frame)) (lent_adds v cell (slice_index lends cell) m l) (λ a. s.own a frame above below) alone))
    (λ more. paid_outside holds layout home node cell n g v w more low is outside)
    (λ alone _. subst (λ c. cell_loans v c < slice_index lends c) (sym is) (let own = l.own alone in let below = l.below in omega arith)) s

pub gives_frame_inside : LooksAddUp → LooksTell → (layout : Layout) (lends : List ℕ) (home node first last n g : ℕ) (v w : View) → 0 < layout.frames → first ≡ node * layout.frames → last ≡ first + layout.frames
    → cell_of_node layout node ≡ home → ScansTo first last n g v w → GivesFrame layout lends home node n g v w
gives_frame_inside looks tell layout lends home node first last n g v w some from to inside s =
    gives_frame looks tell layout lends home node first last n g v v w [] some from to tt (looked-nil v ∙ ap (λ (u : View). looked u []) (sym (paying-home layout home node v inside))) s.own (λ more t outside. absurd (outside inside)) (λ alone outside. absurd (outside inside)) s

-- a loan that is repaid leaves the view as it was, but for the looks
repaid : HoldsAddUp → (v : View) (c seen n : ℕ) (tail : List Look) → dropping (seeing (looked (looked (holding v c 0) (lending c seen)) tail) Repay c n) c ≡ looked v ((lending c seen ++ tail) ++ look Repay c n ∷ [])
repaid holds v c seen n tail =
    ap (λ hs. record v { holds = hs; looks = ((v.looks ++ lending c seen) ++ tail) ++ look Repay c n ∷ [] }) (holds.dropped c 0 v.holds)
    ∙ ap (λ ls. record v { looks = ls }) (ap (λ ls. ls ++ look Repay c n ∷ []) (append_assoc v.looks (lending c seen) tail) ∙ append_assoc v.looks (lending c seen ++ tail) (look Repay c n ∷ []))

-- one borrow before and one repay behind, on this word or on another
evens : (b : Bool) (m n : ℕ) → m ≡ n → (((if b then 0 else 0) + ((if b then 1 else 0) + 0)) + m) + ((if b then 0 else 0) + 0) ≡ (((if b then 0 else 0) + ((if b then 0 else 0) + 0)) + n) + ((if b then 1 else 0) + 0)
evens true m n e = omega arith
evens false m n e = omega arith

even_around : LooksAddUp → (x c seen n : ℕ) (tail : List Look) → borrows_of x tail ≡ repays_of x tail → borrows_of x ((lending c seen ++ tail) ++ look Repay c n ∷ []) ≡ repays_of x ((lending c seen ++ tail) ++ look Repay c n ∷ [])
even_around looks x c seen n tail even =
    looks.borrows x (lending c seen ++ tail) (look Repay c n ∷ [])
    ∙ ap (λ k. k + borrows_of x (look Repay c n ∷ [])) (looks.borrows x (lending c seen) tail)
    ∙ evens (c == x) (borrows_of x tail) (repays_of x tail) even
    ∙ sym (looks.repays x (lending c seen ++ tail) (look Repay c n ∷ []) ∙ ap (λ k. k + repays_of x (look Repay c n ∷ [])) (looks.repays x (lending c seen) tail))

pub gives_none_outside : HoldsAddUp → LooksAddUp → LooksTell → (layout : Layout) (lends : List ℕ) (home node cell most first last : ℕ) (v m u w : View) → 0 < layout.frames → first ≡ node * layout.frames → last ≡ first + layout.frames
    → cell < 8 → Lends v cell most m → ScansAll first last m u → GivesUp u Repay cell w → GivesNone layout lends home node AllHeld v w
gives_none_outside holds looks tell layout lends home node cell most first last v m u w some from to low l s g =
    let is : u ≡ looked (looked (holding v cell 0) (lending cell l.seen)) s.tail = s.after ∙ ap (λ (x : View). looked x s.tail) (lent_adds v cell most m l) in record {
      tail = (lending cell l.seen ++ s.tail) ++ look Repay cell g.seen ∷ [];
      nothing = looks.nothing (lending cell l.seen ++ s.tail) (look Repay cell g.seen ∷ []) (refl, (refl, looks.loads_gain_nothing s.tail s.loads)) (refl, tt);
      even = λ x. even_around looks x cell l.seen g.seen s.tail (looks.loads_are_even x s.tail s.loads);
      after = g.after ∙ ap (λ (x : View). dropping (seeing x Repay cell g.seen) cell) is ∙ repaid holds v cell l.seen g.seen s.tail;
      shows = λ frame on. let r = on_range layout.frames node frame some on in
          tell.refused_longer (lending cell l.seen ++ s.tail) (look Repay cell g.seen ∷ []) (frame_word frame)
          (tell.refused_behind (lending cell l.seen) s.tail (frame_word frame) (s.refused frame (omega arith) (omega arith)));
      own = λ alone frame on. let r = on_range layout.frames node frame some on in
          own_paid holds v cell frame low (subst (λ (x : View). x.alone ≡ true → IsOwn x (frame_word frame)) (lent_adds v cell most m l) (λ a. s.own a frame (omega arith) (omega arith)) alone);
    }

-- a cell that gives no loan
pub gives_none_limit : LooksAddUp → LooksTell → (layout : Layout) (lends : List ℕ) (home node cell seen : ℕ) (v w : View) → cell_of_node layout node ≡ cell → cell ≢ home
    → FindsLimit v cell (slice_index lends cell) seen w → GivesNone layout lends home node (AtLimit seen) v w
gives_none_limit looks tell layout lends home node cell seen v w is outside f =
    let a = tell.limit v cell (slice_index lends cell) seen w f in record {
      tail = look Load cell seen ∷ [];
      nothing = (refl, tt);
      even = λ x. looks.loads_are_even x (look Load cell seen ∷ []) (refl, tt);
      after = a.0;
      shows = subst (λ c. (c ≢ home) × IsAtLimit (look Load cell seen ∷ []) (cell_word c) (slice_index lends c) seen) (sym is) (outside, a.1);
      own = λ alone. subst (λ c. cell_loans v c ≡ slice_index lends c) (sym is) (f.own alone ∙ f.full);
    }

pub gives_none_lost : LooksAddUp → LooksTell → (layout : Layout) (lends : List ℕ) (home node cell seen : ℕ) (v w : View) → cell_of_node layout node ≡ cell → cell ≢ home
    → BorrowedBy v cell (slice_index lends cell) (lent.Lost seen) w → GivesNone layout lends home node (Lost seen) v w
gives_none_lost looks tell layout lends home node cell seen v w is outside f =
    let a = tell.lost v cell (slice_index lends cell) seen w f in
    let tail : List Look = look Load cell f.0 ∷ look Load cell seen ∷ [] in record {
      tail = tail;
      nothing = (refl, (refl, tt));
      even = λ x. looks.loads_are_even x tail (refl, (refl, tt));
      after = a.0;
      shows = subst (λ c. (c ≢ home) × IsLost tail (cell_word c) (slice_index lends c) seen) (sym is) (outside, a.1);
      own = λ alone. true≢false (sym alone ∙ f.2.crowd);
    }
