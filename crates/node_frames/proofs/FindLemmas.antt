-- A search node by node.
use Rattle.std.proofs.Common.{◌≡◌, ◌≢◌, ℕ, ◌+◌, ◌<◌, ◌==◌, if◌then◌else◌, Bool, true, false, List, [], ◌++◌, length, set, get_or, Some, refl, sym, ap, ◌∙◌, subst, arith, length-set, get_or-set_same, get_or-set_other}
use Rattle.std.specs.Prelude.{slice_get, slice_index}
use Rattle.std.proofs.lemmas.Option.{slice_get_within, get_or_from_slice_get, slice_get-get_or}
use mathlib.Core.Logic.{dite}
use native.Mathlib.Decide.{ℕ_discrete}
use Rattle.node_frames.specs.Layout.{Layout}
use Rattle.base_words.specs.declared.ids.NodeId.{NodeId}
use Rattle.frame_words.specs.AddingUp.{HoldsAddUp, LooksAddUp, LooksTell}
use Rattle.frame_words.specs.FrameWords.{cell_word, frame_word}
use Rattle.frame_words.specs.Views.{holding, held, cell_loans}
use Rattle.frame_words.specs.Taking.{Takes}
use Rattle.frame_words.specs.Tails.{looked, GainNothing, borrows_of, repays_of}
use Rattle.frame_words.specs.Refusals.{IsOwn}
use Rattle.frame_words.specs.declared.view.Look.{Look}
use Rattle.frame_words.specs.declared.view.View.{View}
use Rattle.node_frames.specs.Places.{IsOn, cell_of_node, IsOutside, paying}
use Rattle.node_frames.specs.Scans.{GivesFrame, GivesNone}
use Rattle.node_frames.specs.Entries.{Shows, Owns}
use Rattle.node_frames.specs.Searches.{FindsNone, Finds}
use Rattle.node_frames.specs.declared.answers.Shown.{Shown}
use Rattle.node_frames.specs.declared.answers.Shown.TheVariants.{AllHeld, AtLimit, Lost}
use Rattle.node_frames.proofs.ScanLemmas.{looked-nil}

-- what a node showed stays shown among more looks
pub Shows-longer : LooksTell → (layout : Layout) (lends : List ℕ) (home node : ℕ) (entry : Shown) (xs ys : List Look) → Shows layout lends home node entry xs → Shows layout lends home node entry (xs ++ ys)
Shows-longer tell layout lends home node AllHeld xs ys s = λ frame on. tell.refused_longer xs ys (frame_word frame) (s frame on)
Shows-longer tell layout lends home node (AtLimit seen) xs ys s = (s.0, tell.limit_longer xs ys _ _ seen s.1)
Shows-longer tell layout lends home node (Lost seen) xs ys s = (s.0, tell.lost_longer xs ys _ _ seen s.1)

pub Shows-behind : LooksTell → (layout : Layout) (lends : List ℕ) (home node : ℕ) (entry : Shown) (xs ys : List Look) → ((cell : ℕ) → borrows_of cell xs ≡ repays_of cell xs) → Shows layout lends home node entry ys → Shows layout lends home node entry (xs ++ ys)
Shows-behind tell layout lends home node AllHeld xs ys even s = λ frame on. tell.refused_behind xs ys (frame_word frame) (s frame on)
Shows-behind tell layout lends home node (AtLimit seen) xs ys even s = (s.0, tell.limit_behind xs ys _ _ seen (even (cell_word (cell_of_node layout node))) s.1)
Shows-behind tell layout lends home node (Lost seen) xs ys even s = (s.0, tell.lost_behind xs ys _ _ seen (even (cell_word (cell_of_node layout node))) s.1)

-- what is a view's own doesn't hang on its looks
Owns-looked : (layout : Layout) (lends : List ℕ) (node : ℕ) (entry : Shown) (v : View) (tail : List Look) → Owns layout lends node entry (looked v tail) → Owns layout lends node entry v
Owns-looked layout lends node AllHeld v tail own = own
Owns-looked layout lends node (AtLimit seen) v tail own = own
Owns-looked layout lends node (Lost seen) v tail own = own

-- the nodes of the order before this place gave no frame, and their entries stand in the list
pub record Searched (layout : Layout) (lends : List ℕ) (home : ℕ) (order : List NodeId) (place : ℕ) (list : List Shown) (v w : View) : Type 0 where
  pub tail : List Look
  pub after : w ≡ looked v tail
  pub nothing : GainNothing tail
  pub even : (cell : ℕ) → borrows_of cell tail ≡ repays_of cell tail
  pub shown : (k : ℕ) (node : NodeId) (entry : Shown) → k < place → slice_get order k ≡ Some node → slice_get list k ≡ Some entry → Shows layout lends home node.0 entry tail
  pub own : v.alone ≡ true → (k : ℕ) (node : NodeId) (entry : Shown) → k < place → slice_get order k ≡ Some node → slice_get list k ≡ Some entry → Owns layout lends node.0 entry v

pub searched_none : (layout : Layout) (lends : List ℕ) (home : ℕ) (order : List NodeId) (list : List Shown) (v : View) → Searched layout lends home order 0 list v v
searched_none layout lends home order list v = record { tail = []; after = looked-nil v; nothing = tt; even = λ cell. refl; shown = λ k node entry none. absurd (omega arith); own = λ alone k node entry none. absurd (omega arith) }

some_same : {X : Type 0} (xs : List X) (k : ℕ) (a b : X) → slice_get xs k ≡ Some a → slice_get xs k ≡ Some b → a ≡ b
some_same xs k a b p q = sym (get_or_from_slice_get xs k a a p) ∙ get_or_from_slice_get xs k b a q

here_set : {X : Type 0} (xs : List X) (i : ℕ) (a b : X) → i < length xs → slice_get (set xs i a) i ≡ Some b → a ≡ b
here_set xs i a b within is = sym (get_or-set_same xs i a b within) ∙ get_or_from_slice_get (set xs i a) i b b is

else_set : {X : Type 0} (xs : List X) (i k : ℕ) (a b : X) → k ≢ i → slice_get (set xs i a) k ≡ Some b → slice_get xs k ≡ Some b
else_set xs i k a b apart is =
    let within : k < length xs = let w = slice_get_within (set xs i a) k b is in let l = length-set xs i a in omega arith in
    slice_get-get_or xs k b within ∙ ap (λ x. Some x) (sym (get_or-set_other xs i k a b apart) ∙ get_or_from_slice_get (set xs i a) k b b is)

pub searched_more : LooksAddUp → LooksTell → (layout : Layout) (lends : List ℕ) (home : ℕ) (order : List NodeId) (place : ℕ) (list : List Shown) (v m w : View) (node : NodeId) (entry : Shown)
    → Searched layout lends home order place list v m → slice_get order place ≡ Some node → place < length list → GivesNone layout lends home node.0 entry m w
    → Searched layout lends home order (place + 1) (set list place entry) v w
searched_more looks tell layout lends home order place list v m w node entry s here within g = record {
  tail = s.tail ++ g.tail;
  after = g.after ∙ ap (λ (u : View). looked u g.tail) s.after ∙ looks.looked_twice v s.tail g.tail;
  nothing = looks.nothing s.tail g.tail s.nothing g.nothing;
  even = λ cell. looks.borrows cell s.tail g.tail ∙ (λ i. s.even cell i + g.even cell i) ∙ sym (looks.repays cell s.tail g.tail);
  shown = λ k other there below ordered listed. dite (ℕ_discrete k place)
      (λ e.
      let node_is : node ≡ other = some_same order place node other here (subst (λ j. slice_get order j ≡ Some other) e ordered) in
      let entry_is : entry ≡ there = here_set list place entry there within (subst (λ j. slice_get (set list place entry) j ≡ Some there) e listed) in
      subst (λ (n : NodeId). Shows layout lends home n.0 there (s.tail ++ g.tail)) node_is
      (subst (λ (x : Shown). Shows layout lends home node.0 x (s.tail ++ g.tail)) entry_is (Shows-behind tell layout lends home node.0 entry s.tail g.tail s.even g.shows)))
      (λ ne. Shows-longer tell layout lends home other.0 there s.tail g.tail (s.shown k other there (omega arith) ordered (else_set list place k entry there ne listed)));
  own = λ alone k other there below ordered listed. dite (ℕ_discrete k place)
      (λ e.
      let node_is : node ≡ other = some_same order place node other here (subst (λ j. slice_get order j ≡ Some other) e ordered) in
      let entry_is : entry ≡ there = here_set list place entry there within (subst (λ j. slice_get (set list place entry) j ≡ Some there) e listed) in
      let mine : Owns layout lends node.0 entry v = Owns-looked layout lends node.0 entry v s.tail (subst (λ (u : View). u.alone ≡ true → Owns layout lends node.0 entry u) s.after g.own alone) in
      subst (λ (n : NodeId). Owns layout lends n.0 there v) node_is (subst (λ (x : Shown). Owns layout lends node.0 x v) entry_is mine))
      (λ ne. s.own alone k other there (omega arith) ordered (else_set list place k entry there ne listed));
}

pub finds_none : (layout : Layout) (lends : List ℕ) (home : ℕ) (order : List NodeId) (place : ℕ) (list : List Shown) (v w : View) → length list ≡ length order → place ≡ length order → Searched layout lends home order place list v w → FindsNone layout lends home order list v w
finds_none layout lends home order place list v w same all s = record {
  tail = s.tail;
  after = s.after;
  nothing = s.nothing;
  entries = same;
  shown = λ k node entry ordered listed. let h = slice_get_within order k node ordered in s.shown k node entry (omega arith) ordered listed;
  own = λ alone k node entry ordered listed. let h = slice_get_within order k node ordered in s.own alone k node entry (omega arith) ordered listed;
}

-- a loan doesn't hang on the looks
paying-looked : (layout : Layout) (home node : ℕ) (v : View) (tail : List Look) → paying layout home node (looked v tail) ≡ looked (paying layout home node v) tail
paying-looked layout home node v tail = step (cell_of_node layout node == home)
  where
    step : (b : Bool) → (if b then looked v tail else holding (looked v tail) (cell_word (cell_of_node layout node)) 0) ≡ looked (if b then v else holding v (cell_word (cell_of_node layout node)) 0) tail
    step true = refl
    step false = refl

-- what was taken is held once
pub takes_once : HoldsAddUp → (v : View) (i g : ℕ) (w : View) → Takes v i g w → held i w ≡ 1
takes_once holds v i g w t = ap (held i) t.after ∙ holds.more i g v.holds ∙ ap (λ n. n + 1) t.unheld

pub finds : HoldsAddUp → LooksAddUp → LooksTell → (layout : Layout) (lends : List ℕ) (home : ℕ) (order : List NodeId) (place : ℕ) (list : List Shown) (v m w : View) (node : NodeId) (number g : ℕ)
    → Searched layout lends home order place list v m → slice_get order place ≡ Some node → length list ≡ length order → GivesFrame layout lends home node.0 number g m w
    → Finds layout lends home order number g v w
finds holds looks tell layout lends home order place list v m w node number g s here same f = record {
  place = place;
  node = node;
  tail = s.tail ++ f.tail;
  ordered = here;
  on = f.on;
  nothing = looks.nothing s.tail f.tail s.nothing f.nothing;
  earlier = λ k other below ordered.
      let entry : Shown = get_or list k AllHeld in
      let within : k < length list = let h = slice_get_within order k other ordered in omega arith in
      let listed = slice_get-get_or list k AllHeld within in
      (entry, Shows-longer tell layout lends home other.0 entry s.tail f.tail (s.shown k other entry below ordered listed), (λ alone. s.own alone k other entry below ordered listed));
  lower = λ frame below on. tell.refused_behind s.tail f.tail (frame_word frame) (f.lower frame below on);
  own = subst (λ (u : View). u.alone ≡ true → (frame : ℕ) → frame < number → IsOn layout node.0 frame → IsOwn u (frame_word frame)) s.after f.own;
  took = took;
  once = takes_once holds _ _ _ _ took;
  paid = subst (λ (u : View). IsOutside layout home node.0 → cell_loans w (cell_of_node layout node.0) ≡ cell_loans u (cell_of_node layout node.0) + 1) s.after f.paid;
  below = subst (λ (u : View). u.alone ≡ true → IsOutside layout home node.0 → cell_loans u (cell_of_node layout node.0) < slice_index lends (cell_of_node layout node.0)) s.after f.below;
}
  where
    took : Takes (looked (paying layout home node.0 v) (s.tail ++ f.tail)) (frame_word number) g w
    took = subst (λ (u : View). Takes u (frame_word number) g w)
        (ap (λ (u : View). looked (paying layout home node.0 u) f.tail) s.after ∙ ap (λ (u : View). looked u f.tail) (paying-looked layout home node.0 v s.tail) ∙ looks.looked_twice (paying layout home node.0 v) s.tail f.tail)
        f.took
