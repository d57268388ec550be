-- A frame that is found on a node joins the copies that a holder has, and is none of a guest's.
use Rattle.std.proofs.Common.{◌≡◌, ◌≢◌, ℕ, zero, suc, ◌+◌, ◌*◌, ◌/◌, ◌%◌, ◌<◌, ◌≤◌, ◌==◌, not, ◌&&◌, cond, if◌then◌else◌, Bool, true, false, List, [], ◌∷◌, Some, length, refl, sym, ap, ◌∙◌, subst, ⊎_elim, arith}
use Rattle.std.proofs.lemmas.Bool.{eq-eqb, eqb-true, ne_eqb}
use Rattle.std.proofs.lemmas.Nat.{div-add-mod', mul-add-lt}
use Rattle.std.proofs.Math.Nat.{mod-lt}
use Rattle.std.specs.Prelude.{Contains, slice_get, slice_index_or}
use mathlib.Core.Logic.{dite}
use native.Mathlib.Decide.{ℕ_discrete}
use Rattle.base_words.specs.Membership.{Has}
use Rattle.base_words.specs.declared.ids.NodeId.{NodeId}
use Rattle.frame_words.specs.FrameWords.{frame_word, cell_word, generation}
use Rattle.frame_words.specs.Views.{hold, holding, times, frame_holds, cell_loans, HeldUnder}
use Rattle.frame_words.specs.declared.view.Hold.{Hold}
use Rattle.frame_words.specs.declared.view.View.{View}
use Rattle.node_frames.specs.Layout.{Layout}
use Rattle.node_frames.specs.Places.{cell_of_node as layout_cell}
use Rattle.node_frames.specs.Searches.{Finds}
use Rattle.private_machine.specs.Backing.{Copy}
use Rattle.isolation_law.specs.Surroundings.{Surroundings, cell_of_frame, home_cell}
use Rattle.isolation_law.specs.GuestState.{GuestState}
use Rattle.isolation_law.specs.CellUse.{held}
use Rattle.isolation_law.specs.Exchange.{count_of}
use Rattle.isolation_law.specs.MoveRows.{IsForeign}
use Rattle.guest_core.specs.Holding.{is_copy, frames_around, IsHolding, HoldsCopies}
use Rattle.guest_core.proofs.ShapeLemmas.{IsLayoutOf}
use Rattle.guest_core.proofs.CopyLemmas.{in-cell, one_if, same-word, apart, lent, pays-cell, count-cons}

-- a hold that is among others counts
contains-times : (i g : ℕ) (hs : List Hold) → Contains hs (hold i g) → 0 < times i hs
contains-times i g hs has = at has.0 hs has.1 has.2
  where
    at : (k : ℕ) (hs : List Hold) → k < length hs → slice_index_or hs k (hold i g) ≡ hold i g → 0 < times i hs
    at k [] lt is = absurd (omega arith)
    at zero (x ∷ hs) lt is = let one : one_if (x.word == i) ≡ 1 = ap one_if (eq-eqb x.word i (ap (λ (y : Hold). y.word) is)) in omega arith
    at (suc k) (x ∷ hs) lt is = let later = at k hs (omega arith) is in omega arith

-- of another word it is among the later ones
pub contains-later : (x : Hold) (hs : List Hold) (word own : ℕ) → x.word ≢ word → Contains (x ∷ hs) (hold word own) → Contains hs (hold word own)
contains-later x hs word own ne has = at has.0 has.1 has.2
  where
    at : (k : ℕ) → k < length (x ∷ hs) → slice_index_or (x ∷ hs) k (hold word own) ≡ hold word own → Contains hs (hold word own)
    at zero lt is = absurd (ne (ap (λ (y : Hold). y.word) is))
    at (suc k) lt is = (k, omega arith, is)

-- a word that isn't among the later ones is held under the first one's generation
first-under : (i g : ℕ) (hs : List Hold) → times i hs ≡ 0 → (own : ℕ) → Contains (hold i g ∷ hs) (hold i own) → own ≡ g
first-under i g hs none own has = at has.0 has.1 has.2
  where
    at : (k : ℕ) → k < length (hold i g ∷ hs) → slice_index_or (hold i g ∷ hs) k (hold i own) ≡ hold i own → own ≡ g
    at zero lt is = sym (ap (λ (y : Hold). y.generation) is)
    at (suc k) lt is = absurd (let later = contains-times i own hs (k, omega arith, is) in omega arith)

-- how a frame and its loan come to a view
pub record Gains (v w : View) (frame generation pays : ℕ) (outside : Bool) : Type 0 where
  frames : (k : ℕ) → frame_holds w k ≡ frame_holds v k + cond {A = ℕ} (frame == k) 1 0
  cells : (c : ℕ) → c < 8 → cell_loans w c ≡ cell_loans v c + cond {A = ℕ} outside (one_if (pays == c)) 0
  under : (k g : ℕ) → k ≢ frame → HeldUnder v (frame_word k) g → HeldUnder w (frame_word k) g
  own : HeldUnder w (frame_word frame) generation

gains : (v w : View) (frame generation pays home : ℕ) → pays < 8 → times (frame_word frame) (if pays == home then v else holding v (cell_word pays) 0).holds ≡ 0
    → w.holds ≡ hold (frame_word frame) generation ∷ (if pays == home then v else holding v (cell_word pays) 0).holds → Gains v w frame generation pays (not (pays == home))
gains v w frame generation pays home low none is = dite (ℕ_discrete pays home)
    (λ e. let flag = eq-eqb pays home e in
    let none' : times x.word v.holds ≡ 0 = subst (λ (b : Bool). times x.word (if b then v else paid).holds ≡ 0) flag none in
    let is' : w.holds ≡ x ∷ v.holds = subst (λ (b : Bool). w.holds ≡ x ∷ (if b then v else paid).holds) flag is in
    subst (λ (b : Bool). Gains v w frame generation pays (not b)) (sym flag) (record {
      frames = λ k. let a = ap (times (frame_word k)) is' in let b = same-word frame k in omega arith;
      cells = λ c lt. let a = ap (times c) is' in let b = apart (frame_word frame) c (λ (e : frame + 8 ≡ c). omega arith) in omega arith;
      under = λ k g ne h. λ own has. h own (contains-later x v.holds (frame_word k) own (λ (e : frame + 8 ≡ k + 8). ne (omega arith)) (subst (λ (hs : List Hold). Contains hs (hold (frame_word k) own)) is' has));
      own = λ own has. first-under x.word generation v.holds none' own (subst (λ (hs : List Hold). Contains hs (hold x.word own)) is' has);
    }))
    (λ ne. let flag = ne_eqb pays home ne in
    let none' : times x.word paid.holds ≡ 0 = subst (λ (b : Bool). times x.word (if b then v else paid).holds ≡ 0) flag none in
    let is' : w.holds ≡ x ∷ paid.holds = subst (λ (b : Bool). w.holds ≡ x ∷ (if b then v else paid).holds) flag is in
    subst (λ (b : Bool). Gains v w frame generation pays (not b)) (sym flag) (record {
      frames = λ k. let a = ap (times (frame_word k)) is' in let b = same-word frame k in let c = apart pays (frame_word k) (λ (e : pays ≡ k + 8). omega arith) in omega arith;
      cells = λ c lt. let a = ap (times c) is' in let b = apart (frame_word frame) c (λ (e : frame + 8 ≡ c). omega arith) in omega arith;
      under = λ k g ne h. λ own has. h own (contains-later y v.holds (frame_word k) own (λ (e : pays ≡ k + 8). omega arith)
          (contains-later x paid.holds (frame_word k) own (λ (e : frame + 8 ≡ k + 8). ne (omega arith)) (subst (λ (hs : List Hold). Contains hs (hold (frame_word k) own)) is' has)));
      own = λ own has. first-under x.word generation paid.holds none' own (subst (λ (hs : List Hold). Contains hs (hold x.word own)) is' has);
    }))
  where
    x : Hold
    x = hold (frame_word frame) generation

    y : Hold
    y = hold (cell_word pays) 0

    paid : View
    paid = holding v (cell_word pays) 0

-- of a frame under a generation there are no more than of the frame
pub copies-fewer : (frame generation : ℕ) (cs : List Copy) → count_of (is_copy frame generation) cs ≤ count_of (λ f g. f == frame) cs
copies-fewer frame generation [] = omega arith
copies-fewer frame generation (c ∷ cs) =
    let here : cond {A = ℕ} (is_copy frame generation c.frame c.generation) 1 0 ≤ cond {A = ℕ} (c.frame == frame) 1 0 = both (c.frame == frame) (c.generation == generation) in
    omega (arith, here, copies-fewer frame generation cs, count-cons (is_copy frame generation) c cs, count-cons (λ f g. f == frame) c cs)
  where
    both : (a b : Bool) → cond {A = ℕ} (a && b) 1 0 ≤ cond {A = ℕ} a 1 0
    both true true = omega arith
    both true false = omega arith
    both false b = omega arith

-- a copy that counts is of this generation
pub is-generation : (frame generation : ℕ) (c : Copy) → 0 < cond {A = ℕ} (is_copy frame generation c.frame c.generation) 1 0 → c.generation ≡ generation
is-generation frame generation c some = by (c.frame == frame) (c.generation == generation) refl some
  where
    by : (a b : Bool) → (c.generation == generation) ≡ b → 0 < cond {A = ℕ} (a && b) 1 0 → c.generation ≡ generation
    by true true is lt = eqb-true c.generation generation is
    by true false is lt = absurd (omega arith)
    by false b is lt = absurd (omega arith)

-- the node of a search in one node alone
pub the-node : (node other : NodeId) (place : ℕ) → slice_get (node ∷ []) place ≡ Some other → other.0 ≡ node.0
the-node node other zero is = cc
the-node node other (suc place) is = absurd cc

-- a frame of a node of the machine is the machine's
pub frame-below : (frame frames node nodes : ℕ) → 0 < frames → frame / frames ≡ node → node < nodes → frame < nodes * frames
frame-below frame frames node nodes some on lt = omega (arith, div-add-mod' frame frames, mul-add-lt (frame / frames) frames (frame % frames) nodes (omega arith) (mod-lt frame some))

-- what a search tells of a frame that it found on a node
pub record IsFound (layout : Layout) (w : Surroundings) (node : ℕ) (c : Copy) (v u : View) : Type 0 where
  pub on : c.frame / layout.frames ≡ node
  pub gains : Gains v u c.frame c.generation (cell_of_frame w c.frame) (not (cell_of_frame w c.frame == home_cell w))
  pub unheld : frame_holds v c.frame ≡ 0

pub found-first : (layout : Layout) (lends : List ℕ) (w : Surroundings) (order : List NodeId) (c : Copy) (v u : View) → IsLayoutOf layout w → (f : Finds layout lends (home_cell w) order c.frame c.generation v u)
    → layout_cell layout f.node.0 < 8 → IsFound layout w f.node.0 c v u
found-first layout lends w order c v u lies f low =
    let pays : layout_cell layout f.node.0 ≡ cell_of_frame w c.frame = ap (layout_cell layout) (sym f.on) ∙ pays-cell layout w c.frame lies in
    let got = gains v u c.frame c.generation (layout_cell layout f.node.0) (home_cell w) low f.took.unheld (ap (λ (x : View). x.holds) f.took.after) in
    let all = subst (λ (n : ℕ). Gains v u c.frame c.generation n (not (n == home_cell w))) pays got in
    record {
      on = f.on;
      gains = all;
      unheld = let a = all.frames c.frame in let b = f.once in let own : cond {A = ℕ} (c.frame == c.frame) 1 0 ≡ 1 = ap (λ (b : Bool). cond {A = ℕ} b 1 0) (eq-eqb c.frame c.frame refl) in omega arith;
    }

pub copy-comes : (layout : Layout) (w : Surroundings) (node : ℕ) (cs : List Copy) (c : Copy) (v u : View) → IsLayoutOf layout w → 0 < layout.frames → node < length w.nodes
    → IsFound layout w node c v u → HoldsCopies w cs v → HoldsCopies w (c ∷ cs) u
copy-comes layout w node cs c v u lies some lt f h =
    let counts = λ (test : ℕ → ℕ → Bool). count-cons test c cs in
    let none : count_of (λ f g. f == c.frame) cs ≡ 0 = sym (h.counted c.frame) ∙ f.unheld in
    record {
      counted = λ frame. let a = f.gains.frames frame in let b = counts (λ f x. f == frame) in let d = h.counted frame in omega arith;
      same_generation = λ frame generation any. dite (ℕ_discrete c.frame frame)
          (λ e. let no : count_of (is_copy frame generation) cs ≡ 0 = let le = copies-fewer frame generation cs in let zero : count_of (λ f g. f == frame) cs ≡ 0 = subst (λ (n : ℕ). count_of (λ f g. f == n) cs ≡ 0) e none in omega arith in
          let is = is-generation frame generation c (let a = counts (is_copy frame generation) in omega arith) in
          subst (λ (n : ℕ). HeldUnder u (frame_word n) generation) e (subst (λ (g : ℕ). HeldUnder u (frame_word c.frame) g) is f.gains.own))
          (λ ne. let no : cond {A = ℕ} (is_copy frame generation c.frame c.generation) 1 0 ≡ 0 = ap (λ (b : Bool). cond {A = ℕ} (b && (c.generation == generation)) 1 0) (ne_eqb c.frame frame ne) in
          f.gains.under frame generation (λ e. ne (sym e)) (h.same_generation frame generation (let a = counts (is_copy frame generation) in omega arith)));
      borrowed = λ cell low.
          let pays = cell_of_frame w c.frame in
          let counted : count_of (in-cell w cell) (c ∷ cs) ≡ count_of (in-cell w cell) cs + cond {A = ℕ} (pays == cell) 1 0 = let a = counts (in-cell w cell) in omega arith in
          let a = lent w cell pays (count_of (in-cell w cell) (c ∷ cs)) (count_of (in-cell w cell) cs) counted in let b = f.gains.cells cell low in let d = h.borrowed cell low in omega arith;
      within = λ frame any. dite (ℕ_discrete c.frame frame)
          (λ e. subst (λ (n : ℕ). n < frames_around w) e (frame-below c.frame w.frames node (length w.nodes) (subst (λ (n : ℕ). 0 < n) lies.frames some) (subst (λ (n : ℕ). c.frame / n ≡ node) lies.frames f.on) lt))
          (λ ne. h.within frame (let a = counts (λ f x. f == frame) in let no : cond {A = ℕ} (c.frame == frame) 1 0 ≡ 0 = ap (λ (b : Bool). cond {A = ℕ} b 1 0) (ne_eqb c.frame frame ne) in omega arith));
    }

-- a copy that is among others counts
pub has-counts : (cs : List Copy) (c : Copy) → Has cs c → 0 < count_of (λ f g. f == c.frame) cs
has-counts [] c has = absurd has
has-counts (x ∷ cs) c has = ⊎_elim
    (λ (is : x ≡ c). let one : cond {A = ℕ} (x.frame == c.frame) 1 0 ≡ 1 = ap (λ (b : Bool). cond {A = ℕ} b 1 0) (eq-eqb x.frame c.frame (ap (λ (y : Copy). y.frame) is)) in omega (arith, one, count-cons (λ f g. f == c.frame) x cs))
    (λ (later : Has cs c). omega (arith, has-counts cs c later, count-cons (λ f g. f == c.frame) x cs))
    has

-- a frame that the holder hadn't is none of the guest's
pub found-foreign : (s : GuestState) (c : Copy) (v : View) → IsHolding s v → frame_holds v c.frame ≡ 0 → IsForeign s c
found-foreign s c v h unheld = λ x has same.
    let none : count_of (λ f g. f == x.frame) (held s) ≡ 0 = subst (λ (n : ℕ). count_of (λ f g. f == n) (held s) ≡ 0) (sym same) (sym (h.counted c.frame) ∙ unheld) in
    let some = has-counts (held s) x has in omega arith
