-- A search by a view that is alone ends at the first node of the order that gives a frame.
use Rattle.std.proofs.Common.{◌≡◌, ◌≢◌, ℕ, zero, suc, ◌+◌, ◌-◌, ◌*◌, ◌<◌, ◌==◌, Bool, true, false, List, [], ◌∷◌, length, replicate, get_or, Some, None, slice_index, refl, sym, ap, ◌∙◌, arith, eq-eqb, ne_eqb, lt_of_not-le}
use Rattle.std.specs.Prelude.{not, ◌&&◌, ◌||◌, slice_get, find, cond}
use Rattle.std.proofs.Math.Bool.{and-false}
use Rattle.std.proofs.Math.ListN.{get_or-eq_default}
use Rattle.std.proofs.lemmas.List.{get_or-append_right, get_or-replicate, length-replicate}
use Rattle.std.proofs.lemmas.Option.{get_or_from_slice_get, slice_get_within, slice_get-get_or}
use mathlib.Core.Logic.{dite}
use native.Mathlib.Decide.{ℕ_discrete, dec_le}
use Rattle.node_frames.specs.Layout.{Layout}
use Rattle.base_words.specs.declared.ids.NodeId.{NodeId}
use Rattle.frame_words.specs.AddingUp.{HoldsAddUp}
use Rattle.frame_words.specs.FrameWords.{frame_word}
use Rattle.frame_words.specs.Views.{cell_loans}
use Rattle.frame_words.specs.Holders.{MadeTable}
use Rattle.frame_words.specs.FrameRights.{first_view}
use Rattle.frame_words.specs.declared.view.Look.{Look}
use Rattle.frame_words.specs.declared.view.View.{View}
use Rattle.frame_words.specs.declared.terms.Terms.{Terms}
use Rattle.node_frames.specs.Places.{IsOutside, cell_of_node, FitsShape, AreNodes}
use Rattle.node_frames.specs.Entries.{Shows, Owns}
use Rattle.node_frames.specs.Searches.{Finds, FindsNone}
use Rattle.node_frames.specs.BootOrder.{boot_nodes}
use Rattle.node_frames.specs.Left.{Left, is_free, left_of, first_left, has, node_gives, left_by}
use Rattle.node_frames.specs.Alone.{FindsNext, FindsNoMore}
use Rattle.node_frames.specs.declared.answers.Shown.{Shown}
use Rattle.node_frames.specs.declared.answers.Shown.TheVariants.{AllHeld, AtLimit, Lost}
use Rattle.node_frames.proofs.SeekLemmas.{range_on}
use Rattle.node_frames.proofs.LeftLemmas.{sum_zero, sum_ones, has-taking, has-zero}
use Rattle.node_frames.proofs.AloneLemmas.{one_of, cell_low, node_within, own_taken, frames-here, left_after, still_alone}
use Rattle.node_frames.proofs.BootLemmas.{boot_contains}

-- a node that showed why it gives no frame gives none
pub shows_nothing : (layout : Layout) (lends : List ℕ) (home node : ℕ) (entry : Shown) (v : View) (tail : List Look) → Shows layout lends home node entry tail → Owns layout lends node entry v
    → node_gives layout home (left_of layout lends v) node ≡ false
shows_nothing layout lends home node AllHeld v tail shows own =
    let none : (left_of layout lends v).frames node ≡ 0 = sum_zero (λ k. one_of (is_free v (node * layout.frames + k))) layout.frames
    (λ k below. ap one_of (own_taken v (node * layout.frames + k) (own (node * layout.frames + k) (range_on layout.frames node (node * layout.frames + k) (omega arith) (omega arith) (omega arith))))) in
    λ i. not (eq-eqb ((left_of layout lends v).frames node) 0 none i) && ((cell_of_node layout node == home) || not ((left_of layout lends v).loans (cell_of_node layout node) == 0))
shows_nothing layout lends home node (AtLimit seen) v tail shows own =
    let none : (left_of layout lends v).loans (cell_of_node layout node) ≡ 0 = omega arith in
    (λ i. not ((left_of layout lends v).frames node == 0) && (ne_eqb (cell_of_node layout node) home shows.0 i || not (eq-eqb ((left_of layout lends v).loans (cell_of_node layout node)) 0 none i)))
    ∙ and-false (not ((left_of layout lends v).frames node == 0))
shows_nothing layout lends home node (Lost seen) v tail shows own = absurd own

-- the first of an order that passes
find_first : (p : NodeId → Bool) (order : List NodeId) (place : ℕ) (node : NodeId) → slice_get order place ≡ Some node → p node ≡ true
    → ((k : ℕ) (other : NodeId) → k < place → slice_get order k ≡ Some other → p other ≡ false) → find p order ≡ Some node
find_first p order place node at passes earlier = go order place at earlier
  where
    go : (order : List NodeId) (place : ℕ) → slice_get order place ≡ Some node → ((k : ℕ) (other : NodeId) → k < place → slice_get order k ≡ Some other → p other ≡ false) → find p order ≡ Some node
    go [] place at earlier = at
    go (x ∷ xs) zero at earlier = ap (λ (b : Bool). cond b (Some x) (find p xs)) (ap p (get_or_from_slice_get (x ∷ xs) 0 node node at) ∙ passes) ∙ at
    go (x ∷ xs) (suc place) at earlier = ap (λ (b : Bool). cond b (Some x) (find p xs)) (earlier 0 x (omega arith) refl) ∙ go xs place at (λ k other below there. earlier (suc k) other (omega arith) there)

pub find_none : (p : NodeId → Bool) (order : List NodeId) → ((k : ℕ) (other : NodeId) → slice_get order k ≡ Some other → p other ≡ false) → find p order ≡ None
find_none p [] each = refl
find_none p (x ∷ xs) each = ap (λ (b : Bool). cond b (Some x) (find p xs)) (each 0 x refl) ∙ find_none p xs (λ k other there. each (suc k) other there)

-- the node of a frame that was found gave one
finder_gives : (layout : Layout) (lends : List ℕ) (home node number g : ℕ) (v w : View) (tail : List Look) → (left_of layout lends v).frames node ≡ (left_of layout lends w).frames node + 1
    → (IsOutside layout home node → cell_loans v (cell_of_node layout node) < slice_index lends (cell_of_node layout node)) → node_gives layout home (left_of layout lends v) node ≡ true
finder_gives layout lends home node number g v w tail fewer below = dite (ℕ_discrete (cell_of_node layout node) home)
    (λ inside. λ i. not (ne_eqb ((left_of layout lends v).frames node) 0 (omega arith) i) && (eq-eqb (cell_of_node layout node) home inside i || not ((left_of layout lends v).loans (cell_of_node layout node) == 0)))
    (λ outside. let some = below outside in
    λ i. not (ne_eqb ((left_of layout lends v).frames node) 0 (omega arith) i) && (ne_eqb (cell_of_node layout node) home outside i || not (ne_eqb ((left_of layout lends v).loans (cell_of_node layout node)) 0 (omega arith) i)))

pub finds_next : HoldsAddUp → (table : MadeTable) (layout : Layout) (home : ℕ) (order : List NodeId) (number g : ℕ) (v w : View) → FitsShape table layout → AreNodes layout order → v.alone ≡ true
    → Finds layout table.terms.lends home order number g v w → FindsNext layout table.terms.lends home order number v w
finds_next hold_laws table layout home order number g v w fits nodes alone f =
    let lends = table.terms.lends in
    let within = node_within layout order f.place f.node nodes f.ordered in
    let low = cell_low table layout f.node.0 fits within in
    let fewer = frames-here hold_laws layout home f.node.0 number g v w f.tail low alone f.took fits.lies.has_frames f.on lends in
    let next = find_first (λ (n : NodeId). node_gives layout home (left_of layout lends v) n.0) order f.place f.node f.ordered
    (finder_gives layout lends home f.node.0 number g v w f.tail fewer (f.below alone))
    (λ k other below there. let e = f.earlier k other below there in shows_nothing layout lends home other.0 e.0 v f.tail e.1 (e.2 alone)) in
    let after = left_after hold_laws layout home f.node.0 number g v w f.tail low alone f.took fits.lies.has_frames f.on lends table.terms.few_cells in record {
      node = f.node;
      within = within;
      on = f.on;
      next = next;
      after = after;
      chained = after ∙ ap (left_by layout home (left_of layout lends v)) (sym next);
      alone = still_alone hold_laws layout home f.node.0 number g v w f.tail low alone f.took;
    }

-- each node of the order gives none
pub none_give : (layout : Layout) (lends : List ℕ) (home : ℕ) (order : List NodeId) (list : List Shown) (v w : View) → v.alone ≡ true → FindsNone layout lends home order list v w
    → (k : ℕ) (other : NodeId) → slice_get order k ≡ Some other → node_gives layout home (left_of layout lends v) other.0 ≡ false
none_give layout lends home order list v w alone f k other there =
    let same = f.entries in
    let within : k < length list = let h = slice_get_within order k other there in omega arith in
    let entry : Shown = get_or list k AllHeld in
    let listed = slice_get-get_or list k AllHeld within in
    shows_nothing layout lends home other.0 entry v f.tail (f.shown k other entry there listed) (f.own alone k other entry there listed)

pub finds_no_more : (layout : Layout) (lends : List ℕ) (home : ℕ) (order : List NodeId) (list : List Shown) (v w : View) → v.alone ≡ true → FindsNone layout lends home order list v w
    → FindsNoMore layout lends home order v w
finds_no_more layout lends home order list v w alone f = record {
  none = find_none (λ (n : NodeId). node_gives layout home (left_of layout lends v) n.0) order (none_give layout lends home order list v w alone f);
  after = ap (left_of layout lends) f.after;
  alone = ap (λ (u : View). u.alone) f.after ∙ alone;
}

-- a guest has one frame less after a search that found one, and nothing where the boot order gave none
pub has_falls : HoldsAddUp → (table : MadeTable) (layout : Layout) (home : ℕ) (order : List NodeId) (number g : ℕ) (v w : View) → FitsShape table layout → AreNodes layout order → v.alone ≡ true
    → Finds layout table.terms.lends home order number g v w → has layout home (left_of layout table.terms.lends w) + 1 ≡ has layout home (left_of layout table.terms.lends v)
has_falls hold_laws table layout home order number g v w fits nodes alone f =
    let lends = table.terms.lends in
    let within = node_within layout order f.place f.node nodes f.ordered in
    let low = cell_low table layout f.node.0 fits within in
    let fewer = frames-here hold_laws layout home f.node.0 number g v w f.tail low alone f.took fits.lies.has_frames f.on lends in
    ap (λ (l : Left). has layout home l + 1) (left_after hold_laws layout home f.node.0 number g v w f.tail low alone f.took fits.lies.has_frames f.on lends table.terms.few_cells) ∙ has-taking layout home (left_of layout lends v) f.node.0 within low (finder_gives layout lends home f.node.0 number g v w f.tail fewer (f.below alone))

pub has_nothing : (layout : Layout) (lends : List ℕ) (home : ℕ) (start : NodeId) (list : List Shown) (v w : View) → start.0 < layout.nodes → v.alone ≡ true
    → FindsNone layout lends home (boot_nodes layout start) list v w → has layout home (left_of layout lends v) ≡ 0
has_nothing layout lends home start list v w within alone f = has-zero layout home (left_of layout lends v) (λ node below.
    let c = boot_contains layout start node within below in
    none_give layout lends home (boot_nodes layout start) list v w alone f c.0 (record { 0 = node }) (slice_get-get_or (boot_nodes layout start) c.0 (record { 0 = node }) c.1 ∙ ap (λ (n : NodeId). Some n) c.2))

-- a holder that was just made
first_known : (terms : Terms) (f : ℕ) → terms.first < 4294967295 → slice_index (first_view terms).known (frame_word f) ≢ 4294967295
first_known terms f fresh is =
    let here : f + 8 - 8 ≡ f = omega arith in
    let at : slice_index (first_view terms).known (frame_word f) ≡ get_or (replicate terms.frames terms.first) f 0 =
    get_or-append_right (replicate 8 0) (replicate terms.frames terms.first) 8 (f + 8) 0 (length-replicate {A = ℕ} 8 0) (omega arith) ∙ ap (λ (k : ℕ). get_or (replicate terms.frames terms.first) k 0) here in
    dite (dec_le terms.frames f)
    (λ past. let none = get_or-eq_default (replicate terms.frames terms.first) 0 {n = f} (let l = length-replicate {A = ℕ} terms.frames terms.first in omega arith) in omega arith)
    (λ near. let one = get_or-replicate terms.frames f terms.first 0 (lt_of_not-le near) in omega arith)

pub left_first : (terms : Terms) (layout : Layout) → terms.first < 4294967295 → left_of layout terms.lends (first_view terms) ≡ first_left layout terms.lends
left_first terms layout fresh = λ i. record { frames = λ n. frames n i; loans = λ c. loans c i }
  where
    frames : (n : ℕ) → (left_of layout terms.lends (first_view terms)).frames n ≡ layout.frames
    frames n = sum_ones (λ k. one_of (is_free (first_view terms) (n * layout.frames + k))) layout.frames
        (λ k below. λ i. one_of (true && not (ne_eqb (slice_index (first_view terms).known (frame_word (n * layout.frames + k))) 4294967295 (first_known terms (n * layout.frames + k) fresh) i)))

    loans : (c : ℕ) → slice_index terms.lends c - 0 ≡ slice_index terms.lends c
    loans c = omega arith
