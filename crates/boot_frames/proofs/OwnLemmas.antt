-- A cell's cache is taken of the cell's own nodes, and leaves the others as they were.
use Rattle.std.proofs.Common.{◌≡◌, ◌≢◌, ℕ, zero, suc, ◌+◌, ◌-◌, ◌*◌, ◌/◌, ◌<◌, ◌≤◌, ◌==◌, if◌then◌else◌, Bool, true, false, List, [], ◌∷◌, refl, sym, ap, ◌∙◌, subst, arith, eqb-true, ne_eqb}
use Rattle.std.specs.Prelude.{Option, Some, None, All, cond, find, not, ◌&&◌, ◌||◌, option_map}
use Rattle.std.proofs.lemmas.Bool.Decides.{nat_tests}
use Rattle.std.proofs.lemmas.List.Elements.{All-head, All-tail, filter_passes}
use Rattle.std.proofs.lemmas.Option.{none-some, same_Some}
use mathlib.Core.Logic.{dite}
use native.Mathlib.Decide.{ℕ_discrete}
use Rattle.node_frames.specs.Layout.{Layout}
use Rattle.base_words.specs.declared.ids.NodeId.{NodeId}
use Rattle.node_frames.specs.Places.{cell_of_node, IsOn}
use Rattle.node_frames.specs.BootOrder.{nodes_below, cell_nodes}
use Rattle.node_frames.specs.Left.{sum_below, Left, cell_frames, node_gives, first_giving, one_less, left_by, after_searches}
use Rattle.boot_frames.specs.Chain.{after_claims, lowest_frame}
use Rattle.boot_frames.specs.Claims.{cache_claims}

-- what holds of each element holds of the first one that passes, and it passes
found_meets : {X : Type 0} (P : X → Type 0) (test : X → Bool) (xs : List X) (x : X) → All P xs → find test xs ≡ Some x → P x
found_meets P test [] x all is = absurd (none-some x is)
found_meets {X} P test (y ∷ xs) x all is = step (test y) (found_meets P test xs x (All-tail P y xs all)) is
  where
    step : (b : Bool) → (find test xs ≡ Some x → P x) → cond b (Some y) (find test xs) ≡ Some x → P x
    step true rest e = subst P (same_Some y x e) (All-head P y xs all)
    step false rest e = rest e

found_passes : {X : Type 0} (test : X → Bool) (xs : List X) (x : X) → find test xs ≡ Some x → test x ≡ true
found_passes test [] x is = absurd (none-some x is)
found_passes {X} test (y ∷ xs) x is = step (test y) refl (found_passes test xs x) is
  where
    step : (b : Bool) → test y ≡ b → (find test xs ≡ Some x → test x ≡ true) → cond b (Some y) (find test xs) ≡ Some x → test x ≡ true
    step true passes rest e = subst (λ (z : X). test z ≡ true) (same_Some y x e) passes
    step false fails rest e = rest e

-- a node of a cell's own lies in it
pub own_node : (layout : Layout) (cell : ℕ) (test : NodeId → Bool) (node : NodeId) → find test (cell_nodes layout cell) ≡ Some node → cell_of_node layout node.0 ≡ cell
own_node layout cell test node is =
    let on : NodeId → Bool = λ n. cell_of_node layout n.0 == cell in
    eqb-true (cell_of_node layout node.0) cell (found_meets (λ n. on n ≡ true) test (cell_nodes layout cell) node (filter_passes on (nodes_below layout.nodes)) is)

-- ---- the frames of another cell

module _ (layout : Layout) (cell other : ℕ) (apart : cell ≢ other) where
  abbrev counted : (ℕ → ℕ) → ℕ → ℕ
  counted frames n = if cell_of_node layout n == other then frames n else 0

  node_same : (left : Left) (node : ℕ) → cell_of_node layout node ≡ cell → (n : ℕ) → counted (one_less left.frames node) n ≡ counted left.frames n
  node_same left node on n = dite (ℕ_discrete n node)
      (λ e. let off : (cell_of_node layout n == other) ≡ false = ne_eqb (cell_of_node layout n) other (λ (same : cell_of_node layout n ≡ other). apart (sym on ∙ ap (cell_of_node layout) (sym e) ∙ same)) in
      ap (λ (b : Bool). if b then one_less left.frames node n else 0) off ∙ sym (ap (λ (b : Bool). if b then left.frames n else 0) off))
      (λ ne. ap (λ (k : ℕ). if cell_of_node layout n == other then k else 0) (ap (λ (b : Bool). if b then left.frames n - 1 else left.frames n) (ne_eqb n node ne)))

  search_same : (left : Left) (o : Option NodeId) → first_giving layout cell left (cell_nodes layout cell) ≡ o → cell_frames layout (left_by layout cell left o) other ≡ cell_frames layout left other
  search_same left None is = refl
  search_same left (Some node) is = λ i. sum_below (λ n. node_same left node.0 (own_node layout cell _ node is) n i) layout.nodes

  searches_same : (left : Left) (k : ℕ) → cell_frames layout (after_searches layout cell (cell_nodes layout cell) k left) other ≡ cell_frames layout left other
  searches_same left zero = refl
  searches_same left (suc k) = search_same (after_searches layout cell (cell_nodes layout cell) k left) _ refl ∙ searches_same left k

-- a cell has the frames of its nodes whatever the cells before it took
pub caches_same : (layout : Layout) (cache cell n other : ℕ) (left : Left) → cell + n ≤ other → cell_frames layout (after_claims layout (cache_claims cache cell n) left) other ≡ cell_frames layout left other
caches_same layout cache cell zero other left above = refl
caches_same layout cache cell (suc n) other left above =
    caches_same layout cache (cell + 1) n other (after_searches layout cell (cell_nodes layout cell) cache left) (omega arith)
    ∙ searches_same layout cell other (λ (e : cell ≡ other). omega arith) left cache

-- ---- where a frame lies that a cell's own node gives

some_frames : (frames loans cell home : ℕ) → (not (frames == 0) && ((cell == home) || not (loans == 0))) ≡ true → 0 < frames
some_frames frames loans cell home gives = grind (arith, nat_tests)

pub lies_inside : (layout : Layout) (cell frame : ℕ) (now : Left) → 0 < layout.frames → ((node k : ℕ) → k < layout.frames → IsOn layout node (node * layout.frames + k))
    → option_map (lowest_frame layout now) (first_giving layout cell now (cell_nodes layout cell)) ≡ Some frame → cell_of_node layout (frame / layout.frames) ≡ cell
lies_inside layout cell frame now some on is = by (first_giving layout cell now (cell_nodes layout cell)) refl is
  where
    by : (o : Option NodeId) → first_giving layout cell now (cell_nodes layout cell) ≡ o → option_map (lowest_frame layout now) o ≡ Some frame → cell_of_node layout (frame / layout.frames) ≡ cell
    by None none e = absurd (none-some frame e)
    by (Some node) found e =
        let gives = some_frames (now.frames node.0) (now.loans (cell_of_node layout node.0)) (cell_of_node layout node.0) cell (found_passes (λ (n : NodeId). node_gives layout cell now n.0) (cell_nodes layout cell) node found) in
        let low : layout.frames - now.frames node.0 < layout.frames = omega arith in
        ap (λ (f : ℕ). cell_of_node layout (f / layout.frames)) (sym (same_Some (lowest_frame layout now node) frame e))
        ∙ ap (cell_of_node layout) (on node.0 (layout.frames - now.frames node.0) low) ∙ own_node layout cell _ node found
