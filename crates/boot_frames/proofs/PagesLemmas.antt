-- How many frames a claim gets: as many as there are, counted by the laws of searches.
use Rattle.std.proofs.Common.{◌≡◌, ◌≢◌, ℕ, zero, suc, ◌+◌, ◌*◌, ◌<◌, ◌≤◌, ◌==◌, if◌then◌else◌, Bool, true, [], replicate, refl, sym, ap, ◌∙◌, subst, arith, eq-eqb, ne_eqb, add-one, min}
use Rattle.std.specs.Prelude.{not, ◌&&◌, ◌||◌, Option, Some, None}
use Rattle.std.proofs.Math.Nat.{mul-pos}
use Rattle.std.proofs.lemmas.Bool.Decides.{nat_tests}
use mathlib.Core.Logic.{dite}
use native.Mathlib.Decide.{ℕ_discrete, dec_le}
use Rattle.node_frames.specs.Layout.{Layout, IsLayout}
use Rattle.base_words.specs.declared.ids.NodeId.{NodeId}
use Rattle.frame_words.specs.Holders.{MadeTable}
use Rattle.node_frames.specs.Places.{cell_of_node, FitsShape}
use Rattle.node_frames.specs.BootOrder.{boot_nodes, cell_nodes}
use Rattle.node_frames.specs.Left.{sum_below, Left, cell_frames, cell_gives, has, node_gives, first_giving, taking, left_by, after_search, after_searches}
use Rattle.boot_frames.specs.Claims.{home_of, order_of, has_of, IsAtHome}
use Rattle.boot_frames.specs.Chain.{after_frames}
use Rattle.boot_frames.specs.Counts.{AreCounted}
use Rattle.boot_frames.specs.declared.claims.Taker.{Taker}
use Rattle.boot_frames.specs.declared.claims.Taker.TheVariants.{Cache, Pages}
use Rattle.boot_frames.proofs.OwnLemmas.{own_node}

-- a number of a sum is no more than the sum
sum_part : (f : ℕ → ℕ) (n i : ℕ) → i < n → f i ≤ sum_below f n
sum_part f zero i within = absurd (omega arith)
sum_part f (suc n) i within = dite (ℕ_discrete i n)
    (λ e. let here : f i ≡ f n = ap f e in omega arith)
    (λ ne. let rest = sum_part f n i (omega arith) in omega arith)

-- a node that gives a frame has one, and its cell a loan where it lies outside home
gives_some : (frames loans cell home : ℕ) → (not (frames == 0) && ((cell == home) || not (loans == 0))) ≡ true → (0 < frames) × (cell ≢ home → 0 < loans)
gives_some frames loans cell home gives = (grind (arith, nat_tests), λ outside. grind (arith, nat_tests))

some_of-both : (m n : ℕ) → 0 < m → 0 < n → 0 < min m n
some_of-both m n p q = omega arith

-- a cell has a frame where one of its nodes does
frames-some : (layout : Layout) (cell : ℕ) (left : Left) (node : ℕ) → node < layout.nodes → cell_of_node layout node ≡ cell → 0 < left.frames node → 0 < cell_frames layout left cell
frames-some layout cell left node within on some =
    let part = sum_part (λ n. if cell_of_node layout n == cell then left.frames n else 0) layout.nodes node within in
    let here : (if cell_of_node layout node == cell then left.frames node else 0) ≡ left.frames node = ap (λ (b : Bool). if b then left.frames node else 0) (eq-eqb (cell_of_node layout node) cell on) in
    omega arith

-- a guest has something where a node gives a frame
has-some : (layout : Layout) (home : ℕ) (left : Left) (node : ℕ) → node < layout.nodes → cell_of_node layout node < 8 → node_gives layout home left node ≡ true → 0 < has layout home left
unfolding has
has-some layout home left node within low gives =
    let all = sum_part (cell_gives layout home left) 8 cell low in let some = here in omega arith
  where
    cell : ℕ
    cell = cell_of_node layout node

    some : (0 < left.frames node) × (cell ≢ home → 0 < left.loans cell)
    some = gives_some (left.frames node) (left.loans cell) cell home gives

    frames : 0 < cell_frames layout left cell
    frames = frames-some layout cell left node within refl some.0

    here : 0 < cell_gives layout home left cell
    here = dite (ℕ_discrete cell home)
        (λ inside. subst (λ n. 0 < n) (sym (ap (λ (b : Bool). if b then cell_frames layout left cell else min (cell_frames layout left cell) (left.loans cell)) (eq-eqb cell home inside))) frames)
        (λ outside. subst (λ n. 0 < n) (sym (ap (λ (b : Bool). if b then cell_frames layout left cell else min (cell_frames layout left cell) (left.loans cell)) (ne_eqb cell home outside)))
        (some_of-both (cell_frames layout left cell) (left.loans cell) frames (some.1 outside)))

-- some table that has the layout's frames and eight cells
abbrev some_table : (layout : Layout) → IsLayout layout → 0 < layout.nodes → layout.nodes * layout.frames < 4294967296 → MadeTable
some_table layout lies some few = record {
  id = record { words = 0; slots = 0; views_name = 0; atom = 0; block = 0; offset = 0; slot_names = [] };
  terms = record {
    frames = layout.nodes * layout.frames;
    first = 0;
    lends = replicate 8 0;
    some_frames = mul-pos some lies.has_frames;
    numbered = few;
    some_cells = omega arith;
    few_cells = omega arith;
  };
}

-- there is something where a search gives a frame
pub taker-some : (layout : Layout) (taker : Taker) (now : Left) (node : NodeId) → node.0 < layout.nodes → cell_of_node layout node.0 < 8
    → node_gives layout (home_of layout taker) now node.0 ≡ true → Some node ≡ first_giving layout (home_of layout taker) now (order_of layout taker) → 0 < has_of layout taker now
taker-some layout (Cache cell) now node within low gives is =
    frames-some layout cell.0 now node.0 within (own_node layout cell.0 _ node (sym is)) (gives_some (now.frames node.0) (now.loans (cell_of_node layout node.0)) (cell_of_node layout node.0) cell.0 gives).0
taker-some layout (Pages guest home) now node within low gives is = has-some layout (cell_of_node layout home.0) now node.0 within low gives

-- so many searches take as many, up to all that was left
pub record Take (layout : Layout) (taker : Taker) (left : Left) : Type 0 where
  pub each : (k : ℕ) → k ≤ has_of layout taker left → has_of layout taker (after_frames layout taker k left) + k ≡ has_of layout taker left

-- the laws say it of a guest's order, in each layout that has a table, and of a cell's own nodes
abbrev pub GuestLaw : Type 0
GuestLaw = (table : MadeTable) (layout : Layout) (home : ℕ) (start : NodeId) (left : Left) (k : ℕ) → FitsShape table layout → start.0 < layout.nodes → k ≤ has layout home left
    → has layout home (after_searches layout home (boot_nodes layout start) k left) + k ≡ has layout home left

abbrev pub CacheLaw : Type 0
CacheLaw = (layout : Layout) (cell : ℕ) (left : Left) (k : ℕ) → k ≤ cell_frames layout left cell
    → cell_frames layout (after_searches layout cell (cell_nodes layout cell) k left) cell + k ≡ cell_frames layout left cell

pub takes : GuestLaw → CacheLaw → (layout : Layout) (taker : Taker) (left : Left) → IsLayout layout → AreCounted layout → layout.nodes * layout.frames < 4294967296 → IsAtHome layout taker → Take layout taker left
takes guest cache layout (Cache cell) left lies cells few home = record { each = λ k most. cache layout cell.0 left k most }
takes guest cache layout (Pages number node) left lies cells few home = record {
  each = λ k most. guest (some_table layout lies (omega arith) few) layout (cell_of_node layout node.0) node left k (record { lies = lies; frames = refl; cells = cells }) home most;
}

-- one frame more: there was something left
pub frame_there : (layout : Layout) (taker : Taker) (left : Left) (k : ℕ) → Take layout taker left → k ≤ has_of layout taker left
    → 0 < has_of layout taker (after_frames layout taker k left) → k + 1 ≤ has_of layout taker left
frame_there layout taker left k t most some = let here = t.each k most in omega arith

frame_step : (layout : Layout) (taker : Taker) (left now : Left) (k : ℕ) (o : Option NodeId) → now ≡ after_frames layout taker k left → o ≡ first_giving layout (home_of layout taker) now (order_of layout taker)
    → left_by layout (home_of layout taker) now o ≡ after_frames layout taker (k + 1) left
frame_step layout taker left now k o at is =
    let home = home_of layout taker in
    let order = order_of layout taker in
    ap (left_by layout home now) is ∙ ap (after_search layout home order) at ∙ sym (ap (λ n. after_searches layout home order n left) (add-one k))

pub frame-more : (layout : Layout) (taker : Taker) (left now : Left) (k : ℕ) (node : NodeId) → now ≡ after_frames layout taker k left → Some node ≡ first_giving layout (home_of layout taker) now (order_of layout taker)
    → taking layout (home_of layout taker) now node.0 ≡ after_frames layout taker (k + 1) left
frame-more layout taker left now k node at is = frame_step layout taker left now k (Some node) at is

-- no frame more: nothing was left
pub frame_none : (layout : Layout) (taker : Taker) (left now : Left) (k : ℕ) → Take layout taker left → k ≤ has_of layout taker left
    → now ≡ after_frames layout taker k left → None ≡ first_giving layout (home_of layout taker) now (order_of layout taker) → k ≡ has_of layout taker left
frame_none layout taker left now k t most at none = dite (dec_le (k + 1) (has_of layout taker left))
    (λ more.
    let here = t.each k most in
    let next = t.each (k + 1) more in
    let same : has_of layout taker (after_frames layout taker (k + 1) left) ≡ has_of layout taker (after_frames layout taker k left) =
    ap (has_of layout taker) (sym (frame_step layout taker left now k None at none) ∙ at) in
    absurd (omega arith))
    (λ all. omega arith)
