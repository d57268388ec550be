-- The frames of a cell, which its cache takes, and so many searches one after another.
use Rattle.std.proofs.Common.{◌≡◌, ◌≢◌, ℕ, zero, suc, ◌+◌, ◌<◌, ◌≤◌, ◌==◌, ◌⊎◌, inl, inr, ⊎_elim, Bool, true, false, List, [], ◌∷◌, Some, None, refl, sym, ap, ◌∙◌, subst, arith, eq-eqb, eqb-true, add-one}
use Rattle.std.specs.Prelude.{Contains, Option, filter, find, cond, slice_get}
use Rattle.std.proofs.lemmas.List.Elements.{All-filter, All-contains, filter_passes, Contains-append_right, Contains-append_cases}
use Rattle.std.proofs.lemmas.Option.{get_or_from_slice_get, slice_get_within, slice_get-get_or}
use Rattle.node_frames.specs.Layout.{Layout}
use Rattle.base_words.specs.declared.ids.NodeId.{NodeId}
use Rattle.frame_words.specs.AddingUp.{HoldsAddUp}
use Rattle.frame_words.specs.Holders.{MadeTable}
use Rattle.frame_words.specs.declared.view.View.{View}
use Rattle.node_frames.specs.Places.{cell_of_node, FitsShape, AreNodes}
use Rattle.node_frames.specs.BootOrder.{nodes_below, boot_nodes, cell_nodes}
use Rattle.node_frames.specs.Searches.{Finds, FindsNone}
use Rattle.node_frames.specs.Left.{Left, left_of, cell_frames, has, node_gives, taking, left_by, after_search, after_searches}
use Rattle.node_frames.specs.declared.answers.Shown.{Shown}
use Rattle.node_frames.proofs.OrderLemmas.{nodes_below-below, Below, boot_nodes-below}
use Rattle.node_frames.proofs.BootLemmas.{below_contains, boot_contains}
use Rattle.node_frames.proofs.LeftLemmas.{cell_frames-here, cell_frames-zero, gives_frames, gives_nothing, has-taking, has-zero}
use Rattle.node_frames.proofs.AloneLemmas.{cell_low, node_within, frames-here, left_after}
use Rattle.node_frames.proofs.NextLemmas.{find_none, none_give}

-- an element that passes stays
pub contains_filter : {X : Type 0} (p : X → Bool) (xs : List X) (x : X) → p x ≡ true → Contains xs x → Contains (filter p xs) x
contains_filter p [] x passes c = c
contains_filter {X} p (y ∷ xs) x passes c = ⊎_elim
    (λ (here : Contains (y ∷ []) x). let is : y ≡ x = one here in
    subst (λ (l : List X). Contains l x) (sym (ap (λ (b : Bool). cond b (y ∷ filter p xs) (filter p xs)) (ap p is ∙ passes))) (0, omega arith, is))
    (λ (later : Contains xs x). keeps (p y) (contains_filter p xs x passes later))
    (Contains-append_cases (y ∷ []) xs x c)
  where
    one : {y : X} → Contains (y ∷ []) x → y ≡ x
    one (zero, below, is) = is
    one (suc k, below, is) = absurd (omega arith)

    keeps : (b : Bool) → Contains (filter p xs) x → Contains (cond b (y ∷ filter p xs) (filter p xs)) x
    keeps true there = Contains-append_right (y ∷ []) (filter p xs) x there
    keeps false there = there

abbrev on_cell : Layout → ℕ → NodeId → Bool
on_cell layout cell n = cell_of_node layout n.0 == cell

-- each node of a cell's is one of the layout's, and is in that cell
pub cell_nodes-below : (layout : Layout) (cell : ℕ) → AreNodes layout (cell_nodes layout cell)
cell_nodes-below layout cell = All-filter (on_cell layout cell) (Below layout.nodes) (nodes_below layout.nodes) (nodes_below-below layout.nodes layout.nodes (omega arith))

cell_nodes-on : (layout : Layout) (cell k : ℕ) (node : NodeId) → slice_get (cell_nodes layout cell) k ≡ Some node → cell_of_node layout node.0 ≡ cell
cell_nodes-on layout cell k node there =
    let passes = filter_passes (on_cell layout cell) (nodes_below layout.nodes) k node (slice_get_within (cell_nodes layout cell) k node there) in
    eqb-true (cell_of_node layout node.0) cell (ap (on_cell layout cell) (sym (get_or_from_slice_get (cell_nodes layout cell) k node node there)) ∙ passes)

pub cell_falls : HoldsAddUp → (table : MadeTable) (layout : Layout) (cell number g : ℕ) (v w : View) → FitsShape table layout → v.alone ≡ true
    → Finds layout table.terms.lends cell (cell_nodes layout cell) number g v w
    → cell_frames layout (left_of layout table.terms.lends w) cell + 1 ≡ cell_frames layout (left_of layout table.terms.lends v) cell
cell_falls hold_laws table layout cell number g v w fits alone f =
    let lends = table.terms.lends in
    let within = node_within layout (cell_nodes layout cell) f.place f.node (cell_nodes-below layout cell) f.ordered in
    let low = cell_low table layout f.node.0 fits within in
    let fewer = frames-here hold_laws layout cell f.node.0 number g v w f.tail low alone f.took fits.lies.has_frames f.on lends in
    let here = cell_frames-here layout cell (left_of layout lends v) f.node.0 within (omega arith) in
    ap (λ (l : Left). cell_frames layout l cell + 1) (left_after hold_laws layout cell f.node.0 number g v w f.tail low alone f.took fits.lies.has_frames f.on lends table.terms.few_cells)
    ∙ subst (λ c. cell_frames layout (taking layout cell (left_of layout lends v) f.node.0) c + 1 ≡ cell_frames layout (left_of layout lends v) c) (cell_nodes-on layout cell f.place f.node f.ordered) (sym here)

-- none of an order passes, or the first that does is among it
abbrev NonePass : (NodeId → Bool) → List NodeId → Type 0
NonePass p order = (find p order ≡ None) × ((k : ℕ) (other : NodeId) → slice_get order k ≡ Some other → p other ≡ false)

abbrev OnePasses : (NodeId → Bool) → List NodeId → Type 0
OnePasses p order = (n : NodeId) × (find p order ≡ Some n) × (p n ≡ true) × Contains order n

none_pass : (p : NodeId → Bool) (x : NodeId) (xs : List NodeId) → p x ≡ false → NonePass p xs → NonePass p (x ∷ xs)
none_pass p x xs fails h = (ap (λ (b : Bool). cond b (Some x) (find p xs)) fails ∙ h.0, each)
  where
    each : (k : ℕ) (other : NodeId) → slice_get (x ∷ xs) k ≡ Some other → p other ≡ false
    each zero other there = ap p (sym (get_or_from_slice_get (x ∷ xs) 0 other other there)) ∙ fails
    each (suc k) other there = h.1 k other there

pub find_cases : (p : NodeId → Bool) (order : List NodeId) → NonePass p order ⊎ OnePasses p order
find_cases p [] = inl (refl, λ k other there. absurd (let w = slice_get_within [] k other there in omega arith))
find_cases p (x ∷ xs) = by_test (p x) refl (find_cases p xs)
  where
    by_test : (b : Bool) → p x ≡ b → NonePass p xs ⊎ OnePasses p xs → NonePass p (x ∷ xs) ⊎ OnePasses p (x ∷ xs)
    by_test true passes rest = inr (x, ap (λ (b : Bool). cond b (Some x) (find p xs)) passes, passes, (0, omega arith, refl))
    by_test false fails rest = ⊎_elim
        (λ (h : NonePass p xs). inl (none_pass p x xs fails h))
        (λ (h : OnePasses p xs). inr (h.0, ap (λ (b : Bool). cond b (Some x) (find p xs)) fails ∙ h.1, h.2, Contains-append_right (x ∷ []) xs h.0 h.3))
        rest

-- a search by the boot order lowers what a guest has by one where it has something
one_search : (table : MadeTable) (layout : Layout) (home : ℕ) (start : NodeId) (left : Left) → FitsShape table layout → start.0 < layout.nodes → 0 < has layout home left
    → has layout home (after_search layout home (boot_nodes layout start) left) + 1 ≡ has layout home left
one_search table layout home start left fits within some = ⊎_elim
    (λ (h : NonePass test (boot_nodes layout start)).
    let none = has-zero layout home left (λ node below.
    let c = boot_contains layout start node within below in
    h.1 c.0 (record { 0 = node }) (slice_get-get_or (boot_nodes layout start) c.0 (record { 0 = node }) c.1 ∙ ap (λ (n : NodeId). Some n) c.2)) in
    absurd (omega arith))
    (λ (h : OnePasses test (boot_nodes layout start)).
    let below : h.0.0 < layout.nodes = All-contains (λ (n : NodeId). n.0 < layout.nodes) (boot_nodes layout start) h.0 (boot_nodes-below layout start within) h.3 in
    ap (λ (o : Option NodeId). has layout home (left_by layout home left o) + 1) h.1 ∙ has-taking layout home left h.0.0 below (cell_low table layout h.0.0 fits below) h.2)
    (find_cases test (boot_nodes layout start))
  where
    test : NodeId → Bool
    test n = node_gives layout home left n.0

-- one search more
pub after_searches-more : (layout : Layout) (home : ℕ) (order : List NodeId) (k : ℕ) (left : Left) → after_searches layout home order (k + 1) left ≡ after_search layout home order (after_searches layout home order k left)
after_searches-more layout home order k left = ap (λ n. after_searches layout home order n left) (add-one k)

pub searches_take : (table : MadeTable) (layout : Layout) (home : ℕ) (start : NodeId) (left : Left) (k : ℕ) → FitsShape table layout → start.0 < layout.nodes → k ≤ has layout home left
    → has layout home (after_searches layout home (boot_nodes layout start) k left) + k ≡ has layout home left
searches_take table layout home start left zero fits within few = omega arith
searches_take table layout home start left (suc k) fits within few =
    let before = searches_take table layout home start left k fits within (omega arith) in
    let more = one_search table layout home start (after_searches layout home (boot_nodes layout start) k left) fits within (omega arith) in omega arith

-- the same over a cell's own nodes
cell_none : (layout : Layout) (left : Left) (cell : ℕ) → NonePass (λ (n : NodeId). node_gives layout cell left n.0) (cell_nodes layout cell) → cell_frames layout left cell ≡ 0
cell_none layout left cell h = cell_frames-zero layout left cell (λ node within on.
    let c = contains_filter (on_cell layout cell) (nodes_below layout.nodes) (record { 0 = node }) (eq-eqb (cell_of_node layout node) cell on) (below_contains node layout.nodes within) in
    ⊎_elim
    (λ (e : left.frames node ≡ 0). e)
    (λ (x : (cell_of_node layout node ≢ cell) × (left.loans (cell_of_node layout node) ≡ 0)). absurd (x.0 on))
    (gives_nothing layout cell left node (h.1 c.0 (record { 0 = node }) (slice_get-get_or (cell_nodes layout cell) c.0 (record { 0 = node }) c.1 ∙ ap (λ (n : NodeId). Some n) c.2))))

pub cell_nothing : (layout : Layout) (lends : List ℕ) (cell : ℕ) (list : List Shown) (v w : View) → v.alone ≡ true → FindsNone layout lends cell (cell_nodes layout cell) list v w
    → cell_frames layout (left_of layout lends v) cell ≡ 0
cell_nothing layout lends cell list v w alone f =
    let each = none_give layout lends cell (cell_nodes layout cell) list v w alone f in
    cell_none layout (left_of layout lends v) cell (find_none (λ (n : NodeId). node_gives layout cell (left_of layout lends v) n.0) (cell_nodes layout cell) each, each)

one_cell_search : (layout : Layout) (cell : ℕ) (left : Left) → 0 < cell_frames layout left cell
    → cell_frames layout (after_search layout cell (cell_nodes layout cell) left) cell + 1 ≡ cell_frames layout left cell
one_cell_search layout cell left some = ⊎_elim
    (λ (h : NonePass test (cell_nodes layout cell)). let none = cell_none layout left cell h in absurd (omega arith))
    (λ (h : OnePasses test (cell_nodes layout cell)).
    let below : h.0.0 < layout.nodes = All-contains (λ (n : NodeId). n.0 < layout.nodes) (cell_nodes layout cell) h.0 (cell_nodes-below layout cell) h.3 in
    let on = cell_nodes-on layout cell h.3.0 h.0 (slice_get-get_or (cell_nodes layout cell) h.3.0 h.0 h.3.1 ∙ ap (λ (n : NodeId). Some n) h.3.2) in
    ap (λ (o : Option NodeId). cell_frames layout (left_by layout cell left o) cell + 1) h.1
    ∙ subst (λ c. cell_frames layout (taking layout cell left h.0.0) c + 1 ≡ cell_frames layout left c) on (sym (cell_frames-here layout cell left h.0.0 below (gives_frames layout cell left h.0.0 h.2))))
    (find_cases test (cell_nodes layout cell))
  where
    test : NodeId → Bool
    test n = node_gives layout cell left n.0

pub cell_searches_take : (layout : Layout) (cell : ℕ) (left : Left) (k : ℕ) → k ≤ cell_frames layout left cell
    → cell_frames layout (after_searches layout cell (cell_nodes layout cell) k left) cell + k ≡ cell_frames layout left cell
cell_searches_take layout cell left zero few = omega arith
cell_searches_take layout cell left (suc k) few =
    let before = cell_searches_take layout cell left k (omega arith) in
    let more = one_cell_search layout cell (after_searches layout cell (cell_nodes layout cell) k left) (omega arith) in omega arith
