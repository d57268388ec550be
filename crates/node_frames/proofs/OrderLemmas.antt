-- The nodes of a group, one more at a time, and each node of the order is one of the layout's.
use Rattle.std.proofs.Common.{◌≡◌, ℕ, zero, suc, ◌+◌, ◌<◌, ◌≤◌, Bool, true, false, if◌then◌else◌, List, [], ◌∷◌, ◌++◌, refl, sym, ap, ◌∙◌, arith, add-one, append_assoc, append-nil}
use Rattle.std.specs.Prelude.{filter, All}
use Rattle.std.proofs.lemmas.List.Elements.{filter-append, All-nil, All-push, All-filter, All-cons, All-append}
use Rattle.node_frames.specs.Layout.{Layout}
use Rattle.base_words.specs.declared.ids.NodeId.{NodeId}
use Rattle.node_frames.specs.Places.{AreNodes}
use Rattle.node_frames.specs.BootOrder.{nodes_below, boot_nodes}
use Rattle.node_frames.specs.Groups.{is_in, group_nodes}
use Rattle.node_frames.specs.declared.order.Group.{Group}
use Rattle.node_frames.specs.declared.order.Group.TheVariants.{SameCell, OtherCells}

nodes_below-more : (n : ℕ) → nodes_below (n + 1) ≡ nodes_below n ++ record { 0 = n } ∷ []
nodes_below-more n = rw add-one refl

filter-one : (p : NodeId → Bool) (n : NodeId) (b : Bool) → p n ≡ b → filter p (n ∷ []) ≡ (if b then n ∷ [] else [])
filter-one p n b is = ap (λ (x : Bool). if x then n ∷ [] else []) is

filter-more : (p : NodeId → Bool) (n : ℕ) → filter p (nodes_below (n + 1)) ≡ filter p (nodes_below n) ++ filter p (record { 0 = n } ∷ [])
filter-more p n = ap (filter p) (nodes_below-more n) ∙ filter-append p (nodes_below n) (record { 0 = n } ∷ [])

pub takes_one : (p : NodeId → Bool) (n : ℕ) (xs start : List NodeId) → p (record { 0 = n }) ≡ true → xs ≡ start ++ filter p (nodes_below n) → xs ++ record { 0 = n } ∷ [] ≡ start ++ filter p (nodes_below (n + 1))
takes_one p n xs start passes is =
    ap (λ (l : List NodeId). l ++ record { 0 = n } ∷ []) is ∙ append_assoc start (filter p (nodes_below n)) (record { 0 = n } ∷ [])
    ∙ ap (λ (l : List NodeId). start ++ l) (ap (λ (l : List NodeId). filter p (nodes_below n) ++ l) (sym (filter-one p (record { 0 = n }) true passes)) ∙ sym (filter-more p n))

pub leaves_one : (p : NodeId → Bool) (n : ℕ) (xs start : List NodeId) → p (record { 0 = n }) ≡ false → xs ≡ start ++ filter p (nodes_below n) → xs ≡ start ++ filter p (nodes_below (n + 1))
leaves_one p n xs start fails is =
    is ∙ ap (λ (l : List NodeId). start ++ l) (sym (append-nil (filter p (nodes_below n))) ∙ ap (λ (l : List NodeId). filter p (nodes_below n) ++ l) (sym (filter-one p (record { 0 = n }) false fails)) ∙ sym (filter-more p n))

abbrev pub Below : ℕ → NodeId → Type 0
Below n node = node.0 < n

pub nodes_below-below : (n m : ℕ) → n ≤ m → All (Below m) (nodes_below n)
nodes_below-below zero m le = All-nil (Below m)
nodes_below-below (suc n) m le = All-push (Below m) (nodes_below n) (record { 0 = n }) (nodes_below-below n m (omega arith)) (omega arith)

group_below : (group : Group) (layout : Layout) (home : ℕ) → All (Below layout.nodes) (group_nodes group layout home)
group_below group layout home = All-filter (is_in group layout home) (Below layout.nodes) (nodes_below layout.nodes) (nodes_below-below layout.nodes layout.nodes (omega arith))

-- each node of the order is one of the layout's
pub boot_nodes-below : (layout : Layout) (home : NodeId) → home.0 < layout.nodes → AreNodes layout (boot_nodes layout home)
boot_nodes-below layout home within =
    All-cons (Below layout.nodes) home (group_nodes SameCell layout home.0 ++ group_nodes OtherCells layout home.0) within
    (All-append (Below layout.nodes) (group_nodes SameCell layout home.0) (group_nodes OtherCells layout home.0) (group_below SameCell layout home.0) (group_below OtherCells layout home.0))
