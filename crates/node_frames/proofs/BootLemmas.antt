-- The boot order is the nodes of the layout in another order.
use Rattle.std.proofs.Common.{◌≡◌, ℕ, zero, suc, ◌+◌, ◌<◌, ◌≤◌, ◌==◌, Bool, true, false, List, [], ◌∷◌, ◌++◌, refl, sym, ap, ◌∙◌, subst, arith, zero-add, eq-eqb, ne_eqb}
use Rattle.std.specs.Prelude.{filter, IsPermutation, Contains, count_by, not, ◌&&◌, cond}
use Rattle.std.proofs.lemmas.List.Elements.{filter-append, Contains-append_left, Contains-append_right}
use Rattle.std.proofs.lemmas.List.Sums.{sum_by-append}
use Rattle.std.proofs.lemmas.List.Sorted.{IsPermutation-refl, IsPermutation-trans, IsPermutation-cons, IsPermutation-to_front, IsPermutation-append_left, IsPermutation-append_right, Contains-permutation, sum_by-IsPermutation}
use mathlib.Core.Logic.{dite}
use native.Mathlib.Decide.{ℕ_discrete}
use Rattle.node_frames.specs.Layout.{Layout}
use Rattle.base_words.specs.declared.ids.NodeId.{NodeId}
use Rattle.node_frames.specs.Places.{cell_of_node}
use Rattle.node_frames.specs.BootOrder.{nodes_below, is_near, is_far, boot_nodes}

abbrev node_at : ℕ → NodeId
node_at n = record { 0 = n }

-- an element that is before two lists goes between them
between : {X : Type 0} (x : X) (xs ys : List X) → IsPermutation (x ∷ (xs ++ ys)) (xs ++ x ∷ ys)
between x [] ys = IsPermutation-refl (x ∷ ys)
between x (a ∷ xs) ys = IsPermutation-trans (x ∷ a ∷ (xs ++ ys)) (a ∷ x ∷ (xs ++ ys)) (a ∷ (xs ++ x ∷ ys)) front (IsPermutation-cons a (x ∷ (xs ++ ys)) (xs ++ x ∷ ys) (between x xs ys))
  where
    front : IsPermutation (x ∷ a ∷ (xs ++ ys)) (a ∷ x ∷ (xs ++ ys))
    front = IsPermutation-append_left (xs ++ ys) (x ∷ a ∷ []) (a ∷ x ∷ []) (IsPermutation-to_front (x ∷ []) a)

-- the three classes of nodes: the home node, those near and those far
abbrev is_home : ℕ → NodeId → Bool
is_home home n = n.0 == home

abbrev classes : Layout → ℕ → List NodeId → List NodeId
classes layout home ns = filter (is_home home) ns ++ (filter (is_near layout home) ns ++ filter (is_far layout home) ns)

-- which of the three classes a node is of, as tests
abbrev Sorts : Bool → Bool → Bool → NodeId → List NodeId → List NodeId → List NodeId → Type 0
Sorts a b c n hs ns fs = IsPermutation (n ∷ (hs ++ (ns ++ fs))) (cond a (n ∷ hs) hs ++ (cond b (n ∷ ns) ns ++ cond c (n ∷ fs) fs))

sorts : (layout : Layout) (home : ℕ) (n : NodeId) (hs ns fs : List NodeId) → Sorts (is_home home n) (is_near layout home n) (is_far layout home n) n hs ns fs
sorts layout home n hs ns fs = dite (ℕ_discrete n.0 home)
    (λ here. let same : (cell_of_node layout n.0 == cell_of_node layout home) ≡ true = eq-eqb _ _ (ap (cell_of_node layout) here) in
    subst (λ (b : Bool). Sorts b ((cell_of_node layout n.0 == cell_of_node layout home) && not b) (not (cell_of_node layout n.0 == cell_of_node layout home)) n hs ns fs) (sym (eq-eqb n.0 home here))
    (subst (λ (b : Bool). Sorts true (b && false) (not b) n hs ns fs) (sym same) (IsPermutation-refl (n ∷ (hs ++ (ns ++ fs))))))
    (λ other. subst (λ (b : Bool). Sorts b ((cell_of_node layout n.0 == cell_of_node layout home) && not b) (not (cell_of_node layout n.0 == cell_of_node layout home)) n hs ns fs) (sym (ne_eqb n.0 home other))
    (dite (ℕ_discrete (cell_of_node layout n.0) (cell_of_node layout home))
    (λ near. subst (λ (b : Bool). Sorts false (b && true) (not b) n hs ns fs) (sym (eq-eqb _ _ near)) (between n hs (ns ++ fs)))
    (λ far. subst (λ (b : Bool). Sorts false (b && true) (not b) n hs ns fs) (sym (ne_eqb _ _ far))
    (IsPermutation-trans (n ∷ (hs ++ (ns ++ fs))) (hs ++ n ∷ (ns ++ fs)) (hs ++ (ns ++ n ∷ fs)) (between n hs (ns ++ fs)) (IsPermutation-append_right hs (n ∷ (ns ++ fs)) (ns ++ n ∷ fs) (between n ns fs))))))

classes_are_all : (layout : Layout) (home : ℕ) (ns : List NodeId) → IsPermutation ns (classes layout home ns)
classes_are_all layout home [] = IsPermutation-refl []
classes_are_all layout home (n ∷ ns) =
    IsPermutation-trans (n ∷ ns) (n ∷ classes layout home ns) (classes layout home (n ∷ ns)) (IsPermutation-cons n ns (classes layout home ns) (classes_are_all layout home ns))
    (sorts layout home n (filter (is_home home) ns) (filter (is_near layout home) ns) (filter (is_far layout home) ns))

-- one node below a number is the home node, and none where the number is not above it
filter-one : (p : NodeId → Bool) (n : NodeId) (b : Bool) → p n ≡ b → filter p (n ∷ []) ≡ cond b (n ∷ []) []
filter-one p n b is = ap (λ (x : Bool). cond x (n ∷ []) []) is

no_home : (home n : ℕ) → n ≤ home → filter (is_home home) (nodes_below n) ≡ []
no_home home zero le = refl
no_home home (suc n) le =
    filter-append (is_home home) (nodes_below n) (node_at n ∷ [])
    ∙ ap (λ (l : List NodeId). l ++ filter (is_home home) (node_at n ∷ [])) (no_home home n (omega arith))
    ∙ filter-one (is_home home) (node_at n) false (ne_eqb n home (omega arith))

one_home : (home n : ℕ) → home < n → filter (is_home home) (nodes_below n) ≡ node_at home ∷ []
one_home home zero within = absurd (omega arith)
one_home home (suc n) within = filter-append (is_home home) (nodes_below n) (node_at n ∷ []) ∙ dite (ℕ_discrete n home)
    (λ e. ap (λ (l : List NodeId). l ++ filter (is_home home) (node_at n ∷ [])) (no_home home n (omega arith)) ∙ filter-one (is_home home) (node_at n) true (eq-eqb n home e) ∙ ap (λ k. node_at k ∷ []) e)
    (λ ne. ap (λ (l : List NodeId). l ++ filter (is_home home) (node_at n ∷ [])) (one_home home n (omega arith)) ∙ ap (λ (l : List NodeId). node_at home ∷ l) (filter-one (is_home home) (node_at n) false (ne_eqb n home ne)))

pub boot_permutes : (layout : Layout) (home : NodeId) → home.0 < layout.nodes → IsPermutation (nodes_below layout.nodes) (boot_nodes layout home)
boot_permutes layout home within = subst (IsPermutation (nodes_below layout.nodes))
    (ap (λ (l : List NodeId). l ++ (filter (is_near layout home.0) (nodes_below layout.nodes) ++ filter (is_far layout home.0) (nodes_below layout.nodes))) (one_home home.0 layout.nodes within))
    (classes_are_all layout home.0 (nodes_below layout.nodes))

-- how often a node stands in an order
abbrev stands : ℕ → List NodeId → ℕ
stands n order = count_by (λ (m : NodeId). m.0 == n) order

stands_one : (n k : ℕ) (b : Bool) → (n == k) ≡ b → stands k (node_at n ∷ []) ≡ cond b 1 0
stands_one n k b is = zero-add (cond (n == k) 1 0) ∙ ap (λ (x : Bool). cond {A = ℕ} x 1 0) is

stands-append : (k : ℕ) (xs ys : List NodeId) → stands k (xs ++ ys) ≡ stands k xs + stands k ys
stands-append k xs ys = sum_by-append (λ (m : NodeId). cond (m.0 == k) 1 0) xs ys

stands_not : (k n : ℕ) → n ≤ k → stands k (nodes_below n) ≡ 0
stands_not k zero le = refl
stands_not k (suc n) le = let rest = stands_not k n (omega arith) in let here = stands_one n k false (ne_eqb n k (omega arith)) in let both = stands-append k (nodes_below n) (node_at n ∷ []) in omega arith

stands_once : (k n : ℕ) → k < n → stands k (nodes_below n) ≡ 1
stands_once k zero within = absurd (omega arith)
stands_once k (suc n) within = let both = stands-append k (nodes_below n) (node_at n ∷ []) in dite (ℕ_discrete n k)
    (λ e. let rest = stands_not k n (omega arith) in let here = stands_one n k true (eq-eqb n k e) in omega arith)
    (λ ne. let rest = stands_once k n (omega arith) in let here = stands_one n k false (ne_eqb n k ne) in omega arith)

pub boot_once : (layout : Layout) (home : NodeId) (n : ℕ) → home.0 < layout.nodes → n < layout.nodes → stands n (boot_nodes layout home) ≡ 1
boot_once layout home n within below =
    sum_by-IsPermutation (λ (m : NodeId). cond (m.0 == n) 1 0) (nodes_below layout.nodes) (boot_nodes layout home) (boot_permutes layout home within) ∙ stands_once n layout.nodes below

-- each node below a number is among them
pub below_contains : (n m : ℕ) → n < m → Contains (nodes_below m) (node_at n)
below_contains n zero within = absurd (omega arith)
below_contains n (suc m) within = dite (ℕ_discrete n m)
    (λ e. Contains-append_right (nodes_below m) (node_at m ∷ []) (node_at n) (0, omega arith, ap node_at (sym e)))
    (λ ne. Contains-append_left (nodes_below m) (node_at m ∷ []) (node_at n) (below_contains n m (omega arith)))

pub boot_contains : (layout : Layout) (home : NodeId) (n : ℕ) → home.0 < layout.nodes → n < layout.nodes → Contains (boot_nodes layout home) (node_at n)
boot_contains layout home n within below = Contains-permutation (nodes_below layout.nodes) (boot_nodes layout home) (node_at n) (boot_permutes layout home within) (below_contains n layout.nodes below)
