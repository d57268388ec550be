-- Sums of numbers, and what a frame that is taken changes in what a cell and all cells give.
use Rattle.std.proofs.Common.{◌≡◌, ◌≢◌, ℕ, zero, suc, ◌+◌, ◌-◌, ◌<◌, ◌==◌, ◌⊎◌, inl, inr, ⊎_elim, if◌then◌else◌, Bool, true, false, true≢false, refl, sym, ap, ◌∙◌, subst, arith, eq-eqb, ne_eqb, min}
use Rattle.std.specs.Prelude.{not, ◌&&◌, ◌||◌}
use Rattle.std.proofs.Math.Nat.{suc-min-suc, min-zero, zero-min}
use mathlib.Core.Logic.{dite}
use native.Mathlib.Decide.{ℕ_discrete}
use Rattle.node_frames.specs.Layout.{Layout}
use Rattle.node_frames.specs.Places.{cell_of_node}
use Rattle.node_frames.specs.Left.{sum_below, Left, cell_frames, cell_gives, has, node_gives, one_less, taking}

pub sum_same : (f g : ℕ → ℕ) (n : ℕ) → ((k : ℕ) → k < n → f k ≡ g k) → sum_below f n ≡ sum_below g n
sum_same f g zero each = refl
sum_same f g (suc n) each = let rest = sum_same f g n (λ k below. each k (omega arith)) in let here = each n (omega arith) in omega arith

-- one number more at one place
pub sum_more : (f g : ℕ → ℕ) (n i : ℕ) → i < n → f i ≡ g i + 1 → ((k : ℕ) → k ≢ i → f k ≡ g k) → sum_below f n ≡ sum_below g n + 1
sum_more f g zero i within more else_same = absurd (omega arith)
sum_more f g (suc n) i within more else_same = dite (ℕ_discrete n i)
    (λ e. let rest = sum_same f g n (λ k below. else_same k (omega arith)) in let here : f n ≡ g n + 1 = subst (λ k. f k ≡ g k + 1) (sym e) more in omega arith)
    (λ ne. let rest = sum_more f g n i (omega arith) more else_same in let here = else_same n ne in omega arith)

pub sum_zero : (f : ℕ → ℕ) (n : ℕ) → ((k : ℕ) → k < n → f k ≡ 0) → sum_below f n ≡ 0
sum_zero f zero each = refl
sum_zero f (suc n) each = let rest = sum_zero f n (λ k below. each k (omega arith)) in let here = each n (omega arith) in omega arith

pub sum_ones : (f : ℕ → ℕ) (n : ℕ) → ((k : ℕ) → k < n → f k ≡ 1) → sum_below f n ≡ n
sum_ones f zero each = refl
sum_ones f (suc n) each = let rest = sum_ones f n (λ k below. each k (omega arith)) in let here = each n (omega arith) in omega arith

pub one_less-here : (f : ℕ → ℕ) (k : ℕ) → one_less f k k ≡ f k - 1
one_less-here f k = ap (λ (b : Bool). if b then f k - 1 else f k) (eq-eqb k k refl)

pub one_less-else : (f : ℕ → ℕ) (k n : ℕ) → n ≢ k → one_less f k n ≡ f n
one_less-else f k n apart = ap (λ (b : Bool). if b then f n - 1 else f n) (ne_eqb n k apart)

-- what a node gives: it has a free frame, and lies in the home cell or its cell has a loan
gives_both : (a b : Bool) → (a && b) ≡ true → (a ≡ true) × (b ≡ true)
gives_both true b e = (refl, e)
gives_both false b e = absurd (true≢false (sym e))

not_zero : (n : ℕ) → not (n == 0) ≡ true → 0 < n
not_zero n e = dite (ℕ_discrete n 0) (λ is. absurd (true≢false (sym e ∙ ap not (eq-eqb n 0 is)))) (λ ne. omega arith)

or_outside : (a b : Bool) → (a || b) ≡ true → a ≡ false → b ≡ true
or_outside true b e is = absurd (true≢false is)
or_outside false b e is = e

pub gives_frames : (layout : Layout) (home : ℕ) (left : Left) (node : ℕ) → node_gives layout home left node ≡ true → 0 < left.frames node
gives_frames layout home left node gives = not_zero (left.frames node) (gives_both _ _ gives).0

pub gives_loan : (layout : Layout) (home : ℕ) (left : Left) (node : ℕ) → node_gives layout home left node ≡ true → cell_of_node layout node ≢ home → 0 < left.loans (cell_of_node layout node)
gives_loan layout home left node gives outside =
    not_zero (left.loans (cell_of_node layout node)) (or_outside (cell_of_node layout node == home) _ (gives_both (not (left.frames node == 0)) _ gives).1 (ne_eqb (cell_of_node layout node) home outside))

-- a cell's frames after one of a node's is taken
abbrev summand : Layout → Left → ℕ → ℕ → ℕ
summand layout left cell node = if cell_of_node layout node == cell then left.frames node else 0

pub cell_frames-else : (layout : Layout) (home : ℕ) (left : Left) (node cell : ℕ) → cell ≢ cell_of_node layout node → cell_frames layout (taking layout home left node) cell ≡ cell_frames layout left cell
cell_frames-else layout home left node cell apart = sum_same (summand layout (taking layout home left node) cell) (summand layout left cell) layout.nodes each
  where
    each : (k : ℕ) → k < layout.nodes → summand layout (taking layout home left node) cell k ≡ summand layout left cell k
    each k below = dite (ℕ_discrete k node)
        (λ e.
        let off : (cell_of_node layout k == cell) ≡ false = ne_eqb (cell_of_node layout k) cell (λ is. apart (sym is ∙ ap (cell_of_node layout) e)) in
        ap (λ (b : Bool). if b then one_less left.frames node k else 0) off ∙ sym (ap (λ (b : Bool). if b then left.frames k else 0) off))
        (λ ne. ap (λ n. if cell_of_node layout k == cell then n else 0) (one_less-else left.frames node k ne))

pub cell_frames-here : (layout : Layout) (home : ℕ) (left : Left) (node : ℕ) → node < layout.nodes → 0 < left.frames node
    → cell_frames layout left (cell_of_node layout node) ≡ cell_frames layout (taking layout home left node) (cell_of_node layout node) + 1
cell_frames-here layout home left node within some = sum_more (summand layout left cell) (summand layout (taking layout home left node) cell) layout.nodes node within here each
  where
    cell : ℕ
    cell = cell_of_node layout node

    on : (cell_of_node layout node == cell) ≡ true
    on = eq-eqb cell cell refl

    here : summand layout left cell node ≡ summand layout (taking layout home left node) cell node + 1
    here =
        let a : summand layout left cell node ≡ left.frames node = ap (λ (b : Bool). if b then left.frames node else 0) on in
        let b : summand layout (taking layout home left node) cell node ≡ one_less left.frames node node = ap (λ (b : Bool). if b then one_less left.frames node node else 0) on in
        let c = one_less-here left.frames node in omega arith

    each : (k : ℕ) → k ≢ node → summand layout left cell k ≡ summand layout (taking layout home left node) cell k
    each k ne = ap (λ n. if cell_of_node layout k == cell then n else 0) (sym (one_less-else left.frames node k ne))

-- the loans after a frame of a node is taken
pub loans-inside : (layout : Layout) (home : ℕ) (left : Left) (node cell : ℕ) → cell_of_node layout node ≡ home → (taking layout home left node).loans cell ≡ left.loans cell
loans-inside layout home left node cell inside = ap (λ (b : Bool). (if b then left.loans else one_less left.loans (cell_of_node layout node)) cell) (eq-eqb (cell_of_node layout node) home inside)

pub loans-outside : (layout : Layout) (home : ℕ) (left : Left) (node cell : ℕ) → cell_of_node layout node ≢ home → (taking layout home left node).loans cell ≡ one_less left.loans (cell_of_node layout node) cell
loans-outside layout home left node cell outside = ap (λ (b : Bool). (if b then left.loans else one_less left.loans (cell_of_node layout node)) cell) (ne_eqb (cell_of_node layout node) home outside)

loans-else : (layout : Layout) (home : ℕ) (left : Left) (node cell : ℕ) → cell ≢ cell_of_node layout node → (taking layout home left node).loans cell ≡ left.loans cell
loans-else layout home left node cell apart = dite (ℕ_discrete (cell_of_node layout node) home)
    (λ inside. loans-inside layout home left node cell inside)
    (λ outside. loans-outside layout home left node cell outside ∙ one_less-else left.loans (cell_of_node layout node) cell apart)

min-both : (a b c d : ℕ) → a ≡ c + 1 → b ≡ d + 1 → min a b ≡ min c d + 1
min-both a b c d p q = (λ i. min (p i) (q i)) ∙ (λ i. min (suc_is c i) (suc_is d i)) ∙ suc-min-suc c d ∙ sym (suc_is (min c d))
  where
    suc_is : (n : ℕ) → n + 1 ≡ suc n
    suc_is n = omega arith

-- what a cell gives, inside home and outside
gives-home : (layout : Layout) (home : ℕ) (left : Left) (cell : ℕ) → cell ≡ home → cell_gives layout home left cell ≡ cell_frames layout left cell
gives-home layout home left cell inside = ap (λ (b : Bool). if b then cell_frames layout left cell else min (cell_frames layout left cell) (left.loans cell)) (eq-eqb cell home inside)

gives-outside : (layout : Layout) (home : ℕ) (left : Left) (cell : ℕ) → cell ≢ home → cell_gives layout home left cell ≡ min (cell_frames layout left cell) (left.loans cell)
gives-outside layout home left cell outside = ap (λ (b : Bool). if b then cell_frames layout left cell else min (cell_frames layout left cell) (left.loans cell)) (ne_eqb cell home outside)

-- a guest has one frame less when a node that gives one gives one
pub has-taking : (layout : Layout) (home : ℕ) (left : Left) (node : ℕ) → node < layout.nodes → cell_of_node layout node < 8 → node_gives layout home left node ≡ true
    → has layout home (taking layout home left node) + 1 ≡ has layout home left
unfolding has
has-taking layout home left node within low gives = sym (sum_more (cell_gives layout home left) (cell_gives layout home after) 8 cell low here each)
  where
    after : Left
    after = taking layout home left node

    cell : ℕ
    cell = cell_of_node layout node

    fewer : cell_frames layout left cell ≡ cell_frames layout after cell + 1
    fewer = cell_frames-here layout home left node within (gives_frames layout home left node gives)

    here : cell_gives layout home left cell ≡ cell_gives layout home after cell + 1
    here = dite (ℕ_discrete cell home)
        (λ inside. gives-home layout home left cell inside ∙ fewer ∙ ap (λ n. n + 1) (sym (gives-home layout home after cell inside)))
        (λ outside.
        let loan = gives_loan layout home left node gives outside in
        let left_loans = loans-outside layout home left node cell outside in
        let less = one_less-here left.loans cell in
        gives-outside layout home left cell outside
        ∙ min-both (cell_frames layout left cell) (left.loans cell) (cell_frames layout after cell) (after.loans cell) fewer (omega arith)
        ∙ ap (λ n. n + 1) (sym (gives-outside layout home after cell outside)))

    each : (c : ℕ) → c ≢ cell → cell_gives layout home left c ≡ cell_gives layout home after c
    each c apart =
        let frames = cell_frames-else layout home left node c apart in
        let loans = loans-else layout home left node c apart in
        λ i. if c == home then sym frames i else min (sym frames i) (sym loans i)

-- a node that gives none has no free frame, or lies outside home and its cell has no loan
pub gives_nothing : (layout : Layout) (home : ℕ) (left : Left) (node : ℕ) → node_gives layout home left node ≡ false → (left.frames node ≡ 0) ⊎ ((cell_of_node layout node ≢ home) × (left.loans (cell_of_node layout node) ≡ 0))
gives_nothing layout home left node none = dite (ℕ_discrete (left.frames node) 0)
    (λ e. inl e)
    (λ some. dite (ℕ_discrete (cell_of_node layout node) home)
    (λ inside. absurd (true≢false ((λ i. not (sym (ne_eqb (left.frames node) 0 some) i) && (sym (eq-eqb (cell_of_node layout node) home inside) i || not (left.loans (cell_of_node layout node) == 0))) ∙ none)))
    (λ outside. dite (ℕ_discrete (left.loans (cell_of_node layout node)) 0)
    (λ e. inr (outside, e))
    (λ loan. absurd (true≢false ((λ i. not (sym (ne_eqb (left.frames node) 0 some) i) && (sym (ne_eqb (cell_of_node layout node) home outside) i || not (sym (ne_eqb (left.loans (cell_of_node layout node)) 0 loan) i))) ∙ none)))))

-- a cell none of whose nodes has a free frame
pub cell_frames-zero : (layout : Layout) (left : Left) (cell : ℕ) → ((node : ℕ) → node < layout.nodes → cell_of_node layout node ≡ cell → left.frames node ≡ 0) → cell_frames layout left cell ≡ 0
cell_frames-zero layout left cell none = sum_zero (summand layout left cell) layout.nodes (λ k below. dite (ℕ_discrete (cell_of_node layout k) cell)
    (λ on. ap (λ (b : Bool). if b then left.frames k else 0) (eq-eqb (cell_of_node layout k) cell on) ∙ none k below on)
    (λ off. ap (λ (b : Bool). if b then left.frames k else 0) (ne_eqb (cell_of_node layout k) cell off)))

-- a guest has nothing where no node gives a frame
pub has-zero : (layout : Layout) (home : ℕ) (left : Left) → ((node : ℕ) → node < layout.nodes → node_gives layout home left node ≡ false) → has layout home left ≡ 0
unfolding has
has-zero layout home left none = sum_zero (cell_gives layout home left) 8 (λ cell low. dite (ℕ_discrete cell home)
    (λ inside. gives-home layout home left cell inside ∙ cell_frames-zero layout left cell (λ node within on. ⊎_elim
    (λ (e : left.frames node ≡ 0). e)
    (λ (x : (cell_of_node layout node ≢ home) × (left.loans (cell_of_node layout node) ≡ 0)). absurd (x.0 (on ∙ inside)))
    (gives_nothing layout home left node (none node within))))
    (λ outside. gives-outside layout home left cell outside ∙ dite (ℕ_discrete (left.loans cell) 0)
    (λ e. ap (min (cell_frames layout left cell)) e ∙ min-zero (cell_frames layout left cell))
    (λ loan. ap (λ n. min n (left.loans cell)) (cell_frames-zero layout left cell (λ node within on. ⊎_elim
    (λ (e : left.frames node ≡ 0). e)
    (λ (x : (cell_of_node layout node ≢ home) × (left.loans (cell_of_node layout node) ≡ 0)). absurd (loan (subst (λ c. left.loans c ≡ 0) on x.1)))
    (gives_nothing layout home left node (none node within)))) ∙ zero-min (left.loans cell))))
