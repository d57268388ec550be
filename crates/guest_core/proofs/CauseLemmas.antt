-- The first cause that keeps a move from being begun: a cell that has failed, or one that the page shows.
use Rattle.std.proofs.Common.{◌≡◌, ◌⊎◌, ⊎_elim, ℕ, ◌&&◌, if◌then◌else◌, Bool, true, false, Option, Some, None, refl, sym, ap, ◌∙◌}
use Rattle.std.specs.List.{list_any}
use Rattle.base_words.specs.declared.moves.MoveKind.{MoveKind}
use Rattle.base_words.specs.declared.moves.MoveKind.TheVariants.{Replicate}
use Rattle.private_machine.specs.Backing.{Copy, Page, copies, lies_on, node_of_frame}
use Rattle.isolation_law.specs.Causes.{by_cell, by_end, by_kind, by_page, first_cause, seeks_frame}
use Rattle.isolation_law.specs.GuestState.{GuestState, page, is_dead}
use Rattle.isolation_law.specs.Parts.{Wish, Cause, DeadCell, Shared, SameNode}
use Rattle.isolation_law.specs.Surroundings.{cell_of_frame, cell_of_node, cell_of_processor}
use Rattle.std.proofs.lemmas.Bool.{eqb-true}

-- which cell it is that has failed, or that none has
abbrev by-cells : Bool → Bool → Bool → ℕ → ℕ → Option Cause → Option Cause
by-cells own seeks there here node page = if own then Some (DeadCell here) else if seeks && there then Some (DeadCell node) else page

pub by-own : (s : GuestState) (p : ℕ) (wish : Wish) → is_dead s (cell_of_processor s.around p) ≡ true → by_cell s p wish ≡ Some (DeadCell (cell_of_processor s.around p))
by-own s p wish dead =
    let there = cell_of_node s.around wish.node in
    ap (λ (b : Bool). by-cells b (seeks_frame wish.kind) (is_dead s there) (cell_of_processor s.around p) there (by_page s.around.frames wish.kind wish.node (page s wish.page))) dead

pub by-node : (s : GuestState) (p : ℕ) (wish : Wish) → is_dead s (cell_of_processor s.around p) ≡ false → seeks_frame wish.kind ≡ true → is_dead s (cell_of_node s.around wish.node) ≡ true
    → by_cell s p wish ≡ Some (DeadCell (cell_of_node s.around wish.node))
by-node s p wish lives seeks dead =
    λ i. by-cells (lives i) (seeks i) (dead i) (cell_of_processor s.around p) (cell_of_node s.around wish.node) (by_page s.around.frames wish.kind wish.node (page s wish.page))

pub by-neither : (s : GuestState) (p : ℕ) (wish : Wish) → is_dead s (cell_of_processor s.around p) ≡ false → (seeks_frame wish.kind ≡ false) ⊎ (is_dead s (cell_of_node s.around wish.node) ≡ false)
    → by_cell s p wish ≡ by_page s.around.frames wish.kind wish.node (page s wish.page)
by-neither s p wish lives none =
    let there = is_dead s (cell_of_node s.around wish.node) in
    let at = λ (a b c : Bool). by-cells a b c (cell_of_processor s.around p) (cell_of_node s.around wish.node) (by_page s.around.frames wish.kind wish.node (page s wish.page)) in
    ⊎_elim (λ (e : seeks_frame wish.kind ≡ false). (λ i. at (lives i) (e i) there)) (λ (e : there ≡ false). (λ i. at (lives i) (seeks_frame wish.kind) (e i)) ∙ nobody (seeks_frame wish.kind) (Some (DeadCell (cell_of_node s.around wish.node))) (by_page s.around.frames wish.kind wish.node (page s wish.page))) none
  where
    nobody : (b : Bool) (x y : Option Cause) → (if b && false then x else y) ≡ y
    nobody true x y = refl
    nobody false x y = refl

-- where no cause holds the page shows none, and a frame is sought in a cell that lives
pub none-of-page : (s : GuestState) (p : ℕ) (wish : Wish) → first_cause s p wish ≡ None → s.end ≡ None → by_page s.around.frames wish.kind wish.node (page s wish.page) ≡ None
none-of-page s p wish none on =
    by (is_dead s (cell_of_processor s.around p)) (seeks_frame wish.kind && is_dead s (cell_of_node s.around wish.node)) (sym (ap (by_end s p wish) on) ∙ none)
  where
    by : (a b : Bool) → (if a then Some (DeadCell (cell_of_processor s.around p)) else if b then Some (DeadCell (cell_of_node s.around wish.node)) else by_page s.around.frames wish.kind wish.node (page s wish.page)) ≡ None
        → by_page s.around.frames wish.kind wish.node (page s wish.page) ≡ None
    by true b e = cc
    by false true e = cc
    by false false e = e

pub sought-alive : (s : GuestState) (p : ℕ) (wish : Wish) → first_cause s p wish ≡ None → s.end ≡ None → seeks_frame wish.kind ≡ true → is_dead s (cell_of_node s.around wish.node) ≡ false
sought-alive s p wish none on seeks =
    by (is_dead s (cell_of_processor s.around p)) (is_dead s (cell_of_node s.around wish.node)) refl
    (ap (λ (b : Bool). by-cells (is_dead s (cell_of_processor s.around p)) b (is_dead s (cell_of_node s.around wish.node)) (cell_of_processor s.around p) (cell_of_node s.around wish.node) (by_page s.around.frames wish.kind wish.node (page s wish.page))) (sym seeks)
    ∙ sym (ap (by_end s p wish) on) ∙ none)
  where
    by : (a b : Bool) → is_dead s (cell_of_node s.around wish.node) ≡ b
        → by-cells a true (is_dead s (cell_of_node s.around wish.node)) (cell_of_processor s.around p) (cell_of_node s.around wish.node) (by_page s.around.frames wish.kind wish.node (page s wish.page)) ≡ None
        → is_dead s (cell_of_node s.around wish.node) ≡ false
    by true b is e = cc
    by false true is e = let e' = ap (λ (x : Bool). by-cells false true x (cell_of_processor s.around p) (cell_of_node s.around wish.node) (by_page s.around.frames wish.kind wish.node (page s wish.page))) (sym is) ∙ e in cc
    by false false is e = is

-- a frame on a node lies in the node's cell
pub lies-alive : (s : GuestState) (node : ℕ) (c : Copy) → lies_on s.around.frames node c ≡ true → is_dead s (cell_of_node s.around node) ≡ false → is_dead s (cell_of_frame s.around c.frame) ≡ false
lies-alive s node c lies alive = ap (λ (n : ℕ). is_dead s (cell_of_node s.around n)) (eqb-true (node_of_frame s.around.frames c.frame) node lies) ∙ alive

-- of an own page by what is asked of it
pub of-own : (frames : ℕ) (kind asked : MoveKind) (node : ℕ) (g : Page) → kind ≡ asked → g.shared ≡ false → by_page frames kind node g ≡ by_kind frames asked node g
of-own frames kind asked node g is own = ap (λ (b : Bool). if b then Some Shared else by_kind frames kind node g) own ∙ ap (λ (k : MoveKind). by_kind frames k node g) is

-- a page that no cause keeps from getting a replica is the guest's own, and the node has none of its frames
pub own-apart : (frames node : ℕ) (g : Page) → by_page frames Replicate node g ≡ None → (g.shared ≡ false) × (list_any (lies_on frames node) (copies g) ≡ false)
own-apart frames node g none = by g.shared (list_any (lies_on frames node) (copies g)) refl refl none
  where
    by : (a b : Bool) → g.shared ≡ a → list_any (lies_on frames node) (copies g) ≡ b → (if a then Some Shared else if b then Some SameNode else None) ≡ None → (g.shared ≡ false) × (list_any (lies_on frames node) (copies g) ≡ false)
    by true b shared lies none = absurd cc
    by false true own lies none = absurd cc
    by false false own apart none = (own, apart)

pub own-page : (frames node : ℕ) (kind : MoveKind) (g : Page) → by_page frames kind node g ≡ None → g.shared ≡ false
own-page frames node kind g none = by g.shared refl none
  where
    by : (b : Bool) → g.shared ≡ b → (if b then Some Shared else by_kind frames kind node g) ≡ None → g.shared ≡ false
    by true is e = absurd cc
    by false is e = is
