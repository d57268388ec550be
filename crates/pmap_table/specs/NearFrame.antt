-- The frame by which a node reaches a page, and the frames that are lost with cells that have failed.
use Rattle.std.specs.Prelude.{◌⊎◌, ◌≡◌, ℕ, ◌<◌, ◌≤◌, ◌==◌, nat_lt, if◌then◌else◌, Bool, false, ◌&&◌, ◌||◌, List, [], ◌∷◌, map, slice_index, slice_index_or}
use Rattle.base_words.specs.Limits.{most_cells}
use Rattle.base_words.specs.declared.frame.Shape.{Shape}
use Rattle.private_machine.specs.Backing.{Copy, node_of_frame, distance}

-- the cell of a node on a machine of this shape
abbrev pub cell_on : Shape → ℕ → ℕ
cell_on shape node = slice_index (map (λ c. c.0) shape.cells) node

-- the frames that lie in these cells, which have failed
abbrev pub lost_on : Shape → List Bool → ℕ → Bool
lost_on shape dead frame =
    let cell = cell_on shape (node_of_frame shape.frames frame) in
    nat_lt cell most_cells && slice_index_or dead cell false

-- a frame is nearer to a node than another: on a nearer node, or on the lower one of two as near
abbrev pub is_nearer : ℕ → ℕ → ℕ → ℕ → Bool
is_nearer frames node frame other =
    let a = node_of_frame frames other in
    let b = node_of_frame frames frame in
    nat_lt (distance b node) (distance a node) || ((distance b node == distance a node) && nat_lt b a)

-- the nearest of a frame and of those of copies that aren't lost
abbrev pub near_frame : ℕ → (ℕ → Bool) → ℕ → ℕ → List Copy → ℕ
near_frame frames lost node best [] = best
near_frame frames lost node best (c ∷ cs) = near_frame frames lost node (if lost c.frame then best else if is_nearer frames node c.frame best then c.frame else best) cs

-- no frame is nearer than this one
abbrev pub IsAsNear : ℕ → ℕ → ℕ → ℕ → Type 0
IsAsNear frames node frame other =
    (distance (node_of_frame frames frame) node < distance (node_of_frame frames other) node)
    ⊎ ((distance (node_of_frame frames frame) node ≡ distance (node_of_frame frames other) node) × (node_of_frame frames frame ≤ node_of_frame frames other))
