-- The shape of the machine is what a guest is told of it.
use Rattle.std.proofs.Common.{◌≡◌, ℕ, zero, suc, ◌*◌, ◌/◌, ◌<◌, List, [], ◌∷◌, length, map, get_or, refl, sym, ap, ◌∙◌, subst, arith}
use Rattle.std.proofs.lemmas.List.{length-map}
use Rattle.std.proofs.lemmas.List.Elements.{All-from_get_or}
use Rattle.std.proofs.lemmas.Nat.{div_below}
use Rattle.base_words.specs.declared.ids.CellId.{CellId}
use Rattle.frame_words.specs.Holders.{MadeTable}
use Rattle.node_frames.specs.Layout.{Layout, layout_of}
use Rattle.node_frames.specs.Places.{FitsShape, cell_of_node as layout_cell}
use Rattle.isolation_law.specs.Surroundings.{Surroundings, cell_of_node}
use Rattle.guest_course.specs.CourseView.{surroundings}
use Rattle.guest_course.specs.declared.site.Around.{Around}
use Rattle.guest_core.specs.Holding.{FitsAround, frames_around}

-- the layout is that of the machine around the guest
pub record IsLayoutOf (layout : Layout) (w : Surroundings) : Type 0 where
  pub frames : layout.frames ≡ w.frames
  pub cells : (node : ℕ) → layout_cell layout node ≡ cell_of_node w node

pub cell-at : (cells : List CellId) (n : ℕ) → (get_or cells n (record { 0 = 0 })).0 ≡ get_or (map (λ (c : CellId). c.0) cells) n 0
cell-at [] n = refl
cell-at (c ∷ cells) zero = refl
cell-at (c ∷ cells) (suc n) = cell-at cells n

pub shape-of : (a : Around) → IsLayoutOf (layout_of a.site.shape) (surroundings a)
shape-of a = record { frames = refl; cells = λ node. cell-at a.site.shape.cells node }

-- there is a cell for each node
pub nodes-of : (a : Around) → length (surroundings a).nodes ≡ a.site.shape.nodes
nodes-of a = length-map a.site.shape.cells (λ (c : CellId). c.0) ∙ a.site.shape.has_cells

pub shape-fits : (table : MadeTable) (a : Around) → FitsAround table (surroundings a) → FitsShape table (layout_of a.site.shape)
shape-fits table a fits = record {
  lies = record { few_nodes = a.site.shape.few_nodes; has_frames = a.site.shape.has_frames; has_cells = a.site.shape.has_cells };
  frames = fits.frames ∙ ap (λ (n : ℕ). n * a.site.shape.frames) (nodes-of a);
  cells = All-from_get_or (λ (c : CellId). c.0 < length table.terms.lends) a.site.shape.cells (record { 0 = 0 })
      (λ i lt. subst (λ (n : ℕ). n < length table.terms.lends) (sym (cell-at a.site.shape.cells i)) (fits.cells i (subst (λ (n : ℕ). i < n) (sym (length-map a.site.shape.cells (λ (c : CellId). c.0))) lt)));
}

-- a node of the machine is of one of eight cells
pub cell-low : (table : MadeTable) (a : Around) (node : ℕ) → FitsAround table (surroundings a) → node < length (surroundings a).nodes → layout_cell (layout_of a.site.shape) node < 8
cell-low table a node fits lt =
    let cell = fits.cells node lt in
    let few = table.terms.few_cells in
    subst (λ (n : ℕ). n < 8) (sym (cell-at a.site.shape.cells node)) (omega arith)

-- and so is that of a frame
pub frame-low : (table : MadeTable) (a : Around) (frame : ℕ) → FitsAround table (surroundings a) → frame < frames_around (surroundings a) → layout_cell (layout_of a.site.shape) (frame / a.site.shape.frames) < 8
frame-low table a frame fits lt =
    let shape = a.site.shape in
    cell-low table a (frame / shape.frames) fits (div_below frame shape.frames (length (surroundings a).nodes) shape.has_frames lt)
