-- The counters of a guest's cells, counted from a list of copies: a guest's own are one such list, their order is nothing to the counters,
-- and one copy comes to it or goes.
use Rattle.std.proofs.Common.{◌≡◌, ◌/◌, List, [], ◌∷◌, ◌++◌, Some, map, refl, sym, ap, ◌∙◌, subst}
use Rattle.std.proofs.lemmas.List.{append-nil, map-append}
use Rattle.std.specs.Prelude.{slice_get}
use Rattle.base_words.specs.declared.frame.Shape.{Shape}
use Rattle.base_words.specs.declared.ids.CellId.{CellId}
use Rattle.base_words.specs.declared.ids.FrameNo.{FrameNo}
use Rattle.cell_depend.specs.CellUse.{Rows, cell_of, lies_in as lies}
use Rattle.cell_depend.specs.Counters.{UsesState}
use Rattle.cell_depend.specs.Events.{Leaves}
use Rattle.private_machine.specs.Backing.{Copy}
use Rattle.isolation_law.specs.CellUse.{used_frames}
use Rattle.isolation_law.specs.GuestState.{GuestState}
use Rattle.isolation_law.specs.Surroundings.{Surroundings}
use Rattle.guest_course.specs.CourseView.{surroundings}
use Rattle.guest_course.specs.declared.site.Around.{Around}
use Rattle.guest_core.specs.Using.{AreUses, CountsCopies, IsShapeOf, frame_of, loaded_cells}
use Rattle.guest_core.proofs.CopyLemmas.{AsMany}
use Rattle.guest_core.proofs.UsingProofs.{frames-counted, recounted}

-- what a guest uses is one such list
pub counted-uses : (s : GuestState) (uses : UsesState) → AreUses s uses → CountsCopies s (used_frames s) uses
counted-uses s uses u = record { shape = u.shape; told = u.told; cells = u.cells; counts = u.counts }

pub uses-counted : (s : GuestState) (uses : UsesState) → CountsCopies s (used_frames s) uses → AreUses s uses
uses-counted s uses u = record { shape = u.shape; told = u.told; cells = u.cells; counts = u.counts }

pub as-many-counted : (s : GuestState) (cs ds : List Copy) (uses : UsesState) → AsMany cs ds → CountsCopies s cs uses → CountsCopies s ds uses
as-many-counted s cs ds uses same u =
    let loaded = loaded_cells s.around 0 s.processors in
    let before : Rows = record { frames = map frame_of cs; loaded = loaded } in
    let after : Rows = record { frames = map frame_of ds; loaded = loaded } in
    record {
      shape = u.shape;
      told = u.told;
      cells = u.cells;
      counts = recounted u.shape before after uses
          (λ q. frames-counted u.shape q ds ∙ same (λ frame generation. lies u.shape q (record { 0 = frame })) ∙ sym (frames-counted u.shape q cs)) refl u.counts;
    }

-- of a guest of the same machine, with the same loaded, it is the same
pub counted-alike : (s t : GuestState) (cs : List Copy) (uses : UsesState) → t.around ≡ s.around → loaded_cells t.around 0 t.processors ≡ loaded_cells s.around 0 s.processors → CountsCopies s cs uses → CountsCopies t cs uses
counted-alike s t cs uses around loaded u = record {
  shape = u.shape;
  told = subst (λ (w : Surroundings). IsShapeOf w u.shape) (sym around) u.told;
  cells = u.cells;
  counts = recounted u.shape (record { frames = map frame_of cs; loaded = loaded_cells s.around 0 s.processors }) (record { frames = map frame_of cs; loaded = loaded_cells t.around 0 t.processors }) uses (λ q. refl) loaded u.counts;
}

-- ---- one copy

-- the same cells, where they have the same numbers
pub same-cells : (a b : List CellId) → map (λ (c : CellId). c.0) a ≡ map (λ (c : CellId). c.0) b → a ≡ b
same-cells [] [] e = refl
same-cells [] (y ∷ b) e = absurd cc
same-cells (x ∷ a) [] e = absurd cc
same-cells (x ∷ a) (y ∷ b) e =
    let here : x.0 ≡ y.0 = cc in
    let later = same-cells a b cc in
    λ i. record { 0 = here i } ∷ later i

-- a frame's cell, by the shape that the guest was told
pub told-cell : (s : GuestState) (a : Around) (shape : Shape) (c : Copy) (frame : FrameNo) (cell : CellId) → s.around ≡ surroundings a → IsShapeOf s.around shape → c.frame ≡ frame.0
    → slice_get a.site.shape.cells (frame.0 / a.site.shape.frames) ≡ Some cell → cell_of shape (frame_of c) ≡ Some cell
told-cell s a shape c frame cell around told is lies =
    let frames : shape.frames ≡ a.site.shape.frames = told.frames ∙ ap (λ (w : Surroundings). w.frames) around in
    let cells : shape.cells ≡ a.site.shape.cells = same-cells shape.cells a.site.shape.cells (told.cells ∙ ap (λ (w : Surroundings). w.nodes) around) in
    (λ i. slice_get (cells i) (is i / frames i)) ∙ lies

abbrev pub counted-rows : GuestState → List Copy → Rows
counted-rows s cs = record { frames = map frame_of cs; loaded = loaded_cells s.around 0 s.processors }

-- a copy joins others at their head
pub joins-head : (c : Copy) (cs : List Copy) → Leaves (frame_of c) (map frame_of (c ∷ cs)) (map frame_of cs)
joins-head c cs = record { front = []; back = map frame_of cs; was = refl; is = refl }

-- and the last leaves them
pub leaves-last : (c : Copy) (cs : List Copy) → Leaves (frame_of c) (map frame_of (cs ++ c ∷ [])) (map frame_of cs)
leaves-last c cs = record { front = map frame_of cs; back = []; was = map-append frame_of cs (c ∷ []); is = sym (append-nil (map frame_of cs)) }
