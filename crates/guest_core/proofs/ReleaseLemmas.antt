-- A holder gives the last of its copies back.
use Rattle.std.proofs.Common.{◌≡◌, ℕ, ◌/◌, ◌<◌, ◌==◌, cond, if◌then◌else◌, Bool, List, [], ◌∷◌, ◌++◌, append_assoc, refl, sym, ap, ◌∙◌, subst, arith}
use Rattle.std.specs.Prelude.{slice_index_or}
use Rattle.std.proofs.lemmas.Bool.{eq-eqb, ne_eqb}
use Rattle.base_words.specs.declared.ids.CellId.{CellId}
use Rattle.frame_words.specs.Holders.{MadeTable}
use Rattle.frame_words.specs.Views.{frame_holds, cell_loans}
use Rattle.frame_words.specs.declared.view.View.{View}
use Rattle.node_frames.specs.Layout.{layout_of}
use Rattle.node_frames.specs.Places.{cell_of_node as layout_cell, IsOutside}
use Rattle.node_frames.specs.Searches.{Releases}
use Rattle.private_machine.specs.Backing.{Copy}
use Rattle.pmap_table.specs.Ending.{numbers_of}
use Rattle.pmap_table.specs.GivingUp.{LosesLast}
use Rattle.isolation_law.specs.Surroundings.{cell_of_node, cell_of_frame, home_cell}
use Rattle.isolation_law.specs.Exchange.{count_of}
use Rattle.guest_course.specs.CourseView.{surroundings}
use Rattle.guest_course.specs.declared.site.Around.{Around}
use Rattle.guest_core.specs.Holding.{HoldsCopies, FitsAround}
use Rattle.guest_core.proofs.CopyLemmas.{count-last, in-cell, copy-goes}
use Rattle.guest_core.proofs.ShapeLemmas.{shape-of, frame-low, cell-at}

-- ---- the last of these copies

-- the frame that goes counts
last-counts : (frame : ℕ) (cs ds : List Copy) → LosesLast frame cs ds → 0 < count_of (λ f g. f == frame) cs
last-counts frame cs ds gone =
    let one : cond {A = ℕ} (gone.last.frame == frame) 1 0 ≡ 1 = ap (λ (b : Bool). cond {A = ℕ} b 1 0) (eq-eqb gone.last.frame frame gone.frame_is) in
    let split = ap (count_of (λ f g. f == frame)) gone.rest in let more = count-last (λ f g. f == frame) ds gone.last in omega arith

-- the frame was held
pub last-held : (a : Around) (frame : ℕ) (cs ds : List Copy) (v : View) → HoldsCopies (surroundings a) cs v → LosesLast frame cs ds → 0 < frame_holds v frame
last-held a frame cs ds v h gone = subst (λ (n : ℕ). 0 < n) (sym (h.counted frame)) (last-counts frame cs ds gone)

-- it is one of the machine's
pub last-within : (table : MadeTable) (a : Around) (frame : ℕ) (cs ds : List Copy) (v : View) → FitsAround table (surroundings a) → HoldsCopies (surroundings a) cs v → LosesLast frame cs ds → frame < table.terms.frames
last-within table a frame cs ds v fits h gone = subst (λ (n : ℕ). frame < n) (sym fits.frames) (h.within frame (last-counts frame cs ds gone))

-- a frame outside the home cell is paid for
pub last-loan : (table : MadeTable) (a : Around) (frame home : ℕ) (cs ds : List Copy) (v : View) → FitsAround table (surroundings a) → home ≡ home_cell (surroundings a) → HoldsCopies (surroundings a) cs v → LosesLast frame cs ds
    → IsOutside (layout_of a.site.shape) home (frame / a.site.shape.frames) → 0 < cell_loans v (layout_cell (layout_of a.site.shape) (frame / a.site.shape.frames))
last-loan table a frame home cs ds v fits is h gone outside =
    let w = surroundings a in
    let layout = layout_of a.site.shape in
    let cell = layout_cell layout (frame / layout.frames) in
    let low : cell < 8 = frame-low table a frame fits (h.within frame (last-counts frame cs ds gone)) in
    let lies : cell ≡ cell_of_frame w gone.last.frame = (shape-of a).cells (frame / layout.frames) ∙ ap (λ (n : ℕ). cell_of_node w (n / layout.frames)) (sym gone.frame_is) in
    let split = ap (count_of (in-cell w cell)) gone.rest in
    let more = count-last (in-cell w cell) ds gone.last in
    let one : cond {A = ℕ} (cell_of_frame w gone.last.frame == cell) 1 0 ≡ 1 = ap (λ (b : Bool). cond {A = ℕ} b 1 0) (eq-eqb (cell_of_frame w gone.last.frame) cell (sym lies)) in
    let n = count_of (in-cell w cell) cs in
    let counted : cell_loans v cell ≡ n = h.borrowed cell low ∙ ap (λ (b : Bool). if b then 0 else n) (ne_eqb cell (home_cell w) (λ e. outside (e ∙ sym is))) in
    omega arith

-- and the others stay
pub last-goes : (table : MadeTable) (a : Around) (frame home : ℕ) (cs ds : List Copy) (v u : View) → FitsAround table (surroundings a) → home ≡ home_cell (surroundings a) → HoldsCopies (surroundings a) cs v → LosesLast frame cs ds
    → Releases (layout_of a.site.shape) home frame v u → HoldsCopies (surroundings a) ds u
last-goes table a frame home cs ds v u fits is h gone released =
    let layout = layout_of a.site.shape in
    let low : layout_cell layout (frame / layout.frames) < 8 = frame-low table a frame fits (h.within frame (last-counts frame cs ds gone)) in
    copy-goes layout (surroundings a) ds gone.last v u (shape-of a) (subst (λ (n : ℕ). layout_cell layout (n / layout.frames) < 8) (sym gone.frame_is) low)
    (subst (λ (x : ℕ). Releases layout x gone.last.frame v u) is (subst (λ (n : ℕ). Releases layout home n v u) (sym gone.frame_is) released)) (subst (λ (l : List Copy). HoldsCopies (surroundings a) l v) gone.rest h)

-- ---- frames that are given back by their numbers

-- copies whose numbers end with this one end with a copy of it
pub record EndsWith (frame : ℕ) (numbers : List ℕ) (copies : List Copy) : Type 0 where
  pub rest : List Copy
  pub numbers_are : numbers ≡ numbers_of rest
  pub gone : LosesLast frame copies rest

pub ends-with : (copies : List Copy) (numbers : List ℕ) (frame : ℕ) → numbers ++ frame ∷ [] ≡ numbers_of copies → EndsWith frame numbers copies
ends-with [] [] frame e = absurd cc
ends-with [] (n ∷ numbers) frame e = absurd cc
ends-with (c ∷ []) [] frame e = record { rest = []; numbers_are = refl; gone = record { last = c; frame_is = cc; rest = refl } }
ends-with (c ∷ d ∷ copies) [] frame e = absurd cc
ends-with (c ∷ copies) (n ∷ numbers) frame e =
    let later = ends-with copies numbers frame cc in
    let here : n ≡ c.frame = cc in
    record {
      rest = c ∷ later.rest;
      numbers_are = λ i. here i ∷ later.numbers_are i;
      gone = record { last = later.gone.last; frame_is = later.gone.frame_is; rest = ap (λ (l : List Copy). c ∷ l) later.gone.rest };
    }

-- and so they do behind others
pub rest-behind : (frame : ℕ) (others cs ds : List Copy) (gone : LosesLast frame cs ds) → others ++ cs ≡ others ++ ds ++ gone.last ∷ []
rest-behind frame others cs ds gone = ap (λ (l : List Copy). others ++ l) gone.rest ∙ sym (append_assoc others ds (gone.last ∷ []))

pub loses-behind : (frame : ℕ) (others cs ds : List Copy) → LosesLast frame cs ds → LosesLast frame (others ++ cs) (others ++ ds)
loses-behind frame others cs ds gone = record { last = gone.last; frame_is = gone.frame_is; rest = rest-behind frame others cs ds gone }

-- the cell of the home node
pub home-is : (a : Around) (cell : CellId) → cell ≡ slice_index_or a.site.shape.cells a.home.0 (record { 0 = 0 }) → cell.0 ≡ home_cell (surroundings a)
home-is a cell e = ap (λ (c : CellId). c.0) e ∙ cell-at a.site.shape.cells a.home.0
