-- What the counters of a guest's cells tell: a cell is used where its counts aren't both 0.
use Rattle.std.proofs.Common.{◌≡◌, ◌≢◌, ℕ, zero, suc, ◌+◌, ◌*◌, ◌/◌, ◌<◌, ◌==◌, not, ◌&&◌, ◌||◌, cond, Bool, true, false, List, [], ◌∷◌, ◌++◌, Option, Some, None, is_some, is_none, length, map, get_or, refl, sym, ap, ◌∙◌, subst, arith}
use Rattle.std.specs.Prelude.{count_by, slice_get, ◌↔◌, IsTrue}
use Rattle.std.specs.List.{list_any}
use Rattle.std.proofs.lemmas.Bool.{eq-eqb, ne_eqb}
use Rattle.std.proofs.lemmas.List.{length-map}
use Rattle.std.proofs.lemmas.List.Sums.{sum_by-cons}
use Rattle.std.proofs.lemmas.Nat.{div_below}
use Rattle.base_words.specs.Limits.{most_cells}
use Rattle.base_words.specs.declared.events.End.{End}
use Rattle.base_words.specs.declared.frame.Shape.{Shape}
use Rattle.base_words.specs.declared.ids.CellId.{CellId}
use Rattle.base_words.specs.declared.ids.FrameNo.{FrameNo}
use Rattle.cell_depend.specs.CellUse.{lies_in as lies, is_cell, is_some_cell, frames_in, vcpus_in}
use Rattle.cell_depend.specs.Counters.{UsesState, count_at, total}
use Rattle.private_machine.specs.Backing.{Copy}
use Rattle.isolation_law.specs.CellUse.{used_frames, lies_in, loaded_in, uses}
use Rattle.isolation_law.specs.GuestState.{GuestState}
use Rattle.isolation_law.specs.Holdings.{is_frame}
use Rattle.isolation_law.specs.Parts.{Processor}
use Rattle.isolation_law.specs.Surroundings.{Surroundings, cell_of_processor}
use Rattle.guest_core.specs.Holding.{frames_around}
use Rattle.guest_core.specs.Using.{AreUses, IsShapeOf, cell_with, frame_of, loaded_cells}

-- a count that isn't 0
some-here : (b : Bool) (n : ℕ) → (b || not (n == 0)) ≡ not (cond b 1 0 + n == 0)
some-here true n = sym (ap not (ne_eqb (1 + n) 0 (λ (e : 1 + n ≡ 0). omega arith)))
some-here false n = ap (λ (k : ℕ). not (k == 0)) (let e : n ≡ 0 + n = omega arith in e)

-- the cell of a frame of the machine
cell-told : (cells : List CellId) (k cell : ℕ) → k < length cells → (get_or (map (λ (c : CellId). c.0) cells) k 0 == cell) ≡ is_some_cell cell (slice_get cells k)
cell-told [] k cell lt = absurd (omega arith)
cell-told (c ∷ cells) zero cell lt = refl
cell-told (c ∷ cells) (suc k) cell lt = cell-told cells k cell (omega arith)

lies-told : (w : Surroundings) (shape : Shape) (cell : ℕ) (c : Copy) → IsShapeOf w shape → c.frame < frames_around w → lies_in w cell c ≡ lies shape cell (frame_of c)
lies-told w shape cell c told lt =
    let long : length shape.cells ≡ length w.nodes = sym (length-map shape.cells (λ (c : CellId). c.0)) ∙ ap length told.cells in
    let within : c.frame < length shape.cells * shape.frames = subst (λ (n : ℕ). c.frame < n) (λ i. sym long i * sym told.frames i) lt in
    let node : c.frame / shape.frames < length shape.cells = div_below c.frame shape.frames (length shape.cells) shape.has_frames within in
    (λ i. get_or (sym told.cells i) (c.frame / sym told.frames i) 0 == cell) ∙ cell-told shape.cells (c.frame / shape.frames) cell node

any-frame : (w : Surroundings) (shape : Shape) (cell : ℕ) (cs : List Copy) → IsShapeOf w shape → ((frame : ℕ) → 0 < count_by (is_frame frame) cs → frame < frames_around w)
    → list_any (lies_in w cell) cs ≡ not (frames_in shape cell (map frame_of cs) == 0)
any-frame w shape cell [] told within = refl
any-frame w shape cell (c ∷ cs) told within =
    let split = λ (frame : ℕ). sum_by-cons (λ (x : Copy). cond {A = ℕ} (x.frame == frame) 1 0) c cs in
    let own : cond {A = ℕ} (c.frame == c.frame) 1 0 ≡ 1 = ap (λ (b : Bool). cond {A = ℕ} b 1 0) (eq-eqb c.frame c.frame refl) in
    let here = lies-told w shape cell c told (within c.frame (let first = split c.frame in omega arith)) in
    let rest = any-frame w shape cell cs told (λ frame some. within frame (let there = split frame in omega arith)) in
    (λ i. here i || rest i) ∙ some-here (lies shape cell (frame_of c)) (frames_in shape cell (map frame_of cs))
    ∙ ap (λ (n : ℕ). not (n == 0)) (sym (sum_by-cons (λ (f : FrameNo). cond {A = ℕ} (lies shape cell f) 1 0) (frame_of c) (map frame_of cs)))

loaded-here : (cell at : ℕ) (l : Option ℕ) (rest : List CellId) → ((is_some l && (at == cell)) || not (vcpus_in cell rest == 0)) ≡ not (vcpus_in cell (cell_with at l ++ rest) == 0)
loaded-here cell at None rest = refl
loaded-here cell at (Some v) rest = some-here (at == cell) (vcpus_in cell rest) ∙ ap (λ (n : ℕ). not (n == 0)) (sym (sum_by-cons (λ (c : CellId). cond {A = ℕ} (is_cell cell c) 1 0) (record { 0 = at }) rest))

any-loaded : (w : Surroundings) (cell o : ℕ) (l : List Processor) → loaded_in w cell o l ≡ not (vcpus_in cell (loaded_cells w o l) == 0)
any-loaded w cell o [] = refl
any-loaded w cell o (x ∷ l) = ap (λ (b : Bool). (is_some x.loaded && (cell_of_processor w o == cell)) || b) (any-loaded w cell (o + 1) l) ∙ loaded-here cell (cell_of_processor w o) x.loaded (loaded_cells w (o + 1) l)

either-some : (a b : ℕ) → (not (a == 0) || not (b == 0)) ≡ not (a + b == 0)
either-some zero b = ap (λ (k : ℕ). not (k == 0)) (let e : b ≡ 0 + b = omega arith in e)
either-some (suc a) b = ap (λ (x : Bool). not x || not (b == 0)) (ne_eqb (suc a) 0 (λ (e : suc a ≡ 0). omega arith)) ∙ sym (ap not (ne_eqb (suc a + b) 0 (λ (e : suc a + b ≡ 0). omega arith)))

told-so : (r : Bool) (n : ℕ) → IsTrue r ↔ (n ≢ 0) → r ≡ not (n == 0)
told-so true n is = sym (ap not (ne_eqb n 0 (is.0 refl)))
told-so false zero is = refl
told-so false (suc n) is = absurd (never (is.1 (λ (e : suc n ≡ 0). omega arith)))
  where
    never : false ≡ true → ⊥
    never e = cc

-- what the counters say of a cell is what the state of a guest that hasn't ended says
pub counted-use : (s : GuestState) (u : UsesState) (cell : ℕ) (r : Bool) → s.end ≡ None → ((frame : ℕ) → 0 < count_by (is_frame frame) (used_frames s) → frame < frames_around s.around) → cell < most_cells → AreUses s u
    → IsTrue r ↔ (total (count_at u cell) ≢ 0) → r ≡ uses s cell
counted-use s u cell r on within lt are is =
    let there : cell < length u.counts = omega (arith, are.cells) in
    let frames = any-frame s.around are.shape cell (used_frames s) are.told within in
    let loaded = any-loaded s.around cell 0 s.processors in
    told-so r (total (count_at u cell)) is ∙ (λ i. not (are.counts.frames cell there i + are.counts.vcpus cell there i == 0)) ∙ sym (either-some _ _) ∙ (λ i. sym frames i || sym loaded i)
    ∙ ap (λ (e : Option End). is_none e && (list_any (lies_in s.around cell) (used_frames s) || loaded_in s.around cell 0 s.processors)) (sym on)
