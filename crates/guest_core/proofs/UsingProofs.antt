-- The counters of the cells that a guest uses: over an entry, when something is loaded or unloaded, at the end and at the start.
use Rattle.std.proofs.Common.{◌≡◌, ℕ, ◌+◌, ◌<◌, ◌==◌, cond, Bool, List, [], ◌∷◌, ◌++◌, Some, length, map, drop, refl, sym, ap, ◌∙◌, subst, arith}
use Rattle.std.specs.Prelude.{All, count_by, flat_map}
use Rattle.std.proofs.lemmas.Bool.{eq-eqb}
use Rattle.std.proofs.lemmas.List.{length-map}
use Rattle.std.proofs.lemmas.List.Elements.{All-nil, All-cons}
use Rattle.std.proofs.lemmas.List.Sums.{sum_by-cons}
use Rattle.base_words.specs.Limits.{most_cells}
use Rattle.base_words.specs.declared.events.Event.{Event}
use Rattle.base_words.specs.declared.frame.Frame.{Frame}
use Rattle.base_words.specs.declared.frame.Shape.{Shape}
use Rattle.base_words.specs.declared.ids.CellId.{CellId}
use Rattle.base_words.specs.declared.ids.FrameNo.{FrameNo}
use Rattle.cell_depend.specs.CellUse.{Rows, lies_in as lies, frames_in, vcpus_in}
use Rattle.cell_depend.specs.Counters.{UsesState, AreCounts, without_frames}
use Rattle.cell_depend.specs.Events.{Leaves}
use Rattle.private_machine.specs.Backing.{Copy}
use Rattle.isolation_law.specs.CellUse.{used_frames}
use Rattle.isolation_law.specs.Exchange.{count_of}
use Rattle.isolation_law.specs.UseChange.{UseChanged}
use Rattle.isolation_law.specs.GuestState.{GuestState, processor}
use Rattle.isolation_law.specs.LoadRows.{Loads, Unloads, unloaded}
use Rattle.isolation_law.specs.LoadsIn.{loaded_after}
use Rattle.isolation_law.specs.MachineEvent.{Row}
use Rattle.isolation_law.specs.PacketRows.{ComesToHand}
use Rattle.isolation_law.specs.Parts.{Processor}
use Rattle.isolation_law.specs.Start.{Boot, pages_at_start, start as started}
use Rattle.private_machine.specs.PageMove.{used_for}
use Rattle.isolation_law.specs.Surroundings.{Surroundings}
use Rattle.guest_course.specs.BootCalls.{found_of}
use Rattle.guest_core.specs.Using.{AreUses, IsShapeOf, frame_of, loaded_cells, rows_of}
use Rattle.guest_core.specs.Laws.{RowLaws}
use Rattle.guest_core.proofs.LoadedCells.{cell_at, cells-same, cells-set, cells-cleared, none-loaded}

-- ---- over an entry that takes and gives no frame

-- frames of a cell, by their copies
pub frames-counted : (shape : Shape) (q : ℕ) (cs : List Copy) → frames_in shape q (map frame_of cs) ≡ count_of (λ frame generation. lies shape q (record { 0 = frame })) cs
frames-counted shape q [] = refl
frames-counted shape q (c ∷ cs) =
    sum_by-cons (λ (f : FrameNo). cond {A = ℕ} (lies shape q f) 1 0) (frame_of c) (map frame_of cs)
    ∙ ap (λ (n : ℕ). cond (lies shape q (frame_of c)) 1 0 + n) (frames-counted shape q cs)
    ∙ sym (sum_by-cons (λ (x : Copy). cond {A = ℕ} (lies shape q (frame_of x)) 1 0) c cs)

as-many-frames : (s t : GuestState) → UseChanged s t [] [] → (shape : Shape) (q : ℕ) → frames_in shape q (rows_of t).frames ≡ frames_in shape q (rows_of s).frames
as-many-frames s t ex shape q =
    let balance = ex.balance (λ frame generation. lies shape q (record { 0 = frame })) in
    let now = frames-counted shape q (used_frames t) in
    let was = frames-counted shape q (used_frames s) in
    let none : count_of (λ frame generation. lies shape q (record { 0 = frame })) [] ≡ 0 = refl in
    omega arith

-- counted from other rows with as many frames of each cell
pub recounted : (shape : Shape) (rows other : Rows) (uses : UsesState) → ((q : ℕ) → frames_in shape q other.frames ≡ frames_in shape q rows.frames) → other.loaded ≡ rows.loaded → AreCounts shape rows uses → AreCounts shape other uses
recounted shape rows other uses frames loaded are = record {
  frames = λ q within. are.frames q within ∙ sym (frames q);
  vcpus = λ q within. are.vcpus q within ∙ ap (vcpus_in q) (sym loaded);
}

uses-stay : (s t : GuestState) (uses : UsesState) → UseChanged s t [] [] → t.around ≡ s.around → length t.processors ≡ length s.processors → ((r : ℕ) → (processor t r).loaded ≡ (processor s r).loaded) → AreUses s uses → AreUses t uses
uses-stay s t uses ex around long same u = record {
  shape = u.shape;
  told = subst (λ (w : Surroundings). IsShapeOf w u.shape) (sym around) u.told;
  cells = u.cells;
  counts = recounted u.shape (rows_of s) (rows_of t) uses (as-many-frames s t ex u.shape)
      (ap (λ (w : Surroundings). loaded_cells w 0 t.processors) around ∙ cells-same s.around 0 s.processors t.processors long same) u.counts;
}

pub uses-row : RowLaws → (s t : GuestState) (e : Event) (uses : UsesState) → Row s e t → UseChanged s t [] [] → ((r : ℕ) → loaded_after e r (processor s r).loaded ≡ (processor s r).loaded) → AreUses s uses → AreUses t uses
uses-row w s t e uses row ex same u = uses-stay s t uses ex (w.around s t e row) (w.processors s t e row) (λ r. w.loaded s t e r row ∙ same r) u

pub uses-come : (s t : GuestState) (uses : UsesState) → AreUses s uses → ComesToHand s t → AreUses t uses
uses-come s t uses u comes = subst (λ (x : GuestState). AreUses x uses) (sym comes.after) (record { shape = u.shape; told = u.told; cells = u.cells; counts = u.counts })

-- ---- loads, unloads and the end

-- what a law of the counters says of something that comes, or goes
abbrev pub Follows : UsesState → UsesState → CellId → Type 0
Follows old new cell = (shape : Shape) (rows : Rows) (loaded : List CellId) → AreCounts shape rows old → Leaves cell loaded rows.loaded → AreCounts shape (record rows { loaded = loaded }) new

abbrev pub FollowsBack : UsesState → UsesState → CellId → Type 0
FollowsBack old new cell = (shape : Shape) (rows : Rows) (rest : List CellId) → AreCounts shape rows old → Leaves cell rows.loaded rest → AreCounts shape (record rows { loaded = rest }) new

pub uses-load : (s t : GuestState) (p v : ℕ) (old new : UsesState) → Follows old new (cell_at s.around p) → length new.counts ≡ length old.counts → Loads s p v t → AreUses s old → AreUses t new
uses-load s t p v old new law long row u =
    let x : Processor = record { loaded = Some v; tlb = [] } in
    let joins = cells-set s.around p v s.processors x row.is_processor row.free refl in
    subst (λ (g : GuestState). AreUses g new) (sym row.after) (record { shape = u.shape; told = u.told; cells = long ∙ u.cells; counts = law u.shape (rows_of s) _ u.counts joins })

pub uses-unload : (s t : GuestState) (p v : ℕ) (old new : UsesState) → FollowsBack old new (cell_at s.around p) → length new.counts ≡ length old.counts → p < length s.processors → (processor s p).loaded ≡ Some v → UseChanged s t [] [] → Unloads s p t → AreUses s old → AreUses t new
uses-unload s t p v old new law long lt there ex row u =
    let m = unloaded p s in
    let same : UseChanged s m [] [] = subst (λ (g : GuestState). UseChanged s g [] []) row.after ex in
    let leaves = cells-cleared s.around p v s.processors lt there in
    let less : Rows = record (rows_of s) { loaded = (rows_of m).loaded } in
    subst (λ (g : GuestState). AreUses g new) (sym row.after) (record {
      shape = u.shape;
      told = u.told;
      cells = long ∙ u.cells;
      counts = recounted u.shape less (rows_of m) new (as-many-frames s m same u.shape) refl (law u.shape (rows_of s) _ u.counts leaves);
    })

pub uses-end : (s t : GuestState) (uses : UsesState) → ((shape : Shape) (rows : Rows) (uses : UsesState) → AreCounts shape rows uses → AreCounts shape (record rows { frames = [] }) (without_frames uses))
    → t.around ≡ s.around → t.processors ≡ s.processors → t.pages ≡ [] → t.spares ≡ [] → AreUses s uses → AreUses t (without_frames uses)
uses-end s t uses law around processors pages spares u =
    record {
      shape = u.shape;
      told = subst (λ (w : Surroundings). IsShapeOf w u.shape) (sym around) u.told;
      cells = length-map uses.counts _ ∙ u.cells;
      counts = subst (λ (r : Rows). AreCounts u.shape r (without_frames uses)) (sym (λ i. record { frames = map frame_of (flat_map used_for (pages i) ++ spares i); loaded = loaded_cells (around i) 0 (processors i) })) (law u.shape (rows_of s) uses u.counts);
    }

-- ---- at the start

booted-frames : (fs : List Frame) (memory : List ℕ) → map frame_of (flat_map used_for (pages_at_start (map found_of fs) memory) ++ []) ≡ map (λ (f : Frame). f.number) fs
booted-frames [] memory = refl
booted-frames (f ∷ fs) memory = ap (λ (l : List FrameNo). f.number ∷ l) (booted-frames fs (drop 4096 memory))

pub uses-start : (b : Boot) (fs : List Frame) (shape : Shape) (uses : UsesState) → b.frames ≡ map found_of fs → IsShapeOf b.around shape → length uses.counts ≡ most_cells
    → AreCounts shape (record { frames = map (λ (f : Frame). f.number) fs; loaded = [] }) uses → AreUses (started b) uses
uses-start b fs shape uses from told long are = record {
  shape = shape;
  told = told;
  cells = long;
  counts = recounted shape (record { frames = map (λ (f : Frame). f.number) fs; loaded = [] }) (rows_of (started b)) uses
      (λ q. ap (frames_in shape q) (ap (λ l. map frame_of (flat_map used_for (pages_at_start l b.image.memory) ++ [])) from ∙ booted-frames fs b.image.memory)) (none-loaded b.around 0 (length b.around.processors)) are;
}

-- each frame that was found is the machine's
pub all-within : (fs : List Frame) (n : ℕ) → ((frame : ℕ) → 0 < count_by (λ f. f.frame == frame) (map found_of fs) → frame < n) → All (λ (f : Frame). f.number.0 < n) fs
all-within [] n within = All-nil (λ (f : Frame). f.number.0 < n)
all-within (f ∷ fs) n within =
    let split = λ (frame : ℕ). sum_by-cons (λ x. cond {A = ℕ} (x.frame == frame) 1 0) (found_of f) (map found_of fs) in
    let own : cond {A = ℕ} (f.number.0 == f.number.0) 1 0 ≡ 1 = ap (λ (b : Bool). cond {A = ℕ} b 1 0) (eq-eqb f.number.0 f.number.0 refl) in
    All-cons (λ (f : Frame). f.number.0 < n) f fs (within f.number.0 (let here = split f.number.0 in omega arith)) (all-within fs n (λ frame some. within frame (let there = split frame in omega arith)))
