-- What changes a guest's use of cells, event by event, in its rows and in its counters.
use Rattle.std.specs.Prelude.{◌≡◌, ℕ, ◌<◌, ◌≤◌, List, [], ◌∷◌, ◌++◌, length, Some}
use Rattle.base_words.specs.declared.frame.Shape.{Shape}
use Rattle.base_words.specs.declared.ids.CellId.{CellId}
use Rattle.base_words.specs.declared.ids.FrameNo.{FrameNo}
use Rattle.cell_depend.specs.CellUse.{Rows, cell_of}
use Rattle.cell_depend.specs.Counters.{UsesState, unused, with_frame, without_frame, with_vcpu, without_vcpu, with_dead}

-- a frame is taken or given back, a virtual processor loaded on a processor of a cell or unloaded from one, a cell fails
pub data UseEvent : Type 0 where
  FrameTaken : FrameNo → UseEvent
  FrameGivenBack : FrameNo → UseEvent
  VcpuLoaded : CellId → UseEvent
  VcpuUnloaded : CellId → UseEvent
  CellFailed : CellId → UseEvent

-- the rows, and the counters beside them
pub record Kept : Type 0 where
  pub rows : Rows
  pub uses : UsesState

-- nothing held, nothing loaded, so many cells
abbrev pub at_start : ℕ → Kept
at_start cells = record { rows = record { frames = []; loaded = [] }; uses = unused cells }

-- one item leaves a list, wherever it stands
pub record Leaves {X : Type 0} (item : X) (old new : List X) : Type 0 where
  pub front : List X
  pub back : List X
  pub was : old ≡ front ++ item ∷ back
  pub is : new ≡ front ++ back

-- one item joins a list, wherever it then stands
abbrev pub Joins : {X : Type 0} → X → List X → List X → Type 0
Joins item old new = Leaves item new old

-- a frame lies on a node of a cell that is counted
pub record IsCounted (shape : Shape) (uses : UsesState) (frame : FrameNo) (cell : CellId) : Type 0 where
  pub lies : cell_of shape frame ≡ Some cell
  pub counted : cell.0 < length uses.counts

-- a frame lies on a node of a cell that isn't counted
pub record IsUncounted (shape : Shape) (uses : UsesState) (frame : FrameNo) (cell : CellId) : Type 0 where
  pub lies : cell_of shape frame ≡ Some cell
  pub uncounted : length uses.counts ≤ cell.0

-- a frame is taken
pub record Takes (shape : Shape) (s : Kept) (frame : FrameNo) (t : Kept) : Type 0 where
  pub cell : CellId
  pub place : IsCounted shape s.uses frame cell
  pub frames : List FrameNo
  pub joins : Joins frame s.rows.frames frames
  pub after : t ≡ record { rows = record s.rows { frames = frames }; uses = with_frame s.uses cell.0 }

-- a frame that is held is given back
pub record GivesBack (shape : Shape) (s : Kept) (frame : FrameNo) (t : Kept) : Type 0 where
  pub cell : CellId
  pub place : IsCounted shape s.uses frame cell
  pub frames : List FrameNo
  pub leaves : Leaves frame s.rows.frames frames
  pub after : t ≡ record { rows = record s.rows { frames = frames }; uses = without_frame s.uses cell.0 }

-- a virtual processor is loaded on a processor of a cell
pub record Loads (s : Kept) (cell : CellId) (t : Kept) : Type 0 where
  pub counted : cell.0 < length s.uses.counts
  pub loaded : List CellId
  pub joins : Joins cell s.rows.loaded loaded
  pub after : t ≡ record { rows = record s.rows { loaded = loaded }; uses = with_vcpu s.uses cell.0 }

-- a virtual processor is unloaded that is loaded on a processor of a cell
pub record Unloads (s : Kept) (cell : CellId) (t : Kept) : Type 0 where
  pub counted : cell.0 < length s.uses.counts
  pub loaded : List CellId
  pub leaves : Leaves cell s.rows.loaded loaded
  pub after : t ≡ record { rows = record s.rows { loaded = loaded }; uses = without_vcpu s.uses cell.0 }

-- what an event does, where it is allowed
abbrev pub Happens : Shape → Kept → UseEvent → Kept → Type 0
Happens shape s (FrameTaken frame) t = Takes shape s frame t
Happens shape s (FrameGivenBack frame) t = GivesBack shape s frame t
Happens shape s (VcpuLoaded cell) t = Loads s cell t
Happens shape s (VcpuUnloaded cell) t = Unloads s cell t
Happens shape s (CellFailed cell) t = t ≡ record s { uses = with_dead s.uses cell.0 }

-- a list of events that is allowed leads from one state to another
abbrev pub Leads : Shape → Kept → List UseEvent → Kept → Type 0
Leads shape s [] t = t ≡ s
Leads shape s (e ∷ events) t = (m : Kept) × Happens shape s e m × Leads shape m events t
