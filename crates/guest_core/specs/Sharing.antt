-- Where a step shares a page with others, and why it copies it where it doesn't.
use Rattle.std.specs.Prelude.{◌≡◌, ◌⊎◌, ℕ, Bool, true, false, not, filter, List, [], ◌∷◌, Some, None}
use Rattle.base_words.specs.declared.events.Event.TheVariants.{Begin}
use Rattle.base_words.specs.declared.ids.Ppn.{Ppn}
use Rattle.base_words.specs.declared.ids.ProcId.{ProcId}
use Rattle.base_words.specs.declared.ids.VcpuId.{VcpuId}
use Rattle.base_words.specs.declared.moves.By.TheVariants.{Step}
use Rattle.base_words.specs.declared.moves.MoveKind.{MoveKind}
use Rattle.base_words.specs.declared.moves.MoveKind.TheVariants.{Migrate, Replicate, Collapse, Break, TakeShared, GiveShared}
use Rattle.cow_disk.specs.IndexView.{Cached, found}
use Rattle.frame_words.specs.FrameWords.{frame_word}
use Rattle.frame_words.specs.Refusals.{AddsShare, AddsShareRefusal}
use Rattle.frame_words.specs.declared.view.View.{View}
use Rattle.node_frames.specs.BootOrder.{boot_nodes}
use Rattle.node_frames.specs.Layout.{Layout}
use Rattle.node_frames.specs.Searches.{Finds, FindsNone}
use Rattle.node_frames.specs.declared.answers.Shown.{Shown as Entry}
use Rattle.private_machine.specs.Backing.{Copy, TakesShared, GivesShared}
use Rattle.private_machine.specs.DeviceAct.{ReadsDisk, SendsPage}
use Rattle.isolation_law.specs.GuestState.{GuestState, block, page, is_dead}
use Rattle.isolation_law.specs.Needs.{Need, for_send, may_share_block}
use Rattle.isolation_law.specs.StepAct.{at_hand}
use Rattle.isolation_law.specs.Surroundings.{home_cell, cell_of_node}
use Rattle.guest_course.specs.Acting.{page_used, IsOwnRead}
use Rattle.guest_course.specs.TakingCalls.{HasCode}
use Rattle.guest_core.specs.Blocks.{blocks_of}
use Rattle.guest_core.specs.GuestView.{Monitored, Shared}
use Rattle.guest_core.specs.Making.{MakesAlone}
use Rattle.guest_course.specs.StepCalls.{LosesPage}
use Rattle.guest_core.specs.MoveCalls.{IsAtRest, IsDoing, IsLayoutOf, StepIsOn}
use Rattle.base_words.specs.declared.ids.NodeId.{NodeId}

-- ---- disk reads

-- this is the frame with a copy of the block, as the disk was given
pub record HasCopy (blocks : List Cached) (disk : ℕ) (s : GuestState) (b : ℕ) (copy : Copy) : Type 0 where
  pub known : found blocks disk b ≡ Some copy
  pub bytes : copy.bytes ≡ (block s b).given

-- A block is copied as it may not be shared by this guest with this step: the guest has written it, its home cell has failed, or the page
-- has the step's own instruction. Nobody asks for a frame then.
pub record MayNotShare (s : GuestState) (v b q : ℕ) (old new : View) : Type 0 where
  pub why : (may_share_block s b ≡ false) ⊎ HasCode s v q
  pub unasked : new ≡ old

-- or there is no copy of it
pub record HasNoCopy (blocks : List Cached) (disk : ℕ) (s : GuestState) (b : ℕ) (old new : View) : Type 0 where
  pub none : (copy : Copy) → HasCopy blocks disk s b copy → ⊥
  pub unasked : new ≡ old

-- or the word of the frame with the copy refused
pub record RefusesCopy (blocks : List Cached) (disk : ℕ) (s : GuestState) (b : ℕ) (old new : View) : Type 0 where
  pub copy : Copy
  pub has : HasCopy blocks disk s b copy
  pub refuses : AddsShareRefusal old (frame_word copy.frame) copy.generation new

-- what a guest may share on its home cell
abbrev pub blocks_at : Shared → GuestState → List Cached
blocks_at shared s = blocks_of shared.indexes (home_cell s.around)

-- why a block is copied into a page
abbrev pub CopiesBlock : List Cached → ℕ → GuestState → ℕ → ℕ → ℕ → View → View → Type 0
CopiesBlock blocks disk s v b q old new = MayNotShare s v b q old new ⊎ (HasNoCopy blocks disk s b old new ⊎ RefusesCopy blocks disk s b old new)

-- where the step at hand reads a block into a page without a move, it copies it for such a cause
abbrev pub Copies : Shared → ℕ → GuestState → ℕ → View → View → Type 0
Copies shared disk s v old new = (b q : ℕ) → at_hand s v ≡ ReadsDisk b q → (page s q).move ≡ None → CopiesBlock (blocks_at shared s) disk s v b q old new

-- this copy of the block that the step at hand reads is held once more
pub record TakesCopy (shared : Shared) (disk : ℕ) (s : GuestState) (v q : ℕ) (copy : Copy) (old new : View) : Type 0 where
  pub block_read : ℕ
  pub reads : at_hand s v ≡ ReadsDisk block_read q
  pub has : HasCopy (blocks_at shared s) disk s block_read copy
  pub adds : AddsShare old (frame_word copy.frame) copy.generation new

-- ---- sends

-- the nodes on which a spare is sought: the home node first, then the others of the home cell, then those of other cells, without those of
-- cells that have failed
abbrev pub lives_on : GuestState → NodeId → Bool
lives_on s node = not (is_dead s (cell_of_node s.around node.0))

abbrev pub spare_nodes : GuestState → Layout → List NodeId
spare_nodes s layout = filter (lives_on s) (boot_nodes layout (record { 0 = s.around.home }))

-- no frame was found for a spare
pub record FindsNoSpare (s : GuestState) (lends : List ℕ) (old new : View) : Type 0 where
  pub layout : Layout
  pub lies : IsLayoutOf s.around layout
  pub shown : List Entry
  pub finds : FindsNone layout lends (home_cell s.around) (spare_nodes s layout) shown old new

-- this one was found so
pub record FindsSpare (s : GuestState) (lends : List ℕ) (spare : Copy) (old new : View) : Type 0 where
  pub layout : Layout
  pub lies : IsLayoutOf s.around layout
  pub finds : Finds layout lends (home_cell s.around) (spare_nodes s layout) spare.frame spare.generation old new

-- where the page of the send at hand could be given before it, it is sent as it is as no frame was found for that
abbrev pub SendsPlain : Shared → GuestState → ℕ → View → View → Type 0
SendsPlain shared s v old new = (q length to : ℕ) (need : Need) → at_hand s v ≡ SendsPage q length to → for_send s true q length to ≡ Some need → FindsNoSpare s shared.table.terms.lends old new

-- ---- a step

-- the page of a step that was made had no move, or one that the step ends: it was taken shared for it
abbrev pub UsesFree : GuestState → ℕ → Type 0
UsesFree s v = (q : ℕ) → page_used (at_hand s v) ≡ Some q → ((page s q).move ≡ None) ⊎ IsOwnRead s v q

-- the page is taken shared with a copy of the block, or given with a spare that was found for it
pub record TakesBlock (shared : Shared) (disk : ℕ) (s : GuestState) (v q : ℕ) (t : GuestState) (old new : View) : Type 0 where
  pub copy : Copy
  pub takes : TakesCopy shared disk s v q copy old new
  pub into : IsDoing t q (TakesShared copy)

pub record GivesWithSpare (shared : Shared) (s : GuestState) (q : ℕ) (t : GuestState) (old new : View) : Type 0 where
  pub spare : Copy
  pub found : FindsSpare s shared.table.terms.lends spare old new
  pub into : IsDoing t q (GivesShared spare)

-- which frames were asked for before this move began
abbrev pub BeginsWith : MoveKind → Shared → ℕ → GuestState → ℕ → ℕ → GuestState → View → View → Type 0
BeginsWith Migrate shared disk s v q t old new = ⊥
BeginsWith Replicate shared disk s v q t old new = ⊥
BeginsWith Collapse shared disk s v q t old new = Copies shared disk s v old new
BeginsWith Break shared disk s v q t old new = Copies shared disk s v old new
BeginsWith TakeShared shared disk s v q t old new = TakesBlock shared disk s v q t old new
BeginsWith GiveShared shared disk s v q t old new = GivesWithSpare shared s q t old new

-- or none was, and the page is to be collapsed as the processor traps for a frame of it that lies in a failed cell
pub record CollapsesLost (s : GuestState) (p v q : ℕ) (kind : MoveKind) (old new : View) : Type 0 where
  pub loses : LosesPage s p v q
  pub is_collapse : kind ≡ Collapse
  pub view : new ≡ old

-- the step needs a move of the page, which has begun
pub record BeginsForStep (shared : Shared) (old : Monitored) (p : ProcId) (v : VcpuId) (q : Ppn) (new : Monitored) : Type 0 where
  pub rest : IsAtRest old.state p.0
  pub step : StepIsOn old.state p.0 v.0 q.0
  pub kind : MoveKind
  pub shares : CollapsesLost old.state p.0 v.0 q.0 kind old.view new.view ⊎ BeginsWith kind shared old.disk old.state v.0 q.0 new.state old.view new.view
  pub makes : MakesAlone old (Begin q kind (record { 0 = old.state.around.home }) (Step p) ∷ []) new
