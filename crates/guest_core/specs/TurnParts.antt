-- What a turn does to the parts of a guest.
use Rattle.std.specs.Prelude.{◌≡◌, ◌+◌, ◌<◌, ◌≤◌, ℕ, length, Bool, true, false, List, ◌∷◌, [], Option, None, Some, Result, Ok, Err}
use Rattle.std.specs.declared.alloc.AllocError.{AllocError}
use Rattle.base_words.specs.declared.events.Event.TheVariants.{Begin, Emulate}
use Rattle.base_words.specs.declared.events.End.TheVariants.{Halted as ByHalt}
use Rattle.base_words.specs.declared.frame.Frame.{Frame}
use Rattle.base_words.specs.declared.frame.SharedFrame.{SharedFrame}
use Rattle.base_words.specs.declared.ids.NodeId.{NodeId}
use Rattle.base_words.specs.declared.ids.ProcId.{ProcId}
use Rattle.base_words.specs.declared.ids.Ppn.{Ppn}
use Rattle.base_words.specs.declared.ids.VcpuId.{VcpuId}
use Rattle.base_words.specs.declared.moves.By.TheVariants.{Step}
use Rattle.base_words.specs.declared.moves.MoveKind.{MoveKind}
use Rattle.cell_depend.specs.Counters.{UsesState}
use Rattle.frame_words.specs.declared.view.View.{View}
use Rattle.guest_devs.specs.declared.act.DevAct.{DevAct}
use Rattle.pmap_table.specs.Frames.{copy_of, shared_copy_of}
use Rattle.isolation_law.specs.GuestState.{GuestState, block, vcpu_of}
use Rattle.isolation_law.specs.MachineEvent.{Row}
use Rattle.isolation_law.specs.Phases.{GoesOn}
use Rattle.isolation_law.specs.StepAct.{at_hand}
use Rattle.guest_course.specs.Acting.{act_of, page_used}
use Rattle.guest_course.specs.EndCalls.{EndsSo}
use Rattle.guest_course.specs.Posting.{to_give}
use Rattle.guest_course.specs.TakingCalls.{SharesBlock}
use Rattle.guest_course.specs.Wanting.{TakesMemory}
use Rattle.guest_core.specs.Frames.{HasTaken, HoldsToo, TakesNone}
use Rattle.guest_core.specs.GuestCalls.{SendsOut}
use Rattle.guest_core.specs.GuestView.{Monitored, IsSameGuest, Shared}
use Rattle.guest_core.specs.Making.{Makes, MakesAlone}
use Rattle.guest_core.specs.Sharing.{BeginsForStep, Copies, FindsSpare, SendsPlain, TakesCopy}
use Rattle.guest_core.specs.declared.sharing.Sharing.{Sharing}
use Rattle.guest_core.specs.declared.sharing.Sharing.TheVariants as shares
use Rattle.isolation_law.specs.MoveRows.{LiesAlive}

-- the guest ends where its virtual processors have all halted
abbrev pub Concludes : Bool → GuestState → GuestState → Type 0
Concludes true s t = EndsSo s ByHalt t
Concludes false s t = t ≡ s

-- a virtual processor of a guest that hasn't ended runs
pub record MayRun (s : GuestState) (v : ℕ) : Type 0 where
  pub not_ended : s.end ≡ None
  pub running : (vcpu_of s v).halted ≡ false

-- ---- how an act shares its page

-- the page is to be taken shared, with a frame that is held once more
pub record TakesPage (shared : Shared) (disk : ℕ) (s : GuestState) (v : ℕ) (act : DevAct) (b q : ℕ) (frame : SharedFrame) (old new : View) (uses : UsesState) : Type 0 where
  pub may : SharesBlock s v act b q
  pub bytes : (shared_copy_of frame).bytes ≡ (block s b).given
  pub lives : LiesAlive s (Some (shared_copy_of frame))
  pub holds : HoldsToo s (shared_copy_of frame) new uses
  pub takes : TakesCopy shared disk s v q (shared_copy_of frame) old new

-- the page is to be given, with a frame that is its spare
pub record GivesPage (shared : Shared) (s : GuestState) (v : ℕ) (act : DevAct) (q : ℕ) (frame : Frame) (old new : View) (after : UsesState) : Type 0 where
  pub gives : to_give s v act ≡ Some q
  pub uses : page_used (act_of s v act) ≡ Some q
  pub reached : page_used (at_hand s v) ≡ Some q
  pub is_page : q < length s.pages
  pub order : List NodeId
  pub took : HasTaken s shared.table.terms.lends order frame old new after
  pub lives : LiesAlive s (Some (copy_of frame))
  pub spare : FindsSpare s shared.table.terms.lends (copy_of frame) old new

-- it is used as it is
pub record CopiesPage (shared : Shared) (disk : ℕ) (s : GuestState) (v : ℕ) (old new : View) (uses uses_after : UsesState) : Type 0 where
  pub none : TakesNone s new uses uses_after
  pub copies : Copies shared disk s v old new
  pub plain : SendsPlain shared s v old new

pub record WantsFrame (s : GuestState) (v : ℕ) (old new : View) (uses uses_after : UsesState) : Type 0 where
  pub view : new ≡ old
  pub none : TakesNone s new uses uses_after
  pub takes : TakesMemory (at_hand s v)

abbrev pub SharesPage : Shared → ℕ → GuestState → ℕ → DevAct → Result Sharing AllocError → View → View → UsesState → UsesState → Type 0
SharesPage shared disk s v act (Ok (shares.Take b q frame)) old new uses uses_after = TakesPage shared disk s v act b q.0 frame old new uses_after
SharesPage shared disk s v act (Ok (shares.Give q frame)) old new uses uses_after = GivesPage shared s v act q.0 frame old new uses_after
SharesPage shared disk s v act (Ok shares.Nothing) old new uses uses_after = CopiesPage shared disk s v old new uses uses_after
SharesPage shared disk s v act (Err e) old new uses uses_after = WantsFrame s v old new uses uses_after

-- ---- an act that is carried out

-- the monitor made the step, which sends this and ends nothing; or memory was wanting
pub record CarriesOut (old : Monitored) (p : ProcId) (v : VcpuId) (new : Monitored) : Type 0 where
  pub row : Row old.state (Emulate p v) new.state
  pub makes : Makes old (Emulate p v ∷ []) new
  pub goes_on : GoesOn new.state
  pub view : new.view ≡ old.view
  pub sends : SendsOut old v.0 new

-- all but the looks at frames is as it was
pub record StaysButView (shared : Shared) (old : Monitored) (v : ℕ) (new : Monitored) : Type 0 where
  pub same : new ≡ record old { view = new.view }
  pub copies : Copies shared old.disk old.state v old.view new.view
  pub plain : SendsPlain shared old.state v old.view new.view

pub record WantsForAct (old : Monitored) (v : ℕ) (new : Monitored) : Type 0 where
  pub same : new ≡ record old { room = new.room }
  pub takes : TakesMemory (at_hand old.state v)

-- ---- what a call leaves besides

-- nothing was told; the guest is the same one, what its packet in hand hands on too, and the room of one call is used at most
pub record Quietly (old new : Monitored) : Type 0 where
  pub notes : new.notes ≡ old.notes
  pub same : IsSameGuest old new
  pub handed : new.handed ≡ old.handed
  pub room : old.room ≤ new.room + 2

-- a move has begun for the step at hand, over which no frame was asked for
pub record BeginsFor (old : Monitored) (p : ProcId) (q : Ppn) (kind : MoveKind) (new : Monitored) : Type 0 where
  pub makes : MakesAlone old (Begin q kind (record { 0 = old.state.around.home }) (Step p) ∷ []) new
  pub view : new.view ≡ old.view

-- for the step at hand frames were asked for: a move has begun with one, or none was found and all else is as it was
abbrev pub SharesFirst : Shared → Monitored → ProcId → VcpuId → Monitored → Result (Option Ppn) AllocError → Type 0
SharesFirst shared old p v new (Ok (Some q)) = BeginsForStep shared old p v q new
SharesFirst shared old p v new (Ok None) = StaysButView shared old v.0 new
SharesFirst shared old p v new (Err e) = WantsForAct old v.0 new
