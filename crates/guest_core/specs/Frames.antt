-- How a guest's frames come and go beside its pages: a frame that is taken before a move begins, those that are given back after one has
-- ended, and the one that is counted no more.
use Rattle.std.specs.Prelude.{◌≡◌, ℕ, ◌<◌, true, List, ◌∷◌, ◌++◌, length, Option, Some, None, option_map, slice_get}
use Rattle.std.specs.Option.{option_to_list}
use Rattle.base_words.specs.Membership.{Has}
use Rattle.base_words.specs.declared.ids.FrameNo.{FrameNo}
use Rattle.base_words.specs.declared.frame.Frame.{Frame}
use Rattle.base_words.specs.declared.ids.NodeId.{NodeId}
use Rattle.cell_depend.specs.Counters.{UsesState}
use Rattle.frame_words.specs.declared.view.View.{View}
use Rattle.node_frames.specs.declared.answers.FindFault.{FindFault}
use Rattle.node_frames.specs.declared.answers.FindFault.TheVariants.{Memory, NoFrame}
use Rattle.private_machine.specs.Backing.{Copy, Change, lies_on}
use Rattle.private_machine.specs.PageMove.{kind_of, gained, target_of}
use Rattle.pmap_table.specs.Ending.{numbers_of}
use Rattle.pmap_table.specs.Frames.{copy_of}
use Rattle.pmap_table.specs.OpenMoves.{FitsChange}
use Rattle.isolation_law.specs.CellUse.{held, used_frames}
use Rattle.isolation_law.specs.GuestState.{GuestState, page}
use Rattle.isolation_law.specs.Holdings.{AllDifferent, nodes_of}
use Rattle.isolation_law.specs.MoveRows.{Fits, IsForeign, LiesAlive}
use Rattle.isolation_law.specs.Parts.{Wish}
use Rattle.guest_core.specs.Holding.{HoldsCopies, IsHolding, frames_around}
use Rattle.guest_core.specs.MoveCalls.{FindsFrame, NodesShow}
use Rattle.guest_core.specs.Using.{CountsCopies}

-- the frames of each page lie on different nodes
abbrev pub AreSpread : GuestState → Type 0
AreSpread s = (q : ℕ) → q < length s.pages → AllDifferent (nodes_of s.around (page s q))

-- Frames of these numbers are to be given back: they are those of copies that the holder has beside the guest's own.
pub record ToGiveBack (s : GuestState) (freed : List ℕ) (view : View) : Type 0 where
  pub copies : List Copy
  pub numbers : freed ≡ numbers_of copies
  pub held_too : HoldsCopies s.around (held s ++ copies) view

-- A frame of this number, if there is one, is to be counted no more: it is that of a copy, of a frame of the machine, that the counters
-- count beside those that the guest uses.
pub record ToCountNoMore (s : GuestState) (untied : Option FrameNo) (uses : UsesState) : Type 0 where
  pub copies : List Copy
  pub numbers : option_to_list (option_map (λ n. n.0) untied) ≡ numbers_of copies
  pub within : (c : Copy) → Has copies c → c.frame < frames_around s.around
  pub counted_too : CountsCopies s (used_frames s ++ copies) uses

-- the first frame that could be had on these nodes was taken, which the guest didn't hold: the holder has it and the counters count it beside
-- the guest's own
pub record HasTaken (s : GuestState) (lends : List ℕ) (order : List NodeId) (frame : Frame) (old view : View) (uses : UsesState) : Type 0 where
  pub finds : FindsFrame s.around lends order (copy_of frame) old view
  pub foreign : IsForeign s (copy_of frame)
  pub place : ℕ
  pub node : NodeId
  pub ordered : slice_get order place ≡ Some node
  pub lies : lies_on s.around.frames node.0 (copy_of frame) ≡ true
  pub held_too : HoldsCopies s.around (copy_of frame ∷ held s) view
  pub counted_too : CountsCopies s (copy_of frame ∷ used_frames s) uses

-- what a move does that is asked for: it is of the kind that was asked for, its frame fits, and the holder has that frame, and the
-- counters count it, beside the guest's own
pub record HasTakenFor (s : GuestState) (wish : Wish) (change : Change) (view : View) (uses : UsesState) : Type 0 where
  pub is_kind : kind_of change ≡ wish.kind
  pub fits : Fits s wish.node change None s.spares
  pub lives : LiesAlive s (target_of change)
  pub fits_page : FitsChange (page s wish.page) change
  pub held_too : HoldsCopies s.around (gained change ++ held s) view
  pub counted_too : CountsCopies s (gained change ++ used_frames s) uses

-- a frame that others may hold too is held once more: the holder has it and the counters count it beside the guest's own
pub record HoldsToo (s : GuestState) (copy : Copy) (view : View) (uses : UsesState) : Type 0 where
  pub held_too : HoldsCopies s.around (copy ∷ held s) view
  pub counted_too : CountsCopies s (copy ∷ used_frames s) uses

-- no frame was taken
pub record TakesNone (s : GuestState) (view : View) (uses uses_after : UsesState) : Type 0 where
  pub holding : IsHolding s view
  pub uses_stay : uses_after ≡ uses

-- and why: the nodes showed it, or memory was wanting and nothing was looked at
abbrev pub Refuses : GuestState → List ℕ → ℕ → List NodeId → FindFault → View → View → Type 0
Refuses s lends home order Memory old new = new ≡ old
Refuses s lends home order (NoFrame shown) old new = NodesShow s.around lends home order shown old new
