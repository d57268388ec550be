-- What calls do for moves of pages: they acknowledge and finish them, begin them, wait for them, and note those that can't be begun.
use Rattle.std.specs.Prelude.{◌≡◌, ◌≢◌, ◌⊎◌, ℕ, suc, ◌<◌, List, [], ◌∷◌, ◌++◌, length, map, Bool, true, false, if◌then◌else◌, Option, Some, None, Result, Ok, Err}
use Rattle.std.specs.declared.alloc.AllocError.{AllocError}
use Rattle.base_words.specs.Membership.{HasNone}
use Rattle.base_words.specs.declared.ids.CellId.{CellId}
use Rattle.base_words.specs.declared.ids.NodeId.{NodeId}
use Rattle.base_words.specs.declared.ids.Ppn.{Ppn}
use Rattle.base_words.specs.declared.ids.ProcId.{ProcId}
use Rattle.base_words.specs.declared.ids.VcpuId.{VcpuId}
use Rattle.base_words.specs.declared.events.Event.{Event}
use Rattle.base_words.specs.declared.events.Event.TheVariants.{Begin, Ack, Finish, Skip, End as Ending}
use Rattle.base_words.specs.declared.moves.By.{By}
use Rattle.base_words.specs.declared.moves.By.TheVariants.{Plan, Due, Step, Packet}
use Rattle.base_words.specs.declared.moves.MoveKind.TheVariants.{Migrate, Replicate, Collapse}
use Rattle.frame_words.specs.declared.view.View.{View}
use Rattle.node_frames.specs.Layout.{Layout}
use Rattle.node_frames.specs.Searches.{Finds, FindsNone}
use Rattle.node_frames.specs.declared.answers.Shown.{Shown as Entry}
use Rattle.private_machine.specs.Backing.{Change, Copy, Move, Page}
use Rattle.pmap_table.specs.Tracking.{waits_for, is_ready, nobody, IsLowest, HoldsNowhere}
use Rattle.shootdown.specs.declared.notes.Note.{Note}
use Rattle.isolation_law.specs.Causes.{first_cause, seeks_frame}
use Rattle.base_words.specs.declared.events.End.TheVariants.{Budget}
use Rattle.isolation_law.specs.GuestState.{GuestState, page, due_on}
use Rattle.isolation_law.specs.Parts.{Wish, Cause, Ended, DeadCell, Shared, Replicated, SameNode, NoReplica, NoFrame}
use Rattle.isolation_law.specs.Phases.{MayAct}
use Rattle.isolation_law.specs.Run.{Run}
use Rattle.isolation_law.specs.StepAct.{at_hand}
use Rattle.isolation_law.specs.Surroundings.{Surroundings, home_cell}
use Rattle.guest_course.specs.Acting.{page_used, IsOwnRead, IsTaken}
use Rattle.guest_course.specs.EndCalls.{EndsSo, letting_go}
use Rattle.guest_course.specs.RefillCalls.{TrapsOn}
use Rattle.guest_course.specs.SkipView.{shown_of}
use Rattle.guest_core.specs.Asks.{note_of}
use Rattle.guest_core.specs.GuestView.{Monitored}
use Rattle.guest_core.specs.Making.{Makes, MakesAlone, Rests}
use Rattle.guest_core.specs.declared.answers.Asked.{Asked}
use Rattle.guest_core.specs.declared.answers.Asked.TheVariants as asked
use Rattle.guest_core.specs.declared.answers.Ready.{Ready}
use Rattle.guest_core.specs.declared.answers.Ready.TheVariants as ready

-- ---- before a step

-- no page waits for the processor, and no move is ready to be finished
pub record IsAtRest (s : GuestState) (p : ℕ) : Type 0 where
  pub acknowledged : HoldsNowhere (waits_for p) s.pages
  pub finished : HoldsNowhere is_ready s.pages

-- the processor dropped what it had of the lowest page that waited for it
pub record Acknowledges (old : Monitored) (p : ProcId) (q : Ppn) (new : Monitored) : Type 0 where
  pub lowest : IsLowest (waits_for p.0) old.state.pages q.0
  pub makes : MakesAlone old (Ack p q ∷ []) new

-- no page waited for the processor, and the lowest page's move that was ready is done
pub record FinishesLowest (old : Monitored) (p : ProcId) (q : Ppn) (new : Monitored) : Type 0 where
  pub acknowledged : HoldsNowhere (waits_for p.0) old.state.pages
  pub lowest : IsLowest is_ready old.state.pages q.0
  pub makes : MakesAlone old (Finish q ∷ []) new

-- who might act may still
abbrev pub StillActs : Monitored → Monitored → Type 0
StillActs old new = (p : ℕ) → MayAct old.state p → MayAct new.state p

-- ---- a step that meets a move

-- the step at hand is on this page: the processor traps for an access to it that the guest grants, or for a frame of it that lies in a
-- failed cell, or a block comes into it, or one or a packet comes from it
abbrev pub StepIsOn : GuestState → ℕ → ℕ → ℕ → Type 0
StepIsOn s p v q = TrapsOn s p v q ⊎ (page_used (at_hand s v) ≡ Some q)

-- so it is, and not for the disk read for which the page is taken shared already
abbrev pub MeetsPage : GuestState → ℕ → ℕ → ℕ → Type 0
MeetsPage s p v q = TrapsOn s p v q ⊎ ((page_used (at_hand s v) ≡ Some q) × (IsOwnRead s v q → ⊥))

-- the page has a move, which does this
pub record IsDoing (s : GuestState) (q : ℕ) (change : Change) : Type 0 where
  pub move : Move
  pub open_move : (page s q).move ≡ Some move
  pub does : move.change ≡ change

-- the page has a move that waits for these processors, of which there is one
pub record HasWaiting (s : GuestState) (q : ℕ) (waiting : List Bool) : Type 0 where
  pub move : Move
  pub open_move : (page s q).move ≡ Some move
  pub waiting_is : move.waiting ≡ waiting
  pub somebody : HasNone waiting → ⊥

-- the step waits for it
pub record WaitsForMove (old : Monitored) (p : ProcId) (v : VcpuId) (q : Ppn) (set : List Bool) (new : Monitored) : Type 0 where
  pub rest : IsAtRest old.state p.0
  pub step : StepIsOn old.state p.0 v.0 q.0
  pub waiting : HasWaiting old.state q.0 set
  pub rests : Rests old new

-- the page was being taken shared for something else, and is let go
pub record LetsGoOfPage (old : Monitored) (p : ProcId) (v : VcpuId) (q : Ppn) (new : Monitored) : Type 0 where
  pub rest : IsAtRest old.state p.0
  pub meets : MeetsPage old.state p.0 v.0 q.0
  pub taken : IsTaken old.state q.0
  pub makes : MakesAlone old (Finish q ∷ []) new

-- ---- a move that is asked for

-- a move to a node may be asked for, and a collapse with the home node
abbrev pub IsPlanned : Surroundings → Wish → Type 0
IsPlanned w wish = (wish.kind ≡ Migrate) ⊎ ((wish.kind ≡ Replicate) ⊎ ((wish.kind ≡ Collapse) × (wish.node ≡ w.home)))

-- a guest may be asked for this move: it has the page, until its end, and the machine has the node
pub record MayAsk (g : Monitored) (wish : Wish) : Type 0 where
  pub is_page : g.state.end ≡ None → wish.page < g.start.image.pages
  pub is_node : wish.node < length g.start.around.nodes
  pub planned : IsPlanned g.start.around wish

-- who asks for it through a processor: the policy, where just that is due there, and else the plan
abbrev pub AsksBy : GuestState → ProcId → Wish → By → Type 0
AsksBy s p wish (Plan q) = (q ≡ p) × (due_on s p.0 ≢ Some wish)
AsksBy s p wish (Due q) = (q ≡ p) × (due_on s p.0 ≡ Some wish)
AsksBy s p wish (Step q) = ⊥
AsksBy s p wish Packet = ⊥

-- it was asked for, and has begun
abbrev pub BeginsMove : Monitored → By → Wish → Monitored → Type 0
BeginsMove old by wish new =
    MakesAlone old (Begin (record { 0 = wish.page }) wish.kind (record { 0 = wish.node }) by ∷ []) new

-- the machine's frames, as a guest is told of them
pub record IsLayoutOf (w : Surroundings) (layout : Layout) : Type 0 where
  pub nodes : layout.nodes ≡ length w.nodes
  pub frames : layout.frames ≡ w.frames
  pub cells : map (λ (c : CellId). c.0) layout.cells ≡ w.nodes

-- the nodes of which a frame was wanted showed this to the looks of this call
pub record NodesShow (w : Surroundings) (lends : List ℕ) (home : ℕ) (order : List NodeId) (shown : List Entry) (old new : View) : Type 0 where
  pub layout : Layout
  pub lies : IsLayoutOf w layout
  pub finds : FindsNone layout lends home order shown old new

-- a frame was found in this order of nodes
pub record FindsFrame (w : Surroundings) (lends : List ℕ) (order : List NodeId) (copy : Copy) (old new : View) : Type 0 where
  pub layout : Layout
  pub lies : IsLayoutOf w layout
  pub finds : Finds layout lends (home_cell w) order copy.frame copy.generation old new

-- one node showed this
abbrev pub NodeShows : Surroundings → List ℕ → ℕ → ℕ → List Entry → View → View → Type 0
NodeShows w lends home node shown old new = NodesShow w lends home (record { 0 = node } ∷ []) shown old new

-- a cause that the guest's state shows; of a frame that is wanting, what its node showed, which is what is noted
abbrev pub SeesCause : Surroundings → List ℕ → ℕ → ℕ → Cause → View → View → Type 0
SeesCause w lends home node Ended old new = new ≡ old
SeesCause w lends home node (DeadCell cell) old new = new ≡ old
SeesCause w lends home node Shared old new = new ≡ old
SeesCause w lends home node Replicated old new = new ≡ old
SeesCause w lends home node SameNode old new = new ≡ old
SeesCause w lends home node NoReplica old new = new ≡ old
SeesCause w lends home node (NoFrame list) old new = (shown : List Entry) × (list ≡ map shown_of shown) × NodeShows w lends home node shown old new

-- what was asked for is noted with this cause
pub record NotesSkip (old : Monitored) (by : By) (wish : Wish) (cause : Cause) (new : Monitored) : Type 0 where
  pub makes : MakesAlone old (Skip (length old.state.skips) ∷ []) new
  pub noted : new.state.skips ≡ old.state.skips ++ record { wish = wish; by = by; cause = cause } ∷ []
  pub view : new.view ≡ old.view

-- it can't be begun, for a cause that was looked for
pub record SkipsMove (lends : List ℕ) (home : ℕ) (old : Monitored) (by : By) (wish : Wish) (new : Monitored) : Type 0 where
  pub cause : Cause
  pub makes : MakesAlone old (Skip (length old.state.skips) ∷ []) new
  pub noted : new.state.skips ≡ old.state.skips ++ record { wish = wish; by = by; cause = cause } ∷ []
  pub sees : SeesCause old.state.around lends home wish.node cause old.view new.view

-- the page has a move, and the guest hasn't ended
pub record IsBusy (old : Monitored) (q : ℕ) (waiting : List Bool) (new : Monitored) : Type 0 where
  pub not_ended : old.state.end ≡ None
  pub move : Move
  pub open_move : (page old.state q).move ≡ Some move
  pub waiting_is : move.waiting ≡ waiting
  pub rests : Rests old new

-- no entry was made, and a frame is sought for the page, which has no other move
pub record WantsTarget (old : Monitored) (p : ProcId) (wish : Wish) (new : Monitored) : Type 0 where
  pub no_cause : first_cause old.state p.0 wish ≡ None
  pub no_move : (page old.state wish.page).move ≡ None
  pub seeks : seeks_frame wish.kind ≡ true
  pub rests : Rests old new

-- what came of it, where a processor asked
abbrev pub AsksMove : List ℕ → ℕ → Monitored → ProcId → By → Wish → Monitored → Result Asked AllocError → Type 0
AsksMove lends home old p by wish new (Ok asked.Begun) = BeginsMove old by wish new
AsksMove lends home old p by wish new (Ok asked.Skipped) = SkipsMove lends home old by wish new
AsksMove lends home old p by wish new (Ok (asked.Busy waiting)) = IsBusy old wish.page waiting new
AsksMove lends home old p by wish new (Err e) = WantsTarget old p wish new

-- what is told of an ask by the plan, unless the page is busy or memory was wanting
abbrev pub told_of_ask : Wish → Result Asked AllocError → List Note
told_of_ask wish (Ok asked.Begun) = note_of wish ∷ []
told_of_ask wish (Ok asked.Skipped) = note_of wish ∷ []
told_of_ask wish (Ok (asked.Busy waiting)) = []
told_of_ask wish (Err e) = []

-- of one by the policy nothing is told
abbrev pub told_by : By → Wish → Result Asked AllocError → List Note
told_by (Plan p) wish answer = told_of_ask wish answer
told_by (Due p) wish answer = []
told_by (Step p) wish answer = []
told_by Packet wish answer = []

-- ---- moves that are done

-- nobody waits for the move of a page, which has one
abbrev pub is_done : Option Move → Bool
is_done None = false
is_done (Some m) = nobody m.waiting

pub record HasNoMove (old : Monitored) (q : ℕ) (new : Monitored) : Type 0 where
  pub none : (page old.state q).move ≡ None
  pub rests : Rests old new

pub record StillWaits (old : Monitored) (q : ℕ) (set : List Bool) (new : Monitored) : Type 0 where
  pub waiting : HasWaiting old.state q set
  pub rests : Rests old new

-- nobody waited for the move of a page, and it is done
pub record FinishesMove (old : Monitored) (q : Ppn) (new : Monitored) : Type 0 where
  pub done : is_done (page old.state q.0).move ≡ true
  pub makes : MakesAlone old (Finish q ∷ []) new

abbrev pub FinishesReady : Monitored → Ppn → Monitored → Ready → Type 0
FinishesReady old q new ready.Finished = FinishesMove old q new
FinishesReady old q new (ready.Waits waiting) = StillWaits old q.0 waiting new
FinishesReady old q new ready.NoMove = HasNoMove old q.0 new

-- the ends of all moves for which nobody waits, in order of their pages, counted from q
abbrev pub finishing : ℕ → List Page → List Event
finishing q [] = []
finishing q (g ∷ pages) = (if is_done g.move then Finish (record { 0 = q }) ∷ [] else []) ++ finishing (suc q) pages

-- there is none any more
abbrev pub NoneIsDone : GuestState → Type 0
NoneIsDone s = (q : ℕ) → is_done (page s q).move ≡ false

-- these moves are finished, the pages are let go that are being taken shared still, and the guest ends for the end of the plan
pub record EndsByPlan (old new : Monitored) : Type 0 where
  pub mid : GuestState
  pub finishes : Run old.state (finishing 0 old.state.pages) mid
  pub ended : new.state.end ≡ Some Budget
  pub devices : new.state.devices ≡ old.state.devices
  pub hand : new.state.hand ≡ old.state.hand
  pub ends : EndsSo mid Budget new.state
  pub makes : Makes old (finishing 0 old.state.pages ++ (letting_go 0 mid.pages ++ Ending Budget ∷ [])) new
