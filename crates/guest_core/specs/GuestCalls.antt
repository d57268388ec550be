-- What each call of a guest does, by its answer: which entries its journal gains, and which notes its seat and the token.
use Rattle.std.specs.Prelude.{◌≡◌, ◌≢◌, ◌⊎◌, ℕ, ◌<◌, ◌≤◌, ◌+◌, List, [], ◌∷◌, ◌++◌, length, map, replicate, Bool, true, false, if◌then◌else◌, Option, Some, None, IfSome, unwrap_or, Result, Ok, Err}
use Rattle.std.specs.declared.alloc.AllocError.{AllocError}
use Rattle.base_words.specs.declared.ids.ProcId.{ProcId}
use Rattle.base_words.specs.declared.ids.VcpuId.{VcpuId}
use Rattle.base_words.specs.declared.events.Event.{Event}
use Rattle.base_words.specs.declared.events.Event.TheVariants.{Direct, Refill, Emulate, Load, End as Ending}
use Rattle.base_words.specs.declared.events.End.{End}
use Rattle.base_words.specs.declared.events.End.TheVariants.{Halted as ByHalt, Budget}
use Rattle.base_words.specs.declared.trap.Access.{Access}
use Rattle.base_words.specs.declared.trap.HwStep.{HwStep}
use Rattle.base_words.specs.declared.trap.HwStep.TheVariants as steps
use Rattle.base_words.specs.declared.trap.TrapCause.{TrapCause}
use Rattle.shootdown.specs.declared.notes.Note.{Note}
use Rattle.shootdown.specs.declared.notes.Note.TheVariants.{Made, Halted, Ended, Dead}
use Rattle.shootdown.specs.Notes.{Token, sided}
use Rattle.frame_words.specs.declared.view.View.{View}
use Rattle.private_machine.specs.Backing.{Page}
use Rattle.isolation_law.specs.GuestState.{GuestState, processor, vcpu_of, is_dead}
use Rattle.isolation_law.specs.MachineEvent.{Row}
use Rattle.isolation_law.specs.Phases.{all_halted}
use Rattle.isolation_law.specs.StepAct.{at_hand}
use Rattle.isolation_law.specs.WireHistory.{sent_to}
use Rattle.wire_queue.specs.Packets.{packet_of}
use Rattle.guest_course.specs.declared.posting.Outgoing.{Outgoing}
use Rattle.guest_course.specs.EndCalls.{letting_go}
use Rattle.guest_course.specs.Posting.{IsOther, put_on, sent_handed}
use Rattle.guest_course.specs.StepCalls.{MayStep, StepsDirect, TrapsFor}
use Rattle.guest_course.specs.Wanting.{TakesMemory}
use Rattle.guest_core.specs.GuestView.{Monitored, IsSameGuest, Shared}
use Rattle.guest_core.specs.Making.{Makes, MakesAlone, Rests}
use Rattle.guest_core.specs.MoveCalls.{IsAtRest, Acknowledges, FinishesLowest, LetsGoOfPage, WaitsForMove}
use Rattle.guest_core.specs.Sharing.{BeginsForStep, Copies, SendsPlain, UsesFree}
use Rattle.guest_core.specs.Wiring.{SentOn}
use Rattle.guest_core.specs.declared.answers.Loaded.{Loaded}
use Rattle.guest_core.specs.declared.answers.Loaded.TheVariants as loaded
use Rattle.guest_core.specs.declared.answers.Ahead.{Ahead}
use Rattle.guest_core.specs.declared.answers.Turn.{Turn}
use Rattle.guest_core.specs.declared.answers.Turn.TheVariants as turn
use Rattle.isolation_law.specs.Surroundings.{cell_of_processor}

-- the seat's notes and the token's grew by these
pub record Learns (old : Monitored) (token : Token) (told : List Note) (new : Monitored) (token_after : Token) : Type 0 where
  pub seat : new.notes ≡ old.notes ++ map (sided token.number) told
  pub token_is : token_after ≡ record token { notes = token.notes ++ map (sided old.number) told }

-- ---- what every call with a token asks, and leaves

-- a token's processor is one of the guest's, and its board the one that made the guest's seat
pub record MayNote (g : Monitored) (token : Token) : Type 0 where
  pub board : token.board ≡ g.board
  pub is_processor : token.number < length g.start.around.processors

-- the token may note with the guest, which hasn't ended for the end of the plan
pub record MayCall (g : Monitored) (token : Token) : Type 0 where
  pub notes : MayNote g token
  pub before : g.state.end ≢ Some Budget

-- this was told, the guest is the same one, a packet in hand hands on what it did, and the room of one call is used at most
pub record Leaves (old : Monitored) (token : Token) (told : List Note) (new : Monitored) (token_after : Token) : Type 0 where
  pub learns : Learns old token told new token_after
  pub same : IsSameGuest old new
  pub handed : new.handed ≡ old.handed
  pub room : old.room ≤ new.room + 2

-- the processor of a token, and the virtual processor that is loaded there
abbrev pub processor_of : Token → ProcId
processor_of token = record { 0 = token.number }

abbrev pub loaded_on : Monitored → Token → VcpuId
loaded_on g token = record { 0 = unwrap_or (processor g.state token.number).loaded 0 }

-- ---- load

-- the processor's cell has failed
pub record FindsDead (old : Monitored) (p cell : ℕ) (new : Monitored) : Type 0 where
  pub not_ended : old.state.end ≡ None
  pub own : cell ≡ cell_of_processor old.start.around p
  pub dead : is_dead old.state cell ≡ true
  pub rests : Rests old new

pub record IsLoadedOn (old : Monitored) (p v q : ℕ) (new : Monitored) : Type 0 where
  pub not_ended : old.state.end ≡ None
  pub lives : is_dead old.state (cell_of_processor old.state.around p) ≡ false
  pub there : (processor old.state q).loaded ≡ Some v
  pub rests : Rests old new

pub record HasEnded (old : Monitored) (end : End) (new : Monitored) : Type 0 where
  pub ended : old.state.end ≡ Some end
  pub rests : Rests old new

abbrev pub LoadsVcpu : Monitored → ProcId → VcpuId → Monitored → Loaded → Type 0
LoadsVcpu old p v new loaded.Done = MakesAlone old (Load p v ∷ []) new
LoadsVcpu old p v new (loaded.On q) = IsLoadedOn old p.0 v.0 q.0 new
LoadsVcpu old p v new (loaded.Dead cell) = FindsDead old p.0 cell.0 new
LoadsVcpu old p v new (loaded.Ended end) = HasEnded old end new

abbrev pub told_of_load : ProcId → VcpuId → Loaded → List Note
told_of_load p v loaded.Done = Made (Load p v) ∷ []
told_of_load p v (loaded.On q) = []
told_of_load p v (loaded.Dead cell) = Dead cell ∷ []
told_of_load p v (loaded.Ended end) = Ended end ∷ []

-- ---- steps that the processor makes by itself, one after the other

-- so many, before which no page waited for the processor and no move was ready
pub record StepsAhead (old : Monitored) (token : Token) (v : VcpuId) (count : ℕ) (new : Monitored) (token_after : Token) : Type 0 where
  pub rest : count ≢ 0 → IsAtRest old.state token.number
  pub makes : MakesAlone old (replicate count (Direct (processor_of token) v)) new
  pub learns : Learns old token (replicate count (Made (Direct (processor_of token) v))) new token_after
  pub end : new.state.end ≡ old.state.end
  pub same : IsSameGuest old new
  pub handed : new.handed ≡ old.handed

-- ---- turn

-- the processor made the step by itself, with these accesses
pub record TurnsDirect (old : Monitored) (p : ProcId) (v : VcpuId) (access : Access) (new : Monitored) : Type 0 where
  pub rest : IsAtRest old.state p.0
  pub makes : MakesAlone old (Direct p v ∷ []) new
  pub direct : StepsDirect old.state p.0 v.0 new.state access

-- the entries of a step by the monitor's hand: the step, and where it halted the last virtual processor the end, with the pages that are let
-- go before it
abbrev pub step_entries : ProcId → VcpuId → Bool → List Page → List Event
step_entries p v true pages = Emulate p v ∷ (letting_go 0 pages ++ Ending ByHalt ∷ [])
step_entries p v false pages = Emulate p v ∷ []

abbrev pub end_of : Bool → Option End
end_of halted = if halted then Some ByHalt else None

-- what was sent to other guests was put on their wires, of which a full one lost it; with the frame of its page, where that is one that
-- others may hold too, and the receiver may share it
pub record SendsOut (old : Monitored) (v : ℕ) (new : Monitored) : Type 0 where
  pub out : Option Outgoing
  pub whole : IfSome out (λ o. (packet_of o.packet).whole ≡ sent_handed old.state v o.to.0)
  pub sends : (to : ℕ) → IsOther old.state to → sent_to new.state to ≡ sent_to old.state to ++ put_on out to
  pub sent : SentOn old.passes out new.passes

-- what a step by the monitor's hand does with a page that it uses, between what the guest held before it and after it
pub record UsesPage (shared : Shared) (disk : ℕ) (s : GuestState) (v : ℕ) (old new : View) : Type 0 where
  pub free : UsesFree s v
  pub copies : Copies shared disk s v old new
  pub plain : SendsPlain shared s v old new

pub record TurnsEmulate (shared : Shared) (old : Monitored) (p : ProcId) (v : VcpuId) (new : Monitored) : Type 0 where
  pub rest : IsAtRest old.state p.0
  pub uses : UsesPage shared old.disk old.state v.0 old.view new.view
  pub mid : GuestState
  pub step : Row old.state (Emulate p v) mid
  pub makes : Makes old (step_entries p v (all_halted new.state.vcpus) mid.pages) new
  pub end : new.state.end ≡ end_of (all_halted new.state.vcpus)
  pub sends : SendsOut old v.0 new

-- the processor's TLB got a half
pub record TurnsRefill (old : Monitored) (p : ProcId) (new : Monitored) : Type 0 where
  pub rest : IsAtRest old.state p.0
  pub makes : MakesAlone old (Refill p ∷ []) new

-- the virtual processor that is loaded has halted
pub record HasHalted (old : Monitored) (p v : ℕ) (new : Monitored) : Type 0 where
  pub rest : IsAtRest old.state p
  pub not_ended : old.state.end ≡ None
  pub halted : (vcpu_of old.state v).halted ≡ true
  pub rests : Rests old new

-- what was asked of frames of others before a step, and what they refused
pub record AsksFrames (shared : Shared) (disk : ℕ) (s : GuestState) (v : ℕ) (old new : View) : Type 0 where
  pub copies : Copies shared disk s v old new
  pub plain : SendsPlain shared s v old new

-- no entry was made, and the step at hand takes memory; all but such looks at frames is as it was
pub record WantsMemory (shared : Shared) (old : Monitored) (v : ℕ) (new : Monitored) : Type 0 where
  pub same : new ≡ record old { view = new.view; room = new.room }
  pub looks : (new.view ≡ old.view) ⊎ AsksFrames shared old.disk old.state v old.view new.view
  pub takes : TakesMemory (at_hand old.state v)

abbrev pub TurnAnswers : Shared → Monitored → ProcId → VcpuId → Monitored → Turn → Type 0
TurnAnswers shared old p v new (turn.Stepped (Some access)) = TurnsDirect old p v access new
TurnAnswers shared old p v new (turn.Stepped None) = TurnsEmulate shared old p v new
TurnAnswers shared old p v new turn.Refilled = TurnsRefill old p new
TurnAnswers shared old p v new (turn.Acked q) = Acknowledges old p q new
TurnAnswers shared old p v new (turn.Begun q) = BeginsForStep shared old p v q new
TurnAnswers shared old p v new (turn.Finished q) = FinishesLowest old p q new ⊎ LetsGoOfPage old p v q new
TurnAnswers shared old p v new (turn.Waits q waiting) = WaitsForMove old p v q waiting new
TurnAnswers shared old p v new turn.VcpuHalted = HasHalted old p.0 v.0 new
TurnAnswers shared old p v new (turn.GuestEnded end) = HasEnded old end new

-- a turn of the virtual processor that is loaded
abbrev pub Turns : Shared → Monitored → ProcId → VcpuId → Monitored → Result Turn AllocError → Type 0
Turns shared old p v new (Ok answer) = TurnAnswers shared old p v new answer
Turns shared old p v new (Err e) = WantsMemory shared old v.0 new

abbrev pub told_of_turn : ProcId → VcpuId → Result Turn AllocError → List Note
told_of_turn p v (Ok (turn.Stepped (Some access))) = Made (Direct p v) ∷ []
told_of_turn p v (Ok (turn.Stepped None)) = Made (Emulate p v) ∷ []
told_of_turn p v (Ok turn.Refilled) = []
told_of_turn p v (Ok (turn.Acked q)) = []
told_of_turn p v (Ok (turn.Begun q)) = []
told_of_turn p v (Ok (turn.Finished q)) = []
told_of_turn p v (Ok (turn.Waits q waiting)) = []
told_of_turn p v (Ok turn.VcpuHalted) = Halted v ∷ []
told_of_turn p v (Ok (turn.GuestEnded end)) = Ended end ∷ []
told_of_turn p v (Err e) = []

-- ---- steps ahead, and the turn that comes then

-- nothing was done but that room was made
pub record MakesRoom (old : Monitored) (new : Monitored) : Type 0 where
  pub same : IsSameGuest old new
  pub rests : Rests old new
  pub notes : new.notes ≡ old.notes
  pub handed : new.handed ≡ old.handed

-- the turn was made, once there was room for it
pub record TurnsThen (shared : Shared) (old : Monitored) (token : Token) (v : VcpuId) (result : Result Turn AllocError) (new : Monitored) (token_after : Token) : Type 0 where
  pub mid : Monitored
  pub room : MakesRoom old mid
  pub turns : Turns shared mid (processor_of token) v new result
  pub leaves : Leaves mid token (told_of_turn (processor_of token) v result) new token_after

-- or none was
abbrev pub MayTurn : Shared → Monitored → Token → VcpuId → Option (Result Turn AllocError) → Monitored → Token → Type 0
MayTurn shared old token v None new token_after = MakesRoom old new × (token_after ≡ token)
MayTurn shared old token v (Some result) new token_after = TurnsThen shared old token v result new token_after

-- so many steps that the processor made by itself, and the turn of the one that trapped, if it was made
pub record TurnsAhead (shared : Shared) (old : Monitored) (token : Token) (v : VcpuId) (ahead : Ahead) (new : Monitored) (token_after : Token) : Type 0 where
  pub mid : Monitored
  pub between : Token
  pub steps : StepsAhead old token v ahead.steps mid between
  pub turn : MayTurn shared mid between v ahead.turn new token_after

-- the cause for which a step trapped
abbrev pub trap_in : HwStep → Option TrapCause
trap_in (steps.Direct access) = None
trap_in (steps.Trap cause) = Some cause

-- the virtual processor's step traps on the token's processor, for this cause, and may be made
pub record TrapsNext (g : Monitored) (token : Token) (v : VcpuId) (cause : TrapCause) : Type 0 where
  pub traps : TrapsFor g.state token.number v.0 cause
  pub may : MayStep g.state token.number v.0
