-- Moves: how they begin, by whom they are asked for, and how they end.
use Rattle.std.specs.Prelude.{◌≡◌, ◌≢◌, ◌⊎◌, ℕ, ◌<◌, Bool, true, false, List, map, remove, length, Option, Some, None, Err, slice_get}
use Rattle.base_words.specs.declared.moves.By.{By}
use Rattle.base_words.specs.declared.moves.By.TheVariants.{Plan, Due, Step, Packet}
use Rattle.base_words.specs.declared.moves.MoveKind.{MoveKind}
use Rattle.base_words.specs.declared.moves.MoveKind.TheVariants.{Migrate, Replicate, Collapse}
use Rattle.base_words.specs.Membership.{HasNone, Has}
use Rattle.private_machine.specs.Backing.{Copy, Change, Migrates, Replicates, Collapses, Breaks, TakesShared, GivesShared, Move, lies_on}
use Rattle.private_machine.specs.HardwareStep.{Trap}
use Rattle.private_machine.specs.Operation.{Packet as InHand, Operation, ReadsBlock, Delivers}
use Rattle.private_machine.specs.PageMove.{kind_of, target_of, begun, finished, spares_finished}
use Rattle.private_machine.specs.SecondLevel.{seconds_without_page}
use Rattle.isolation_law.specs.Surroundings.{cell_of_frame}
use Rattle.isolation_law.specs.Parts.{Wish}
use Rattle.isolation_law.specs.GuestState.{GuestState, page, due_on, block, is_dead, with_page, restarted, with_operation}
use Rattle.isolation_law.specs.Causes.{seeks_frame, first_cause}
use Rattle.isolation_law.specs.CellUse.{held}
use Rattle.isolation_law.specs.Dues.{cleared}
use Rattle.isolation_law.specs.Needs.{Need, LosesFrame, needed, for_packet}
use Rattle.isolation_law.specs.Phases.{GoesOn, Runs}
use Rattle.isolation_law.specs.StepAct.{at_hand}
use Rattle.isolation_law.specs.Traps.{step_on}

-- a move to a node is what the plan or the policy can ask for; a collapse is asked for with the home node
abbrev pub IsPlanned : GuestState → Wish → Type 0
IsPlanned s wish = (wish.kind ≡ Migrate) ⊎ ((wish.kind ≡ Replicate) ⊎ ((wish.kind ≡ Collapse) × (wish.node ≡ s.around.home)))

pub record PlanAsks (s : GuestState) (p : ℕ) (wish : Wish) : Type 0 where
  pub planned : IsPlanned s wish
  pub not_due : due_on s p ≢ Some wish

-- a choice of the policy, which is to migrate or to replicate
pub record DueAsks (s : GuestState) (p : ℕ) (wish : Wish) : Type 0 where
  pub is_due : due_on s p ≡ Some wish
  pub seeks : seeks_frame wish.kind ≡ true

-- what is asked for, as a need
abbrev pub as_need : Wish → Option Operation → Need
as_need wish operation = record { page = wish.page; kind = wish.kind; operation = operation }

-- the hardware traps on a dead frame of a page, which has to be collapsed
pub record StepLoses (s : GuestState) (p v : ℕ) (wish : Wish) (operation : Option Operation) : Type 0 where
  pub trap : Trap
  pub traps : step_on s p v ≡ Err trap
  pub loses : LosesFrame s trap wish.page
  pub is_collapse : wish.kind ≡ Collapse
  pub for_none : operation ≡ None

-- the step of what is loaded on a processor needs this move, whether it is to share or to copy; or that of the hardware does
pub record StepAsks (s : GuestState) (p : ℕ) (wish : Wish) (operation : Option Operation) : Type 0 where
  pub v : ℕ
  pub runs : Runs s p v
  pub shares : Bool
  pub needs : (needed s v shares (at_hand s v) ≡ Some (as_need wish operation)) ⊎ StepLoses s p v wish operation
  pub at_home : wish.node ≡ s.around.home

pub record PacketAsks (s : GuestState) (wish : Wish) (operation : Option Operation) : Type 0 where
  pub packet : InHand
  pub in_hand : s.hand ≡ Some packet
  pub armed : s.devices.armed ≡ Some wish.page
  pub lives : is_dead s packet.cell ≡ false
  pub shares : Bool
  pub needs : for_packet s shares packet wish.page ≡ Some (as_need wish operation)
  pub at_home : wish.node ≡ s.around.home

-- who asks for a move that begins
abbrev pub Asks : GuestState → By → Wish → Option Operation → Type 0
Asks s (Plan p) wish operation = PlanAsks s p.0 wish × (first_cause s p.0 wish ≡ None) × (operation ≡ None)
Asks s (Due p) wish operation = DueAsks s p.0 wish × (first_cause s p.0 wish ≡ None) × (operation ≡ None)
Asks s (Step p) wish operation = StepAsks s p.0 wish operation
Asks s Packet wish operation = PacketAsks s wish operation

-- the guest holds no frame of this number
abbrev pub IsForeign : GuestState → Copy → Type 0
IsForeign s target = (c : Copy) → Has (held s) c → c.frame ≢ target.frame

-- a spare is taken out for a break: any of them
pub record TakesSpare (spares : List Copy) (target : Copy) (rest : List Copy) : Type 0 where
  pub place : ℕ
  pub is_it : slice_get spares place ≡ Some target
  pub others : rest ≡ remove spares place

-- the bytes of a frame that is taken shared: those of the block, as the disk was given, or of the packet
abbrev pub bytes_for : GuestState → Operation → List ℕ
bytes_for s (ReadsBlock v b) = (block s b).given
bytes_for s (Delivers place packet) = packet.bytes

abbrev pub HasBytesFor : GuestState → Copy → Option Operation → Type 0
HasBytesFor s target None = ⊥
HasBytesFor s target (Some operation) = target.bytes ≡ bytes_for s operation

-- what holds of the target and of the spares that stay
abbrev pub Fits : GuestState → ℕ → Change → Option Operation → List Copy → Type 0
Fits s node (Migrates target) operation rest = (lies_on s.around.frames node target ≡ true) × IsForeign s target × (rest ≡ s.spares)
Fits s node (Replicates target) operation rest = (lies_on s.around.frames node target ≡ true) × IsForeign s target × (rest ≡ s.spares)
Fits s node Collapses operation rest = rest ≡ s.spares
Fits s node (Breaks target) operation rest = TakesSpare s.spares target rest
Fits s node (TakesShared target) operation rest = HasBytesFor s target operation × (rest ≡ s.spares)
Fits s node (GivesShared target) operation rest = IsForeign s target × (rest ≡ s.spares)

abbrev pub LiesAlive : GuestState → Option Copy → Type 0
LiesAlive s None = Unit {0}
LiesAlive s (Some target) = is_dead s (cell_of_frame s.around target.frame) ≡ false

-- what is left by a begin: second-level entries of the page are dropped, its counters and mark start anew
abbrev pub with_begun : GuestState → ℕ → Change → Option Operation → List Copy → GuestState
with_begun s q change operation rest =
    cleared q (restarted q (with_operation q operation (record (with_page s q (begun change (page s q))) { spares = rest; seconds = map (seconds_without_page q) s.seconds })))

-- A move begins on a page without one.
pub record Begins (s : GuestState) (q : ℕ) (kind : MoveKind) (node : ℕ) (by : By) (t : GuestState) : Type 0 where
  pub goes_on : GoesOn s
  pub is_page : q < length s.pages
  pub rests : (page s q).move ≡ None
  pub change : Change
  pub is_kind : kind_of change ≡ kind
  pub operation : Option Operation
  pub asked : Asks s by (record { page = q; kind = kind; node = node }) operation
  pub rest : List Copy
  pub fits : Fits s node change operation rest
  pub lives : LiesAlive s (target_of change)
  pub after : t ≡ with_begun s q change operation rest

-- what is left by the end of a move
abbrev pub with_finished : GuestState → ℕ → Change → GuestState
with_finished s q change =
    cleared q (with_operation q None (record (with_page s q (finished change (page s q))) { spares = spares_finished change s.spares }))

-- A move for which no processor waits is done.
pub record Finishes (s : GuestState) (q : ℕ) (t : GuestState) : Type 0 where
  pub goes_on : GoesOn s
  pub move : Move
  pub open_move : (page s q).move ≡ Some move
  pub nobody_waits : HasNone move.waiting
  pub after : t ≡ with_finished s q move.change
