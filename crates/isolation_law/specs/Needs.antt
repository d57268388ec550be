-- Which move the step at hand needs of a page, which the hardware's step needs, and which a packet needs.
use Rattle.std.specs.Prelude.{◌≡◌, ℕ, ◌==◌, if◌then◌else◌, Bool, true, false, not, ◌&&◌, length, List, [], ◌∷◌, Option, Some, None, is_none, slice_get}
use Rattle.base_words.specs.declared.moves.MoveKind.{MoveKind}
use Rattle.base_words.specs.declared.moves.MoveKind.TheVariants.{Collapse, Break, TakeShared, GiveShared}
use Rattle.base_words.specs.Membership.{Has}
use Rattle.private_machine.specs.Backing.{Copy, copies}
use Rattle.private_machine.specs.HardwareStep.{Trap, Line, FetchMiss, DataMiss, ReadOnly, Address, Privileged, Raised, Dead}
use Rattle.private_machine.specs.Reaching.{Reached, Wanted}
use Rattle.private_machine.specs.Operation.{Packet, Operation, ReadsBlock, Delivers}
use Rattle.isolation_law.specs.Surroundings.{cell_of_frame, home_cell}
use Rattle.isolation_law.specs.GuestState.{GuestState, page, block, is_dead, hand_place}
use Rattle.private_machine.specs.DeviceAct.{Act, StoresTo, ReadsDisk, WritesDisk, SendsPage, WritesEntry, NoAct}

-- a move that has to be over before the step, with its operation where it takes a page shared
pub record Need : Type 0 where
  pub page : ℕ
  pub kind : MoveKind
  pub operation : Option Operation

abbrev pub none_of : List Copy → Bool
none_of [] = true
none_of (c ∷ cs) = false

-- before the guest's bytes in a page change
abbrev pub for_change : GuestState → ℕ → Option Need
for_change s q =
    if (page s q).shared then Some (record { page = q; kind = Break; operation = None })
    else if none_of (page s q).replicas then None
    else Some (record { page = q; kind = Collapse; operation = None })

-- a block may be shared that the guest hasn't written, where its home cell lives
abbrev pub may_share_block : GuestState → ℕ → Bool
may_share_block s b = is_none (block s b).overlay && not (is_dead s (home_cell s.around))

abbrev pub for_read : GuestState → ℕ → Bool → ℕ → ℕ → Option Need
for_read s v shares b q =
    if shares && may_share_block s b then Some (record { page = q; kind = TakeShared; operation = Some (ReadsBlock v b) })
    else for_change s q

abbrev pub is_home_of_receiver : ℕ → Option ℕ → Bool
is_home_of_receiver cell None = false
is_home_of_receiver cell (Some home) = cell == home

-- a page may be offered as a frame that is sent whole to another guest, on whose home cell the frame lies
abbrev pub may_offer : GuestState → ℕ → ℕ → ℕ → Bool
may_offer s q length to =
    (length == 4096) && (not (to == s.around.guest) && is_home_of_receiver (cell_of_frame s.around (page s q).master.frame) (slice_get s.around.homes to))

abbrev pub for_send : GuestState → Bool → ℕ → ℕ → ℕ → Option Need
for_send s shares q length to =
    if shares && (may_offer s q length to && not (page s q).shared) then Some (record { page = q; kind = GiveShared; operation = None })
    else None

-- the move that a step needs, where it is to share or to copy
abbrev pub needed : GuestState → ℕ → Bool → Act → Option Need
needed s v shares (StoresTo q) = for_change s q
needed s v shares (ReadsDisk b q) = for_read s v shares b q
needed s v shares (WritesDisk b q) = None
needed s v shares (SendsPage q length to) = for_send s shares q length to
needed s v shares (WritesEntry index) = None
needed s v shares NoAct = None

-- the page on a dead frame of which the hardware trapped, without a move, has to be collapsed
abbrev pub for_lost : GuestState → Trap → Option Need
for_lost s Line = None
for_lost s (FetchMiss w) = None
for_lost s (DataMiss word w) = None
for_lost s (ReadOnly word w) = None
for_lost s (Address word) = None
for_lost s (Privileged word) = None
for_lost s (Raised x) = None
for_lost s (Dead at w) = if is_none (page s at.page).move then Some (record { page = at.page; kind = Collapse; operation = None }) else None

-- the hardware traps on a frame of a failed cell, which is one of this page
pub record LosesFrame (s : GuestState) (trap : Trap) (q : ℕ) : Type 0 where
  pub at : Reached
  pub access : Wanted
  pub is_dead : trap ≡ Dead at access
  pub copy : Copy
  pub its_own : Has (copies (page s q)) copy
  pub is_it : copy.frame ≡ at.frame

-- the move that the packet in hand needs, which comes into a page, where it is to share or to copy
abbrev pub for_packet : GuestState → Bool → Packet → ℕ → Option Need
for_packet s shares packet q =
    if shares && (length packet.bytes == 4096)
    then Some (record { page = q; kind = TakeShared; operation = Some (Delivers (hand_place s) packet) })
    else for_change s q
