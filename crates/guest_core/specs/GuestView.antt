-- How contracts see a guest.
use Rattle.std.specs.Prelude.{◌≡◌, ℕ, ◌+◌, ◌-◌, ◌*◌, min, List, [], Bool, Option, None, count_by, is_some}
use Rattle.std.specs.Vec.{vec_len, vec_capacity}
use Rattle.atomic_table.specs.Seated.{TableId}
use Rattle.base_words.specs.declared.events.Event.{Event}
use Rattle.cow_disk.specs.IndexView.{Index}
use Rattle.frame_words.specs.Holders.{MadeTable}
use Rattle.frame_words.specs.declared.view.View.{View}
use Rattle.shootdown.specs.declared.view.SidedNote.{SidedNote}
use Rattle.isolation_law.specs.GuestState.{GuestState}
use Rattle.isolation_law.specs.Parts.{Processor}
use Rattle.isolation_law.specs.Start.{Boot, start as started}
use Rattle.isolation_law.specs.Surroundings.{home_cell}
use Rattle.wire_queue.specs.Between.{Made}
use Rattle.wire_queue.specs.Packets.{Handed}
use Rattle.wire_queue.specs.declared.lists.PassList.{PassList}
use Rattle.guest_course.specs.declared.course.Course.{Course}
use Rattle.guest_course.specs.CourseView.{state_of}
use Rattle.guest_course.specs.TakingCalls.{handed_in}
use Rattle.pmap_table.specs.PageMap.{is_moving}
use Rattle.guest_core.specs.declared.parts.Parts.{Parts}
use Rattle.guest_core.specs.declared.resources.Resources.{Resources}
use Rattle.guest_core.specs.Blocks.{blocks_of, LieOnCell}
use Rattle.guest_core.specs.Holding.{FitsAround}

-- a guest: its number, what it was started from, which of the machine's disks it has, the board that made its seat, the table that made its
-- holder; its state, the journal that led to it, its seat's notes, its holder's view; the wires of all guests and its ends of them, and the
-- frame that the packet in hand hands on, if it does; and the room that was made for its calls
pub record Monitored : Type 0 where
  pub number : ℕ
  pub start : Boot
  pub disk : ℕ
  pub board : TableId
  pub table : TableId
  pub state : GuestState
  pub journal : List Event
  pub notes : List SidedNote
  pub view : View
  pub wires : Made
  pub passes : PassList
  pub handed : Option Handed
  pub room : ℕ

abbrev pub is_loaded : Processor → Bool
is_loaded p = is_some p.loaded

-- how many virtual processors are loaded
abbrev pub loaded_count : GuestState → ℕ
loaded_count s = count_by is_loaded s.processors

-- how many pages have a move that isn't over
abbrev pub open_count : GuestState → ℕ
open_count s = count_by is_moving s.pages

-- how many entries are still to come: an unload of each virtual processor that is loaded, and the end of each open move
abbrev pub entries_due : GuestState → ℕ
entries_due s = loaded_count s + open_count s

-- for how many calls all but the journal has room: each may print a byte, send a packet, with its cell, receive one or throw one away,
-- begin a move, and note one that isn't begun
abbrev pub comes_room : Course → ℕ
comes_room c = min (vec_capacity c.received - vec_len c.received) (vec_capacity c.discarded - vec_len c.discarded)

abbrev pub packets_room : Course → ℕ
packets_room c = min (vec_capacity c.sent_from - vec_len c.sent_from) (comes_room c)

abbrev pub moves_room : Course → ℕ
moves_room c = min c.pmap.room (vec_capacity c.skips - vec_len c.skips)

abbrev pub calls_room : Course → ℕ
calls_room c = min (min c.devs.print_room c.devs.send_room) (min (packets_room c) (moves_room c))

-- the journal's free places that no entry needs that is still to come, or twice the calls for which there is room, whichever is less
abbrev pub room_of : ℕ → Course → ℕ
room_of free c = min (free - entries_due (state_of c)) (2 * calls_room c)

abbrev pub guest_of : Parts → Monitored
guest_of g = record {
  number = g.number.0;
  start = g.start;
  disk = g.disk;
  board = g.seat.board;
  table = g.holder.table;
  state = state_of g.course;
  journal = g.journal.entries;
  notes = g.seat.notes;
  view = g.holder.view;
  wires = g.wiring.wires.value;
  passes = g.wiring.passes;
  handed = handed_in g.course;
  room = room_of g.journal.room g.course;
}

-- number, start, disk, board, table and wires stay, and whose the ends of the wires are
pub record IsSameGuest (old new : Monitored) : Type 0 where
  pub number : new.number ≡ old.number
  pub start : new.start ≡ old.start
  pub disk : new.disk ≡ old.disk
  pub board : new.board ≡ old.board
  pub table : new.table ≡ old.table
  pub wires : new.wires ≡ old.wires
  pub own : new.passes.guest ≡ old.passes.guest

-- the table made the guest's holder, and is of the machine around it
pub record IsTableOf (table : MadeTable) (g : Monitored) : Type 0 where
  pub made : g.table ≡ table.id
  pub fits : FitsAround table g.start.around

-- what the guests of a machine share: the table of their frames, the wires between them, and the blocks on each cell
pub record Shared : Type 0 where
  pub table : MadeTable
  pub wires : Made
  pub indexes : List Index

-- as they are lent to the guests' calls
abbrev pub shared_by : Resources → Shared
shared_by resources = record { table = resources.table.now; wires = resources.wires.now; indexes = resources.indexes.now }

-- they are those of a guest: its table and its wires, and each block on its home cell lies there
pub record AreOf (shared : Shared) (g : Monitored) : Type 0 where
  pub table : IsTableOf shared.table g
  pub wires : g.wires ≡ shared.wires
  pub blocks : LieOnCell g.start.around (home_cell g.start.around) (blocks_of shared.indexes (home_cell g.start.around))

-- a guest at its start, without notes, and with no packet in hand
pub record IsAtStart (number : ℕ) (b : Boot) (disk : ℕ) (board table : TableId) (wires : Made) (passes : PassList) (g : Monitored) : Type 0 where
  pub number_is : g.number ≡ number
  pub start_is : g.start ≡ b
  pub disk_is : g.disk ≡ disk
  pub board_is : g.board ≡ board
  pub table_is : g.table ≡ table
  pub state_is : g.state ≡ started b
  pub no_entries : g.journal ≡ []
  pub no_notes : g.notes ≡ []
  pub wires_are : g.wires ≡ wires
  pub passes_are : g.passes ≡ passes
  pub none_handed : g.handed ≡ None
