-- The guests of a description, booted.
use Rattle.std.specs.Option.{option_map_or}
use Rattle.std.specs.Prelude.{◌≡◌, ℕ, List, [], ◌∷◌, ◌++◌, length, map, take, All, None, Some, slice_get, slice_index}
use Rattle.atomic_table.specs.Seated.{TableId}
use Rattle.base_words.specs.declared.input.InputEntry.{InputEntry}
use Rattle.frame_words.specs.Holders.{MadeTable, Holding, IsMade}
use Rattle.guest_boot.specs.declared.source.Source.{Source}
use Rattle.isolation_law.specs.Start.{Boot}
use Rattle.node_frames.specs.Layout.{layout_of}
use Rattle.node_frames.specs.Left.{Left, first_left}
use Rattle.boot_frames.specs.Chain.{after_claims}
use Rattle.boot_frames.specs.Claims.{cache_claims, page_claim, page_claims}
use Rattle.boot_frames.specs.Lots.{Serves}
use Rattle.boot_frames.specs.declared.lots.Lot.{Lot}
use Rattle.shootdown.specs.Notes.{Token, Seat}
use Rattle.shootdown.specs.Making.{numbered, fresh_token}
use Rattle.machine_desc.specs.declared.machine.GuestSpec.{GuestSpec}
use Rattle.machine_desc.specs.declared.machine.Machine.{Machine}
use Rattle.machine_desc.specs.Described.{Described}
use Rattle.cow_disk.specs.IndexView.{Index}
use Rattle.guest_course.specs.BootCalls.{given_blocks}
use Rattle.guest_course.specs.declared.site.Site.{Site}
use Rattle.guest_core.specs.GuestView.{Monitored, Shared, AreOf}
use Rattle.boot_frames.specs.Needs.{need_of}
use Rattle.block_caches.specs.Filling.{AreCaches, DiskSeen}
use Rattle.guest_boot.specs.Starting.{home_of, layout_in, IsStart}
use Rattle.wire_queue.specs.Between.{Made, guest_count}
use Rattle.wire_queue.specs.PassLists.{IsListOf, IsUnused, JoinsAll, AreAllOf}
use Rattle.wire_queue.specs.declared.lists.PassList.{PassList}

-- the home cell of a guest
abbrev pub home_in : Machine → GuestSpec → ℕ
home_in machine spec = slice_index (map (λ c. c.0) machine.shape.cells) spec.node.0

-- how the machine lies around each guest
pub record IsSite (machine : Machine) (site : Site) : Type 0 where
  pub nodes : site.shape.nodes ≡ machine.shape.nodes
  pub frames : site.shape.frames ≡ machine.shape.frames
  pub cells : site.shape.cells ≡ machine.shape.cells
  pub processors : site.processors ≡ machine.processors
  pub homes : map (λ c. c.0) site.homes ≡ map (home_in machine) machine.guests
  pub policy : site.policy ≡ machine.policy

-- what the caches leave, and then the guests before this one
abbrev pub left_by_caches : Machine → Left
left_by_caches machine = after_claims (layout_of machine.shape) (cache_claims machine.cache 0 (length machine.lends)) (first_left (layout_of machine.shape) machine.lends)

abbrev pub left_behind : Machine → ℕ → Left
left_behind machine guest = after_claims (layout_of machine.shape) (page_claims 0 (take guest (map need_of machine.guests))) (left_by_caches machine)

-- the frames and the holder of a guest, of what the guests before it left
abbrev pub IsLotOf : Machine → MadeTable → ℕ → GuestSpec → Lot → Type 0
IsLotOf machine table guest spec lot = Serves table (layout_of machine.shape) (left_behind machine guest) (page_claim guest (need_of spec)) lot

-- a guest of this number that goes on, with a seat of this board, which shares this
pub record IsFresh (board : TableId) (shared : Shared) (number : ℕ) (guest : Monitored) : Type 0 where
  pub number_is : guest.number ≡ number
  pub board_is : guest.board ≡ board
  pub shared_is : AreOf shared guest
  pub own_is : guest.passes.guest.0 ≡ number
  pub goes_on : guest.state.end ≡ None

-- a guest of this number that was started as its description says, from this source
pub record IsStarted (d : Described) (source : Source) (board : TableId) (shared : Shared) (number : ℕ) (guest : Monitored) : Type 0 where
  pub fresh : IsFresh board shared number guest
  pub spec : GuestSpec
  pub spec_is : slice_get d.guests number ≡ Some spec
  pub input : List InputEntry
  pub input_is : slice_get d.input number ≡ Some input
  pub start : IsStart d number spec source input guest.start

-- a guest of each source, in order
pub record AreBooted (d : Described) (sources : List Source) (board : TableId) (shared : Shared) (guests : List Monitored) : Type 0 where
  pub count : length guests ≡ length sources
  pub each : (g : ℕ) (guest : Monitored) (source : Source) → slice_get guests g ≡ Some guest → slice_get sources g ≡ Some source → IsStarted d source board shared g guest

-- a seat of this board and number, without notes
pub record IsSeat (board : TableId) (number : ℕ) (seat : Seat) : Type 0 where
  pub board_is : seat.board ≡ board
  pub number_is : seat.number ≡ number
  pub no_notes : seat.notes ≡ []

-- so many seats of one board, in order; the board is that of the first
abbrev pub no_board : TableId
no_board = record { words = 0; slots = 0; views_name = 0; atom = 0; block = 0; offset = 0; slot_names = [] }

abbrev pub board_of : List Seat → TableId
board_of [] = no_board
board_of (seat ∷ seats) = seat.board

pub record AreSeats (count : ℕ) (seats : List Seat) : Type 0 where
  pub all : length seats ≡ count
  pub each : (g : ℕ) (seat : Seat) → slice_get seats g ≡ Some seat → IsSeat (board_of seats) g seat

-- ---- caches

-- the disk of a guest, if it has one, and those of all guests, each with its guest's home cell
abbrev pub home_disk : ℕ → Source → List DiskSeen
home_disk cell source = option_map_or (λ (n : ℕ). record { cell = cell; number = n; blocks = given_blocks source.disk } ∷ []) source.number []

abbrev pub home_disks : List ℕ → List Source → List DiskSeen
home_disks [] sources = []
home_disks (cell ∷ homes) [] = []
home_disks (cell ∷ homes) (source ∷ sources) = home_disk cell source ++ home_disks homes sources

-- each cell's index has the first blocks of the disks of the guests that are at home there, in the frames of the cell's cache, which are the
-- first that were taken
abbrev pub AreCached : Described → List Source → MadeTable → List Index → Type 0
AreCached d sources table indexes = AreCaches table.terms (layout_in d) (first_left (layout_in d) d.lends) d.cache (length d.lends) (length sources) (home_disks (map (home_of d) d.guests) sources) indexes

-- ---- all that was booted

-- the guests and the tokens of a description, of one board; the table of the guests' frames with its first holder, which has nothing; the
-- wires between the guests; and the caches of the cells
pub record HasBooted (d : Described) (sources : List Source) (guests : List Monitored) (tokens : List Token) (shared : Shared) (holder : Holding) : Type 0 where
  pub cached : AreCached d sources shared.table shared.indexes
  pub board : TableId
  pub made : IsMade shared.table holder
  pub nothing : holder.view.holds ≡ []
  pub wires : guest_count shared.wires ≡ length guests
  pub guests_are : AreBooted d sources board shared guests
  pub tokens_are : tokens ≡ numbered (fresh_token board) 0 (length d.processors)

-- the wires join the guests of a machine, and know how it lies
pub record AreWires (machine : Machine) (wires : Made) : Type 0 where
  pub joins : JoinsAll wires
  pub all : guest_count wires ≡ length machine.guests
  pub frames : wires.terms.frames ≡ machine.shape.frames
  pub cells : wires.terms.cells ≡ machine.shape.cells
  pub homes : map (λ c. c.0) wires.terms.homes ≡ map (home_in machine) machine.guests

-- the ends of its wires of the guest of this number, of which none was used
pub record HasPasses (wires : Made) (number : ℕ) (passes : PassList) : Type 0 where
  pub list : IsListOf wires passes
  pub guest_is : passes.guest.0 ≡ number
  pub unused : IsUnused passes

-- those of all guests, in order
pub record HaveAllPasses (wires : Made) (lists : List PassList) : Type 0 where
  pub all : AreAllOf wires lists
  pub unused : All IsUnused lists

-- what a guest was started from
abbrev pub start_of : Monitored → Boot
start_of guest = guest.start
