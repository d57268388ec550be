-- What holds of a page by itself, of its move and of a block of the disk.
use Rattle.std.specs.Prelude.{◌≡◌, ◌⊎◌, ℕ, ◌<◌, ◌≤◌, ◌&&◌, Bool, true, false, not, List, [], length, Option, Some, None, slice_index_or}
use Rattle.base_words.specs.Membership.{Has}
use Rattle.base_words.specs.Place.{place}
use Rattle.private_machine.specs.Backing.{Copy, Change, Migrates, Replicates, Collapses, Breaks, TakesShared, GivesShared, Move, Page}
use Rattle.private_machine.specs.Operation.{Packet, Operation, ReadsBlock, Delivers}
use Rattle.private_machine.specs.Disk.{Block}
use Rattle.private_machine.specs.Disk.{no_block}
use Rattle.isolation_law.specs.GuestState.{GuestState, hand_place}
use Rattle.private_machine.specs.Disk.{block_now}

-- what pages are taken shared from: the disk, and the packet in hand with its place
pub record Sources : Type 0 where
  pub disk : List Block
  pub place : ℕ
  pub hand : Option Packet

abbrev pub sources : GuestState → Sources
sources s = record { disk = s.disk; place = hand_place s; hand = s.hand }

-- the bytes of a frame that is taken shared: of the block, as the disk was given, or of the packet; a packet that came last is
-- the one in hand
abbrev pub HasBytes : Sources → List ℕ → Operation → Type 0
HasBytes from bytes (ReadsBlock v b) = bytes ≡ (slice_index_or from.disk b no_block).given
HasBytes from bytes (Delivers place packet) = (bytes ≡ packet.bytes) × ((place < from.place) ⊎ ((place ≡ from.place) × (from.hand ≡ Some packet)))

abbrev pub HasBytesOf : Sources → List ℕ → Option Operation → Type 0
HasBytesOf from bytes None = ⊥
HasBytesOf from bytes (Some operation) = HasBytes from bytes operation

abbrev pub ChangeRule : Sources → Option Operation → Bool → Change → Type 0
ChangeRule from operation shared (Migrates target) = shared ≡ false
ChangeRule from operation shared (Replicates target) = shared ≡ false
ChangeRule from operation shared Collapses = Unit {0}
ChangeRule from operation shared (Breaks target) = shared ≡ true
ChangeRule from operation shared (TakesShared target) = HasBytesOf from target.bytes operation × (length target.bytes ≡ 4096)
ChangeRule from operation shared (GivesShared target) = shared ≡ false

abbrev pub MoveRule : Sources → Option Operation → Bool → List Bool → Option Move → Type 0
MoveRule from operation shared mapped None = Unit {0}
MoveRule from operation shared mapped (Some m) = (m.waiting ≡ mapped) × ChangeRule from operation shared m.change

-- a page by itself, with so many processors
pub record PageRule (from : Sources) (processors : ℕ) (operation : Option Operation) (g : Page) : Type 0 where
  pub whole : length g.master.bytes ≡ 4096
  pub equal : (c : Copy) → Has g.replicas c → c.bytes ≡ g.master.bytes
  pub single : g.shared ≡ true → g.replicas ≡ []
  pub moves : MoveRule from operation g.shared g.mapped g.move
  pub sized : processors ≤ length g.mapped

-- a shared page on which no break has begun needs a spare
abbrev pub breaks : Change → Bool
breaks (Migrates target) = false
breaks (Replicates target) = false
breaks Collapses = false
breaks (Breaks target) = true
breaks (TakesShared target) = false
breaks (GivesShared target) = false

abbrev pub is_breaking : Option Move → Bool
is_breaking None = false
is_breaking (Some m) = breaks m.change

abbrev pub needs_spare : Page → Bool
needs_spare g = g.shared && not (is_breaking g.move)

pub record BlockRule (b : Block) : Type 0 where
  pub given_whole : length b.given ≡ 4096
  pub whole : length (block_now b) ≡ 4096
