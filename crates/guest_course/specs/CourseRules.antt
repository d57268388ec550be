-- What holds of a guest's parts at every moment.
use Rattle.std.specs.Prelude.{◌≡◌, ℕ, suc, ◌+◌, ◌*◌, ◌<◌, ◌≤◌, false, List, [], ◌∷◌, Option, Some, None, length}
use Rattle.base_words.specs.Limits.{most_cells, most_processors}
use Rattle.base_words.specs.declared.trap.DataAccess.{DataAccess}
use Rattle.base_words.specs.declared.trap.DataAccess.TheVariants as access
use Rattle.private_machine.specs.Backing.{Page}
use Rattle.page_policy.specs.Pages.{AreCounters}
use Rattle.wire_queue.specs.Packets.{Handed, Packet, packet_of}
use Rattle.wire_queue.specs.declared.packet.WirePacket.{WirePacket}
use Rattle.guest_devs.specs.Shown.{Agree}
use Rattle.isolation_law.specs.Surroundings.{Surroundings, node_of_processor, cell_of_frame, home_cell}
use Rattle.isolation_law.specs.GuestState.{processor}
use Rattle.isolation_law.specs.Coherence.{Coherent}
use Rattle.isolation_law.specs.LiveCells.{UsesLive}
use Rattle.guest_course.specs.declared.place.Place.{Place}
use Rattle.guest_course.specs.declared.course.Course.{Course}
use Rattle.guest_course.specs.Failures.{dead_cells}
use Rattle.guest_course.specs.CourseView.{surroundings, state_of}

-- a page's bytes may change: its frame is the guest's own, and there is no other
pub record IsWritable (g : Page) : Type 0 where
  pub own : g.shared ≡ false
  pub single : g.replicas ≡ []

-- a processor's node is the one that was told, with its frames
pub record StandsAt (around : Surroundings) (p : ℕ) (place : Place) : Type 0 where
  pub node : place.node.0 ≡ node_of_processor around p
  pub is_node : place.node.0 < length around.nodes
  pub first : place.first ≡ place.node.0 * around.frames
  pub past : place.past ≡ place.first + around.frames

abbrev pub AllStand : Surroundings → ℕ → List Place → Type 0
AllStand around p [] = Unit {0}
AllStand around p (place ∷ places) = StandsAt around p place × AllStand around (suc p) places

-- there is one of each for each of what it is kept for, and not too many
pub record IsSized (c : Course) : Type 0 where
  pub some_vcpus : 0 < length c.vcpus.items
  pub few_vcpus : length c.vcpus.items ≤ 4
  pub blocks : length c.blocks.items ≡ length c.vcpus.items
  pub transfers : length c.devs.state.page.transfers ≡ length c.vcpus.items
  pub seconds : length c.seconds.items ≡ length c.vcpus.items
  pub few_processors : length c.places.items ≤ most_processors
  pub due : length c.due.items ≡ length c.places.items
  pub few_pages : length c.pmap.pages ≤ 2048
  pub cells : length c.sent_from.items ≡ length c.devs.state.page.sent
  pub dead : length (dead_cells c.dead) ≡ most_cells

-- a frame that a packet hands on to a guest is one of the machine's and lies on the packet's cell, which is the guest's home; and the packet
-- is a whole page
pub record IsHandedHome (around : Surroundings) (packet : Packet) (handed : Handed) : Type 0 where
  pub full : packet.length ≡ 4096
  pub within : handed.frame < length around.nodes * around.frames
  pub lies : cell_of_frame around handed.frame ≡ packet.cell
  pub home : cell_of_frame around handed.frame ≡ home_cell around

-- a packet for a guest has no more bytes than a page
pub record FitsHand (around : Surroundings) (packet : Packet) : Type 0 where
  pub few : packet.length ≤ 4096
  pub whole : (handed : Handed) → packet.whole ≡ Some handed → IsHandedHome around packet handed

abbrev pub FitsInHand : Surroundings → Option WirePacket → Type 0
FitsInHand around None = Unit {0}
FitsInHand around (Some packet) = FitsHand around (packet_of packet)

-- the virtual processors show what the devices keep; each that is loaded is there; and until the guest ends it is coherent, uses no
-- cell that has failed, and each page has its counters
pub record IsGoing (c : Course) : Type 0 where
  pub coherent : Coherent (state_of c)
  pub live : UsesLive (state_of c)
  pub pages : c.devs.state.pages ≡ length c.pmap.pages
  pub counted : AreCounters (length c.pmap.pages) (length c.around.site.shape.cells) c.counters

pub record IsSound (c : Course) : Type 0 where
  pub sized : IsSized c
  pub agree : Agree c.devs.state c.vcpus.items
  pub loaded : (p v : ℕ) → (processor (state_of c) p).loaded ≡ Some v → v < length c.vcpus.items
  pub places : AllStand (surroundings c.around) 0 c.places.items
  pub in_hand : FitsInHand (surroundings c.around) c.hand
  pub going : c.ended ≡ None → IsGoing c

-- an access of a processor to a page can be noted: both are there, with their counters
pub record MayNote (c : Course) (p q : ℕ) : Type 0 where
  pub is_processor : p < length c.places.items
  pub dues : length c.due.items ≡ length c.places.items
  pub is_page : q < length c.pmap.pages
  pub counted : AreCounters (length c.pmap.pages) (length c.around.site.shape.cells) c.counters
  pub places : AllStand (surroundings c.around) 0 c.places.items
  pub frames : 0 < c.around.site.shape.frames

-- what holds of the page of a data access
abbrev pub IsDataOf : (ℕ → Type 0) → DataAccess → Type 0
IsDataOf P access.NoData = Unit {0}
IsDataOf P (access.Load page frame) = P page.0
IsDataOf P (access.Store page frame) = P page.0
