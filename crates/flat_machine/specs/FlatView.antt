-- How contracts see a flat machine: as the private machine.
use Rattle.std.specs.Prelude.{◌≡◌, ℕ, ◌*◌, ◌<◌, ◌≤◌, List, [], map, length, true, Option, Some, None}
use Rattle.std.specs.Global.{Box}
use Rattle.std.specs.Vec.{vec_capacity}
use Rattle.base_words.specs.declared.page.Page.{Page}
use Rattle.private_machine.specs.PrivateMachine.{PrivateMachine}
use Rattle.private_machine.specs.PrivateRun.{Image as Start}
use Rattle.guest_devs.specs.Shown.{Agree}
use Rattle.elf_image.specs.declared.image.Image.{Image}
use Rattle.elf_image.specs.Physical.{memory_of}
use Rattle.flat_machine.specs.declared.machine.Machine.{Machine}
use Rattle.flat_machine.specs.declared.flat.Flat.TheInside.{Inside}

-- the blocks of a disk, each a list of bytes; none where there is no disk
abbrev pub blocks_of : List (Box Page) → List (List ℕ)
blocks_of blocks = map (λ block. block.value) blocks

abbrev pub disk_of : Option (List (Box Page)) → List (List ℕ)
disk_of None = []
disk_of (Some blocks) = blocks_of blocks

abbrev pub machine_of : Machine → PrivateMachine
machine_of m = record {
  pages = m.pages;
  memory = m.memory.items;
  vcpus = m.vcpus.items;
  devices = m.devs.state.page;
  disk = blocks_of m.disk.items;
  register_page = m.register_page;
}

-- there is room for one byte on the console and for one packet of 4096 bytes
pub record HasRoom (print_room send_room capacity : ℕ) : Type 0 where
  pub print : 0 < print_room
  pub send : 0 < send_room
  pub bytes : 4096 ≤ capacity

-- memory is whole pages; the devices are those of these pages and virtual processors, which show what the devices keep; the page
-- that is armed is there; and the list for a packet is empty, with room where the machine says that it is ready
pub record IsSound (m : Machine) : Type 0 where
  pub whole : length m.memory.items ≡ 4096 * m.pages
  pub pages : m.devs.state.pages ≡ m.pages
  pub transfers : length m.devs.state.page.transfers ≡ length m.vcpus.items
  pub agree : Agree m.devs.state m.vcpus.items
  pub armed : (page : ℕ) → m.devs.state.page.armed ≡ Some page → page < m.pages
  pub empty : m.spare.items ≡ []
  pub room : m.ready ≡ true → HasRoom m.devs.print_room m.devs.send_room (vec_capacity m.spare)

-- a machine as callers see it; it has a virtual processor
abbrev pub flat_of : Inside → PrivateMachine
flat_of flat = machine_of flat.machine

pub record IsFlat (flat : Inside) : Type 0 where
  pub sound : IsSound flat.machine
  pub some : 0 < length flat.machine.vcpus.items

-- an image as the private machine starts from it
abbrev pub start_of : Image → Start
start_of image = record { entry = image.entry; pages = length image.pages; memory = memory_of image.pages }
