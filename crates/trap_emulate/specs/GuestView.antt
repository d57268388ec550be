-- A guest's parts as the monitor holds them beside its memory, and when they fit one another.
use Rattle.std.specs.Prelude.{◌≡◌, ℕ, ◌+◌, ◌<◌, ◌≤◌, List, length, false, Some, slice_index_or}
use Rattle.guest_devs.specs.DeviceState.{DeviceState, DevsView}
use Rattle.guest_devs.specs.Shown.{Agree}
use Rattle.private_machine.specs.declared.vcpu.Vcpu.{Vcpu}
use Rattle.private_machine.specs.Vcpu.{no_vcpu}
use Rattle.private_machine.specs.DevicePage.{DevicePage}
use Rattle.private_machine.specs.PrivateMachine.{PrivateMachine}

-- the private machine of these parts, with some memory and some disk; of a guest without register pages
abbrev pub machine_of : (pages : ℕ) → List Vcpu → DevicePage → (memory : List ℕ) → (disk : List (List ℕ)) → PrivateMachine
machine_of pages vcpus page memory disk = record { pages = pages; memory = memory; vcpus = vcpus; devices = page; disk = disk; register_page = false }

-- the devices are those of these pages and virtual processors, which show what the devices keep
pub record Fits (pages : ℕ) (vcpus : List Vcpu) (devices : DeviceState) : Type 0 where
  pub of_pages : devices.pages ≡ pages
  pub transfers : length devices.page.transfers ≡ length vcpus
  pub agree : Agree devices vcpus

-- a virtual processor of the guest runs
pub record Runs (vcpus : List Vcpu) (v : ℕ) : Type 0 where
  pub there : v < length vcpus
  pub running : (slice_index_or vcpus v no_vcpu).halted ≡ false

-- the page that is armed for a packet is there
abbrev pub ArmedWithin : ℕ → DevicePage → Type 0
ArmedWithin pages page = (q : ℕ) → page.armed ≡ Some q → q < pages

-- a step takes room for one byte of the console at most, and none for packets; it sends nothing, and arms no page that isn't there
pub record Spends (pages : ℕ) (old new : DevsView) : Type 0 where
  pub print_room : old.print_room ≤ new.print_room + 1
  pub send_room : new.send_room ≡ old.send_room
  pub sent : new.state.page.sent ≡ old.state.page.sent
  pub armed : ArmedWithin pages old.state.page → ArmedWithin pages new.state.page
