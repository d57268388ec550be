-- Guests that are ready for their first calls.
use Rattle.std.specs.Prelude.{◌≡◌, ◌<◌, ℕ, List, [], None, Some, length, slice_get}
use Rattle.shootdown.specs.Notes.{Token}
use Rattle.machine_desc.specs.declared.machine.GuestSpec.{GuestSpec}
use Rattle.machine_desc.specs.declared.machine.Machine.{Machine}
use Rattle.guest_core.specs.GuestView.{Monitored, Shared, AreOf}

-- a guest at its start, of this number and with so many virtual processors, at least one, and pages, on a machine of so many nodes, which
-- shares this; and the token of a processor, without notes
pub record IsReady (vcpus pages nodes : ℕ) (shared : Shared) (number : ℕ) (guest : Monitored) (token : Token) : Type 0 where
  pub number_is : guest.number ≡ number
  pub own_is : guest.passes.guest.0 ≡ number
  pub goes_on : guest.state.end ≡ None
  pub shares : AreOf shared guest
  pub some_vcpus : 0 < vcpus
  pub vcpus_are : guest.start.vcpus ≡ vcpus
  pub pages_are : guest.start.image.pages ≡ pages
  pub nodes_are : length guest.start.around.nodes ≡ nodes
  pub board_is : token.board ≡ guest.board
  pub is_processor : token.number < length guest.start.around.processors
  pub unnoted : token.notes ≡ []

-- what a machine says of the guest of a number, and of itself
pub record HasSize (machine : Machine) (number vcpus pages nodes : ℕ) : Type 0 where
  pub guest : (spec : GuestSpec) → slice_get machine.guests number ≡ Some spec → (vcpus ≡ spec.vcpus) × (pages ≡ spec.pages)
  pub machine_is : nodes ≡ machine.shape.nodes

-- the guest and the token of each number
pub record AreReady (machine : Machine) (guests : List Monitored) (tokens : List Token) (shared : Shared) : Type 0 where
  pub each : (number vcpus pages nodes : ℕ) (guest : Monitored) (token : Token) → HasSize machine number vcpus pages nodes → slice_get guests number ≡ Some guest → slice_get tokens number ≡ Some token
      → IsReady vcpus pages nodes shared number guest token
