-- What the guests of a description are started from.
use Rattle.std.specs.Prelude.{◌≡◌, ◌<◌, ℕ, suc, List, [], ◌∷◌, ◌++◌, length, map, take, None, Some, slice_get, slice_index, slice_index_or}
use Rattle.base_words.specs.declared.input.InputEntry.{InputEntry}
use Rattle.node_frames.specs.Layout.{Layout}
use Rattle.node_frames.specs.Left.{Left, first_left}
use Rattle.boot_frames.specs.Chain.{first_short, after_claims, frame_at}
use Rattle.boot_frames.specs.Claims.{cache_claims, page_claim, page_claims, claims_of}
use Rattle.boot_frames.specs.Needs.{need_of}
use Rattle.guest_boot.specs.declared.source.Source.{Source}
use Rattle.isolation_law.specs.Surroundings.{Surroundings}
use Rattle.isolation_law.specs.Start.{Boot, Found}
use Rattle.machine_desc.specs.declared.machine.GuestSpec.{GuestSpec}
use Rattle.machine_desc.specs.Described.{Described}
use Rattle.private_machine.specs.Disk.{as_given}
use Rattle.guest_course.specs.BootCalls.{given_blocks}
use Rattle.guest_core.specs.Starting.{image_of}

-- the machine around a guest: the home cell of a guest is that of its node
abbrev pub home_of : Described → GuestSpec → ℕ
home_of d spec = slice_index (map (λ c. c.0) d.cells) spec.node.0

abbrev pub around_of : Described → ℕ → GuestSpec → Surroundings
around_of d guest spec = record {
  guest = guest;
  profile = spec.profile;
  home = spec.node.0;
  frames = d.frames;
  nodes = map (λ c. c.0) d.cells;
  processors = map (λ n. n.0) d.processors;
  homes = map (home_of d) d.guests;
  policy = d.policy;
}

-- how the machine's frames lie
abbrev pub layout_in : Described → Layout
layout_in d = record { nodes = d.nodes; frames = d.frames; cells = d.cells }

-- what the machine has left for a guest, once the caches and the guests before it have their frames
abbrev pub left_for : Described → ℕ → Left
left_for d guest = after_claims (layout_in d) (cache_claims d.cache 0 (length d.lends) ++ page_claims 0 (take guest (map need_of d.guests))) (first_left (layout_in d) d.lends)

-- page k has the k-th frame that boot gives to the guest, taken for the first time
pub record IsPlaced (d : Described) (guest : ℕ) (spec : GuestSpec) (frames : List Found) : Type 0 where
  pub count : length frames ≡ spec.pages
  pub each : (k : ℕ) (f : Found) → slice_get frames k ≡ Some f
      → (frame_at (layout_in d) (page_claim guest (need_of spec)).taker (left_for d guest) k ≡ Some f.frame) × (f.generation ≡ 1)

-- a guest starts from its image and its disk and with its input, on the frames of boot
pub record IsStart (d : Described) (guest : ℕ) (spec : GuestSpec) (source : Source) (input : List InputEntry) (b : Boot) : Type 0 where
  pub around : b.around ≡ around_of d guest spec
  pub image_is : b.image ≡ image_of source.image
  pub vcpus : b.vcpus ≡ spec.vcpus
  pub disk_is : b.disk ≡ given_blocks source.disk
  pub input_is : b.input ≡ input
  pub placed : IsPlaced d guest spec b.frames

-- so do all, from a number on
abbrev pub AreStarts : Described → ℕ → List GuestSpec → List Source → List (List InputEntry) → List Boot → Type 0
AreStarts d guest [] [] [] [] = Unit {0}
AreStarts d guest (spec ∷ specs) (source ∷ sources) (input ∷ inputs) (b ∷ boots) =
    IsStart d guest spec source input b × AreStarts d (suc guest) specs sources inputs boots
AreStarts d guest specs sources inputs boots = ⊥

-- there is a source for each guest: an image with as many pages as the guest, and a disk as it was given, in whole blocks
pub record IsSource (spec : GuestSpec) (source : Source) : Type 0 where
  pub pages : length source.image.pages ≡ spec.pages
  pub unwritten : source.disk ≡ map as_given (given_blocks source.disk)
  pub blocks : (k : ℕ) → k < length (given_blocks source.disk) → length (slice_index_or (given_blocks source.disk) k []) ≡ 4096

abbrev pub AreSources : List GuestSpec → List Source → Type 0
AreSources [] [] = Unit {0}
AreSources (spec ∷ specs) (source ∷ sources) = IsSource spec source × AreSources specs sources
AreSources specs sources = ⊥

-- each cell gets so many frames for its cache and then each guest its own, one after another, of all that the machine has and its cells
-- lend
abbrev pub AreServed : Layout → List ℕ → ℕ → List GuestSpec → Type 0
AreServed layout lends cache specs = first_short layout (claims_of (length lends) cache (map need_of specs)) (first_left layout lends) ≡ None
