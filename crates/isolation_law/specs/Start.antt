-- A guest under the monitor at its start.
use Rattle.std.specs.Prelude.{◌≡◌, ℕ, ◌<◌, ◌≤◌, ◌*◌, List, [], ◌∷◌, map, false, Bool, None, length, replicate, take, drop, slice_index_or}
use Rattle.base_words.specs.Limits.{most_cells, most_processors}
use Rattle.base_words.specs.declared.input.InputEntry.{InputEntry}
use Rattle.private_machine.specs.Backing.{Page}
use Rattle.private_machine.specs.PrivateMachine.{PrivateMachine}
use Rattle.private_machine.specs.Policy.{no_misses}
use Rattle.private_machine.specs.RegisterPage.{has_page}
use Rattle.private_machine.specs.PrivateRun.{Image, booted}
use Rattle.private_machine.specs.SecondLevel.{no_seconds}
use Rattle.isolation_law.specs.Surroundings.{Surroundings}
use Rattle.private_machine.specs.Disk.{as_given}
use Rattle.isolation_law.specs.GuestState.{GuestState, idle}
use Rattle.isolation_law.specs.Mirrors.{blocks_for}

-- the empty sets of processors and of cells
abbrev pub no_processors : List Bool
no_processors = replicate most_processors false

abbrev pub no_cells : List Bool
no_cells = replicate most_cells false

-- a frame that was found for a page, and its generation
pub record Found : Type 0 where
  pub frame : ℕ
  pub generation : ℕ

-- what a guest is booted with
pub record Boot : Type 0 where
  pub around : Surroundings
  pub image : Image
  pub vcpus : ℕ
  pub disk : List (List ℕ)
  pub input : List InputEntry
  pub frames : List Found

-- a frame for each page, whole pages and blocks, a virtual processor, and not too many processors
pub record IsBoot (b : Boot) : Type 0 where
  pub has_vcpu : 0 < b.vcpus
  pub few_processors : length b.around.processors ≤ most_processors
  pub backed : length b.frames ≡ b.image.pages
  pub whole : length b.image.memory ≡ 4096 * b.image.pages
  pub blocks : (k : ℕ) → k < length b.disk → length (slice_index_or b.disk k []) ≡ 4096

abbrev pub page_at_start : Found → List ℕ → Page
page_at_start f bytes = record {
  master = record { frame = f.frame; generation = f.generation; bytes = bytes };
  shared = false;
  replicas = [];
  mapped = no_processors;
  move = None;
}

-- each page has the next of these frames, and the next of the image's bytes
abbrev pub pages_at_start : List Found → List ℕ → List Page
pages_at_start [] memory = []
pages_at_start (f ∷ frames) memory = page_at_start f (take 4096 memory) ∷ pages_at_start frames (drop 4096 memory)

-- the private machine at the start
abbrev pub private_start : Boot → PrivateMachine
private_start b = booted b.image b.vcpus b.around.profile b.disk b.input

-- the guest at its start: nothing is mapped, loaded, moving, spare, dead, due or in hand
abbrev pub start : Boot → GuestState
start b =
    let m = private_start b in
    let processors = length b.around.processors in record {
      around = b.around;
      vcpus = m.vcpus;
      blocks = blocks_for (has_page b.around.profile) m.vcpus;
      devices = m.devices;
      disk = map as_given b.disk;
      sent_from = [];
      received = [];
      discarded = [];
      skips = [];
      hand = None;
      end = None;
      closing = None;
      pages = pages_at_start b.frames b.image.memory;
      operations = replicate (length b.frames) None;
      misses = replicate (length b.frames) (no_misses (length b.around.nodes));
      spares = [];
      processors = replicate processors idle;
      due = replicate processors None;
      seconds = replicate b.vcpus no_seconds;
      dead = no_cells;
    }
