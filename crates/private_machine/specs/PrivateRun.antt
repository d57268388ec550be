-- A run of a guest's private machine over a list of its own events.
use Rattle.std.specs.Prelude.{ℕ, List, [], ◌∷◌, replicate}
use Rattle.base_words.specs.declared.events.OwnEvent.{OwnEvent}
use Rattle.base_words.specs.declared.events.OwnEvent.TheVariants.{Step, Packet}
use Rattle.base_words.specs.declared.input.InputEntry.{InputEntry}
use Rattle.private_machine.specs.Vcpu.{started}
use Rattle.private_machine.specs.DevicePage.{untouched}
use Rattle.private_machine.specs.RegisterPage.{has_page}
use Rattle.private_machine.specs.PrivateMachine.{PrivateMachine}
use Rattle.private_machine.specs.Packet.{own_packet}
use Rattle.private_machine.specs.OwnStep.{own_step}

-- what a guest starts from: its memory of so many pages, and where its first instruction stands
pub record Image : Type 0 where
  pub entry : ℕ
  pub pages : ℕ
  pub memory : List ℕ

-- a guest of so many virtual processors and of this profile at its start, with the blocks of its disk and its input
abbrev pub booted : Image → ℕ → ℕ → List (List ℕ) → List InputEntry → PrivateMachine
booted image vcpus profile disk input = record {
  pages = image.pages;
  memory = image.memory;
  vcpus = replicate vcpus (started image.entry);
  devices = untouched vcpus input;
  disk = disk;
  register_page = has_page profile;
}

abbrev pub own_event : PrivateMachine → OwnEvent → PrivateMachine
own_event m (Step v) = own_step m v.0
own_event m (Packet from bytes) = own_packet m from.0 bytes

-- the machine after a list of own events
abbrev pub private_run : PrivateMachine → List OwnEvent → PrivateMachine
private_run m [] = m
private_run m (e ∷ events) = private_run (own_event m e) events
