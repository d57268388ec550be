-- A guest's devices as contracts see them.
use Rattle.std.specs.Prelude.{◌≡◌, ℕ, ◌+◌, ◌-◌, ◌^◌, ◌<◌, ◌≤◌, List, Bool, false, length, drop, sum_by, replicate}
use Rattle.std.specs.Vec.{vec_len, vec_capacity}
use Rattle.base_words.specs.declared.input.InputEntry.{InputEntry}
use Rattle.private_machine.specs.DevicePage.{DevicePage, untouched}
use Rattle.guest_devs.specs.declared.devs.Devs.TheInside.{Inside}

-- the device page of a guest of so many pages; which virtual processors have halted, in which IP4 is on, and whether IP3 is on in
-- virtual processor 0
pub record DeviceState : Type 0 where
  pub page : DevicePage
  pub pages : ℕ
  pub halted : List Bool
  pub called : List Bool
  pub packet : Bool

-- and for how many bytes on the console, and how many packets, there is room
pub record DevsView : Type 0 where
  pub state : DeviceState
  pub print_room : ℕ
  pub send_room : ℕ

-- at the start
abbrev pub fresh : ℕ → ℕ → List InputEntry → DeviceState
fresh vcpus pages input = record {
  page = untouched vcpus input;
  pages = pages;
  halted = replicate vcpus false;
  called = replicate vcpus false;
  packet = false;
}

abbrev pub state_of : Inside → DeviceState
state_of d = record {
  page = record {
    console = d.console.items;
    coming = drop d.next d.input.items;
    queue = drop d.taken d.queue.items;
    sent = d.sent.items;
    armed = d.armed;
    last_length = d.last_length;
    last_sender = d.last_sender;
    transfers = d.transfers.items;
  };
  pages = d.pages;
  halted = d.halted.items;
  called = d.called.items;
  packet = d.packet;
}

abbrev pub devs_of : Inside → DevsView
devs_of d = record {
  state = state_of d;
  print_room = vec_capacity d.console - vec_len d.console;
  send_room = vec_capacity d.sent - vec_len d.sent;
}

abbrev pub text_length : InputEntry → ℕ
text_length e = length e.text

-- there is something of each kind for each virtual processor, no more bytes were taken than came, and the queue has room for all
-- input that is still to come
pub record IsSound (d : Inside) : Type 0 where
  pub few : length d.transfers.items < 2 ^ 8
  pub halted : length d.halted.items ≡ length d.transfers.items
  pub called : length d.called.items ≡ length d.transfers.items
  pub taken : d.taken ≤ length d.queue.items
  pub next : d.next ≤ length d.input.items
  pub room : vec_len d.queue + sum_by text_length (drop d.next d.input.items) ≤ vec_capacity d.queue
