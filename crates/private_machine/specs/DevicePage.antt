-- The device page: its registers at multiples of 4, one after the other, and what they hold.
use Rattle.std.specs.Prelude.{ℕ, ◌/◌, ◌%◌, ◌==◌, if◌then◌else◌, List, [], ◌∷◌, Option, None, slice_get, slice_index_or, replicate}
use Rattle.base_words.specs.declared.device.DeviceRegister.{DeviceRegister}
use Rattle.base_words.specs.declared.device.DeviceRegister.TheVariants.{Console, Halt, Input, Queued, Number, Vcpus, Call, Answered, DiskBlock, DiskPage, DiskCommand, DiskStatus, SendPage, SendLength, Send, Armed, PacketLength, PacketSender, PacketTaken}
use Rattle.base_words.specs.declared.device.Transfer.{Transfer}
use Rattle.base_words.specs.declared.input.InputEntry.{InputEntry}
use Rattle.base_words.specs.declared.input.SentPacket.{SentPacket}

-- in the order of their offsets 0, 4, .. 48 (hexadecimal), four to a line
abbrev pub device_registers : List DeviceRegister
device_registers =
    Console ∷ Halt ∷ Input ∷ Queued
    ∷ Number ∷ Vcpus ∷ Call ∷ Answered
    ∷ DiskBlock ∷ DiskPage ∷ DiskCommand ∷ DiskStatus
    ∷ SendPage ∷ SendLength ∷ Send ∷ Armed
    ∷ PacketLength ∷ PacketSender ∷ PacketTaken ∷ []

-- the register at an offset of the device page
abbrev pub device_register : ℕ → Option DeviceRegister
device_register offset = if offset % 4 == 0 then slice_get device_registers (offset / 4) else None

-- what was printed, the input that is still to come and the bytes that wait, what was sent, the page that is armed for a
-- packet, the last packet's length and sender, and what each virtual processor has set
pub record DevicePage : Type 0 where
  pub console : List ℕ
  pub coming : List InputEntry
  pub queue : List ℕ
  pub sent : List SentPacket
  pub armed : Option ℕ
  pub last_length : ℕ
  pub last_sender : ℕ
  pub transfers : List Transfer

abbrev pub nothing_set : Transfer
nothing_set = record { block = 0; page = 0; status = 0; send_page = 0; send_length = 0 }

-- at the start, of so many virtual processors
abbrev pub untouched : ℕ → List InputEntry → DevicePage
untouched vcpus input = record {
  console = [];
  coming = input;
  queue = [];
  sent = [];
  armed = None;
  last_length = 0;
  last_sender = 0;
  transfers = replicate vcpus nothing_set;
}

abbrev pub transfer_of : DevicePage → ℕ → Transfer
transfer_of d v = slice_index_or d.transfers v nothing_set
