-- A guest under the monitor.
use Rattle.std.specs.Prelude.{ℕ, List, [], Bool, false, Option, None, slice_index_or, slice_set, length, ◌+◌}
use Rattle.base_words.specs.declared.events.End.{End}
use Rattle.base_words.specs.Halves.{Half}
use Rattle.private_machine.specs.declared.vcpu.Vcpu.{Vcpu}
use Rattle.private_machine.specs.Vcpu.{no_vcpu}
use Rattle.private_machine.specs.declared.register_page.RegBlock.{RegBlock}
use Rattle.private_machine.specs.DevicePage.{DevicePage}
use Rattle.private_machine.specs.Backing.{Copy, Page, page_at}
use Rattle.private_machine.specs.Operation.{Packet, Operation}
use Rattle.private_machine.specs.SecondLevel.{Second}
use Rattle.private_machine.specs.Policy.{Misses, anew, no_misses}
use Rattle.isolation_law.specs.Surroundings.{Surroundings}
use Rattle.private_machine.specs.Disk.{Block, no_block}
use Rattle.isolation_law.specs.Parts.{Processor, Wish, SkipEntry}

-- `blocks` has the register page of each virtual processor, in a guest that has it, `sent_from` the cell of each packet of the sent list, `operations` for each page what it is being taken shared for, `misses`
-- a record for each page, and `due` for each processor the
-- policy's choice that it has still to ask for. `closing` is the end that has to follow, but for that of a guest whose virtual
-- processors have all halted.
pub record GuestState : Type 0 where
  pub around : Surroundings
  pub vcpus : List Vcpu
  pub blocks : List (Option RegBlock)
  pub devices : DevicePage
  pub disk : List Block
  pub sent_from : List ℕ
  pub received : List Packet
  pub discarded : List Packet
  pub skips : List SkipEntry
  pub hand : Option Packet
  pub end : Option End
  pub closing : Option End
  pub pages : List Page
  pub operations : List (Option Operation)
  pub misses : List Misses
  pub spares : List Copy
  pub processors : List Processor
  pub due : List (Option Wish)
  pub seconds : List (List (Option Second))
  pub dead : List Bool

-- what stands past the last of a list
abbrev pub idle : Processor
idle = record { loaded = None; tlb = [] }

abbrev pub page : GuestState → ℕ → Page
page s q = page_at s.pages q

abbrev pub operation_of : GuestState → ℕ → Option Operation
operation_of s q = slice_index_or s.operations q None

abbrev pub misses_of : GuestState → ℕ → Misses
misses_of s q = slice_index_or s.misses q (no_misses 0)

abbrev pub processor : GuestState → ℕ → Processor
processor s p = slice_index_or s.processors p idle

abbrev pub due_on : GuestState → ℕ → Option Wish
due_on s p = slice_index_or s.due p None

abbrev pub block : GuestState → ℕ → Block
block s b = slice_index_or s.disk b no_block

abbrev pub second_level : GuestState → ℕ → List (Option Second)
second_level s v = slice_index_or s.seconds v []

abbrev pub is_dead : GuestState → ℕ → Bool
is_dead s cell = slice_index_or s.dead cell false

abbrev pub vcpu_of : GuestState → ℕ → Vcpu
vcpu_of s v = slice_index_or s.vcpus v no_vcpu

abbrev pub block_at : GuestState → ℕ → Option RegBlock
block_at s v = slice_index_or s.blocks v None

-- the place of the packet in hand, or of the next, among all that came to hand
abbrev pub hand_place : GuestState → ℕ
hand_place s = length s.received + length s.discarded

-- the guest with one part replaced
abbrev pub with_page : GuestState → ℕ → Page → GuestState
with_page s q new = record s { pages = slice_set s.pages q new }

abbrev pub with_operation : ℕ → Option Operation → GuestState → GuestState
with_operation q new s = record s { operations = slice_set s.operations q new }

abbrev pub with_misses : GuestState → ℕ → Misses → GuestState
with_misses s q new = record s { misses = slice_set s.misses q new }

abbrev pub with_processor : GuestState → ℕ → Processor → GuestState
with_processor s p new = record s { processors = slice_set s.processors p new }

abbrev pub with_tlb : GuestState → ℕ → List Half → GuestState
with_tlb s p new = with_processor s p (record (processor s p) { tlb = new })

abbrev pub with_second_level : GuestState → ℕ → List (Option Second) → GuestState
with_second_level s v new = record s { seconds = slice_set s.seconds v new }

abbrev pub with_block : ℕ → Option RegBlock → GuestState → GuestState
with_block v new s = record s { blocks = slice_set s.blocks v new }

abbrev pub with_vcpu : GuestState → ℕ → Vcpu → GuestState
with_vcpu s v new = record s { vcpus = slice_set s.vcpus v new }

-- a page's counters and mark start anew
abbrev pub restarted : ℕ → GuestState → GuestState
restarted q s = with_misses s q (anew (misses_of s q))
