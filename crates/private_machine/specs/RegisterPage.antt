-- The register page of a guest of profile 2: a page of the direct segment at which the guest's kernel reads and writes registers of
-- coprocessor 0 by loads and stores of words. At 4 times a register's number stands that register.
use Rattle.std.specs.Prelude.{ℕ, ◌-◌, ◌/◌, ◌%◌, ◌==◌, nat_le, nat_lt, if◌then◌else◌, Bool, true, false, ◌&&◌, ◌||◌, Option, Some, None, Result, Ok, Err}
use Rattle.base_words.specs.declared.coprocessor.Cp0Registers.{Cp0Registers}
use Rattle.base_words.specs.declared.coprocessor.Cp0Register.TheVariants.{Index, EntryLo0, EntryLo1, Context, BadVAddr, EntryHi, Epc}
use Rattle.base_words.specs.declared.exception.Exception.{Exception}
use Rattle.base_words.specs.declared.effect.Request.{Request}
use Rattle.base_words.specs.declared.effect.Request.TheVariants as asks
use Rattle.base_words.specs.declared.instr.LoadKind.{LoadKind}
use Rattle.base_words.specs.declared.instr.LoadKind.TheVariants as loads
use Rattle.base_words.specs.declared.instr.StoreKind.{StoreKind}
use Rattle.base_words.specs.declared.instr.StoreKind.TheVariants as stores
use Rattle.base_words.specs.declared.regs.Regs.{Regs}
use Rattle.base_words.specs.Bits.{bits}
use Rattle.base_words.specs.Coprocessor.{register_at, reads, writes}
use Rattle.base_words.specs.Instruction.{Effect, with_register}
use Rattle.private_machine.specs.declared.register_page.RegBlock.{RegBlock}

-- which profile has the page
abbrev pub has_page : ℕ → Bool
has_page profile = profile == 2

-- an address of a word of the page, and the number of the register there
abbrev pub is_on_page : ℕ → Bool
is_on_page address = nat_le 0xCFFF_E000 address && (nat_lt address 0xCFFF_F000 && (address % 4 == 0))

abbrev pub number_at : ℕ → ℕ
number_at address = (address - 0xCFFF_E000) / 4

-- the registers that are loaded: Index, EntryLo0, EntryLo1, Context, BadVAddr, EntryHi and EPC; and those that are stored
abbrev pub is_loaded : ℕ → Bool
is_loaded n = (n == 0) || ((n == 2) || ((n == 3) || ((n == 4) || ((n == 8) || ((n == 10) || (n == 14))))))

abbrev pub is_stored : ℕ → Bool
is_stored n = (n == 0) || ((n == 2) || ((n == 3) || (n == 14)))

-- a load and a store of a word there are what MFC0 and MTC0 do; all else is as it was
abbrev pub word_loaded : ℕ → ℕ → Request
word_loaded address target =
    if is_on_page address && is_loaded (number_at address) then asks.ReadCp0 (number_at address) target
    else asks.Load loads.Word address target

abbrev pub word_stored : ℕ → ℕ → Request
word_stored address value =
    if is_on_page address && is_stored (number_at address) then asks.WriteCp0 (number_at address) value
    else asks.Store stores.Word address value

abbrev pub load_of : LoadKind → ℕ → ℕ → Request
load_of loads.Byte address target = asks.Load loads.Byte address target
load_of loads.ByteUnsigned address target = asks.Load loads.ByteUnsigned address target
load_of loads.HalfWord address target = asks.Load loads.HalfWord address target
load_of loads.HalfWordUnsigned address target = asks.Load loads.HalfWordUnsigned address target
load_of loads.Word address target = word_loaded address target
load_of loads.WordLeft address target = asks.Load loads.WordLeft address target
load_of loads.WordRight address target = asks.Load loads.WordRight address target

abbrev pub store_of : StoreKind → ℕ → ℕ → Request
store_of stores.Byte address value = asks.Store stores.Byte address value
store_of stores.HalfWord address value = asks.Store stores.HalfWord address value
store_of stores.Word address value = word_stored address value
store_of stores.WordLeft address value = asks.Store stores.WordLeft address value
store_of stores.WordRight address value = asks.Store stores.WordRight address value

abbrev pub of_register : Request → Request
of_register asks.Nothing = asks.Nothing
of_register (asks.Load kind address target) = load_of kind address target
of_register (asks.Store kind address value) = store_of kind address value
of_register (asks.LoadLinked address target) = asks.LoadLinked address target
of_register (asks.StoreConditional address value target) = asks.StoreConditional address value target
of_register (asks.ReadCp0 number target) = asks.ReadCp0 number target
of_register (asks.WriteCp0 number value) = asks.WriteCp0 number value
of_register (asks.System op) = asks.System op

-- where the page is open, what an instruction asks there is asked of its register
abbrev pub redirected : Bool → Request → Request
redirected false request = request
redirected true request = of_register request

abbrev pub opened : Bool → Result Effect Exception → Result Effect Exception
opened is_open (Err x) = Err x
opened is_open (Ok does) = Ok (record does { request = redirected is_open does.request })

-- the words of the page, as the registers read
abbrev pub block_of : Cp0Registers → RegBlock
block_of c = record {
  index = reads c Index;
  lo0 = reads c EntryLo0;
  lo1 = reads c EntryLo1;
  context = reads c Context;
  bad = reads c BadVAddr;
  hi = reads c EntryHi;
  epc = reads c Epc;
}

-- a virtual processor's block, in a guest that has the page
abbrev pub block_for : Bool → Cp0Registers → Option RegBlock
block_for true c = Some (block_of c)
block_for false c = None

-- the word of the register of a number
abbrev pub word_of_block : ℕ → RegBlock → ℕ
word_of_block n b =
    if n == 0 then b.index
    else if n == 2 then b.lo0
    else if n == 3 then b.lo1
    else if n == 4 then b.context
    else if n == 8 then b.bad
    else if n == 10 then b.hi
    else if n == 14 then b.epc
    else 0

-- a word is stored: Index keeps its low 6 bits, EntryLo0 and EntryLo1 30 bits, EPC all
abbrev pub block_written : ℕ → ℕ → RegBlock → RegBlock
block_written n value b =
    if n == 0 then record b { index = bits 5 0 value }
    else if n == 2 then record b { lo0 = bits 29 0 value }
    else if n == 3 then record b { lo1 = bits 29 0 value }
    else if n == 14 then record b { epc = value }
    else b

-- what a load and a store there leave of registers and block; without a block nothing changes
abbrev pub read_from : Option RegBlock → Regs → ℕ → ℕ → Regs
read_from None regs number target = regs
read_from (Some b) regs number target = with_register regs target (word_of_block number b)

abbrev pub written_to : Option RegBlock → ℕ → ℕ → Option RegBlock
written_to None number value = None
written_to (Some b) number value = Some (block_written number value b)

-- the block after what an instruction asked, and coprocessor 0, whose register takes the word that was written
abbrev pub block_after : Request → Option RegBlock → Option RegBlock
block_after asks.Nothing block = block
block_after (asks.Load kind address target) block = block
block_after (asks.Store kind address value) block = block
block_after (asks.LoadLinked address target) block = block
block_after (asks.StoreConditional address value target) block = block
block_after (asks.ReadCp0 number target) block = block
block_after (asks.WriteCp0 number value) block = written_to block number value
block_after (asks.System op) block = block

abbrev pub registers_after : Request → Cp0Registers → Cp0Registers
registers_after asks.Nothing c = c
registers_after (asks.Load kind address target) c = c
registers_after (asks.Store kind address value) c = c
registers_after (asks.LoadLinked address target) c = c
registers_after (asks.StoreConditional address value target) c = c
registers_after (asks.ReadCp0 number target) c = c
registers_after (asks.WriteCp0 number value) c = writes c (register_at number) value
registers_after (asks.System op) c = c
