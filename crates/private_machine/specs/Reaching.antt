-- What an access reaches through a processor's TLB (MIPS R4000 User's Manual, chapter 4, "TLB Instructions"; the monitor fills
-- this TLB with the machine's frames).
use Rattle.std.specs.Prelude.{ℕ, ◌/◌, ◌%◌, ◌==◌, if◌then◌else◌, Bool, not, ◌&&◌, List, find, Option, Some, None, Result, Ok, Err, is_some}
use Rattle.base_words.specs.declared.effect.Request.{Request}
use Rattle.base_words.specs.declared.effect.Request.TheVariants as asks
use Rattle.base_words.specs.declared.exception.Use.{Use}
use Rattle.base_words.specs.declared.exception.Use.TheVariants.{Fetch, Load, Store}
use Rattle.base_words.specs.Halves.{Half, is_of}
use Rattle.base_words.specs.Merging.{load_unit, store_unit}
use Rattle.base_words.specs.Place.{Segment, Mapped, Direct, Outside, segment, is_store}
use Rattle.private_machine.specs.declared.register_page.RegBlock.{RegBlock}

-- an access: what for, of which its address has to be a multiple, and the address
pub record Wanted : Type 0 where
  pub purpose : Use
  pub unit : ℕ
  pub address : ℕ

-- what an access reaches by a half: the guest's page, and the frame
pub record Reached : Type 0 where
  pub page : ℕ
  pub frame : ℕ

-- why an access doesn't reach a frame: it isn't aligned or out of the mode's ranges, no valid half matches, the half's frame
-- lies in a cell that has failed, or the half isn't writable
pub data Lack : Type 0 where
  NoRange : Lack
  NoHalf : Lack
  DeadFrame : (at : Reached) → Lack
  NoStore : Lack

-- what a processor goes by, beside its registers: the register page of what runs, if it has one, mode, ASID, whether an interrupt is
-- enabled and pending, the valid halves of its TLB, and which frames are lost with a failed cell
pub record Sight : Type 0 where
  pub block : Option RegBlock
  pub user : Bool
  pub asid : ℕ
  pub line : Bool
  pub tlb : List Half
  pub lost : ℕ → Bool

abbrev pub at_half : Half → Reached
at_half h = record { page = h.page; frame = h.frame }

-- by the half that matches
abbrev pub through_half : Sight → Wanted → Option Half → Result Reached Lack
through_half x w None = Err NoHalf
through_half x w (Some h) =
    if x.lost h.frame then Err (DeadFrame (at_half h))
    else if is_store w.purpose && not h.writable then Err NoStore
    else Ok (at_half h)

abbrev pub in_segment : Sight → Wanted → Segment → Result Reached Lack
in_segment x w Mapped = through_half x w (find (is_of (w.address / 4096) x.asid) x.tlb)
in_segment x w Direct = through_half x w (find (is_of (w.address / 4096) x.asid) x.tlb)
in_segment x w Outside = Err NoRange

-- what an access reaches
abbrev pub reached : Sight → Wanted → Result Reached Lack
reached x w = if w.address % w.unit == 0 then in_segment x w (segment x.user w.address) else Err NoRange

-- the access of a fetch, and of an instruction
abbrev pub fetch_at : ℕ → Wanted
fetch_at pc = record { purpose = Fetch; unit = 4; address = pc }

abbrev pub wanted : Request → Option Wanted
wanted asks.Nothing = None
wanted (asks.Load kind address target) = Some (record { purpose = Load; unit = load_unit kind; address = address })
wanted (asks.Store kind address value) = Some (record { purpose = Store; unit = store_unit kind; address = address })
wanted (asks.LoadLinked address target) = Some (record { purpose = Load; unit = 4; address = address })
wanted (asks.StoreConditional address value target) = Some (record { purpose = Store; unit = 4; address = address })
wanted (asks.ReadCp0 number target) = None
wanted (asks.WriteCp0 number value) = None
wanted (asks.System op) = None

-- the register page is open: there is one, and no user code runs
abbrev pub is_open_to : Sight → Bool
is_open_to x = is_some x.block && not x.user
