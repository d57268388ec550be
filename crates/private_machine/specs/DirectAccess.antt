-- What a step through the TLB leaves: registers, the register page, pages and links.
use Rattle.std.specs.Prelude.{ℕ, ◌+◌, ◌*◌, ◌%◌, Bool, true, false, Option, Some, None, Result, Ok, Err, map, unwrap_or, slice_index_or, slice_set, if◌then◌else◌}
use Rattle.base_words.specs.declared.regs.Regs.{Regs}
use Rattle.base_words.specs.declared.effect.Request.{Request}
use Rattle.base_words.specs.declared.effect.Request.TheVariants as asks
use Rattle.base_words.specs.declared.trap.Access.{Access}
use Rattle.base_words.specs.declared.trap.TrapCause.{TrapCause}
use Rattle.base_words.specs.declared.trap.DataAccess.{DataAccess}
use Rattle.base_words.specs.declared.trap.DataAccess.TheVariants as at_data
use Rattle.base_words.specs.Instruction.{register, with_register}
use Rattle.base_words.specs.Merging.{loaded_value, stored_word}
use Rattle.private_machine.specs.Backing.{Held, written_on}
use Rattle.private_machine.specs.Links.{line_of, word_offset, is_linked}
use Rattle.private_machine.specs.declared.register_page.RegBlock.{RegBlock}
use Rattle.private_machine.specs.RegisterPage.{read_from, block_after}
use Rattle.private_machine.specs.Reaching.{Sight, Reached}
use Rattle.private_machine.specs.HardwareStep.{Trap, Done, word_through, hardware_step, cause_of}

-- registers, and what a step can change of the guest, after an access
pub record Accessed : Type 0 where
  pub registers : Regs
  pub held : Held

-- the same after a step, with the register page of what runs, if it has one
pub record Stepped : Type 0 where
  pub registers : Regs
  pub block : Option RegBlock
  pub held : Held

-- a virtual processor's link, and another
abbrev pub link_of : ℕ → Held → Option ℕ
link_of v h = slice_index_or h.links v None

abbrev pub linking : ℕ → Option ℕ → Held → Held
linking v line h = record h { links = slice_set h.links v line }

-- the links of all others to a line are gone
abbrev pub link_without : ℕ → Option ℕ → Option ℕ
link_without line link = if is_linked link line then None else link

abbrev pub others_unlinked : ℕ → ℕ → Held → Held
others_unlinked v line h = record h { links = slice_set (map (link_without line) h.links) v (link_of v h) }

-- the line of the guest's memory at an address, where it is reached
abbrev pub line_at : Reached → ℕ → ℕ
line_at at address = line_of (at.page * 4096 + address % 4096)

-- a word becomes another on the frame that is reached alone
abbrev pub stored_at : ℕ → Reached → ℕ → ℕ → Held → Held
stored_at v at address word held =
    others_unlinked v (line_at at address) (written_on held at.page at.frame (word_offset (address % 4096)) word)

abbrev pub stored_if_linked : Bool → ℕ → Reached → Regs → ℕ → ℕ → ℕ → Held → Accessed
stored_if_linked true v at regs address value target held =
    record { registers = with_register regs target 1; held = linking v None (stored_at v at address value held) }
stored_if_linked false v at regs address value target held =
    record { registers = with_register regs target 0; held = linking v None held }

-- an instruction's access, where it is reached; coprocessor 0 always traps, but for its registers on the register page
abbrev pub accessed_through : ℕ → Option RegBlock → Reached → Regs → Request → Held → Accessed
accessed_through v block at regs asks.Nothing held = record { registers = regs; held = held }
accessed_through v block at regs (asks.Load kind address target) held = record {
  registers = with_register regs target (loaded_value kind (word_through held.pages at address) (register regs target) (address % 4));
  held = held;
}
accessed_through v block at regs (asks.Store kind address value) held = record {
  registers = regs;
  held = stored_at v at address (stored_word kind (word_through held.pages at address) value (address % 4)) held;
}
accessed_through v block at regs (asks.LoadLinked address target) held = record {
  registers = with_register regs target (word_through held.pages at address);
  held = linking v (Some (line_at at address)) held;
}
accessed_through v block at regs (asks.StoreConditional address value target) held =
    stored_if_linked (is_linked (link_of v held) (line_at at address)) v at regs address value target held
accessed_through v block at regs (asks.ReadCp0 number target) held = record { registers = read_from block regs number target; held = held }
accessed_through v block at regs (asks.WriteCp0 number value) held = record { registers = regs; held = held }
accessed_through v block at regs (asks.System op) held = record { registers = regs; held = held }

-- with no data access what the fetch reached stands in, and isn't looked at
abbrev pub data_reached : Done → Reached
data_reached d = unwrap_or d.data_at d.fetched

-- what a virtual processor's step leaves
abbrev pub stepped_through : ℕ → Option RegBlock → Held → Done → Stepped
stepped_through v block held d =
    let after = accessed_through v block (data_reached d) d.does.registers d.does.request held in
    record { registers = after.registers; block = block_after d.does.request block; held = after.held }

-- the data access that is told of a step; a conditional store that isn't made is told as a load
abbrev pub load_told : Reached → DataAccess
load_told at = at_data.Load (record { 0 = at.page }) (record { 0 = at.frame })

abbrev pub store_told : Reached → DataAccess
store_told at = at_data.Store (record { 0 = at.page }) (record { 0 = at.frame })

abbrev pub data_told : ℕ → Reached → Request → Held → DataAccess
data_told v at asks.Nothing held = at_data.NoData
data_told v at (asks.Load kind address target) held = load_told at
data_told v at (asks.Store kind address value) held = store_told at
data_told v at (asks.LoadLinked address target) held = load_told at
data_told v at (asks.StoreConditional address value target) held =
    if is_linked (link_of v held) (line_at at address) then store_told at else load_told at
data_told v at (asks.ReadCp0 number target) held = at_data.NoData
data_told v at (asks.WriteCp0 number value) held = at_data.NoData
data_told v at (asks.System op) held = at_data.NoData

abbrev pub access_told : ℕ → Held → Done → Access
access_told v held d = record { fetched = record { 0 = d.fetched.frame }; «data» = data_told v (data_reached d) d.does.request held }

-- what a step by itself comes to: the access that is told and what is left, or the cause that is told
pub record Outcome : Type 0 where
  pub access : Access
  pub after : Stepped

abbrev pub outcome_of : ℕ → Option RegBlock → Held → Result Done Trap → Result Outcome TrapCause
outcome_of v block held (Ok d) = Ok (record { access = access_told v held d; after = stepped_through v block held d })
outcome_of v block held (Err trap) = Err (cause_of trap)

abbrev pub hardware_outcome : Sight → ℕ → Held → Regs → Result Outcome TrapCause
hardware_outcome x v held regs = outcome_of v x.block held (hardware_step x held.pages regs)
