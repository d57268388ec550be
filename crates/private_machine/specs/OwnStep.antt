-- One step of a virtual processor as the guest sees it (MIPS R4000 User's Manual, chapter 5). The first of an instruction's
-- faults counts: the fetch; coprocessor 0 in user mode; what the instruction raises by itself; the data access.
use Rattle.std.specs.Prelude.{ℕ, ◌==◌, if◌then◌else◌, Bool, true, false, not, ◌&&◌, Result, Ok, Err}
use Rattle.base_words.specs.declared.regs.Regs.{Regs}
use Rattle.base_words.specs.declared.effect.Request.{Request}
use Rattle.base_words.specs.declared.effect.Request.TheVariants as asks
use Rattle.base_words.specs.declared.exception.Use.{Use}
use Rattle.base_words.specs.declared.exception.Use.TheVariants.{Fetch, Load, Store}
use Rattle.base_words.specs.declared.exception.Exception.{Exception}
use Rattle.base_words.specs.declared.exception.Exception.TheVariants.{Interrupt, BusError, CoprocessorUnusable}
use Rattle.base_words.specs.declared.place.Place.{Place}
use Rattle.base_words.specs.declared.place.Place.TheVariants.{Memory, Device}
use Rattle.base_words.specs.Fields.{opcode}
use Rattle.base_words.specs.Memory.{word_at}
use Rattle.base_words.specs.Merging.{load_unit, store_unit}
use Rattle.base_words.specs.OpcodeMap.{decoded}
use Rattle.base_words.specs.Instruction.{Effect, with_register, effect}
use Rattle.base_words.specs.Coprocessor.{register_at, reads, writes, in_user_mode, interrupts}
use Rattle.base_words.specs.Place.{place}
use Rattle.private_machine.specs.Vcpu.{space_of, with_cp0, raising, ticking, system_done}
use Rattle.private_machine.specs.DeviceRegisters.{with_arrived}
use Rattle.private_machine.specs.RegisterPage.{redirected}
use Rattle.private_machine.specs.PrivateMachine.{PrivateMachine, vcpu, on_vcpu, left, is_open, with_devices, with_input_line}
use Rattle.private_machine.specs.Access.{loaded, stored, linked_load, conditional_store}

-- where an address of a virtual processor leads
abbrev pub led : PrivateMachine → ℕ → ℕ → Use → ℕ → Result Place Exception
led m v unit purpose address = place (space_of (vcpu m v)) m.pages unit purpose address

-- what the instruction asked of memory or of coprocessor 0 is done
abbrev pub answered : PrivateMachine → ℕ → Regs → Request → Result PrivateMachine Exception
answered m v regs asks.Nothing = Ok (left m v regs)
answered m v regs (asks.Load kind address target) = loaded m v regs kind target (led m v (load_unit kind) Load address)
answered m v regs (asks.Store kind address value) = stored m v regs kind value (led m v (store_unit kind) Store address)
answered m v regs (asks.LoadLinked address target) = linked_load m v regs target (led m v 4 Load address)
answered m v regs (asks.StoreConditional address value target) = conditional_store m v regs target value (led m v 4 Store address)
answered m v regs (asks.ReadCp0 number target) = Ok (left m v (with_register regs target (reads (vcpu m v).cp0 (register_at number))))
answered m v regs (asks.WriteCp0 number value) = Ok (on_vcpu (left m v regs) v (λ c. with_cp0 (writes c.cp0 (register_at number) value) c))
answered m v regs (asks.System op) = Ok (on_vcpu (left m v regs) v (system_done op))

-- the word at a place from which an instruction is fetched
abbrev pub word_of : PrivateMachine → Result Place Exception → Result ℕ Exception
word_of m (Err x) = Err x
word_of m (Ok (Memory offset)) = Ok (word_at m.memory offset)
word_of m (Ok (Device offset)) = Err (BusError Fetch)

-- the word at the program counter
abbrev pub fetched : PrivateMachine → ℕ → Result ℕ Exception
fetched m v = word_of m (led m v 4 Fetch (vcpu m v).registers.pc)

-- a word of coprocessor 0, also a reserved one, which user code may not use
abbrev pub is_privileged : ℕ → Bool
is_privileged word = opcode word == 16

abbrev pub is_usable : ℕ → Bool → Bool
is_usable word user = not (is_privileged word && user)

abbrev pub usable : Bool → Result Effect Exception → Result Effect Exception
usable true does = does
usable false does = Err (CoprocessorUnusable 0)

-- what the instruction does, and its access, which may be of a register
abbrev pub executed : PrivateMachine → ℕ → Result Effect Exception → Result PrivateMachine Exception
executed m v (Err x) = Err x
executed m v (Ok does) = answered m v does.registers (redirected (is_open m v) does.request)

abbrev pub decided : PrivateMachine → ℕ → Result ℕ Exception → Result PrivateMachine Exception
decided m v (Err x) = Err x
decided m v (Ok word) =
    executed m v (usable (is_usable word (in_user_mode (vcpu m v).cp0.status)) (effect (decoded word) (vcpu m v).registers))

-- the machine after the instruction at the program counter, or the first exception that it raises
abbrev pub attempted : PrivateMachine → ℕ → Result PrivateMachine Exception
attempted m v = decided m v (fetched m v)

abbrev pub settled : PrivateMachine → ℕ → Result PrivateMachine Exception → PrivateMachine
settled m v (Ok after) = after
settled m v (Err x) = on_vcpu m v (raising x)

-- before a step of virtual processor 0 the input whose time has come joins the queue
abbrev pub input_joined : PrivateMachine → PrivateMachine
input_joined m = with_input_line (with_devices m (with_arrived (vcpu m 0).steps m.devices))

abbrev pub joined : PrivateMachine → ℕ → PrivateMachine
joined m v = if v == 0 then input_joined m else m

-- an interrupt comes before the instruction and its faults
abbrev pub acted : PrivateMachine → ℕ → PrivateMachine
acted m v = if interrupts (vcpu m v).cp0 then on_vcpu m v (raising Interrupt) else settled m v (attempted m v)

-- at the end the virtual processor ticks
abbrev pub made : PrivateMachine → ℕ → PrivateMachine
made m v = on_vcpu (acted m v) v ticking

-- one step of a virtual processor; one that has halted changes nothing
abbrev pub own_step : PrivateMachine → ℕ → PrivateMachine
own_step m v = if (vcpu m v).halted then m else made (joined m v) v
