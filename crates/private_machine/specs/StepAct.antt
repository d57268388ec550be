-- The step at hand of a virtual processor: what it does with a page, and whether it writes an entry of the guest's TLB.
use Rattle.private_machine.specs.DeviceAct.{Act, NoAct, WritesEntry, StoresTo, stores_to_device}
use Rattle.std.specs.Prelude.{ℕ, ◌/◌, nat_lt, if◌then◌else◌, length, Result, Ok, Err}
use Rattle.base_words.specs.declared.exception.Exception.{Exception}
use Rattle.base_words.specs.declared.exception.Use.TheVariants.{Store}
use Rattle.base_words.specs.declared.instr.Cp0Op.{Cp0Op}
use Rattle.base_words.specs.declared.instr.Cp0Op.TheVariants.{TlbRead, TlbWriteIndexed, TlbWriteRandom, TlbProbe, ExceptionReturn}
use Rattle.base_words.specs.declared.instr.StoreKind.{StoreKind}
use Rattle.base_words.specs.declared.place.Place.{Place}
use Rattle.base_words.specs.declared.place.Place.TheVariants.{Memory, Device}
use Rattle.base_words.specs.Coprocessor.{interrupts, in_user_mode}
use Rattle.base_words.specs.Merging.{store_unit}
use Rattle.base_words.specs.OpcodeMap.{decoded}
use Rattle.base_words.specs.declared.effect.Request.{Request}
use Rattle.base_words.specs.declared.effect.Request.TheVariants as asks
use Rattle.private_machine.specs.DevicePage.{transfer_of}
use Rattle.base_words.specs.declared.device.Transfer.{Transfer}
use Rattle.base_words.specs.Instruction.{Effect, effect}
use Rattle.private_machine.specs.PrivateMachine.{PrivateMachine, vcpu, is_open}
use Rattle.private_machine.specs.RegisterPage.{redirected}
use Rattle.private_machine.specs.OwnStep.{led, fetched, is_usable, usable}

abbrev pub stores_at : PrivateMachine → Transfer → StoreKind → ℕ → Result Place Exception → Act
stores_at m t kind value (Err x) = NoAct
stores_at m t kind value (Ok (Memory offset)) = StoresTo (offset / 4096)
stores_at m t kind value (Ok (Device offset)) = stores_to_device m t kind offset value

-- a conditional store is a store, made or not
abbrev pub stores_linked : Result Place Exception → Act
stores_linked (Err x) = NoAct
stores_linked (Ok (Memory offset)) = StoresTo (offset / 4096)
stores_linked (Ok (Device offset)) = NoAct

-- an entry of the guest's TLB is written, where there is one of this number
abbrev pub writes_entry : PrivateMachine → ℕ → ℕ → Act
writes_entry m v index = if nat_lt index (length (vcpu m v).tlb) then WritesEntry index else NoAct

abbrev pub system_act : PrivateMachine → ℕ → Cp0Op → Act
system_act m v TlbRead = NoAct
system_act m v TlbWriteIndexed = writes_entry m v (vcpu m v).cp0.index.entry
system_act m v TlbWriteRandom = writes_entry m v (vcpu m v).cp0.random
system_act m v TlbProbe = NoAct
system_act m v ExceptionReturn = NoAct

abbrev pub act_of : PrivateMachine → ℕ → Request → Act
act_of m v asks.Nothing = NoAct
act_of m v (asks.Load kind address target) = NoAct
act_of m v (asks.Store kind address value) = stores_at m (transfer_of m.devices v) kind value (led m v (store_unit kind) Store address)
act_of m v (asks.LoadLinked address target) = NoAct
act_of m v (asks.StoreConditional address value target) = stores_linked (led m v 4 Store address)
act_of m v (asks.ReadCp0 number target) = NoAct
act_of m v (asks.WriteCp0 number value) = NoAct
act_of m v (asks.System op) = system_act m v op

abbrev pub act_executed : PrivateMachine → ℕ → Result Effect Exception → Act
act_executed m v (Err x) = NoAct
act_executed m v (Ok does) = act_of m v (redirected (is_open m v) does.request)

abbrev pub act_decided : PrivateMachine → ℕ → Result ℕ Exception → Act
act_decided m v (Err x) = NoAct
act_decided m v (Ok word) =
    act_executed m v (usable (is_usable word (in_user_mode (vcpu m v).cp0.status)) (effect (decoded word) (vcpu m v).registers))

-- what the next own step of a virtual processor does with a page; an interrupt does nothing
abbrev pub act_next : PrivateMachine → ℕ → Act
act_next m v = if interrupts (vcpu m v).cp0 then NoAct else act_decided m v (fetched m v)
