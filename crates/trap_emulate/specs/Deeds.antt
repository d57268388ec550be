-- What the monitor does for a step that it makes whole, of a machine whose input has joined.
use Rattle.std.specs.Prelude.{◌≡◌, ℕ, nat_lt, if◌then◌else◌, length, Option, Some, None, Result, Ok, Err, IsSome, option_map}
use Rattle.base_words.specs.declared.exception.Exception.{Exception}
use Rattle.base_words.specs.declared.effect.Request.TheVariants as asks
use Rattle.base_words.specs.declared.instr.Cp0Op.{Cp0Op}
use Rattle.base_words.specs.declared.instr.Cp0Op.TheVariants.{TlbRead, TlbWriteIndexed, TlbWriteRandom, TlbProbe, ExceptionReturn}
use Rattle.base_words.specs.Instruction.{advanced}
use Rattle.base_words.specs.Tlb.{page_pair, entry_read}
use Rattle.guest_devs.specs.declared.act.DevAct.TheVariants as acts
use Rattle.guest_devs.specs.DeviceCalls.{act_at}
use Rattle.mips_alu.specs.Execution.{passed_system}
use Rattle.private_machine.specs.Access.{device_loaded, device_stored}
use Rattle.private_machine.specs.DeviceAct.{Act, NoAct}
use Rattle.private_machine.specs.DevicePage.{device_register}
use Rattle.private_machine.specs.OwnStep.{answered}
use Rattle.private_machine.specs.PrivateMachine.{PrivateMachine, vcpu, on_vcpu}
use Rattle.private_machine.specs.StepAct.{system_act}
use Rattle.private_machine.specs.declared.vcpu.Vcpu.{Vcpu}
use Rattle.private_machine.specs.Vcpu.{held_entry, raising}
use Rattle.trap_emulate.specs.declared.decision.Deed.{Deed}
use Rattle.trap_emulate.specs.declared.decision.Deed.TheVariants as deeds
use Rattle.trap_emulate.specs.declared.emulated.EntryWrite.{EntryWrite}
use Rattle.trap_emulate.specs.declared.emulated.Emulated.{Emulated}
use Rattle.trap_emulate.specs.declared.emulated.Emulated.TheVariants as emulated

-- the machine after a deed, or the exception that it raises
abbrev pub done_by : PrivateMachine → ℕ → Deed → Result PrivateMachine Exception
done_by m v (deeds.Raise x) = Err x
done_by m v (deeds.ReadCp0 number target) = answered m v (advanced (vcpu m v).registers) (asks.ReadCp0 number target)
done_by m v (deeds.WriteCp0 number value) = answered m v (advanced (vcpu m v).registers) (asks.WriteCp0 number value)
done_by m v (deeds.System op) = answered m v (passed_system op (vcpu m v).registers) (asks.System op)
done_by m v (deeds.LoadDevice offset target) = device_loaded m v (advanced (vcpu m v).registers) target (device_register offset)
done_by m v (deeds.StoreDevice offset value) = device_stored m v (advanced (vcpu m v).registers) value (device_register offset)

-- what it does with a page
abbrev pub act_by : PrivateMachine → ℕ → Deed → Act
act_by m v (deeds.Raise x) = NoAct
act_by m v (deeds.ReadCp0 number target) = NoAct
act_by m v (deeds.WriteCp0 number value) = NoAct
act_by m v (deeds.System op) = system_act m v op
act_by m v (deeds.LoadDevice offset target) = NoAct
act_by m v (deeds.StoreDevice offset value) = NoAct

-- an access of the device page is of one of its registers, and leaves nothing to do
abbrev pub IsWhole : Deed → Type 0
IsWhole (deeds.Raise x) = Unit {0}
IsWhole (deeds.ReadCp0 number target) = Unit {0}
IsWhole (deeds.WriteCp0 number value) = Unit {0}
IsWhole (deeds.System op) = Unit {0}
IsWhole (deeds.LoadDevice offset target) = IsSome (device_register offset)
IsWhole (deeds.StoreDevice offset value) = option_map (act_at value) (device_register offset) ≡ Some acts.Done

-- the entry of its TLB that a virtual processor writes, where there is one of this number: with the pairs of the old and the new one
abbrev pub entry_write : Vcpu → ℕ → Option EntryWrite
entry_write c index =
    if nat_lt index (length c.tlb)
    then Some (record { index = index; old_pair = page_pair (entry_read c.tlb index).hi; new_pair = page_pair (held_entry c.cp0).hi })
    else None

abbrev pub written_by : Cp0Op → Vcpu → Option EntryWrite
written_by TlbRead c = None
written_by TlbWriteIndexed c = entry_write c c.cp0.index.entry
written_by TlbWriteRandom c = entry_write c c.cp0.random
written_by TlbProbe c = None
written_by ExceptionReturn c = None

abbrev pub writes_by : Deed → Vcpu → Option EntryWrite
writes_by (deeds.Raise x) c = None
writes_by (deeds.ReadCp0 number target) c = None
writes_by (deeds.WriteCp0 number value) c = None
writes_by (deeds.System op) c = written_by op c
writes_by (deeds.LoadDevice offset target) c = None
writes_by (deeds.StoreDevice offset value) c = None

-- a deed led there and wrote this entry, or an exception was taken
abbrev pub Tells : PrivateMachine → ℕ → Deed → PrivateMachine → Result (Option EntryWrite) Exception → Type 0
Tells m v deed new (Ok written) = (done_by m v deed ≡ Ok new) × (written ≡ writes_by deed (vcpu m v))
Tells m v deed new (Err x) = (done_by m v deed ≡ Err x) × (new ≡ on_vcpu m v (raising x))

-- the answer for a step that was made
abbrev pub told_of : Result (Option EntryWrite) Exception → Emulated
told_of (Ok written) = emulated.Done written
told_of (Err x) = emulated.Forward x
