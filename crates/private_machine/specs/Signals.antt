-- What a store to the device page changes in the virtual processors: halts, and lines of interrupts.
use Rattle.std.specs.Prelude.{ℕ, ◌/◌, if◌then◌else◌, List, [], ◌∷◌, true, false, slice_index_or, slice_set}
use Rattle.base_words.specs.declared.device.DeviceRegister.{DeviceRegister}
use Rattle.base_words.specs.declared.device.DeviceRegister.TheVariants.{Console, Halt, Input, Queued, Number, Vcpus, Call, Answered, DiskBlock, DiskPage, DiskCommand, DiskStatus, SendPage, SendLength, Send, Armed, PacketLength, PacketSender, PacketTaken}
use Rattle.base_words.specs.Bits.{flag}
use Rattle.private_machine.specs.declared.vcpu.Vcpu.{Vcpu}
use Rattle.private_machine.specs.Vcpu.{no_vcpu, with_line_on, halting}

-- IP4 goes on in each virtual processor whose bit is on
abbrev pub called : ℕ → List Vcpu → List Vcpu
called word [] = []
called word (c ∷ vcpus) = (if flag 0 word then with_line_on 4 true c else c) ∷ called (word / 2) vcpus

-- one of them is changed
abbrev pub changed : ℕ → (Vcpu → Vcpu) → List Vcpu → List Vcpu
changed v change vcpus = slice_set vcpus v (change (slice_index_or vcpus v no_vcpu))

-- after a store of a value to a register, by one of them
abbrev pub signalled : ℕ → ℕ → List Vcpu → DeviceRegister → List Vcpu
signalled v value vcpus Console = vcpus
signalled v value vcpus Halt = changed v halting vcpus
signalled v value vcpus Input = vcpus
signalled v value vcpus Queued = vcpus
signalled v value vcpus Number = vcpus
signalled v value vcpus Vcpus = vcpus
signalled v value vcpus Call = called value vcpus
signalled v value vcpus Answered = changed v (with_line_on 4 false) vcpus
signalled v value vcpus DiskBlock = vcpus
signalled v value vcpus DiskPage = vcpus
signalled v value vcpus DiskCommand = vcpus
signalled v value vcpus DiskStatus = vcpus
signalled v value vcpus SendPage = vcpus
signalled v value vcpus SendLength = vcpus
signalled v value vcpus Send = vcpus
signalled v value vcpus Armed = vcpus
signalled v value vcpus PacketLength = vcpus
signalled v value vcpus PacketSender = vcpus
signalled v value vcpus PacketTaken = changed 0 (with_line_on 3 false) vcpus
