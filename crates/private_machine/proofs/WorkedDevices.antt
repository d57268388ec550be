-- The device page: a read of a block that clears a link, each status of a disk command, sends, a packet, input and calls.
use Rattle.std.proofs.Common.{◌≡◌, ℕ, List, [], ◌∷◌, ◌++◌, Some, None, slice_index, refl, replicate, map}
use Rattle.base_words.specs.declared.device.DeviceRegister.TheVariants.{DiskStatus, Armed, PacketLength, PacketSender}
use Rattle.private_machine.specs.Vcpu.{with_link}
use Rattle.private_machine.specs.DeviceRegisters.{register_read}
use Rattle.private_machine.specs.PrivateMachine.{PrivateMachine, vcpu, on_vcpu}
use Rattle.private_machine.specs.Packet.{own_packet}
use Rattle.private_machine.specs.OwnStep.{joined}
use Rattle.private_machine.proofs.WorkedGuests.{bytes, guest, running, stepped, after, cp0_word, with_general}

-- a guest with a disk of one block, whose register 16 is the device page
abbrev with_disk : List ℕ → List ℕ → PrivateMachine
with_disk program rest =
    with_general (replicate 16 0 ++ (0xCFFF_F000 ∷ replicate 15 0)) (record (running program rest) { disk = (0x61 ∷ replicate 4095 0) ∷ [] })

abbrev linked_to : ℕ → PrivateMachine → PrivateMachine
linked_to line m = on_vcpu m 0 (with_link (Some line))

-- ADDIU 8, 0, 2; SW 8, 24(16); ADDIU 9, 0, 1; SW 9, 28(16): block 0 into page 2
abbrev reads_block : List ℕ
reads_block = 0x2408_0002 ∷ 0xAE08_0024 ∷ 0x2409_0001 ∷ 0xAE09_0028 ∷ []

block_is_read : (rest : List ℕ) → register_read 0 (stepped 4 (with_disk reads_block rest)).devices DiskStatus ≡ 0
block_is_read rest = refl

-- line 300 lies in page 2, and line 384 in page 3
read_clears_the_link : (rest : List ℕ) → (after 4 (linked_to 300 (with_disk reads_block rest))).link ≡ None
read_clears_the_link rest = refl

read_leaves_other_links : (rest : List ℕ) → (after 4 (linked_to 384 (with_disk reads_block rest))).link ≡ Some 384
read_leaves_other_links rest = refl

-- status 3 for another command, 1 for a block that isn't there, 2 for a page that isn't
status_after : List ℕ → List ℕ → ℕ
status_after program rest = register_read 0 (stepped 4 (with_disk program rest)).devices DiskStatus

other_command : (rest : List ℕ) → status_after (0x2408_0002 ∷ 0xAE08_0024 ∷ 0x2409_0003 ∷ 0xAE09_0028 ∷ []) rest ≡ 3
unfolding status_after
other_command rest = refl

no_block : (rest : List ℕ) → status_after (0x2408_0001 ∷ 0xAE08_0020 ∷ 0x2409_0001 ∷ 0xAE09_0028 ∷ []) rest ≡ 1
unfolding status_after
no_block rest = refl

no_page : (rest : List ℕ) → status_after (0x2408_0010 ∷ 0xAE08_0024 ∷ 0x2409_0002 ∷ 0xAE09_0028 ∷ []) rest ≡ 2
unfolding status_after
no_page rest = refl

no_disk : (rest : List ℕ) → register_read 0 (stepped 4 (with_general (replicate 16 0 ++ (0xCFFF_F000 ∷ replicate 15 0)) (running reads_block rest))).devices DiskStatus ≡ 1
no_disk rest = refl

-- ADDIU 8, 0, 3; SW 8, 34(16); SW 8, 38(16): the first three bytes of page 0 go to guest 3; with length 0 nothing goes
sends : (rest : List ℕ) → (stepped 3 (with_disk (0x2408_0003 ∷ 0xAE08_0034 ∷ 0xAE08_0038 ∷ []) rest)).devices.sent ≡ record { to = 3; bytes = 0x24 ∷ 0x08 ∷ 0x00 ∷ [] } ∷ []
sends rest = refl

sends_nothing : (rest : List ℕ) → (stepped 2 (with_disk (0x2408_0003 ∷ 0xAE08_0038 ∷ []) rest)).devices.sent ≡ []
sends_nothing rest = refl

-- ADDIU 8, 0, 1; SW 8, 3C(16): page 1 is armed, and takes a packet of two bytes from guest 5
abbrev armed : List ℕ → PrivateMachine
armed rest = stepped 2 (linked_to 128 (with_disk (0x2408_0001 ∷ 0xAE08_003C ∷ []) rest))

is_armed : (rest : List ℕ) → register_read 0 (armed rest).devices Armed ≡ 1
is_armed rest = refl

abbrev arrived_at : List ℕ → PrivateMachine
arrived_at rest = own_packet (armed rest) 5 (0xAA ∷ 0xBB ∷ [])

packet_registers : (rest : List ℕ) → let d = (arrived_at rest).devices in
    register_read 0 d Armed ∷ register_read 0 d PacketLength ∷ register_read 0 d PacketSender ∷ [] ≡ 0xFFFF_FFFF ∷ 2 ∷ 5 ∷ []
packet_registers rest = refl

packet_interrupts : (rest : List ℕ) → cp0_word 13 (vcpu (arrived_at rest) 0) ≡ 0x800
packet_interrupts rest = refl

packet_clears_the_link : (rest : List ℕ) → (vcpu (arrived_at rest) 0).link ≡ None
packet_clears_the_link rest = refl

packet_fills : (before page behind : List ℕ) → (own_packet (record (guest 1 []) { memory = replicate 4096 0 ++ (1 ∷ 2 ∷ 3 ∷ behind); devices = record (guest 1 []).devices { armed = Some 1 } }) 5 (0xAA ∷ 0xBB ∷ [])).memory
    ≡ replicate 4096 0 ++ (0xAA ∷ 0xBB ∷ 3 ∷ behind)
packet_fills before page behind = refl

-- input that comes before the first step and before the third: IP2, and the bytes in their order
abbrev typed : List ℕ → PrivateMachine
typed rest = record (with_disk (0x8E08_0008 ∷ 0x8E09_000C ∷ 0x8E0A_0008 ∷ 0x8E0B_0008 ∷ []) rest) {
  devices = record (guest 1 []).devices { coming = record { at = 0; text = 0x78 ∷ [] } ∷ record { at = 2; text = 0x79 ∷ [] } ∷ [] };
}

input_joins : (rest : List ℕ) → cp0_word 13 (vcpu (joined (typed rest) 0) 0) ≡ 0x400
input_joins rest = refl

input_is_taken : (rest : List ℕ) → let c = after 4 (typed rest) in
    slice_index c.registers.general 8 ∷ slice_index c.registers.general 9 ∷ slice_index c.registers.general 10 ∷ slice_index c.registers.general 11 ∷ cp0_word 13 c ∷ []
    ≡ 0x78 ∷ 0 ∷ 0x79 ∷ 0xFFFF_FFFF ∷ 0 ∷ []
input_is_taken rest = refl

-- ADDIU 8, 0, 6; SW 8, 18(16): IP4 goes on in virtual processors 1 and 2
abbrev calls : List ℕ → PrivateMachine
calls rest = stepped 2 (with_general (replicate 16 0 ++ (0xCFFF_F000 ∷ replicate 15 0)) (guest 3 (bytes (0x2408_0006 ∷ 0xAE08_0018 ∷ []) ++ rest)))

called_lines : (rest : List ℕ) → map (cp0_word 13) (calls rest).vcpus ≡ 0 ∷ 0x1000 ∷ 0x1000 ∷ []
called_lines rest = refl
