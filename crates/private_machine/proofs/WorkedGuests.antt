-- Guests for the rows that are computed from the definitions alone: small programs, whatever follows them in memory.
use Rattle.std.proofs.Common.{ℕ, ◌/◌, ◌%◌, ◌^◌, List, [], ◌∷◌, ◌++◌, replicate}
use Rattle.base_words.specs.declared.events.OwnEvent.{OwnEvent}
use Rattle.base_words.specs.declared.events.OwnEvent.TheVariants.{Step}
use Rattle.base_words.specs.declared.tlb.Entry.{Entry}
use Rattle.base_words.specs.Coprocessor.{register_at, writes, reads}
use Rattle.base_words.specs.Tlb.{entry_written}
use Rattle.private_machine.specs.declared.vcpu.Vcpu.{Vcpu}
use Rattle.private_machine.specs.PrivateMachine.{PrivateMachine, vcpu, on_vcpu}
use Rattle.private_machine.specs.PrivateRun.{booted, private_run}

-- the bytes of words, the most significant first
abbrev pub bytes : List ℕ → List ℕ
bytes [] = []
bytes (w ∷ ws) = (w / 2 ^ 24 ∷ w / 2 ^ 16 % 256 ∷ w / 2 ^ 8 % 256 ∷ w % 256 ∷ []) ++ bytes ws

-- a guest of 16 pages and so many virtual processors with these bytes at the start of its memory
abbrev pub guest : ℕ → List ℕ → PrivateMachine
guest vcpus memory = booted (record { entry = 0xC000_0000; pages = 16; memory = memory }) vcpus 1 [] []

-- the same with one virtual processor and a program of words
abbrev pub running : List ℕ → List ℕ → PrivateMachine
running program rest = guest 1 (bytes program ++ rest)

-- so many steps of virtual processor 0
abbrev pub steps : ℕ → List OwnEvent
steps n = replicate n (Step (record { 0 = 0 }))

abbrev pub stepped : ℕ → PrivateMachine → PrivateMachine
stepped n m = private_run m (steps n)

-- virtual processor 0 goes on at an address; a register, one of coprocessor 0, and an entry of the TLB have other values
abbrev pub at : ℕ → PrivateMachine → PrivateMachine
at pc m = on_vcpu m 0 (λ c. record c { registers = record c.registers { pc = pc } })

abbrev pub with_general : List ℕ → PrivateMachine → PrivateMachine
with_general general m = on_vcpu m 0 (λ c. record c { registers = record c.registers { general = general } })

abbrev pub with_cp0_word : ℕ → ℕ → PrivateMachine → PrivateMachine
with_cp0_word number word m = on_vcpu m 0 (λ c. record c { cp0 = writes c.cp0 (register_at number) word })

abbrev pub with_entry : ℕ → Entry → PrivateMachine → PrivateMachine
with_entry index entry m = on_vcpu m 0 (λ c. record c { tlb = entry_written c.tlb index entry })

-- what virtual processor 0 has after so many steps
abbrev pub after : ℕ → PrivateMachine → Vcpu
after n m = vcpu (stepped n m) 0

abbrev pub cp0_word : ℕ → Vcpu → ℕ
cp0_word number c = reads c.cp0 (register_at number)
