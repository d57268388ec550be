-- Where addresses lead, computed from the definitions alone: one row for each range and each answer of the TLB.
use Rattle.std.proofs.Common.{◌≡◌, ℕ, List, true, false, Bool, Ok, Err, refl}
use Rattle.base_words.specs.declared.exception.Use.TheVariants.{Fetch, Load, Store}
use Rattle.base_words.specs.declared.exception.Exception.TheVariants.{TlbRefill, TlbInvalid, TlbModified, AddressError, BusError}
use Rattle.base_words.specs.declared.place.Place.TheVariants.{Memory, Device}
use Rattle.base_words.specs.declared.tlb.Entry.{Entry}
use Rattle.base_words.specs.Tlb.{tlb_at_reset, entry_written}
use Rattle.base_words.specs.Place.{AddressSpace, place}

-- Address space 7 has four pages: 00000000 in frame 5, from which one may only read, 00002000 in the device page,
-- 00004000 in a frame past the guest's 16, and D0001000, which is of all address spaces, in frame 2. Entry 9 has another
-- frame for the first; the other half of each pair isn't valid.
abbrev entries : List Entry
entries =
    entry_written (entry_written (entry_written (entry_written (entry_written tlb_at_reset
    3 (record { hi = 0x0000_0007; lo0 = 0x142; lo1 = 0 }))
    9 (record { hi = 0x0000_0007; lo0 = 0x186; lo1 = 0x186 }))
    4 (record { hi = 0x0000_2007; lo0 = 0x3F_FFC6; lo1 = 0 }))
    5 (record { hi = 0x0000_4007; lo0 = 0x406; lo1 = 0 }))
    6 (record { hi = 0xD000_0000; lo0 = 1; lo1 = 0x87 })

abbrev space : Bool → ℕ → AddressSpace
space user asid = record { user = user; asid = asid; entries = entries }

-- the ranges, for the kernel and for user code
kernel_low : place (space false 7) 16 4 Load 0x0000_0FFC ≡ Ok (Memory 0x5FFC)
kernel_low = refl

user_low : place (space true 7) 16 4 Load 0x0000_0FFC ≡ Ok (Memory 0x5FFC)
user_low = refl

kernel_direct : place (space false 7) 16 4 Fetch 0xC000_FFFC ≡ Ok (Memory 0xFFFC)
kernel_direct = refl

user_direct : place (space true 7) 16 4 Fetch 0xC000_FFFC ≡ Err (AddressError Fetch 0xC000_FFFC)
user_direct = refl

kernel_high : place (space false 0) 16 4 Store 0xD000_1008 ≡ Ok (Memory 0x2008)
kernel_high = refl

user_high : place (space true 0) 16 4 Store 0xD000_1008 ≡ Err (AddressError Store 0xD000_1008)
user_high = refl

between : place (space false 7) 16 4 Load 0x8000_0000 ≡ Err (AddressError Load 0x8000_0000)
between = refl

past : place (space false 7) 16 4 Load 0xE000_0000 ≡ Err (AddressError Load 0xE000_0000)
past = refl

-- alignment comes first
unaligned : place (space false 7) 16 4 Store 0x0000_9001 ≡ Err (AddressError Store 0x0000_9001)
unaligned = refl

odd_byte : place (space false 7) 16 1 Load 0x0000_0001 ≡ Ok (Memory 0x5001)
odd_byte = refl

-- what the TLB answers
other_space : place (space false 8) 16 4 Load 0 ≡ Err (TlbRefill Load 0)
other_space = refl

no_entry : place (space false 7) 16 4 Fetch 0x0000_6000 ≡ Err (TlbRefill Fetch 0x0000_6000)
no_entry = refl

other_half : place (space false 7) 16 4 Load 0x0000_1000 ≡ Err (TlbInvalid Load 0x0000_1000)
other_half = refl

read_only : place (space false 7) 16 4 Store 0x0000_0FFC ≡ Err (TlbModified 0x0000_0FFC)
read_only = refl

-- what lies at the physical page
device : place (space false 7) 16 4 Store 0x0000_2004 ≡ Ok (Device 4)
device = refl

direct_device : place (space false 7) 16 4 Store 0xCFFF_F004 ≡ Ok (Device 4)
direct_device = refl

nothing : place (space false 7) 16 4 Fetch 0x0000_4000 ≡ Err (BusError Fetch)
nothing = refl

nothing_direct : place (space false 7) 16 4 Store 0xC001_0000 ≡ Err (BusError Store)
nothing_direct = refl
