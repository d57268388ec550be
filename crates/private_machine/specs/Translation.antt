-- What is known of where an address leads.
use Rattle.std.specs.Prelude.{◌≡◌, ℕ, ◌*◌, ◌%◌, ◌^◌, ◌<◌}
use Rattle.base_words.specs.declared.place.Place.{Place}
use Rattle.base_words.specs.declared.place.Place.TheVariants.{Memory, Device}

-- an offset of memory lies in a guest of so many pages, and one of the device page in a page
abbrev pub IsWithin : ℕ → Place → Type 0
IsWithin pages (Memory offset) = offset < 4096 * pages
IsWithin pages (Device offset) = offset < 4096

-- an offset of memory is a physical address, of 36 bits
abbrev pub IsPhysical : Place → Type 0
IsPhysical (Memory offset) = offset < 2 ^ 36
IsPhysical (Device offset) = offset < 2 ^ 36

-- it lies at this offset of a page
abbrev pub IsAt : ℕ → Place → Type 0
IsAt within (Memory offset) = offset % 4096 ≡ within
IsAt within (Device offset) = offset ≡ within

-- it lies at a multiple of this in its word
abbrev pub IsAligned : ℕ → Place → Type 0
IsAligned unit (Memory offset) = offset % 4 % unit ≡ 0
IsAligned unit (Device offset) = offset % 4 % unit ≡ 0
