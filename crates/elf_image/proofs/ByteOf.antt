-- The byte at an address, where no two segments have one there.
use Rattle.std.proofs.Common.{◌≡◌, ℕ, zero, suc, ◌<◌, Bool, true, false, cond, List, [], ◌∷◌, ◌++◌, length, get_or, refl, ◌∙◌, arith}
use Rattle.std.proofs.lemmas.Bool.{true≢false, both_ways, false_from_ne_true, cond-true, cond-false}
use Rattle.elf_image.specs.declared.segment.ProgramHeader.{ProgramHeader}
use Rattle.elf_image.specs.Fields.{header_at}
use Rattle.elf_image.specs.Physical.{lies_at, file_byte, byte_of}
use Rattle.elf_image.specs.Loading.{IsPlaced}
use Rattle.elf_image.specs.Filling.{CanBeCopied}

swapped : (g h : Bool) (x y z w : ℕ) → (g ≡ true → h ≡ false) → w ≡ cond h y z → cond g x w ≡ cond h y (cond g x z)
swapped true true x y z w apart later = absurd (true≢false (apart refl))
swapped true false x y z w apart later = refl
swapped false h x y z w apart later = later

-- one more segment, none of whose bytes lies where an earlier one has a byte
pub byte_of-push : (headers : List ProgramHeader) (h d : ProgramHeader) (file : List ℕ) (address : ℕ) → ((n : ℕ) → n < length headers → lies_at (get_or headers n d) address ≡ true → lies_at h address ≡ false)
    → byte_of (headers ++ h ∷ []) file address ≡ cond (lies_at h address) (file_byte file h address) (byte_of headers file address)
byte_of-push [] h d file address apart = refl
byte_of-push (g ∷ headers) h d file address apart =
    swapped (lies_at g address) (lies_at h address) (file_byte file g address) (file_byte file h address) (byte_of headers file address) (byte_of (headers ++ h ∷ []) file address)
    (apart 0 (omega arith))
    (byte_of-push headers h d file address (λ n lt. apart (suc n) (omega arith)))

-- where no two have a byte at one address, the byte is that of each segment that has one there
byte_of-at : (headers : List ProgramHeader) (file : List ℕ) (address : ℕ) → ((n m : ℕ) → n < m → m < length headers → lies_at (header_at headers n) address ≡ true → lies_at (header_at headers m) address ≡ false)
    → (n : ℕ) → n < length headers → lies_at (header_at headers n) address ≡ true → byte_of headers file address ≡ file_byte file (header_at headers n) address
byte_of-at [] file address apart n lt at = absurd (omega arith)
byte_of-at (h ∷ headers) file address apart zero lt at = cond-true (lies_at h address) (file_byte file h address) (byte_of headers file address) at
byte_of-at (h ∷ headers) file address apart (suc n) lt at =
    let not_here : lies_at h address ≡ false = false_from_ne_true (lies_at h address) (λ here. both_ways (lies_at (header_at headers n) address) (apart 0 (suc n) (omega arith) lt here) at) in
    cond-false (lies_at h address) (file_byte file h address) (byte_of headers file address) not_here
    ∙ byte_of-at headers file address (λ i j less within. apart (suc i) (suc j) (omega arith) (omega arith)) n (omega arith) at

pub IsPlaced-from : (headers : List ProgramHeader) (file : List ℕ) → CanBeCopied headers (length file) → IsPlaced file headers
IsPlaced-from headers file sound n address = byte_of-at headers file address (λ i j. sound.apart i j address) n
