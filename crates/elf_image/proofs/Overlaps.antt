-- Looking for two segments that share a byte, header by header.
use Rattle.std.proofs.Common.{◌≡◌, ℕ, zero, suc, ◌+◌, ◌-◌, ◌<◌, false, List, [], ◌∷◌, length, get_or, take, drop, position, Some, None, refl, sym, ap, ◌∙◌, arith}
use Rattle.std.specs.Option.{option_map}
use Rattle.std.proofs.lemmas.List.{at_drop_more, take_rest}
use Rattle.elf_image.specs.declared.fault.ImageFault.TheVariants as fault
use Rattle.elf_image.specs.declared.segment.ProgramHeader.{ProgramHeader}
use Rattle.elf_image.specs.Segments.{shares_byte}
use Rattle.elf_image.specs.FirstFault.{overlap_from}
use Rattle.elf_image.proofs.NoFault.{first_of-one, first_of_none, option_map_none, position_none}

-- what stands behind a header, as the code has it
abbrev pub later_than : ℕ → List ProgramHeader → List ProgramHeader
later_than n headers = take (length headers - (n + 1)) (drop (n + 1) headers)

pub overlap_from-found : (headers : List ProgramHeader) (n k : ℕ) (d : ProgramHeader) → n < length headers → Some k ≡ position (shares_byte (get_or headers n d)) (later_than n headers)
    → overlap_from n (drop n headers) ≡ Some (fault.Overlap n (n + 1 + k))
overlap_from-found headers n k d lt found =
    let here : position (shares_byte (get_or headers n d)) (drop (n + 1) headers) ≡ Some k = ap (position (shares_byte (get_or headers n d))) (sym (take_rest headers (n + 1))) ∙ sym found in
    at_drop_more (overlap_from n) headers n d lt ∙ rw here refl

pub overlap_from-more : (headers : List ProgramHeader) (n : ℕ) (d : ProgramHeader) → n < length headers → None ≡ position (shares_byte (get_or headers n d)) (later_than n headers)
    → overlap_from n (drop n headers) ≡ overlap_from (n + 1) (drop (n + 1) headers)
overlap_from-more headers n d lt found =
    let here : position (shares_byte (get_or headers n d)) (drop (n + 1) headers) ≡ None = ap (position (shares_byte (get_or headers n d))) (sym (take_rest headers (n + 1))) ∙ sym found in
    at_drop_more (overlap_from n) headers n d lt ∙ rw here (first_of-one (overlap_from (n + 1) (drop (n + 1) headers)))

-- where no two share a byte, these two do not
pub overlap_from_none : (n : ℕ) (headers : List ProgramHeader) (d : ProgramHeader) → overlap_from n headers ≡ None → (i j : ℕ) → i < j → j < length headers → shares_byte (get_or headers i d) (get_or headers j d) ≡ false
overlap_from_none n [] d e i j lt within = absurd (omega arith)
overlap_from_none n (h ∷ later) d e i zero lt within = absurd (omega arith)
overlap_from_none n (h ∷ later) d e zero (suc j) lt within =
    let parts = first_of_none (option_map (λ k. fault.Overlap n (n + 1 + k)) (position (shares_byte h) later)) (overlap_from (n + 1) later ∷ []) e in
    position_none (shares_byte h) later d (option_map_none (λ k. fault.Overlap n (n + 1 + k)) (position (shares_byte h) later) parts.0) j (omega arith)
overlap_from_none n (h ∷ later) d e (suc i) (suc j) lt within =
    let parts = first_of_none (option_map (λ k. fault.Overlap n (n + 1 + k)) (position (shares_byte h) later)) (overlap_from (n + 1) later ∷ []) e in
    overlap_from_none (n + 1) later d (sym (first_of-one (overlap_from (n + 1) later)) ∙ parts.1) i j (omega arith) (omega arith)
