-- What the processor's TLB says of an address.
use Rattle.std.specs.Prelude.{ℕ, ◌/◌, Bool, not, ◌&&◌, List, find, Option, Some, None, if◌then◌else◌}
use Rattle.base_words.specs.Halves.{Half, is_of}
use Rattle.hw_tlb.specs.declared.answer.HwAnswer.{HwAnswer}
use Rattle.hw_tlb.specs.declared.answer.HwAnswer.TheVariants.{Hit, Miss, ReadOnly}

-- what a half says of a use, a store or another
abbrev pub through : Bool → Option Half → HwAnswer
through store None = Miss
through store (Some h) =
    if store && not h.writable then ReadOnly (record { 0 = h.frame }) (record { 0 = h.page })
    else Hit (record { 0 = h.frame }) (record { 0 = h.page })

-- What the TLB says of an address in an address space, for a store or another use: the half of its virtual page counts.
abbrev pub looked_up : List Half → ℕ → ℕ → Bool → HwAnswer
looked_up halves address asid store = through store (find (is_of (address / 4096) asid) halves)
