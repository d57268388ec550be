-- Whether what a virtual processor's own TLB and direct segment give of an address is the same in every address space.
use Rattle.std.specs.Prelude.{ℕ, Bool, true, false, List}
use Rattle.base_words.specs.declared.tlb.Entry.{Entry}
use Rattle.base_words.specs.Place.{Segment, Mapped, Direct, Outside}
use Rattle.guest_tlb.specs.Everywhere.{only_global}

-- in the direct segment, or by the one entry of its pair of pages, which is global
abbrev pub is_everywhere : List Entry → ℕ → ℕ → Segment → Bool
is_everywhere tlb asid address Mapped = only_global tlb asid address
is_everywhere tlb asid address Direct = true
is_everywhere tlb asid address Outside = false
