-- When what a TLB says of a page is the same in every address space.
use Rattle.std.specs.Prelude.{ℕ, ◌==◌, ◌&&◌, Bool, false, List, Option, Some, None, find, filter, length}
use Rattle.base_words.specs.declared.tlb.Entry.{Entry}
use Rattle.base_words.specs.Tlb.{page_pair, is_global, matches}

abbrev pub is_global_entry : Option Entry → Bool
is_global_entry None = false
is_global_entry (Some entry) = is_global entry

-- how many entries are of a pair of pages, in whatever address space
abbrev pub entries_of : ℕ → List Entry → ℕ
entries_of pair tlb = length (filter (λ e. page_pair e.hi == pair) tlb)

-- the entry that counts is of all address spaces, and no other has its pair of pages
abbrev pub only_global : List Entry → ℕ → ℕ → Bool
only_global tlb asid address = is_global_entry (find (matches (page_pair address) asid) tlb) && (entries_of (page_pair address) tlb == 1)
