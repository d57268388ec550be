-- A virtual processor's second-level TLB: 512 places, of which an entry's is the low 9 bits of its page number.
use Rattle.std.specs.Prelude.{ℕ, ◌/◌, ◌%◌, ◌==◌, if◌then◌else◌, Bool, List, Option, Some, None, map, replicate, slice_set}

-- an entry: the virtual page and address space that it is of, the guest's page, and whether the guest grants a store
pub record Second : Type 0 where
  pub number : ℕ
  pub asid : ℕ
  pub global : Bool
  pub page : ℕ
  pub store : Bool

abbrev pub no_seconds : List (Option Second)
no_seconds = replicate 512 None

-- an entry comes into its place
abbrev pub put : Second → List (Option Second) → List (Option Second)
put new places = slice_set places (new.number % 512) (Some new)

-- without those of a page, and without those of a pair of virtual pages
abbrev pub unless_of_page : ℕ → Option Second → Option Second
unless_of_page page None = None
unless_of_page page (Some e) = if e.page == page then None else Some e

abbrev pub seconds_without_page : ℕ → List (Option Second) → List (Option Second)
seconds_without_page page = map (unless_of_page page)

abbrev pub unless_of_pair : ℕ → Option Second → Option Second
unless_of_pair pair None = None
unless_of_pair pair (Some e) = if e.number / 2 == pair then None else Some e

abbrev pub seconds_without_pair : ℕ → List (Option Second) → List (Option Second)
seconds_without_pair pair = map (unless_of_pair pair)
