-- A table's entries as its callers see them, and what a lookup finds.
use Rattle.std.specs.Prelude.{◌≡◌, ℕ, ◌<◌, ◌%◌, ◌==◌, ◌&&◌, ◌||◌, if◌then◌else◌, List, Option, Some, None, length, map, option_map, slice_index_or}
use Rattle.private_machine.specs.SecondLevel.{Second}
use Rattle.l2_tlb.specs.declared.entry.L2Entry.{L2Entry}

-- what an entry says, and what all places hold
abbrev pub second_of : L2Entry → Second
second_of e = record { number = e.vpn; asid = e.asid; global = e.global; page = e.page.0; store = e.store }

abbrev pub seen : List (Option L2Entry) → List (Option Second)
seen places = map (option_map second_of) places

-- what a place holds for a page number in an address space
abbrev pub answering : ℕ → ℕ → Option Second → Option Second
answering number asid None = None
answering number asid (Some e) = if e.number == number && (e.global || e.asid == asid) then Some e else None

-- what a lookup finds: nothing but the entry in the page number's place
abbrev pub second_at : ℕ → ℕ → List (Option Second) → Option Second
second_at number asid places = answering number asid (slice_index_or places (number % 512) None)

-- an entry stands at its own place
abbrev pub IsOwn : ℕ → Option Second → Type 0
IsOwn place None = Unit {0}
IsOwn place (Some e) = e.number % 512 ≡ place

-- there are 512 places, and each entry stands at its own
pub record AreInPlace (places : List (Option Second)) : Type 0 where
  pub all : length places ≡ 512
  pub own : (place : ℕ) → place < 512 → IsOwn place (slice_index_or places place None)
