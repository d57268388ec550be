-- The valid halves of a processor's TLB, each of one virtual page (MIPS R4000 User's Manual, chapter 4, "TLB Entries"; here
-- filled by the monitor, with frames of the machine).
use Rattle.std.specs.Prelude.{◌≡◌, ◌⊎◌, ℕ, ◌/◌, ◌==◌, Bool, false, not, ◌&&◌, ◌||◌, List, filter}
use Rattle.base_words.specs.Membership.{Has}

-- a valid half: the virtual page and address space that it is of, and the guest's page and the machine's frame that it names
pub record Half : Type 0 where
  pub number : ℕ
  pub asid : ℕ
  pub global : Bool
  pub page : ℕ
  pub frame : ℕ
  pub writable : Bool

-- a half is of this virtual page, and of this address space or of all
abbrev pub is_of : ℕ → ℕ → Half → Bool
is_of number asid h = (h.number == number) && (h.global || (h.asid == asid))

-- some address space has both halves for one virtual page
abbrev pub clash : Half → Half → Bool
clash a b = (a.number == b.number) && (a.global || (b.global || (a.asid == b.asid)))

-- A half joins: each other one was there before, and doesn't clash with it.
pub record Fills (new : Half) (old after : List Half) : Type 0 where
  pub joins : Has after new
  pub others : (h : Half) → Has after h → (new ≡ h) ⊎ (Has old h × (clash new h ≡ false))

-- the halves without those that name a page
abbrev pub without_page : ℕ → List Half → List Half
without_page page = filter (λ h. not (h.page == page))

-- the halves without those of a pair of virtual pages
abbrev pub without_pair : ℕ → List Half → List Half
without_pair pair = filter (λ h. not (h.number / 2 == pair))
