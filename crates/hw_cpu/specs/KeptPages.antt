-- What all accesses of one kind to one virtual page reach.
use Rattle.std.specs.Prelude.{◌≡◌, ℕ, ◌/◌, ◌%◌, Bool, true, Option, Some, None, Ok, IfSome}
use Rattle.base_words.specs.declared.exception.Use.{Use}
use Rattle.base_words.specs.Place.{is_store}
use Rattle.private_machine.specs.Reaching.{Sight, reached}
use Rattle.hw_cpu.specs.declared.reaching.KeptPage.{KeptPage}
use Rattle.hw_cpu.specs.Steps.{place_of, wanted_at}

-- it is what each of them reaches that is aligned
abbrev pub IsKeptPage : Use → Sight → Option KeptPage → Type 0
IsKeptPage purpose x None = Unit {0}
IsKeptPage purpose x (Some page) = (unit address : ℕ) → address / 4096 ≡ page.number → address % unit ≡ 0 → reached x (wanted_at purpose unit address) ≡ Ok (place_of page.at)

-- the page of accesses that leave nothing to note
pub record IsQuietPage (unnoted : ℕ → ℕ → Bool → Bool) (purpose : Use) (x : Sight) (kept : Option KeptPage) : Type 0 where
  pub reached : IsKeptPage purpose x kept
  pub quiet : IfSome kept (λ page. unnoted page.at.page.0 page.at.frame.0 (is_store purpose) ≡ true)
