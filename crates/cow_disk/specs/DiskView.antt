-- Blocks that are given, and pages that stand over them.
use Rattle.std.specs.Prelude.{ℕ, List, [], ◌∷◌, map, Option, Some, None}
use Rattle.std.specs.Option.{option_map}
use Rattle.std.specs.Global.{Box, Global}
use Rattle.std.specs.declared.sync.Arc.{Arc}
use Rattle.std.specs.Arc.{arc_value}
use Rattle.base_words.specs.declared.page.Page.{Page}
use Rattle.private_machine.specs.Disk.{Block, as_given}

-- the bytes of each page
abbrev pub bytes_of : List (Box Page) → List (List ℕ)
bytes_of pages = map (λ page. page.value) pages

-- the blocks of a base; none where there is none
abbrev pub base_pages : Option (Arc (List (Box Page)) Global) → List (Box Page)
base_pages None = []
base_pages (Some base) = arc_value base

-- the bytes of each page that there is
abbrev pub own_bytes : Option (Box Page) → Option (List ℕ)
own_bytes own = option_map (λ page. page.value) own

abbrev pub owns_of : List (Option (Box Page)) → List (Option (List ℕ))
owns_of overlay = map own_bytes overlay

-- each block as it was given, with the bytes that stand over it; none stand over blocks past the overlay's end
abbrev pub overlaid : List (List ℕ) → List (Option (List ℕ)) → List Block
overlaid [] owns = []
overlaid (given ∷ rest) [] = as_given given ∷ overlaid rest []
overlaid (given ∷ rest) (own ∷ owns) = record { given = given; overlay = own } ∷ overlaid rest owns
