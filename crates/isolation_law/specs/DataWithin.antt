-- The page of a data access that is told.
use Rattle.std.specs.Prelude.{ℕ, ◌<◌}
use Rattle.base_words.specs.declared.trap.DataAccess.{DataAccess}
use Rattle.base_words.specs.declared.trap.DataAccess.TheVariants as at_data

-- it is one of so many pages
abbrev pub IsWithinPages : ℕ → DataAccess → Type 0
IsWithinPages pages at_data.NoData = Unit {0}
IsWithinPages pages (at_data.Load page frame) = page.0 < pages
IsWithinPages pages (at_data.Store page frame) = page.0 < pages
