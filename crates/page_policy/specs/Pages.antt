-- The misses of all pages.
use Rattle.std.specs.Prelude.{◌≡◌, ℕ, ◌<◌, List, [], ◌∷◌, Bool, length, take, drop, slice_index_or}
use Rattle.private_machine.specs.Policy.{Misses, no_misses}

-- the pages in order, whose counters stand one page after the other, as many for each as there are nodes
abbrev pub by_page : ℕ → List Bool → List ℕ → List Misses
by_page nodes [] counts = []
by_page nodes (w ∷ written) counts = record { by_node = take nodes counts; written = w } ∷ by_page nodes written (drop nodes counts)

-- those of one page; a page past the last has none
abbrev pub misses_of : ℕ → List Misses → Misses
misses_of page pages = slice_index_or pages page (no_misses 0)

-- there are so many pages, and each has a counter for each of so many nodes
pub record AreCounters (pages nodes : ℕ) (all : List Misses) : Type 0 where
  pub long : length all ≡ pages
  pub each : (page : ℕ) → page < pages → length (misses_of page all).by_node ≡ nodes
