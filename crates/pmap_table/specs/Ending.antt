-- The end of a move: the frame that becomes a spare with it, and the numbers of the frames that the guest no longer holds.
use Rattle.std.specs.Prelude.{◌≡◌, ℕ, ◌≤◌, if◌then◌else◌, List, [], ◌∷◌, map, slice_set}
use Rattle.private_machine.specs.Backing.{Copy, Change, Migrates, Replicates, Collapses, Breaks, TakesShared, GivesShared, Page, page_at}
use Rattle.private_machine.specs.PageMove.{finished, taken, spares_finished, spares_taken, dropped, dropped_taken}
use Rattle.pmap_table.specs.PageMap.{PageMap}

-- their numbers
abbrev pub numbers_of : List Copy → List ℕ
numbers_of cs = map (λ c. c.frame) cs

-- the frame that becomes a spare with the end of a move
abbrev pub spare_of : Change → List Copy
spare_of (Migrates target) = []
spare_of (Replicates target) = []
spare_of Collapses = []
spare_of (Breaks target) = []
spare_of (TakesShared target) = []
spare_of (GivesShared target) = target ∷ []

-- and with the operation for which a page was taken shared
abbrev pub spare_taken : Page → List Copy
spare_taken g = if g.shared then [] else g.master ∷ []

-- a move of a page is done: the page, the spares and the frames to release; the room is no less
pub record Finishes (m : PageMap) (q : ℕ) (change : Change) (n : PageMap) (freed : List ℕ) : Type 0 where
  pub pages : n.pages ≡ slice_set m.pages q (finished change (page_at m.pages q))
  pub spares : n.spares ≡ spares_finished change m.spares
  pub released : freed ≡ numbers_of (dropped (page_at m.pages q) change)
  pub room : m.room ≤ n.room

-- a page was taken shared
pub record Takes (m : PageMap) (q : ℕ) (target : Copy) (n : PageMap) (freed : List ℕ) : Type 0 where
  pub pages : n.pages ≡ slice_set m.pages q (taken target (page_at m.pages q))
  pub spares : n.spares ≡ spares_taken (page_at m.pages q) m.spares
  pub released : freed ≡ numbers_of (dropped_taken (page_at m.pages q))
  pub room : m.room ≤ n.room
