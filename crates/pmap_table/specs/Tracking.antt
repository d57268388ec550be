-- Which pages wait for a processor to acknowledge their move, and which moves are ready to be finished: kept beside the pages.
use Rattle.std.specs.Prelude.{◌≡◌, ℕ, ◌<◌, ◌&&◌, Bool, true, false, not, List, [], ◌∷◌, length, Option, Some, None, slice_index_or}
use Rattle.base_words.specs.Limits.{most_processors}
use Rattle.private_machine.specs.Backing.{Change, Migrates, Replicates, Collapses, Breaks, TakesShared, GivesShared, Move, Page, page_at}
use Rattle.pmap_table.specs.PageSets.{has_page}
use Rattle.pmap_table.specs.declared.open_pages.OpenPages.{OpenPages}

-- a move that its own operation ends
abbrev pub is_taking : Change → Bool
is_taking (Migrates target) = false
is_taking (Replicates target) = false
is_taking Collapses = false
is_taking (Breaks target) = false
is_taking (TakesShared target) = true
is_taking (GivesShared target) = false

-- no processor is waited for
abbrev pub nobody : List Bool → Bool
nobody [] = true
nobody (true ∷ waiting) = false
nobody (false ∷ waiting) = nobody waiting

-- a move that a processor has still to acknowledge, and one that all have acknowledged and that no operation ends
abbrev pub waits_in : ℕ → Option Move → Bool
waits_in p None = false
waits_in p (Some m) = slice_index_or m.waiting p false

abbrev pub ready_in : Option Move → Bool
ready_in None = false
ready_in (Some m) = not (is_taking m.change) && nobody m.waiting

abbrev pub waits_for : ℕ → Page → Bool
waits_for p g = waits_in p g.move

abbrev pub is_ready : Page → Bool
is_ready g = ready_in g.move

-- the lowest page of which this holds, and that there is none
pub record IsLowest (test : Page → Bool) (pages : List Page) (q : ℕ) : Type 0 where
  pub there : q < length pages
  pub holds : test (page_at pages q) ≡ true
  pub lowest : (r : ℕ) → r < q → test (page_at pages r) ≡ false

abbrev pub HoldsNowhere : (Page → Bool) → List Page → Type 0
HoldsNowhere test pages = (q : ℕ) → test (page_at pages q) ≡ false

-- the words of the set of the pages that wait for a processor
abbrev pub set_for : OpenPages → ℕ → List ℕ
set_for o p = slice_index_or o.waiting.items p []

-- the sets say of one page what its move is
pub record TracksMove (o : OpenPages) (q : ℕ) (move : Option Move) : Type 0 where
  pub waiting : (p : ℕ) → p < most_processors → has_page (set_for o p) q ≡ waits_in p move
  pub ready : has_page o.ready q ≡ ready_in move

-- they say the same of another page
pub record SameAt (o n : OpenPages) (r : ℕ) : Type 0 where
  pub waiting : (p : ℕ) → p < most_processors → has_page (set_for n p) r ≡ has_page (set_for o p) r
  pub ready : has_page n.ready r ≡ has_page o.ready r

-- there is a set for each processor, and all pages are tracked
pub record Tracks (o : OpenPages) (pages : List Page) : Type 0 where
  pub sized : length o.waiting.items ≡ most_processors
  pub all : (q : ℕ) → TracksMove o q (page_at pages q).move
