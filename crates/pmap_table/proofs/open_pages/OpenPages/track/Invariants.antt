use Rattle.std.proofs.Common.{◌≡◌, ◌≢◌, ℕ, ◌<◌, [], length, get_or, option_map}
use Rattle.base_words.specs.Limits.{most_processors}
use Rattle.pmap_table.specs.OpenMoves.{move_of}
use Rattle.pmap_table.specs.PageSets.{has_page}
use Rattle.pmap_table.specs.Tracking.{waits_in}
use Rattle.pmap_table.proofs.open_pages.OpenPages.track.Given as goal

-- the sets of the processors so far say what the page's move is, and all sets say of other pages what they said
abbrev pub invariant-loop-processor : goal.invariant-loop-processor
invariant-loop-processor l = record {
  sized : length l.self.waiting.items ≡ most_processors;
  here : (p : ℕ) → p < l.processor → has_page (get_or l.self.waiting.items p []) l.page.0 ≡ waits_in p (option_map move_of l.pending);
  others : (p r : ℕ) → r ≢ l.page.0 → has_page (get_or l.self.waiting.items p []) r ≡ has_page (get_or l.initial.self.waiting.items p []) r;
  ready : l.self.ready ≡ l.initial.self.ready;
}
