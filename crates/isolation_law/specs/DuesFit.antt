-- What holds of the policy's choices that are due.
use Rattle.std.specs.Prelude.{◌≡◌, ℕ, ◌<◌, true, List, length, Option, Some, None, slice_index_or}
use Rattle.base_words.specs.declared.events.End.{End}
use Rattle.isolation_law.specs.Surroundings.{Surroundings, node_of_processor}
use Rattle.isolation_law.specs.Parts.{Wish, Processor}
use Rattle.isolation_law.specs.GuestState.{GuestState, idle}
use Rattle.isolation_law.specs.Causes.{seeks_frame}

-- Over the parts that it reads: nothing is due on a processor on which nothing is loaded; and a choice is of a page of a guest that
-- hasn't ended, to migrate or to replicate it to the processor's node.
pub record AreFit (around : Surroundings) (end : Option End) (pages : ℕ) (processors : List Processor) (due : List (Option Wish)) : Type 0 where
  pub lapse : (p : ℕ) → (slice_index_or processors p idle).loaded ≡ None → slice_index_or due p None ≡ None
  pub page : (p : ℕ) (wish : Wish) → end ≡ None → slice_index_or due p None ≡ Some wish → wish.page < pages
  pub node : (p : ℕ) (wish : Wish) → slice_index_or due p None ≡ Some wish → wish.node ≡ node_of_processor around p
  pub seeks : (p : ℕ) (wish : Wish) → slice_index_or due p None ≡ Some wish → seeks_frame wish.kind ≡ true

abbrev pub DuesFit : GuestState → Type 0
DuesFit s = AreFit s.around s.end (length s.pages) s.processors s.due
