-- How many runs a list of entries has.
use Rattle.std.specs.Prelude.{◌≡◌, ◌≢◌, ◌⊎◌, ℕ, ◌-◌, ◌<◌, List, [], ◌∷◌}
use Rattle.base_words.specs.declared.events.Event.{Event}

-- behind an entry, so many places differ from the place before
abbrev pub HasChanges : Event → List Event → ℕ → Type 0
HasChanges e [] n = n ≡ 0
HasChanges e (f ∷ rest) n = ((f ≡ e) × HasChanges f rest n) ⊎ ((f ≢ e) × (0 < n) × HasChanges f rest (n - 1))

-- so many places are the first or differ from the place before
abbrev pub HasRuns : List Event → ℕ → Type 0
HasRuns [] n = n ≡ 0
HasRuns (e ∷ rest) n = (0 < n) × HasChanges e rest (n - 1)
