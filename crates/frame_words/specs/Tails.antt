-- The looks that one call, of this crate or above, adds to its holder's view: its tail.
use Rattle.std.specs.Prelude.{◌≡◌, ◌≢◌, ℕ, ◌+◌, true, false, if◌then◌else◌, ◌==◌, List, [], ◌∷◌, ◌++◌}
use Rattle.frame_words.specs.StepKinds.{is_load, gains, lends, pays}
use Rattle.frame_words.specs.declared.view.Look.{Look}
use Rattle.frame_words.specs.declared.view.View.{View}

-- the view with these looks behind its own
abbrev pub looked : View → List Look → View
looked v tail = record v { looks = v.looks ++ tail }

-- each look is a load
abbrev pub AreLoads : List Look → Type 0
AreLoads [] = Unit {0}
AreLoads (l ∷ ls) = (is_load l.kind ≡ true) × AreLoads ls

-- no look takes or shares a frame
abbrev pub GainNothing : List Look → Type 0
GainNothing [] = Unit {0}
GainNothing (l ∷ ls) = (gains l.kind ≡ false) × GainNothing ls

-- no look is on the word
abbrev pub Omits : ℕ → List Look → Type 0
Omits word [] = Unit {0}
Omits word (l ∷ ls) = (l.word ≢ word) × Omits word ls

-- this look is the first of these looks on its word
pub record IsFirstLook (tail : List Look) (look : Look) : Type 0 where
  pub before : List Look
  pub later : List Look
  pub omits : Omits look.word before
  pub parts : tail ≡ before ++ look ∷ later

-- how often the looks borrow from a cell's word, and how often they repay it
abbrev pub borrows_of : ℕ → List Look → ℕ
borrows_of word [] = 0
borrows_of word (l ∷ ls) = (if l.word == word then lends l.kind else 0) + borrows_of word ls

abbrev pub repays_of : ℕ → List Look → ℕ
repays_of word [] = 0
repays_of word (l ∷ ls) = (if l.word == word then pays l.kind else 0) + repays_of word ls
