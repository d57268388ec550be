-- A holder's view, and what one step changes in it.
use Rattle.std.specs.Prelude.{◌≡◌, ℕ, ◌+◌, ◌<◌, ◌==◌, if◌then◌else◌, List, [], ◌∷◌, ◌++◌, slice_set, All, Contains}
use Rattle.frame_words.specs.FrameWords.{cell_word, frame_word}
use Rattle.frame_words.specs.declared.view.Hold.{Hold}
use Rattle.frame_words.specs.declared.view.Look.{Look}
use Rattle.frame_words.specs.declared.view.View.{View}
use Rattle.frame_words.specs.declared.view.StepKind.{StepKind}

abbrev pub hold : ℕ → ℕ → Hold
hold word under = record { word = word; generation = under }

abbrev pub look : StepKind → ℕ → ℕ → Look
look kind word seen = record { kind = kind; word = word; seen = seen }

-- how often a word stands among holds
abbrev pub times : ℕ → List Hold → ℕ
times word [] = 0
times word (h ∷ hs) = (if h.word == word then 1 else 0) + times word hs

-- how often a view holds a word
abbrev pub held : ℕ → View → ℕ
held word view = times word view.holds

-- how often a view holds a frame
abbrev pub frame_holds : View → ℕ → ℕ
frame_holds view frame = held (frame_word frame) view

-- how many loans of a cell a view has
abbrev pub cell_loans : View → ℕ → ℕ
cell_loans view cell = held (cell_word cell) view

-- each hold of the word that the view has is under this generation
abbrev pub HeldUnder : View → ℕ → ℕ → Type 0
HeldUnder view word under = (own : ℕ) → Contains view.holds (hold word own) → own ≡ under

-- no word is held under two generations
abbrev pub OneGeneration : List Hold → Type 0
OneGeneration holds = (word one other : ℕ) → Contains holds (hold word one) → Contains holds (hold word other) → one ≡ other

-- the holds with one hold of a word less
abbrev pub without : ℕ → List Hold → List Hold
without word [] = []
without word (h ∷ hs) = if h.word == word then hs else h ∷ without word hs

-- the view after a step that was for this, on this word, and found this
abbrev pub seeing : View → StepKind → ℕ → ℕ → View
seeing view kind word seen = record view { looks = view.looks ++ look kind word seen ∷ [] }

-- the view with one hold more
abbrev pub holding : View → ℕ → ℕ → View
holding view word under = record view { holds = hold word under ∷ view.holds }

-- the view with one hold less
abbrev pub dropping : View → ℕ → View
dropping view word = record view { holds = without word view.holds }

-- the view that knows a word's new generation
abbrev pub knowing : View → ℕ → ℕ → View
knowing view word under = record view { known = slice_set view.known word under }

-- what stays in a view when these holds go: each word as often as it isn't among them, no hold that wasn't there,
-- and each hold of a word that is among them less often than it was held
pub record KeepsRest (old : View) (gone : List Hold) (new : View) : Type 0 where
  pub often : (word : ℕ) → held word new + times word gone ≡ held word old
  pub among : All (Contains old.holds) new.holds
  pub stays : (word under : ℕ) → times word gone < held word old
      → Contains old.holds (hold word under) → Contains new.holds (hold word under)
