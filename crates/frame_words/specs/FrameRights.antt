-- The rights rule: what the words and the views of all holders have in common at every moment.
use Rattle.std.specs.Prelude.{◌≡◌, ℕ, ◌+◌, ◌<◌, ◌≤◌, true, List, [], ◌∷◌, ◌++◌, length, replicate, slice_index}
use mathlib.Core.Option.{some}
use lib.ListN.{get_elem?}
use Rattle.atomic_table.specs.Table.{State}
use Rattle.frame_words.specs.FrameWords.{count, generation}
use Rattle.frame_words.specs.Views.{held}
use Rattle.frame_words.specs.declared.view.Hold.{Hold}
use Rattle.frame_words.specs.declared.view.View.{View}
use Rattle.frame_words.specs.declared.terms.Terms.{Terms}

-- a number of each view, added up over all views
abbrev pub total : (View → ℕ) → List View → ℕ
total number [] = 0
total number (v ∷ vs) = number v + total number vs

-- each hold is under its word's generation
abbrev pub AreUnder : List ℕ → List Hold → Type 0
AreUnder words [] = Unit {0}
AreUnder words (h ∷ hs) = (h.generation ≡ generation (slice_index words h.word)) × AreUnder words hs

-- the view is the only one, and has each word's generation
pub record IsOnly (words : List ℕ) (views : List View) (view : View) : Type 0 where
  pub one : views ≡ view ∷ []
  pub all : length view.known ≡ length words
  pub each : (i : ℕ) → i < length words → slice_index view.known i ≡ generation (slice_index words i)

-- a view is one of the holders'
abbrev pub IsView : List View → ℕ → View → Type 0
IsView views j view = get_elem? views j ≡ some view

pub record FrameRights (terms : Terms) (s : State (Unit {0}) View) : Type 0 where
  -- there is a word for each of eight cells and for each frame
  pub whole : length s.words ≡ terms.frames + 8
  -- a word's count is the sum, over all views, of how often they hold it
  pub counts : (i : ℕ) → i < terms.frames + 8 → total (held i) s.views ≡ count (slice_index s.words i)
  -- a view that holds a word has the word's generation
  pub generations : (j : ℕ) (view : View) → IsView s.views j view → AreUnder s.words view.holds
  -- a cell's word is its loans and nothing else, and at most the cell's lend
  pub loans : (c : ℕ) → c < 8 → count (slice_index s.words c) ≡ slice_index s.words c
  pub lent : (c : ℕ) → c < 8 → slice_index s.words c ≤ slice_index terms.lends c
  -- a view that is alone is the only one, and has each word's generation
  pub only : (j : ℕ) (view : View) → IsView s.views j view → view.alone ≡ true → IsOnly s.words s.views view

-- the first holder, which is alone
abbrev pub first_view : Terms → View
first_view terms = record {
  holds = [];
  alone = true;
  known = replicate 8 0 ++ replicate terms.frames terms.first;
  looks = [];
}
