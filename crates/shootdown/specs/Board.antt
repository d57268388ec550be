-- The rule of a board: what the lists of all its places have in common at every moment.
use Rattle.std.specs.Prelude.{◌≡◌, ℕ, ◌+◌, ◌≤◌, ◌==◌, if◌then◌else◌, List, [], ◌∷◌}
use mathlib.Core.Option.{some}
use lib.ListN.{get_elem?}
use Rattle.atomic_table.specs.Table.{State}
use Rattle.shootdown.specs.Notes.{with_side}
use Rattle.shootdown.specs.declared.view.SidedNote.{SidedNote}
use Rattle.shootdown.specs.declared.view.NoteList.{NoteList}
use Rattle.shootdown.specs.declared.view.View.{View}

-- the notes of each owner, by its number
abbrev pub ByOwner : Type 0
ByOwner = ℕ → List SidedNote

-- each list has its owner's notes
abbrev pub AreOf : ByOwner → List NoteList → Type 0
AreOf notes [] = Unit {0}
AreOf notes (l ∷ ls) = (l.notes ≡ notes l.owner) × AreOf notes ls

-- how many of these lists are an owner's
abbrev pub times : ℕ → List NoteList → ℕ
times owner [] = 0
times owner (l ∷ ls) = (if l.owner == owner then 1 else 0) + times owner ls

-- a number of each view, added up over all views
abbrev pub total : (View → ℕ) → List View → ℕ
total number [] = 0
total number (v ∷ vs) = number v + total number vs

-- a view is that of this place
abbrev pub IsView : List View → ℕ → View → Type 0
IsView views j view = get_elem? views j ≡ some view

-- of all lists of one kind: each stands at one place at most, and has its owner's notes
pub record Stand (lists : View → List NoteList) (notes : ByOwner) (views : List View) : Type 0 where
  pub once : (owner : ℕ) → total (λ view. times owner (lists view)) views ≤ 1
  pub each : (j : ℕ) (view : View) → IsView views j view → AreOf notes (lists view)

-- each token's notes with a guest are that guest's seat's notes with the token's processor, wherever the lists stand
pub record AllAgree (s : State (Unit {0}) View) : Type 0 where
  pub of_tokens : ByOwner
  pub of_seats : ByOwner
  pub tokens : Stand (λ view. view.tokens) of_tokens s.views
  pub seats : Stand (λ view. view.seats) of_seats s.views
  pub agree : (p g : ℕ) → with_side g (of_tokens p) ≡ with_side p (of_seats g)
