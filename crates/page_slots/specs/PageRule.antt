-- The rule of the pages: what words, slots and the views of all callers have in common at every moment.
use Rattle.std.specs.Prelude.{◌≡◌, ℕ, ◌+◌, ◌/◌, ◌%◌, ◌<◌, nat_lt, List, [], ◌∷◌, length, slice_index, Option, Some, None}
use mathlib.Core.Option.{some}
use lib.ListN.{get_elem?}
use Rattle.atomic_table.specs.Table.{State}
use Rattle.page_slots.specs.declared.access.Entry.{Entry}
use Rattle.page_slots.specs.declared.protocol.Terms.{Terms}
use Rattle.page_slots.specs.declared.view.ListedAccess.{ListedAccess}
use Rattle.page_slots.specs.declared.view.AccessList.{AccessList}
use Rattle.page_slots.specs.declared.view.HeldPage.{HeldPage}
use Rattle.page_slots.specs.declared.view.View.{View}
use Rattle.page_slots.specs.Histories.{entry_of}
use Rattle.page_slots.specs.Views.{one_if, times_carried, times_listed, times_held}

-- what a page's slot has: the page, seen as its history, or nothing while it is in use
abbrev pub Slot : Type 0
Slot = Option (List Entry)

-- each page's history, by the page's number
abbrev pub ByPage : Type 0
ByPage = ℕ → List Entry

-- a number of each view, added up over all views
abbrev pub total : (View → ℕ) → List View → ℕ
total number [] = 0
total number (v ∷ vs) = number v + total number vs

-- a view is one of the callers'
abbrev pub IsView : List View → ℕ → View → Type 0
IsView views j view = get_elem? views j ≡ some view

-- a fact of each of these
abbrev pub Each : {A : Type 0} → (A → Type 0) → List A → Type 0
Each P [] = Unit {0}
Each P (x ∷ xs) = P x × Each P xs

-- the places on each page rise
abbrev pub IsBefore : ListedAccess → ListedAccess → Type 0
IsBefore x y = x.access.page.0 ≡ y.access.page.0 → x.place < y.place

abbrev pub Rises : List ListedAccess → Type 0
Rises [] = Unit {0}
Rises (x ∷ xs) = Each (IsBefore x) xs × Rises xs

-- an access is, with its caller's number, the entry at its place in its page's history
abbrev pub IsEntry : ByPage → ℕ → ListedAccess → Type 0
IsEntry histories caller x = get_elem? (histories x.access.page.0) x.place ≡ some (entry_of caller x.access)

-- a list's places rise, and each of its accesses is the entry at its place
abbrev pub IsTrueList : ByPage → AccessList → Type 0
IsTrueList histories l = Rises l.accesses × Each (IsEntry histories l.caller) l.accesses

-- the page that is held has the history that was found there, and who holds it carries a number
abbrev pub IsHolder : ByPage → List AccessList → Option HeldPage → Type 0
IsHolder histories lists None = Unit {0}
IsHolder histories lists (Some h) = (h.history ≡ histories h.page) × (0 < length lists)

-- what a view lists and holds is in the histories
pub record IsTrueView (histories : ByPage) (v : View) : Type 0 where
  pub lists : Each (IsTrueList histories) v.lists
  pub holder : IsHolder histories v.lists v.held

-- the rule that holds between any two steps
pub record PageRule (terms : Terms) (s : State Slot View) : Type 0 where
  -- each page's history: that in the view of who holds the page, or that at home
  pub histories : ByPage
  -- a page's word is twice the length of its history, and one more while it is held
  pub whole : length s.words ≡ terms.pages
  pub lengths : (page : ℕ) → length (histories page) ≡ slice_index s.words page / 2
  -- each caller's number is carried once, and no other number
  pub carried : (caller : ℕ) → total (λ v. times_carried caller v.lists) s.views ≡ one_if (nat_lt caller terms.callers)
  -- each place of a history is listed once, and no other place
  pub placed : (page place : ℕ) → total (λ v. times_listed page place v.lists) s.views ≡ one_if (nat_lt place (length (histories page)))
  -- a page whose word is odd is held once, and one whose word is even isn't held
  pub held : (page : ℕ) → total (λ v. times_held page v.held) s.views ≡ slice_index s.words page % 2
  -- places rise in each list, and what is listed and held is in the histories
  pub views : (j : ℕ) (v : View) → IsView s.views j v → IsTrueView histories v
  -- a page that isn't held is at home
  pub home : (page : ℕ) → page < terms.pages → slice_index s.words page % 2 ≡ 0 → get_elem? s.homes page ≡ some (some (Some (histories page)))
