-- What each kind of step does to the view of the caller that makes it, and what it tells.
use Rattle.std.specs.Prelude.{◌≡◌, ◌≢◌, ℕ, ◌-◌, ◌*◌, ◌/◌, List, [], ◌∷◌, ◌++◌, length, Some, None}
use Rattle.atomic_table.specs.Table.{Me, Step, rest}
use Rattle.page_slots.specs.declared.access.Entry.{Entry}
use Rattle.page_slots.specs.declared.protocol.Terms.{Terms}
use Rattle.page_slots.specs.declared.view.ListedAccess.{ListedAccess}
use Rattle.page_slots.specs.declared.view.View.{View}
use Rattle.page_slots.specs.PageRule.{Slot}
use Rattle.page_slots.specs.Views.{blank_from, free_with, holding, listed, list_of, noted, first, others}

-- a view, and the slots that are out with it
abbrev pub Own : Type 0
Own = Me Slot View

-- who begins carries all numbers
abbrev pub first_view : Terms → View
first_view terms = free_with (blank_from 0 terms.callers)

-- a load changes nothing
abbrev pub Loaded : Step Slot → Own → ℕ → Own → Type 0
Loaded st m found m' = m' ≡ m

-- the page is held now, with the history found there, which the word tells the length of
pub record Held (st : Step Slot) (m : Own) (found : ℕ) (m' : Own) : Type 0 where
  pub history : List Entry
  pub me : m' ≡ (holding st.word history m.0, (st.word, Some history) ∷ m.1)
  pub word : found ≡ 2 * length history

-- an exchange that finds the word that it expects takes the page, and else it was a load
abbrev pub Taken : Step Slot → Own → ℕ → Own → Type 0
Taken st m found m' = (found ≡ st.first → Held st m found m') × (found ≢ st.first → m' ≡ m)

-- the page goes home, and the access is the last of the list
abbrev pub Appended : Entry → Step Slot → Own → ℕ → Own → Type 0
Appended entry st m found m' = m' ≡ (free_with (noted (listed ((found - 1) / 2) entry.access) m.0.lists), rest m.1)

-- the first number goes to a new view, and the others stay
abbrev pub other_lists : View → View
other_lists v = record { held = v.held; lists = others v.lists }

abbrev pub first_list : View → View
first_list v = free_with (first v.lists)

-- the lists of two views come into one
abbrev pub both : View → View → View
both v w = record { held = v.held; lists = v.lists ++ w.lists }

-- a view that has ended
abbrev pub nothing : View
nothing = free_with []

-- the page is out with who holds it and carries one number, and is to go home with one entry more, of that number
pub record IsDone (page : ℕ) (kept : List Entry) (entry : Entry) (m : Own) : Type 0 where
  pub before : List Entry
  pub accesses : List ListedAccess
  pub me : m ≡ (holding page before (free_with (list_of entry.caller accesses ∷ [])), (page, None) ∷ [])
  pub kept_is : kept ≡ before ++ entry ∷ []
  pub page_is : entry.access.page.0 ≡ page

-- it went home, and the entry's access is the last of the list
pub record IsPut (entry : Entry) (m m' : Own) : Type 0 where
  pub place : ℕ
  pub me : m' ≡ (free_with (noted (listed place entry.access) m.0.lists), [])
