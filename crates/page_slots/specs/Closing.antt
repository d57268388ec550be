-- What the end of the slots tells.
use Rattle.std.specs.Prelude.{◌≡◌, ℕ, ◌<◌, List, [], ◌++◌, length, slice_get, Some, All}
use mathlib.Core.Option.{some}
use lib.ListN.{get_elem?}
use Rattle.page_slots.specs.declared.access.Entry.{Entry}
use Rattle.page_slots.specs.Histories.{of_caller, on_page, IsLegal}
use Rattle.page_slots.specs.declared.view.AccessList.{AccessList}
use Rattle.page_slots.specs.Inside.{AreListsOf}
use Rattle.page_slots.specs.PageRule.{Slot}
use Rattle.page_slots.specs.Slots.{MadeSlots, CallerState}
use Rattle.page_slots.specs.Steps.{Own}
use Rattle.page_slots.specs.Views.{free_with}

-- a page's history: it is one of one thread; each caller's entries are its accesses to the page, each once and in order;
-- and there are no others
pub record IsHistoryOf (callers : List CallerState) (page : ℕ) (history : List Entry) : Type 0 where
  pub legal : IsLegal history
  pub own : (c : ℕ) (caller : CallerState) → slice_get callers c ≡ Some caller → of_caller caller.number history ≡ on_page page caller.mine
  pub known : All (λ (e : Entry). e.caller < length callers) history

-- the histories of all pages
pub record AreHistoriesOf (slots : MadeSlots) (callers : List CallerState) (histories : List (List Entry)) : Type 0 where
  pub pages : length histories ≡ slots.pages
  pub each : (page : ℕ) (history : List Entry) → slice_get histories page ≡ Some history → IsHistoryOf callers page history

-- the lists of these callers joined others
pub record HasJoined (before : List AccessList) (callers : List CallerState) (m : Own) : Type 0 where
  pub lists : List AccessList
  pub are : AreListsOf lists callers
  pub me : m ≡ (free_with (before ++ lists), [])

-- each of so many slots has its page
abbrev pub AreHome : ℕ → List Slot → Type 0
AreHome pages slots = (page : ℕ) → page < pages → (history : List Entry) × (get_elem? slots page ≡ some (Some history))

-- these are the histories of the slots' pages, and are legal
abbrev pub AreTaken : List Slot → List (List Entry) → Type 0
AreTaken slots histories = (page : ℕ) (history : List Entry) → slice_get histories page ≡ Some history → (get_elem? slots page ≡ some (Some history)) × IsLegal history
