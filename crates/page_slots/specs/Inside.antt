-- What ties the slots and a caller to their table.
use Rattle.std.specs.Prelude.{◌≡◌, ◌<◌, ◌≤◌, List, [], ◌∷◌}
use Rattle.std.specs.Vec.{vec_len, vec_capacity}
use Rattle.page_slots.specs.declared.access.SlotAccess.{SlotAccess}
use Rattle.page_slots.specs.declared.view.ListedAccess.{ListedAccess}
use Rattle.page_slots.specs.declared.view.AccessList.{AccessList}
use Rattle.page_slots.specs.declared.slots.PageSlots.TheInside as slots
use Rattle.page_slots.specs.declared.caller.Caller.TheInside as caller
use Rattle.page_slots.specs.Points.{made_by}
use Rattle.page_slots.specs.Slots.{MadeSlots, CallerState}
use Rattle.page_slots.specs.Views.{free_with, list_of}

-- the accesses, without their places
abbrev pub accesses_in : List ListedAccess → List SlotAccess
accesses_in [] = []
accesses_in (x ∷ xs) = x.access ∷ accesses_in xs

-- the accesses of the first list
abbrev pub listed_in : List AccessList → List ListedAccess
listed_in [] = []
listed_in (l ∷ ls) = l.accesses

-- a list has a caller's number and its accesses
pub record IsListOf (l : AccessList) (c : CallerState) : Type 0 where
  pub number : l.caller ≡ c.number
  pub mine : accesses_in l.accesses ≡ c.mine

-- the lists of these callers
abbrev pub AreListsOf : List AccessList → List CallerState → Type 0
AreListsOf [] [] = Unit {0}
AreListsOf [] (c ∷ cs) = ⊥
AreListsOf (l ∷ ls) [] = ⊥
AreListsOf (l ∷ ls) (c ∷ cs) = IsListOf l c × AreListsOf ls cs

-- what contracts see of the slots
abbrev pub slots_of : slots.Inside → MadeSlots
slots_of a = record { id = a.table.shared.table_id; pages = a.terms.pages; callers = a.terms.callers }

-- the table is of these terms, with a word and a slot for each page; and there is room for all histories
pub record IsWhole (a : slots.Inside) : Type 0 where
  pub known : a.table.shared.key ≡ a.terms
  pub words : a.table.shared.table_id.words ≡ a.terms.pages
  pub slots_are : a.table.shared.table_id.slots ≡ a.terms.pages
  pub some : 0 < a.terms.pages
  pub some_callers : 0 < a.terms.callers
  pub room : (vec_len a.room ≡ 0) × (a.terms.pages ≤ vec_capacity a.room)

-- what contracts see of a caller
abbrev pub caller_of : caller.Inside → CallerState
caller_of a = record { slots = a.hand.table_id; number = a.number; mine = accesses_in (listed_in a.hand.me.0.lists) }

-- a caller's view has its list alone, no page is out with it, and its accesses are counted
pub record IsCaller (a : caller.Inside) : Type 0 where
  pub list : a.hand.me ≡ (free_with (list_of a.number (listed_in a.hand.me.0.lists) ∷ []), [])
  pub made : a.made ≡ made_by (caller_of a)
