-- What a contract sees of the slots and of a caller.
use Rattle.std.specs.Prelude.{◌≡◌, ℕ, List, [], ◌∷◌, ◌++◌, length, slice_get, Some}
use Rattle.atomic_table.specs.Seated.{TableId}
use Rattle.page_slots.specs.declared.access.SlotAccess.{SlotAccess}

-- which slots these are
abbrev pub SlotsId : Type 0
SlotsId = TableId

-- the slots: which ones they are, and how many pages and callers they have
pub record MadeSlots : Type 0 where
  pub id : SlotsId
  pub pages : ℕ
  pub callers : ℕ

-- a caller: the slots that it is of, its number, and its accesses in order
pub record CallerState : Type 0 where
  pub slots : SlotsId
  pub number : ℕ
  pub mine : List SlotAccess

-- one call made the slots and the caller
abbrev pub IsOf : MadeSlots → CallerState → Type 0
IsOf slots caller = caller.slots ≡ slots.id

-- the caller after one access more
abbrev pub with_access : CallerState → SlotAccess → CallerState
with_access caller access = record { slots = caller.slots; number = caller.number; mine = caller.mine ++ access ∷ [] }

-- all callers of the slots, in the order of their numbers
pub record AreAll (slots : MadeSlots) (callers : List CallerState) : Type 0 where
  pub count : length callers ≡ slots.callers
  pub each : (c : ℕ) (caller : CallerState) → slice_get callers c ≡ Some caller → (caller.slots ≡ slots.id) × (caller.number ≡ c)
