-- The callers of new slots.
use Rattle.std.specs.Prelude.{◌≡◌, ℕ, zero, suc, List, [], ◌∷◌, slice_get, Some}
use Rattle.page_slots.specs.Slots.{SlotsId, MadeSlots, CallerState, AreAll}

-- a caller without accesses
abbrev pub fresh_caller : SlotsId → ℕ → CallerState
fresh_caller slots number = record { slots = slots; number = number; mine = [] }

-- so many callers, numbered from this number on
abbrev pub callers_from : SlotsId → ℕ → ℕ → List CallerState
callers_from slots number zero = []
callers_from slots number (suc n) = fresh_caller slots number ∷ callers_from slots (suc number) n

-- so many pages, and all of so many callers, numbered from 0 and without accesses; the last two say it by place
pub record AreFresh (slots : MadeSlots) (pages count : ℕ) (callers : List CallerState) : Type 0 where
  pub pages_are : slots.pages ≡ pages
  pub callers_are : slots.callers ≡ count
  pub numbered : callers ≡ callers_from slots.id 0 count
  pub all : AreAll slots callers
  pub none : (c : ℕ) (caller : CallerState) → slice_get callers c ≡ Some caller → caller.mine ≡ []
