-- What a litmus file asks for, and which histories are an outcome of it.
use Rattle.std.specs.Prelude.{◌≡◌, ℕ, ◌<◌, ◌≤◌, ◌%◌, ◌==◌, if◌then◌else◌, List, [], ◌∷◌, length, slice_get, Some, All}
use Rattle.page_slots.specs.declared.access.Entry.{Entry}
use Rattle.page_slots.specs.declared.access.SlotAccess.{SlotAccess}
use Rattle.page_slots.specs.declared.op.Op.{Op}
use Rattle.page_slots.specs.declared.op.Op.TheVariants.{Load, Store}
use Rattle.page_slots.specs.declared.op.Litmus.{Litmus}
use Rattle.page_slots.specs.Histories.{of_caller, IsLegal, loaded, stored}

-- an operation on one of so many pages, at a word's offset
abbrev pub IsPlace : ℕ → ℕ → ℕ → Type 0
IsPlace pages page offset = (page < pages) × (offset < 4096) × (offset % 4 ≡ 0)

-- a load or a store at such a place
abbrev pub IsOp : ℕ → Op → Type 0
IsOp pages (Load page offset) = IsPlace pages page.0 offset
IsOp pages (Store page offset value) = IsPlace pages page.0 offset

-- 1 to 16 pages, and 1 to 16 callers with at most 1000 operations each
pub record IsLitmus (litmus : Litmus) : Type 0 where
  pub some_pages : 0 < litmus.pages
  pub few_pages : litmus.pages ≤ 16
  pub some_callers : 0 < length litmus.callers
  pub few_callers : length litmus.callers ≤ 16
  pub few_ops : All (λ (ops : List Op). length ops ≤ 1000) litmus.callers
  pub ops : All (λ (ops : List Op). All (IsOp litmus.pages) ops) litmus.callers

-- the page that an operation is on
abbrev pub page_of : Op → ℕ
page_of (Load page offset) = page.0
page_of (Store page offset value) = page.0

-- the operations on one page, in order
abbrev pub ops_on : ℕ → List Op → List Op
ops_on page [] = []
ops_on page (op ∷ ops) = if page_of op == page then op ∷ ops_on page ops else ops_on page ops

-- the access that an operation makes; the value of a load is filled in
abbrev pub Makes : Op → SlotAccess → Type 0
Makes (Load page offset) a = a ≡ loaded page.0 offset a.value
Makes (Store page offset value) a = a ≡ stored page.0 offset value

-- the accesses that operations make, one for each and in order
abbrev pub AreMade : List Op → List SlotAccess → Type 0
AreMade [] [] = Unit {0}
AreMade [] (a ∷ made) = ⊥
AreMade (op ∷ ops) [] = ⊥
AreMade (op ∷ ops) (a ∷ made) = Makes op a × AreMade ops made

-- a page's history: each load gives the value of the last store before it at its offset, or 0; and the entries of each
-- caller are its operations on the page, in order, with the loads' values filled in
pub record IsPageOutcome (callers : List (List Op)) (page : ℕ) (history : List Entry) : Type 0 where
  pub legal : IsLegal history
  pub own : (c : ℕ) (ops : List Op) → slice_get callers c ≡ Some ops → AreMade (ops_on page ops) (of_caller c history)
  pub known : All (λ (e : Entry). e.caller < length callers) history

-- the histories of all pages are an outcome
pub record IsOutcome (litmus : Litmus) (histories : List (List Entry)) : Type 0 where
  pub pages : length histories ≡ litmus.pages
  pub each : (page : ℕ) (history : List Entry) → slice_get histories page ≡ Some history → IsPageOutcome litmus.callers page history
