-- Histories of pages: which accesses they have, and when each load answers what one thread would have got.
use Rattle.std.specs.Prelude.{◌≡◌, ℕ, ◌==◌, ◌&&◌, if◌then◌else◌, true, false, List, [], ◌∷◌, ◌++◌}
use Rattle.page_slots.specs.declared.access.Entry.{Entry}
use Rattle.page_slots.specs.declared.access.SlotAccess.{SlotAccess}

-- the accesses of one caller, in order
abbrev pub of_caller : ℕ → List Entry → List SlotAccess
of_caller caller [] = []
of_caller caller (e ∷ es) = if e.caller == caller then e.access ∷ of_caller caller es else of_caller caller es

-- the accesses to one page, in order
abbrev pub on_page : ℕ → List SlotAccess → List SlotAccess
on_page page [] = []
on_page page (a ∷ rest) = if a.page.0 == page then a ∷ on_page page rest else on_page page rest

-- the word at an offset after an access, where it had this value before
abbrev pub after : ℕ → SlotAccess → ℕ → ℕ
after offset a value = if a.store && (a.offset == offset) then a.value else value

-- the word at an offset after a history, where it had this value before
abbrev pub value_after : ℕ → ℕ → List Entry → ℕ
value_after offset value [] = value
value_after offset value (e ∷ es) = value_after offset (after offset e.access value) es

-- what the last store at an offset stored, or 0
abbrev pub last_stored : ℕ → List Entry → ℕ
last_stored offset history = value_after offset 0 history

-- a load gives the value of the last store before it at its offset, or 0
abbrev pub Answers : List Entry → SlotAccess → Type 0
Answers before a = a.store ≡ false → a.value ≡ last_stored a.offset before

-- each of these entries answers so, with those before it
abbrev pub AreLegalAfter : List Entry → List Entry → Type 0
AreLegalAfter before [] = Unit {0}
AreLegalAfter before (e ∷ es) = Answers before e.access × AreLegalAfter (before ++ e ∷ []) es

-- a history of one thread: each load gives the value of the last store before it at its offset, or 0
abbrev pub IsLegal : List Entry → Type 0
IsLegal history = AreLegalAfter [] history

-- an access in a page's history, with its caller's number
abbrev pub entry_of : ℕ → SlotAccess → Entry
entry_of caller access = record { caller = caller; access = access }

-- a load that answered this value, and a store
abbrev pub loaded : ℕ → ℕ → ℕ → SlotAccess
loaded page offset value = record { page = record { 0 = page }; offset = offset; value = value; store = false }

abbrev pub stored : ℕ → ℕ → ℕ → SlotAccess
stored page offset value = record { page = record { 0 = page }; offset = offset; value = value; store = true }
