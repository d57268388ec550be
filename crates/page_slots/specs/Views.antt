-- What a view has: the page that it holds, the callers' numbers that it carries, and their accesses.
use Rattle.std.specs.Prelude.{ℕ, zero, suc, ◌+◌, ◌==◌, ◌&&◌, if◌then◌else◌, Bool, List, [], ◌∷◌, ◌++◌, Option, Some, None}
use Rattle.page_slots.specs.declared.access.Entry.{Entry}
use Rattle.page_slots.specs.declared.access.SlotAccess.{SlotAccess}
use Rattle.page_slots.specs.declared.view.ListedAccess.{ListedAccess}
use Rattle.page_slots.specs.declared.view.AccessList.{AccessList}
use Rattle.page_slots.specs.declared.view.HeldPage.{HeldPage}
use Rattle.page_slots.specs.declared.view.View.{View}

-- 1 where something holds, else 0
abbrev pub one_if : Bool → ℕ
one_if b = if b then 1 else 0

-- an access with its place
abbrev pub listed : ℕ → SlotAccess → ListedAccess
listed place access = record { place = place; access = access }

-- a caller's number with its accesses
abbrev pub list_of : ℕ → List ListedAccess → AccessList
list_of caller accesses = record { caller = caller; accesses = accesses }

-- so many numbers from this one on, each with no accesses
abbrev pub blank_from : ℕ → ℕ → List AccessList
blank_from caller zero = []
blank_from caller (suc n) = list_of caller [] ∷ blank_from (suc caller) n

-- the view of who holds no page and has these lists
abbrev pub free_with : List AccessList → View
free_with lists = record { held = None; lists = lists }

-- a page that is held, with the history found there
abbrev pub held_page : ℕ → List Entry → HeldPage
held_page page history = record { page = page; history = history }

-- the view holds this page now
abbrev pub holding : ℕ → List Entry → View → View
holding page history v = record { held = Some (held_page page history); lists = v.lists }

-- the accesses of the first list have one more at their end
abbrev pub noted : ListedAccess → List AccessList → List AccessList
noted x [] = []
noted x (l ∷ ls) = list_of l.caller (l.accesses ++ x ∷ []) ∷ ls

-- the first list, and the others
abbrev pub first : List AccessList → List AccessList
first [] = []
first (l ∷ ls) = l ∷ []

abbrev pub others : List AccessList → List AccessList
others [] = []
others (l ∷ ls) = ls

-- how often a caller's number is among lists
abbrev pub times_carried : ℕ → List AccessList → ℕ
times_carried caller [] = 0
times_carried caller (l ∷ ls) = one_if (l.caller == caller) + times_carried caller ls

-- the access is at this place of this page's history
abbrev pub is_at : ℕ → ℕ → ListedAccess → Bool
is_at page place x = (x.access.page.0 == page) && (x.place == place)

-- how often a place of a page is among accesses
abbrev pub times_at : ℕ → ℕ → List ListedAccess → ℕ
times_at page place [] = 0
times_at page place (x ∷ xs) = one_if (is_at page place x) + times_at page place xs

-- how often a place of a page is in lists
abbrev pub times_listed : ℕ → ℕ → List AccessList → ℕ
times_listed page place [] = 0
times_listed page place (l ∷ ls) = times_at page place l.accesses + times_listed page place ls

-- how often the page is what is held
abbrev pub times_held : ℕ → Option HeldPage → ℕ
times_held page None = 0
times_held page (Some h) = one_if (h.page == page)
