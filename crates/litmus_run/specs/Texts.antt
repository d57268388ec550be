-- The printed text of histories.
use Rattle.std.specs.Prelude.{ℕ, ◌+◌, List, [], ◌∷◌, ◌++◌, Bool, true, false, length, codes, decimal}
use Rattle.page_slots.specs.declared.access.Entry.{Entry}

-- a line ends with a line feed
abbrev pub line_end : List ℕ
line_end = 10 ∷ []

-- the line before a page's history: its number, and how many entries there are
abbrev pub page_line : ℕ → ℕ → List ℕ
page_line page count = codes "page " ++ (decimal page ++ (codes " " ++ (decimal count ++ line_end)))

-- a store or a load
abbrev pub act : Bool → List ℕ
act true = codes " s "
act false = codes " l "

-- an entry: its caller, whether it loads or stores, the offset and the value
abbrev pub entry_line : Entry → List ℕ
entry_line e = decimal e.caller ++ (act e.access.store ++ (decimal e.access.offset ++ (codes " " ++ (decimal e.access.value ++ line_end))))

-- the lines of entries, in order
abbrev pub entry_lines : List Entry → List ℕ
entry_lines [] = []
entry_lines (e ∷ es) = entry_line e ++ entry_lines es

-- a page's history
abbrev pub history_text : ℕ → List Entry → List ℕ
history_text page history = page_line page (length history) ++ entry_lines history

-- the texts of items one after the other, numbered on from a number
abbrev pub numbered : {A : Type 0} → (ℕ → A → List ℕ) → ℕ → List A → List ℕ
numbered text number [] = []
numbered text number (x ∷ xs) = text number x ++ numbered text (number + 1) xs

-- the histories of all pages
abbrev pub histories_text : List (List Entry) → List ℕ
histories_text histories = numbered history_text 0 histories
