-- Which frames a guest holds, how often and under which generation, and how a page's frames lie.
use Rattle.std.specs.Prelude.{ℕ, ◌==◌, if◌then◌else◌, Bool, List, [], ◌∷◌, ◌++◌, map, count_by, Option, Some, None}
use Rattle.isolation_law.specs.Surroundings.{Surroundings, home_cell}
use Rattle.private_machine.specs.Backing.{Copy, Change, Migrates, Replicates, Collapses, Breaks, TakesShared, GivesShared, Move, Page, copies, node_of_frame}
use Rattle.base_words.specs.Membership.{Has}
use Rattle.isolation_law.specs.GuestState.{GuestState}
use Rattle.isolation_law.specs.CellUse.{held, lies_in}

-- the numbers are all different
abbrev pub AllDifferent : List ℕ → Type 0
AllDifferent [] = Unit {0}
AllDifferent (n ∷ ns) = (Has ns n → ⊥) × AllDifferent ns

-- the frame that is to become a replica
abbrev pub coming : Change → List Copy
coming (Migrates target) = []
coming (Replicates target) = target ∷ []
coming Collapses = []
coming (Breaks target) = []
coming (TakesShared target) = []
coming (GivesShared target) = []

abbrev pub coming_to : Option Move → List Copy
coming_to None = []
coming_to (Some m) = coming m.change

abbrev pub nodes_of : Surroundings → Page → List ℕ
nodes_of w g = map (λ c. node_of_frame w.frames c.frame) (copies g ++ coming_to g.move)

abbrev pub is_frame : ℕ → Copy → Bool
is_frame frame c = c.frame == frame

-- how often the guest holds a frame, and how many loans it needs of a cell
abbrev pub holds : GuestState → ℕ → ℕ
holds s frame = count_by (is_frame frame) (held s)

abbrev pub loans : GuestState → ℕ → ℕ
loans s cell = if cell == home_cell s.around then 0 else count_by (lies_in s.around cell) (held s)
