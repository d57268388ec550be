-- What a guest holds, and which cells it uses.
use Rattle.std.specs.Prelude.{ℕ, ◌+◌, ◌==◌, Bool, false, ◌&&◌, ◌||◌, List, [], ◌∷◌, ◌++◌, flat_map, is_some, is_none}
use Rattle.std.specs.List.{list_any}
use Rattle.private_machine.specs.Backing.{Copy}
use Rattle.private_machine.specs.PageMove.{held_in, used_for}
use Rattle.isolation_law.specs.Surroundings.{Surroundings, cell_of_frame, cell_of_processor}
use Rattle.isolation_law.specs.Parts.{Processor}
use Rattle.isolation_law.specs.GuestState.{GuestState}

-- a frame stands here once for each place in which the guest has it
abbrev pub held : GuestState → List Copy
held s = held_in s.pages s.spares

-- the frames by which a guest uses a cell: the masters of its pages, the targets of their moves, and the spares
abbrev pub used_frames : GuestState → List Copy
used_frames s = flat_map used_for s.pages ++ s.spares

abbrev pub lies_in : Surroundings → ℕ → Copy → Bool
lies_in w cell c = cell_of_frame w c.frame == cell

-- something is loaded on one of these processors, counted from p, of this cell
abbrev pub loaded_in : Surroundings → ℕ → ℕ → List Processor → Bool
loaded_in w cell p [] = false
loaded_in w cell p (x ∷ processors) = (is_some x.loaded && (cell_of_processor w p == cell)) || loaded_in w cell (p + 1) processors

-- a guest that hasn't ended uses a cell
abbrev pub uses : GuestState → ℕ → Bool
uses s cell = is_none s.end && (list_any (lies_in s.around cell) (used_frames s) || loaded_in s.around cell 0 s.processors)
