-- How a move of a page begins, is acknowledged and ends: the page and the guest's spare frames.
use Rattle.std.specs.Prelude.{ℕ, true, false, List, [], ◌∷◌, ◌++◌, Option, Some, None, option_map, option_to_list, option_and_then, flat_map, slice_set, if◌then◌else◌}
use Rattle.base_words.specs.declared.moves.MoveKind.{MoveKind}
use Rattle.base_words.specs.declared.moves.MoveKind.TheVariants.{Migrate, Replicate, Collapse, Break, TakeShared, GiveShared}
use Rattle.private_machine.specs.Backing.{Copy, Change, Migrates, Replicates, Collapses, Breaks, TakesShared, GivesShared, Move, Page, copies, with_bytes}

-- what a move is called, and its target
abbrev pub kind_of : Change → MoveKind
kind_of (Migrates target) = Migrate
kind_of (Replicates target) = Replicate
kind_of Collapses = Collapse
kind_of (Breaks target) = Break
kind_of (TakesShared target) = TakeShared
kind_of (GivesShared target) = GiveShared

abbrev pub target_of : Change → Option Copy
target_of (Migrates target) = Some target
target_of (Replicates target) = Some target
target_of Collapses = None
target_of (Breaks target) = Some target
target_of (TakesShared target) = Some target
target_of (GivesShared target) = Some target

-- a page's master, replicas and target
abbrev pub target_in : Move → Option Copy
target_in m = target_of m.change

abbrev pub held_for : Page → List Copy
held_for g = copies g ++ option_to_list (option_and_then target_in g.move)

-- the frames by which a page ties the guest to cells: its master, and the target of its move
abbrev pub used_for : Page → List Copy
used_for g = g.master ∷ option_to_list (option_and_then target_in g.move)

-- pages and spares hold a frame once for each place in which it stands
abbrev pub held_in : List Page → List Copy → List Copy
held_in pages spares = flat_map held_for pages ++ spares

-- a move begins; all that name the page have to acknowledge it
abbrev pub begun : Change → Page → Page
begun change g = record g { move = Some (record { change = change; waiting = g.mapped }) }

-- a processor's TLB names the page
abbrev pub named_by : ℕ → Page → Page
named_by p g = record g { mapped = slice_set g.mapped p true }

-- it no longer does, and has acknowledged a move of it
abbrev pub acknowledged : ℕ → Move → Move
acknowledged p m = record m { waiting = slice_set m.waiting p false }

abbrev pub left_by : ℕ → Page → Page
left_by p g = record g { mapped = slice_set g.mapped p false; move = option_map (acknowledged p) g.move }

-- a move is done, and the bytes of the master at this moment are its target's
abbrev pub finished : Change → Page → Page
finished (Migrates target) g = record g { master = with_bytes g.master.bytes target; move = None }
finished (Replicates target) g = record g { replicas = g.replicas ++ with_bytes g.master.bytes target ∷ []; move = None }
finished Collapses g = record g { replicas = []; move = None }
finished (Breaks target) g = record g { master = with_bytes g.master.bytes target; shared = false; move = None }
finished (TakesShared target) g = record g { move = None }
finished (GivesShared target) g = record g { shared = true; replicas = []; move = None }

-- the page once the operation for which it is taken shared has ended that move
abbrev pub taken : Copy → Page → Page
taken target g = record g { master = target; shared = true; replicas = []; move = None }

-- the spares after a move is done, and after a page was taken shared
abbrev pub spares_finished : Change → List Copy → List Copy
spares_finished (Migrates target) spares = spares
spares_finished (Replicates target) spares = spares
spares_finished Collapses spares = spares
spares_finished (Breaks target) spares = spares
spares_finished (TakesShared target) spares = spares
spares_finished (GivesShared target) spares = spares ++ target ∷ []

abbrev pub spares_taken : Page → List Copy → List Copy
spares_taken g spares = if g.shared then spares else spares ++ g.master ∷ []

-- which frames come to be held with the begin of a move: its target, but that of a break was a spare
abbrev pub gained : Change → List Copy
gained (Migrates target) = target ∷ []
gained (Replicates target) = target ∷ []
gained Collapses = []
gained (Breaks target) = []
gained (TakesShared target) = target ∷ []
gained (GivesShared target) = target ∷ []

-- which frames are no longer held with the end of a move
abbrev pub dropped : Page → Change → List Copy
dropped g (Migrates target) = g.master ∷ []
dropped g (Replicates target) = []
dropped g Collapses = g.replicas
dropped g (Breaks target) = g.master ∷ []
dropped g (TakesShared target) = target ∷ []
dropped g (GivesShared target) = g.replicas

-- and with the operation for which a page was taken shared: the master, but an own one becomes a spare
abbrev pub dropped_taken : Page → List Copy
dropped_taken g = if g.shared then g.master ∷ g.replicas else g.replicas

-- which frames tie the guest to cells no longer with the end of a move: a master whose place another takes, and a target that becomes a
-- replica, or is given up
abbrev pub untied : Page → Change → List Copy
untied g (Migrates target) = g.master ∷ []
untied g (Replicates target) = target ∷ []
untied g Collapses = []
untied g (Breaks target) = g.master ∷ []
untied g (TakesShared target) = target ∷ []
untied g (GivesShared target) = []

-- and with the operation for which a page was taken shared: the master, but an own one becomes a spare
abbrev pub untied_taken : Page → List Copy
untied_taken g = if g.shared then g.master ∷ [] else []
