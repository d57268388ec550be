-- Which entries are steps, and how many of them a list has.
use Rattle.std.specs.Prelude.{ℕ, ◌==◌, ◌&&◌, List, Bool, false, count_by}
use Rattle.base_words.specs.declared.events.Event.{Event}
use Rattle.base_words.specs.declared.events.Event.TheVariants.{Direct, Refill, Emulate, Begin, Ack, Finish, Load, Unload, PacketIn, Discard, Skip, CellFails, End as Ending}

-- whether an entry is a step of a virtual processor on a processor
abbrev pub is_step_of : ℕ → ℕ → Event → Bool
is_step_of p v (Direct q u) = (q.0 == p) && (u.0 == v)
is_step_of p v (Refill q) = false
is_step_of p v (Emulate q u) = (q.0 == p) && (u.0 == v)
is_step_of p v (Begin page kind node by) = false
is_step_of p v (Ack q page) = false
is_step_of p v (Finish page) = false
is_step_of p v (Load q u) = false
is_step_of p v (Unload q) = false
is_step_of p v (PacketIn place) = false
is_step_of p v (Discard place) = false
is_step_of p v (Skip place) = false
is_step_of p v (CellFails cell) = false
is_step_of p v (Ending end) = false

-- how many steps of a virtual processor on a processor there are
abbrev pub steps_in : ℕ → ℕ → List Event → ℕ
steps_in p v entries = count_by (is_step_of p v) entries
