-- How halves go.
use Rattle.std.specs.Prelude.{Bool, map, Option, Some, None, if◌then◌else◌}
use Rattle.base_words.specs.Halves.{Half}
use Rattle.hw_tlb.specs.Tlb.{Tlb}

-- a place without such a half
abbrev pub emptied : (Half → Bool) → Option Half → Option Half
emptied is_such None = None
emptied is_such (Some h) = if is_such h then None else Some h

-- The TLB without such halves: each other half stays at its place, and the turn stays.
abbrev pub dropped : (Half → Bool) → Tlb → Tlb
dropped is_such t = record t { places = map (emptied is_such) t.places }
