-- A journal leads from one state of a guest to another.
use Rattle.std.specs.Prelude.{◌≡◌, ◌⊎◌, List, [], ◌∷◌}
use Rattle.base_words.specs.declared.events.Event.{Event}
use Rattle.isolation_law.specs.GuestState.{GuestState}
use Rattle.isolation_law.specs.MachineEvent.{Row}
use Rattle.isolation_law.specs.PacketRows.{ComesToHand}

-- what may change with no entry; between two entries once is enough, as only an entry empties the hand
abbrev pub Silent : GuestState → GuestState → Type 0
Silent s t = (t ≡ s) ⊎ ComesToHand s t

-- before each entry, and at the end, what changes with no entry
abbrev pub Run : GuestState → List Event → GuestState → Type 0
Run s [] t = Silent s t
Run s (e ∷ journal) t = (a : GuestState) × (m : GuestState) × Silent s a × Row a e m × Run m journal t
