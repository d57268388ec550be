-- How the turns of a slice came to their end, as far as it is told.
use Rattle.std.specs.Prelude.{List, [], ◌∷◌}
use Rattle.base_words.specs.declared.events.End.{End}
use Rattle.base_words.specs.declared.ids.CellId.{CellId}
use Rattle.base_words.specs.declared.ids.VcpuId.{VcpuId}
use Rattle.shootdown.specs.declared.notes.Note.{Note}
use Rattle.shootdown.specs.declared.notes.Note.TheVariants.{Halted, Ended, Dead}

-- each was a step or a refill; the virtual processor has halted; the guest has ended; the processor's cell is dead for the guest
pub data Stop : Type 0 where
  Paused : Stop
  VcpuHalted : Stop
  GuestEnded : (end : End) → Stop
  CellDead : (cell : CellId) → Stop

-- what is told last
abbrev pub told_of_stop : VcpuId → Stop → List Note
told_of_stop v Paused = []
told_of_stop v VcpuHalted = Halted v ∷ []
told_of_stop v (GuestEnded end) = Ended end ∷ []
told_of_stop v (CellDead cell) = Dead cell ∷ []
