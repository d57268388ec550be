-- Input that is still to come.
use Rattle.std.specs.Prelude.{◌≡◌, ℕ, ◌<◌, List, []}
use Rattle.base_words.specs.declared.input.InputEntry.{InputEntry}
use Rattle.private_machine.specs.DevicePage.{DevicePage}
use Rattle.private_machine.specs.DeviceRegisters.{arrived, still_coming, with_arrived}

-- after fewer own steps than these none of it has come
pub record NoneBefore (until : ℕ) (input : List InputEntry) : Type 0 where
  pub none : (steps : ℕ) → steps < until → arrived steps input ≡ []
  pub stays : (steps : ℕ) → steps < until → still_coming steps input ≡ input

-- and none joins the queue
abbrev pub NoneJoins : ℕ → DevicePage → Type 0
NoneJoins until d = (steps : ℕ) → steps < until → with_arrived steps d ≡ d
