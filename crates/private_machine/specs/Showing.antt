-- What the virtual processors show of halts and of lines of interrupts that are kept beside them, in lists.
use Rattle.std.specs.Prelude.{List, [], ◌∷◌, Bool, false}
use Rattle.base_words.specs.Coprocessor.{line_set}
use Rattle.private_machine.specs.declared.vcpu.Vcpu.{Vcpu}

-- what a virtual processor shows: whether it has halted, IP4 and IP3
pub record Shown : Type 0 where
  pub halted : Bool
  pub called : Bool
  pub packet : Bool

abbrev pub shown_by : Vcpu → Shown
shown_by c = record { halted = c.halted; called = c.cp0.cause.pending.vcpu; packet = c.cp0.cause.pending.packet }

-- what the lists tell of each; IP3 is of the first virtual processor alone
abbrev pub shown_from : Bool → List Bool → List Bool → List Shown
shown_from packet (h ∷ hs) (c ∷ cs) = record { halted = h; called = c; packet = packet } ∷ shown_from false hs cs
shown_from packet [] cs = []
shown_from packet (h ∷ hs) [] = []

-- a virtual processor is made to show this, and all of them what the lists tell
abbrev pub showing : Bool → Bool → Bool → Vcpu → Vcpu
showing halted called packet c = record c { halted = halted; cp0 = line_set (line_set c.cp0 4 called) 3 packet }

abbrev pub showing_from : Bool → List Bool → List Bool → List Vcpu → List Vcpu
showing_from packet (h ∷ hs) (c ∷ cs) (x ∷ xs) = showing h c packet x ∷ showing_from false hs cs xs
showing_from packet [] cs xs = xs
showing_from packet (h ∷ hs) [] xs = xs
showing_from packet (h ∷ hs) (c ∷ cs) [] = []
