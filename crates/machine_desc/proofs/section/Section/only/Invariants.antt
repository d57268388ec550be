use Rattle.std.proofs.Common.{map}
use Rattle.std.specs.Map.{keys_of}
use Rattle.machine_desc.proofs.Keys.{IsLeftOf}
use Rattle.machine_desc.proofs.section.Section.only.Given as goal

abbrev pub invariant-loop-name : goal.invariant-loop-name
invariant-loop-name l = IsLeftOf (map (λ k. k.now) l.known) l.name-iterator (keys_of l.self.table.now.entries)
