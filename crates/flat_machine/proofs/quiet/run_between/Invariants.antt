use Rattle.std.proofs.Common.{◌-◌, ◌≡◌, ◌≤◌, length, map, get_or}
use Rattle.private_machine.specs.Showing.{shown_by}
use Rattle.private_machine.specs.Vcpu.{space_of, with_registers}
use Rattle.flat_machine.specs.Parts.{Goes}
use Rattle.flat_machine.specs.Windows.{AreKept}
use Rattle.flat_machine.proofs.quiet.run_between.Given as goal

-- so many steps were made of the virtual processor, which keeps all but its registers; its pages are kept
abbrev pub invariant-loop-made : goal.invariant-loop-made
invariant-loop-made l = record {
  few : l.made ≤ l.most;
  whole : length l.memory ≡ length l.fn.memory;
  current : l.current ≡ with_registers l.current.registers l.fn.current;
  zero : get_or l.current.registers.general 0 0 ≡ 0;
  before_shows : map shown_by l.before ≡ map shown_by l.fn.before;
  behind_shows : map shown_by l.behind ≡ map shown_by l.fn.behind;
  kept : AreKept (space_of l.fn.current) l.pages l.kept;
  goes : Goes l.pages l.is_open l.fn.current l.made (record { before = l.fn.before; registers = l.fn.current.registers; behind = l.fn.behind; memory = l.fn.memory }) (record { before = l.before; registers = l.current.registers; behind = l.behind; memory = l.memory });
}

abbrev pub decreases-loop-made : goal.decreases-loop-made
decreases-loop-made l = l.most - l.made
