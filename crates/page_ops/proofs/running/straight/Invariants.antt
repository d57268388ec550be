use Rattle.std.proofs.Common.{◌-◌, ◌≡◌, ◌≤◌, ◌/◌, ◌%◌, get_or, None}
use Rattle.base_words.specs.Fields.{sum}
use Rattle.page_ops.specs.Pages.{Goes}
use Rattle.page_ops.proofs.running.straight.Given as goal

abbrev pub invariant-loop-made : goal.invariant-loop-made
invariant-loop-made l = record {
  few : l.made ≤ l.most;
  goes : Goes l.bytes (l.fn.regs.pc / 4096) l.made l.fn.regs (record l.regs { pc = sum l.first l.at; slot = None });
  zero : get_or l.regs.general 0 0 ≡ 0;
  slot : l.regs.slot ≡ None;
  first : l.made ≡ 0 → l.at ≡ l.fn.regs.pc % 4096;
}

abbrev pub decreases-loop-made : goal.decreases-loop-made
decreases-loop-made l = l.most - l.made
