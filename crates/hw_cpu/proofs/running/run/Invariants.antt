use Rattle.std.proofs.Common.{◌-◌, ◌≡◌, ◌≤◌, false, get_or}
use Rattle.base_words.specs.declared.exception.Use.TheVariants.{Fetch as fetches, Load as loads, Store as stores}
use Rattle.hw_tlb.specs.Tlb.{halves}
use Rattle.private_machine.specs.Serving.{AllServe}
use Rattle.hw_cpu.specs.Steps.{sight_of}
use Rattle.hw_cpu.specs.KeptPages.{IsKeptPage, IsQuietPage}
use Rattle.hw_cpu.specs.Runs.{RunsOpen}
use Rattle.hw_cpu.proofs.running.run.Given as goal

abbrev pub invariant-loop-made : goal.invariant-loop-made
invariant-loop-made g l = record {
  names : g.B.Bus.names l.bus ≡ g.B.Bus.names l.fn.bus;
  site : g.B.Bus.site l.bus ≡ g.B.Bus.site l.fn.bus;
  few : l.made ≤ l.most;
  zero : get_or l.regs.general 0 0 ≡ 0;
  serves : AllServe (g.B.Bus.held l.bus) (halves l.tlb);
  last : IsKeptPage fetches (sight_of l.user l.asid false (halves l.tlb) (g.B.Bus.site l.fn.bus)) l.last;
  loaded : IsQuietPage (g.U.Unnoted.unnoted l.unnoted) loads (sight_of l.user l.asid false (halves l.tlb) (g.B.Bus.site l.fn.bus)) l.loaded;
  stored : IsQuietPage (g.U.Unnoted.unnoted l.unnoted) stores (sight_of l.user l.asid false (halves l.tlb) (g.B.Bus.site l.fn.bus)) l.stored;
  runs : RunsOpen (g.U.Unnoted.unnoted l.unnoted) l.made (sight_of l.user l.asid false (halves l.tlb) (g.B.Bus.site l.fn.bus)) l.is_open (g.B.Bus.site l.fn.bus).stepping l.fn.regs (g.B.Bus.held l.fn.bus) l.regs (g.B.Bus.held l.bus);
}

abbrev pub decreases-loop-made : goal.decreases-loop-made
decreases-loop-made g l = l.most - l.made
