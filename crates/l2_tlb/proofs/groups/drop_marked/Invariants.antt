use Rattle.std.proofs.Common.{◌≡◌, ℕ, ◌*◌, ◌<◌, ◌≤◌, None, length, slice_index_or}
use Rattle.private_machine.specs.SecondLevel.{unless_of_page}
use Rattle.l2_tlb.specs.Seconds.{seen}
use Rattle.l2_tlb.specs.Marks.{AreMarked}
use Rattle.l2_tlb.proofs.groups.drop_marked.Given as goal

abbrev pub invariant-loop-group : goal.invariant-loop-group
invariant-loop-group l = record {
  length : length l.places ≡ 512;
  done : (k : ℕ) → k < l.group * 16 → slice_index_or (seen l.places) k None ≡ unless_of_page l.page.0 (slice_index_or (seen l.initial.places) k None);
  rest : (k : ℕ) → l.group * 16 ≤ k → slice_index_or (seen l.places) k None ≡ slice_index_or (seen l.initial.places) k None;
  marked : AreMarked (seen l.places) l.marks;
}
