use Rattle.std.proofs.Common.{◌≡◌, ℕ, ◌*◌, ◌<◌, ◌≤◌, true, None, length, slice_index_or}
use Rattle.private_machine.specs.SecondLevel.{unless_of_page}
use Rattle.l2_tlb.specs.Seconds.{seen}
use Rattle.l2_tlb.specs.Marks.{is_of_kind}
use Rattle.l2_tlb.proofs.groups.drop_in_group.Given as goal

abbrev pub invariant-loop-place : goal.invariant-loop-place
invariant-loop-place l = record {
  length : length l.places ≡ 512;
  below : (k : ℕ) → k < l.group * 16 → slice_index_or (seen l.places) k None ≡ slice_index_or (seen l.initial.places) k None;
  done : (k : ℕ) → l.group * 16 ≤ k → k < l.place → slice_index_or (seen l.places) k None ≡ unless_of_page l.page.0 (slice_index_or (seen l.initial.places) k None);
  above : (k : ℕ) → l.place ≤ k → slice_index_or (seen l.places) k None ≡ slice_index_or (seen l.initial.places) k None;
  stays : (k : ℕ) → l.group * 16 ≤ k → k < l.place → is_of_kind l.page.0 (slice_index_or (seen l.places) k None) ≡ true → l.stays ≡ true;
}
