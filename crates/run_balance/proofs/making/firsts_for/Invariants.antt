use Rattle.std.proofs.Common.{◌≡◌, ◌<◌, ℕ, length, slice_index_or}
use Rattle.run_balance.specs.Shares.{first_of}
use Rattle.run_balance.proofs.making.firsts_for.Given as goal

abbrev pub invariant-loop-place : goal.invariant-loop-place
invariant-loop-place l = record {
  long : length l.firsts.items ≡ l.place;
  each : (p : ℕ) → p < l.place → slice_index_or l.firsts.items p 0 ≡ first_of l.lists p;
  here : l.first ≡ first_of l.lists l.place;
}
