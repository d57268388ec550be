use Rattle.std.proofs.Common.{◌≡◌, ℕ, ◌<◌, false, slice_index_or}
use Rattle.base_words.proofs.sets.IdSet.is_empty.Given as goal

-- none of the numbers so far is a member
abbrev pub invariant-loop-member : goal.invariant-loop-member
invariant-loop-member g l = (k : ℕ) → k < l.member-index → slice_index_or l.members k false ≡ false
