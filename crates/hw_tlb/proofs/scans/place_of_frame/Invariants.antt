use Rattle.std.proofs.Common.{◌≡◌, ℕ, ◌<◌, false}
use Rattle.hw_tlb.specs.Tlb.{half_at}
use Rattle.hw_tlb.specs.Filling.{has_such}
use Rattle.hw_tlb.specs.Rooms.{is_naming}
use Rattle.hw_tlb.proofs.scans.place_of_frame.Given as goal

abbrev pub invariant-loop-place : goal.invariant-loop-place
invariant-loop-place l = (k : ℕ) → k < l.place → has_such (is_naming l.frame.0) (half_at l.rooms k) ≡ false
