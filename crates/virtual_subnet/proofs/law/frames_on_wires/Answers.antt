use Rattle.std.proofs.Common.{◌/◌}
use Rattle.std.proofs.Math.Nat.{div-lt_iff_lt-mul}
use Rattle.std.proofs.lemmas.Option.{slice_get_within}
use Rattle.virtual_subnet.proofs.law.frames_on_wires.Goals as goal

-- the frame's node is one of the machine's
pub returns : goal.returns
returns c line packet some fits handed is =
    (div-lt_iff_lt-mul some).0 (slice_get_within line.terms.cells (handed.frame / line.terms.frames) _ (fits.whole handed is).lies)
