use Rattle.std.proofs.Common.{arith}
use Rattle.boot_frames.proofs.LotLemmas.{times_lot, times_two}
use Rattle.boot_frames.proofs.law.no_frame_is_given_twice.Goals as goal

pub returns-clause-once : goal.returns-clause-once
returns-clause-once c = λ lots frame most place lot at. let one = times_lot lots frame place lot at in omega arith

pub returns-clause-apart : goal.returns-clause-apart
returns-clause-apart c = λ lots frame most place other lot more at there apart some. let both = times_two lots frame place other lot more at there apart in omega arith
