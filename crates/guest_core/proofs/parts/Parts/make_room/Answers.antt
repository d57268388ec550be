-- What is in hand stays.
use Rattle.guest_core.proofs.EnterProofs.{handed-same}
use Rattle.guest_core.proofs.parts.Parts.make_room.Goals as goal

pub returns-clause-handed : goal.returns-clause-handed
returns-clause-handed c = handed-same c.args.self.now.course c.reserve-2.new.self c.reserve-2.ensures.hand
