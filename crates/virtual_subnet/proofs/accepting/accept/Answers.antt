use Rattle.std.proofs.Common.{ap}
use Rattle.wire_queue.specs.Packets.{whole_of}
use Rattle.virtual_subnet.specs.Offering.{handed_of}
use Rattle.virtual_subnet.proofs.accepting.accept.Goals as goal

-- the frame that the packet hands on is one of the table's
pub share-requires-clause-within : goal.share-requires-clause-within
share-requires-clause-within c = c.requires.within (handed_of c.in-Whole.frame) (ap whole_of c.in-Whole.is)
