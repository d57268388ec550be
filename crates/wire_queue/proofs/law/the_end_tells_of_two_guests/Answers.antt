use Rattle.wire_queue.proofs.CallerLists.{in_order_of}
use Rattle.wire_queue.proofs.law.the_end_tells_of_two_guests.Goals as goal

pub returns : goal.returns
returns c = in_order_of
