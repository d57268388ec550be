use Rattle.wire_queue.proofs.CallerLists.{list_at, sends_there, takes_there}
use Rattle.wire_queue.proofs.law.each_guest_has_its_list.Goals as goal

pub returns-clause-own : goal.returns-clause-own
returns-clause-own c = list_at

pub returns-clause-sends : goal.returns-clause-sends
returns-clause-sends c = sends_there

pub returns-clause-takes : goal.returns-clause-takes
returns-clause-takes c = takes_there
