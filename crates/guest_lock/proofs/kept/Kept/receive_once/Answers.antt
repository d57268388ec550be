-- The call was made.
use Rattle.std.proofs.Common.{refl}
use Rattle.guest_lock.proofs.kept.Kept.receive_once.Goals as goal

pub returns-in_err-packeted-clause-called : goal.returns-in_err-packeted-clause-called
returns-in_err-packeted-clause-called g c = record {
  answer = c.packet_in.result;
  mid = c.packet_in.new.self;
  takes = c.packet_in.ensures.takes;
  stays = record { journal = refl; state = refl; view = refl };
  passes = refl;
}

pub returns-in_err-make_room-clause-called : goal.returns-in_err-make_room-clause-called
returns-in_err-make_room-clause-called g c = record {
  answer = c.packet_in.result;
  mid = c.packet_in.new.self;
  takes = c.packet_in.ensures.takes;
  stays = c.make_room.ensures.stays;
  passes = c.make_room.ensures.passes;
}

pub returns-clause-called : goal.returns-clause-called
returns-clause-called g c = record {
  answer = c.packet_in.result;
  mid = c.packet_in.new.self;
  takes = c.packet_in.ensures.takes;
  stays = c.make_room.ensures.stays;
  passes = c.make_room.ensures.passes;
}
