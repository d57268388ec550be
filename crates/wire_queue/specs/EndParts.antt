-- The two ends of a wire, inside.
use Rattle.std.specs.Prelude.{◌≡◌, [], true}
use Rattle.crossbeam_queue.specs.Passes.{view}
use Rattle.wire_queue.specs.QueueIds.{pass_queue}
use Rattle.wire_queue.specs.Ends.{Sending, Taking}
use Rattle.wire_queue.specs.declared.passes.SendPass.TheInside.{Inside as SendInside}
use Rattle.wire_queue.specs.declared.passes.TakePass.TheInside.{Inside as TakeInside}

abbrev pub sending_of : SendInside → Sending
sending_of a = record { wire = record { queue = pass_queue a.seat; line = (view a.seat).line }; accepted = (view a.seat).accepted }

-- it is the sender's end of the wire between these guests, and carries nothing
pub record IsSending (a : SendInside) : Type 0 where
  pub idle : a.seat.me.1 ≡ []
  pub sends : (view a.seat).sends ≡ true
  pub from : (view a.seat).line.from ≡ a.from.0
  pub to : (view a.seat).line.to ≡ a.to.0

abbrev pub taking_of : TakeInside → Taking
taking_of a = record { wire = record { queue = pass_queue a.seat; line = (view a.seat).line }; taken = (view a.seat).taken }

-- it is the receiver's end
pub record IsTaking (a : TakeInside) : Type 0 where
  pub idle : a.seat.me.1 ≡ []
  pub takes : (view a.seat).takes ≡ true
  pub from : (view a.seat).line.from ≡ a.from.0
  pub to : (view a.seat).line.to ≡ a.to.0
