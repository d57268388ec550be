-- One call more.
use Rattle.std.proofs.Common.{◌+◌, ◌∙◌}
use Rattle.guest_lock.proofs.ReceivingLemmas.{once-more}
use Rattle.guest_lock.proofs.kept.Kept.receive.Goals as goal

pub returns-in_err-receive_once-clause-called : goal.returns-in_err-receive_once-clause-called
returns-in_err-receive_once-clause-called g c = record {
  times = c.loop-call._call + 1;
  called = once-more c.loop-call._call c.args.self.now.guest c.loop-call.self.guest c.receive_once.new.self.guest c.loop-call.invariant.0 c.receive_once.ensures.called;
}

pub loop-call-preserved : goal.loop-call-preserved
loop-call-preserved g c = (
  once-more c.loop-call._call c.args.self.now.guest c.loop-call.self.guest c.receive_once.new.self.guest c.loop-call.invariant.0 c.receive_once.ensures.called,
  c.in_ok-receive_once.ensures.room,
  c.receive_once.ensures.notes ∙ c.loop-call.invariant.2,
  λ p may. c.receive_once.ensures.acts p (c.loop-call.invariant.3 p may),
)

pub returns-in-Delivered : goal.returns-in-Delivered
returns-in-Delivered g c = record {
  called = record {
    times = c.loop-call._call + 1;
    called = once-more c.loop-call._call c.args.self.now.guest c.loop-call.self.guest c.receive_once.new.self.guest c.loop-call.invariant.0 c.receive_once.ensures.called;
  };
  room = c.in_ok-receive_once.ensures.room;
  notes = c.receive_once.ensures.notes ∙ c.loop-call.invariant.2;
  acts = λ p may. c.receive_once.ensures.acts p (c.loop-call.invariant.3 p may);
}
