-- What is asked for an access is asked for what the instruction wants.
use Rattle.std.proofs.Common.{ap, refl}
use Rattle.private_machine.specs.Reaching.{wanted}
use Rattle.hw_cpu.proofs.stepping.touch.Goals as goal

pub load-requires-clause-aligned : goal.load-requires-clause-aligned
load-requires-clause-aligned g c = c.requires.aligned _ (ap wanted c.in-Load.is)

pub store-requires-clause-alone : goal.store-requires-clause-alone
store-requires-clause-alone g c = c.requires.alone _ (ap wanted c.in-Store.is) refl

pub store-requires-clause-aligned : goal.store-requires-clause-aligned
store-requires-clause-aligned g c = c.requires.aligned _ (ap wanted c.in-Store.is)

pub store_conditional-made-requires-clause-alone : goal.store_conditional-made-requires-clause-alone
store_conditional-made-requires-clause-alone g c = c.requires.alone _ (ap wanted c.in-StoreConditional.is) refl
