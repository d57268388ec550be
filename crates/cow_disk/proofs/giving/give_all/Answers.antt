use Rattle.cow_disk.specs.declared.index.CacheFrame.{CacheFrame}
use Rattle.cow_disk.proofs.giving.give_all.Goals as goal

pub give_back-requires-clause-within : goal.give_back-requires-clause-within
give_back-requires-clause-within c =
    let none : CacheFrame = record { number = record { 0 = 0 }; generation = 0 } in
    c.requires.below c.loop-frame.frame-index none c.loop-frame-test.true
