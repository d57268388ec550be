use Rattle.std.proofs.Common.{◌≡◌, take}
use Rattle.flat_machine.specs.FlatView.{blocks_of}
use Rattle.flat_machine.proofs.flat.copies_of.Given as goal

abbrev pub invariant-loop-page : goal.invariant-loop-page
invariant-loop-page l = blocks_of l.copies.items ≡ blocks_of (take l.page-index l.pages)
