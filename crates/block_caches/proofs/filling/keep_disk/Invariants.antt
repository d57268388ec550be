use Rattle.std.proofs.Common.{◌≡◌, take}
use Rattle.block_caches.specs.Filling.{blocks_in, kept_with, numbered}
use Rattle.block_caches.proofs.filling.keep_disk.Given as goal

-- the blocks so far are kept, until the frames are used up
abbrev pub invariant-loop-block : goal.invariant-loop-block
invariant-loop-block l = l.index ≡ kept_with (numbered l.number 0 (take l.block (blocks_in l.disk))) l.initial.index
