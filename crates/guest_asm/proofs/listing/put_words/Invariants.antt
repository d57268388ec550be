use Rattle.std.proofs.Common.{◌≡◌, ◌++◌, take}
use Rattle.std.specs.List.{flat_map}
use Rattle.guest_asm.specs.Listing.{word_line}
use Rattle.guest_asm.proofs.listing.put_words.Given as goal

-- the lines so far
abbrev pub invariant-loop-placed : goal.invariant-loop-placed
invariant-loop-placed l = l.text.items ≡ l.initial.text.items ++ flat_map word_line (take l.placed-index l.words)
