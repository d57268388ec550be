use Rattle.std.proofs.Common.{◌≡◌, ◌++◌}
use Rattle.std.specs.List.{flat_map, range_with_len}
use Rattle.guest_asm.specs.Listing.{row_line}
use Rattle.guest_asm.proofs.listing.put_rows.Given as goal

-- the lines so far
abbrev pub invariant-loop-number : goal.invariant-loop-number
invariant-loop-number l = l.text.items ≡ l.initial.text.items ++ flat_map (row_line l.bytes) (range_with_len 0 l.number)
