use Rattle.std.proofs.Common.{◌≡◌, ◌+◌, ◌++◌, drop, length}
use Rattle.std.specs.Vec.Iter.{into_iter_items}
use Rattle.machine_desc.specs.Described.{described_seen}
use Rattle.guest_boot.specs.Booting.{board_of, AreBooted}
use Rattle.guest_boot.proofs.BootLemmas.{SeatsFrom}
use Rattle.guest_boot.proofs.booting.boot_all.Given as goal

abbrev pub invariant-loop-source : goal.invariant-loop-source
invariant-loop-source l =
    (goal.iterator-loop-source).can_next l.source-iterator
    × (goal.iterator-loop-source).is_finite l.source-iterator
    × AreBooted (described_seen l.machine l.plan) l.yielded (board_of l.fn.seats) (record { table = l.table; wires = l.wires; indexes = l.indexes }) l.guests.items
    × SeatsFrom (board_of l.fn.seats) (length l.guests.items) (into_iter_items l.seats)
    × (length l.guests.items + length (into_iter_items l.seats) ≡ length l.fn.sources)
    × (l.yielded ++ into_iter_items l.source-iterator ≡ l.fn.sources)
    × (into_iter_items l.lots ≡ drop (length l.guests.items) l.fn.lots.items)
    × (into_iter_items l.passes ≡ drop (length l.guests.items) l.fn.passes)
