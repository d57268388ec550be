use Rattle.std.proofs.Common.{◌≡◌, List, [], ◌++◌, length}
use Rattle.std.specs.Vec.Iter.{into_iter_items}
use Rattle.isolation_law.specs.GuestState.{GuestState}
use Rattle.guest_lock.specs.Guests.{GuestsFrom}
use Rattle.guest_core.specs.GuestView.{Monitored}
use Rattle.run_workers.specs.Ending.{AreLeft, AllTold}
use Rattle.run_workers.proofs.EndLemmas.{AllEndSo}
use Rattle.run_workers.proofs.ending.end_all.Given as goal

abbrev pub invariant-loop-guest : goal.invariant-loop-guest
invariant-loop-guest g l =
    (goal.iterator-loop-guest g).can_next l.guest-iterator
    × (goal.iterator-loop-guest g).is_finite l.guest-iterator
    × GuestsFrom g.N.Starts.starts g.N.Starts.board g.N.Starts.shared (length l.records) (into_iter_items l.guest-iterator)
    × ((states : List GuestState) × AreLeft g.N.Starts.starts g.N.Starts.board 0 states l.records l.seats × AllTold g.N.Starts.starts g.N.Starts.shared.wires 0 states l.records l.lists
    × ((done : List Monitored) × (l.fn.guests.items ≡ done ++ into_iter_items l.guest-iterator) × AllEndSo done states l.lists))
    × (l.first.view.holds ≡ [])
    × (l.first.table ≡ l.initial.first.table)
