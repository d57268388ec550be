use Rattle.std.proofs.Common.{◌≡◌, ◌++◌}
use Rattle.std.specs.Vec.Iter.{into_iter_items}
use Rattle.guest_course.specs.BootCalls.{AreWhole}
use Rattle.guest_core.specs.Starting.{filled}
use Rattle.guest_core.proofs.booting.fill.Given as goal

-- so many frames are full
abbrev pub invariant-loop-page : goal.invariant-loop-page
invariant-loop-page l =
    (goal.iterator-loop-page).can_next l.page-iterator
    × (goal.iterator-loop-page).is_finite l.page-iterator
    × (l.full.items ≡ filled l.fn.frames l.yielded)
    × AreWhole l.full.items
    × (l.yielded ++ into_iter_items l.page-iterator ≡ l.fn.pages)
