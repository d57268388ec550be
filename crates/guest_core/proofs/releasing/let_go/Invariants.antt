-- The pages so far are put down that are being taken shared.
use Rattle.std.proofs.Common.{◌≡◌, ◌+◌, ◌≤◌, ◌++◌, length, take}
use Rattle.guest_course.specs.EndCalls.{letting_go}
use Rattle.guest_core.proofs.releasing.let_go.Given as goal

abbrev pub invariant-loop-number : goal.invariant-loop-number
invariant-loop-number l =
    (l.journal.entries ≡ l.initial.journal.entries ++ letting_go 0 (take l.number l.course.pmap.pages))
    × (l.initial.journal.room ≤ l.journal.room + length (letting_go 0 (take l.number l.course.pmap.pages)))
    × (l.number ≤ length l.course.pmap.pages)
