-- At most two frames for each of 2048 pages, and the spares.
use Rattle.std.proofs.Common.{length-append, arith}
use Rattle.std.specs.Prelude.{flat_map}
use Rattle.private_machine.specs.PageMove.{used_for}
use Rattle.guest_course.specs.CourseView.{state_of}
use Rattle.guest_core.proofs.UntiedLemmas.{few-used}
use Rattle.guest_core.proofs.frames.frames_are_few.Goals as goal

pub returns : goal.returns
returns c =
    let s = state_of c.args.course.now in
    let few = few-used s.pages in
    let split = length-append (flat_map used_for s.pages) s.spares in
    let spares = c.spares-spares.ensures in
    omega (arith, few, split, spares, c.requires.sound.sized.few_pages)
