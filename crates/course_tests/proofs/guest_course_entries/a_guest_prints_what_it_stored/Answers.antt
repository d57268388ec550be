-- The guest is small.
use Rattle.std.proofs.Common.{refl, arith}
use Rattle.course_tests.proofs.guest_course_entries.a_guest_prints_what_it_stored.Goals as goal

pub boot-requires : goal.boot-requires
boot-requires g c =
    let around = c.around.ensures in
    let frames = c.frames-frames.ensures in
    record {
      some_vcpus = omega arith;
      few_vcpus = omega arith;
      few_pages = let n = frames.count in omega arith;
      few_processors = rw around.processors (omega arith);
      few_frames = rw (around.nodes, around.frames) (omega arith);
      on_nodes = rw (around.nodes, around.processors) ((omega arith), tt);
      whole = frames.whole;
      unwritten = rw c.new-disk.ensures refl;
      blocks = rw c.new-disk.ensures (λ k lt. absurd (omega arith));
    }
