-- The guest is small, and its disk as it was given.
use Rattle.std.proofs.Common.{Some, arith}
use Rattle.cow_disk.specs.DiskView.{bytes_of, base_pages}
use Rattle.course_tests.proofs.DiskLemmas.{unwritten, whole}
use Rattle.course_tests.proofs.guest_course_sharing.guest.Goals as goal

pub new-disk-requires : goal.new-disk-requires
new-disk-requires g c = let two = c.blocks-2.ensures.two in omega arith

pub boot-requires : goal.boot-requires
boot-requires g c =
    let around = c.around.ensures in
    let frames = c.frames-frames.ensures in
    let bytes = bytes_of (base_pages (Some c.blocks-2.result)) in
    record {
      some_vcpus = omega arith;
      few_vcpus = omega arith;
      few_pages = let n = frames.count in omega arith;
      few_processors = rw around.processors (omega arith);
      few_frames = rw (around.nodes, around.frames) (omega arith);
      on_nodes = rw (around.nodes, around.processors) ((omega arith), tt);
      whole = frames.whole;
      unwritten = unwritten c.new-disk.result bytes c.new-disk.ensures;
      blocks = whole c.new-disk.result bytes c.new-disk.ensures c.blocks-2.ensures.whole;
    }
