use Rattle.std.proofs.Common.{[], ◌∙◌, sym, ap, map}
use Rattle.cow_disk.specs.IndexParts.{place_of}
use Rattle.block_caches.specs.Filling.{blocks_in, disks_seen, kept_with, wanted}
use Rattle.block_caches.proofs.Kept.{kept_with-nothing, kept_with-wanted}
use Rattle.block_caches.proofs.Lower.{All-lower}
use Rattle.block_caches.proofs.filling.index_of.Goals as goal
use Rattle.block_caches.proofs.filling.index_of.Goals.{in-Some+in_ok-keep_disk, in_default}

-- all entries are of lower disks
pub keep_disk-requires : goal.keep_disk-requires
keep_disk-requires c =
    let disks = disks_seen c.args.disks.now in
    let blocks = wanted c.args.cell.0 c.loop-number.number disks in
    record {
      new = All-lower c.args.cell.0 c.loop-number.number disks (map place_of c.args.frames) c.loop-number.index (c.loop-number.invariant ∙ ap (kept_with blocks) c.in_ok-index.ensures);
    }

pub loop-number-preserved : goal.loop-number-preserved
loop-number-preserved c =
    let step = kept_with-wanted c.args.cell.0 c.loop-number.number (disks_seen c.args.disks.now) in
    let index = c.loop-number.index in
    elim c.match-disk_of.branch [
      | in-Some+in_ok-keep_disk w ↦ step (blocks_in w.in-Some.disk.now) c.in_ok-index.index index c.match-disk_of.index c.loop-number.invariant w.in-Some.ensures (w.index-is ∙ w.in_ok-keep_disk.ensures)
      | in_default w ↦ step [] c.in_ok-index.index index c.match-disk_of.index c.loop-number.invariant w.in_default.ensures (w.index-is ∙ sym (kept_with-nothing index))
    ]
