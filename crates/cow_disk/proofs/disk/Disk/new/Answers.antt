use Rattle.std.proofs.Common.{ap, ◌∙◌}
use Rattle.cow_disk.specs.DiskView.{bytes_of, base_pages, owns_of, overlaid}
use Rattle.cow_disk.proofs.Overlays.{overlaid-nil}
use Rattle.cow_disk.proofs.disk.Disk.new.Goals as goal

pub returns : goal.returns
returns c = let given = bytes_of (base_pages c.args.base) in ap (λ l. overlaid given (owns_of l)) c.new.ensures.items ∙ overlaid-nil given
