use Rattle.std.proofs.Common.{sym, ap, ◌∙◌, length}
use Rattle.cow_disk.proofs.Parts.{count_seen}
use Rattle.cow_disk.proofs.disk.Disk.len.Goals as goal

pub returns : goal.returns
returns c = ap length c.given.ensures ∙ sym (count_seen c.self.inside c.args.self.now c.self.view_is)
