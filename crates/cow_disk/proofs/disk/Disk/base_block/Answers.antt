use Rattle.std.proofs.Common.{sym, ◌∙◌}
use Rattle.cow_disk.proofs.Parts.{given_seen}
use Rattle.cow_disk.proofs.disk.Disk.base_block.Goals as goal

pub returns : goal.returns
returns c = c.given_block.ensures ∙ sym (given_seen c.self.inside c.args.self.now c.args.block c.self.view_is)
