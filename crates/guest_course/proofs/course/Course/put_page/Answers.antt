-- Where there is none nothing changes.
use Rattle.std.proofs.Common.{None, set, sym, ap, ◌∙◌}
use Rattle.std.proofs.lemmas.List.{set-get_or}
use Rattle.guest_course.proofs.course.Course.put_page.Goals as goal

pub returns-else-paged-clause-put : goal.returns-else-paged-clause-put
returns-else-paged-clause-put c =
    let blocks = c.args.self.now.blocks.items in
    sym (ap (set blocks c.args.vcpu.0) (c.requires.none c.if-paged.false) ∙ set-get_or blocks c.args.vcpu.0 None)
