-- By the rule on pages, and by page in the flat memory.
use Rattle.std.proofs.Common.{◌*◌, ap, sym, ◌∙◌, take, drop}
use Rattle.std.proofs.lemmas.List.{take-take}
use Rattle.private_machine.specs.Backing.{Page, no_page}
use Rattle.isolation_law.proofs.DirectProofs.{even}
use Rattle.isolation_law.proofs.Memory.{flat_page}
use Rattle.isolation_law.proofs.rows.pages_seen.Goals as goal

pub returns-clause-whole : goal.returns-clause-whole
returns-clause-whole c s q co lt = (co.consistent.by_page q lt).whole

pub returns-clause-bytes : goal.returns-clause-bytes
returns-clause-bytes c s q count co lt few =
    sym (take-take count 4096 (drop (q * 4096) _) few) ∙ ap (take count) (flat_page (λ (g : Page). g.master.bytes) 4096 s.pages q no_page (even s co.consistent) lt)
