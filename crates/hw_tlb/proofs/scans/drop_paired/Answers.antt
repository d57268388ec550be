use Rattle.std.proofs.Common.{◌+◌, ◌*◌, ◌==◌, ◌∙◌, ap, map, List, Option}
use Rattle.base_words.specs.Halves.{Half}
use Rattle.hw_tlb.specs.Dropping.{emptied}
use Rattle.hw_tlb.proofs.ScanLemmas.{swept_pair}
use Rattle.hw_tlb.proofs.scans.drop_paired.Goals as goal

pub returns-then-pair-lt-PAIRS : goal.returns-then-pair-lt-PAIRS
returns-then-pair-lt-PAIRS c =
    c.drop_number-then-pair-lt-PAIRS.ensures
    ∙ ap (λ (ps : List (Option Half)). map (emptied (λ h. h.number == 2 * c.args.pair + 1)) ps) c.drop_number.ensures
    ∙ swept_pair c.args.pair c.args.rooms.now
