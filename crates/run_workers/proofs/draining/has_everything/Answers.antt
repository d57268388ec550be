-- What was told of the guests before holds once those after were asked.
use Rattle.std.proofs.Common.{Bool, true, false}
use Rattle.std.specs.Bool.{OnTrue}
use Rattle.run_workers.specs.Draining.{HasAll}
use Rattle.run_workers.proofs.DrainLemmas.{kept-refl, has-all-kept}
use Rattle.run_workers.proofs.draining.has_everything.Goals as goal

if-true : (b : Bool) (P : Type 0) → P → OnTrue b P
if-true true P p = p
if-true false P p = tt

pub returns-clause-all_before : goal.returns-clause-all_before
returns-clause-all_before g c =
    if-true c.has_all-2.result (HasAll c.has_all-2.new.guest c.has_all.new.others)
    (has-all-kept c.has_all.new.guest c.has_all-2.new.guest c.has_all.new.others c.has_all.new.others c.if-not-has_all.ensures.all c.has_all-2.ensures.guest (kept-refl c.has_all.new.others))
