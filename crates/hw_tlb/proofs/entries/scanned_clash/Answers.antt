use Rattle.std.proofs.Common.{◌∙◌, sym, ap}
use Rattle.base_words.specs.Halves.{clash}
use Rattle.hw_tlb.specs.Filling.{has_such}
use Rattle.hw_tlb.specs.Rooms.{half_of}
use Rattle.hw_tlb.proofs.ScanLemmas.{found_here, found_none, none_more}
use Rattle.hw_tlb.proofs.entries.scanned_clash.Goals as goal

pub loop-entry-preserved : goal.loop-entry-preserved
loop-entry-preserved c =
    none_more (clash (half_of c.args.new.now)) _ _ _ c.loop-entry.invariant (sym (ap (has_such (clash (half_of c.args.new.now))) c.at.ensures) ∙ (sym c.clashes.ensures ∙ c.if-clashes.false))

pub returns-then-clashes-clause-first : goal.returns-then-clashes-clause-first
returns-then-clashes-clause-first c =
    found_here (clash (half_of c.args.new.now)) _ _ _ _ c.side-side.ensures.side c.loop-entry-test.true c.loop-entry.invariant (sym (ap (has_such (clash (half_of c.args.new.now))) c.at.ensures) ∙ (sym c.clashes.ensures ∙ c.if-clashes.true))

pub returns-clause-first : goal.returns-clause-first
returns-clause-first c =
    found_none (clash (half_of c.args.new.now)) _ _ _ _ c.side-side.ensures.side c.loop-entry-test.false c.loop-entry.invariant
