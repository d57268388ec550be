use Rattle.std.proofs.Common.{◌∙◌, sym, ap}
use Rattle.hw_tlb.specs.Tlb.{are_beside}
use Rattle.hw_tlb.specs.Filling.{has_such}
use Rattle.hw_tlb.specs.Rooms.{half_of}
use Rattle.hw_tlb.proofs.ScanLemmas.{found_here, found_none, none_more}
use Rattle.hw_tlb.proofs.entries.scanned_shared.Goals as goal

pub loop-entry-preserved : goal.loop-entry-preserved
loop-entry-preserved c =
    none_more (are_beside (half_of c.args.new.now)) _ _ _ c.loop-entry.invariant (sym (ap (has_such (are_beside (half_of c.args.new.now))) c.at.ensures) ∙ (sym c.is_beside.ensures ∙ c.if-is_beside.false))

pub returns-then-is_beside-clause-first : goal.returns-then-is_beside-clause-first
returns-then-is_beside-clause-first c =
    found_here (are_beside (half_of c.args.new.now)) _ _ _ _ (rw c.side-side.ensures.side) c.loop-entry-test.true c.loop-entry.invariant (sym (ap (has_such (are_beside (half_of c.args.new.now))) c.at.ensures) ∙ (sym c.is_beside.ensures ∙ c.if-is_beside.true))

pub returns-clause-first : goal.returns-clause-first
returns-clause-first c =
    found_none (are_beside (half_of c.args.new.now)) _ _ _ _ (rw c.side-side.ensures.side) c.loop-entry-test.false c.loop-entry.invariant
