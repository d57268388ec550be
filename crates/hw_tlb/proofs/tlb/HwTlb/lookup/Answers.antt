use Rattle.std.proofs.Common.{◌/◌, ◌∙◌, sym, ap}
use Rattle.hw_tlb.specs.Filling.{has_such}
use Rattle.hw_tlb.specs.Lookup.{through}
use Rattle.hw_tlb.specs.Rooms.{is_keyed}
use Rattle.hw_tlb.proofs.SoundLemmas.{found_at, found_nowhere, consistent}
use Rattle.hw_tlb.proofs.tlb.HwTlb.lookup.Goals as goal

pub returns-then-matches-clause-answer : goal.returns-then-matches-clause-answer
returns-then-matches-clause-answer c =
    c.answer.ensures ∙ (rw (← c.self.view_is) (sym (ap (through c.args.store) (found_at c.self.invariant (c.args.address / 4096) c.args.asid _ c.key_of-key.ensures c.ranges.asid.fits _ _ c.at-near.ensures (sym c.matches.ensures ∙ c.if-matches.true)))))

pub returns-then-matches-clause-consistent : goal.returns-then-matches-clause-consistent
returns-then-matches-clause-consistent c = rw (← c.self.view_is) (consistent c.self.invariant)

pub returns-then-place-lt-PLACES-clause-answer : goal.returns-then-place-lt-PLACES-clause-answer
returns-then-place-lt-PLACES-clause-answer c =
    c.answer-then-place-lt-PLACES.ensures ∙ (rw (← c.self.view_is) (sym (ap (through c.args.store) (found_at c.self.invariant (c.args.address / 4096) c.args.asid c.key_of-key.result c.key_of-key.ensures c.ranges.asid.fits _ _ c.at-then-place-lt-PLACES.ensures (ap (has_such (is_keyed c.key_of-key.result)) c.at-then-place-lt-PLACES.ensures ∙ c.far_place-place.ensures.found c.if-place-lt-PLACES.true)))))

pub returns-then-place-lt-PLACES-clause-consistent : goal.returns-then-place-lt-PLACES-clause-consistent
returns-then-place-lt-PLACES-clause-consistent c = rw (← c.self.view_is) (consistent c.self.invariant)

pub returns-else-place-lt-PLACES-clause-answer : goal.returns-else-place-lt-PLACES-clause-answer
returns-else-place-lt-PLACES-clause-answer c =
    rw (← c.self.view_is) (sym (ap (through c.args.store) (found_nowhere c.self.invariant (c.args.address / 4096) c.args.asid _ c.key_of-key.ensures c.ranges.asid.fits (c.far_place-place.ensures.none c.if-place-lt-PLACES.false))))

pub returns-else-place-lt-PLACES-clause-consistent : goal.returns-else-place-lt-PLACES-clause-consistent
returns-else-place-lt-PLACES-clause-consistent c = rw (← c.self.view_is) (consistent c.self.invariant)
