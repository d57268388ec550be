use Rattle.std.proofs.Common.{◌+◌, ◌*◌, arith}
use Rattle.base_words.specs.Halves.{clash}
use Rattle.hw_tlb.specs.Tlb.{side}
use Rattle.hw_tlb.specs.Rooms.{half_of}
use Rattle.hw_tlb.proofs.ScanLemmas.{found_only, found_nowhere}
use Rattle.hw_tlb.proofs.entries.clashing_entry.Goals as goal

pub returns-then-not-may_clash-clause-first : goal.returns-then-not-may_clash-clause-first
returns-then-not-may_clash-clause-first c =
    found_nowhere (clash (half_of c.args.new.now)) (side (half_of c.args.new.now)) c.args.rooms.now (λ entry. c.may_clash.ensures (grind arith) (2 * entry + side (half_of c.args.new.now)))

pub returns-then-place-lt-PLACES-clause-first : goal.returns-then-place-lt-PLACES-clause-first
returns-then-place-lt-PLACES-clause-first c =
    found_only (clash (half_of c.args.new.now)) (side (half_of c.args.new.now)) c.args.rooms.now c.near_clash-place.result (omega arith) c.if-place-lt-PLACES.true (c.near_clash-place.ensures c.if-place-lt-PLACES.true)
