use Rattle.std.proofs.Common.{◌-◌, arith}
use Rattle.hw_tlb.specs.Tlb.{side, are_beside}
use Rattle.hw_tlb.specs.Rooms.{half_of}
use Rattle.hw_tlb.proofs.ScanLemmas.{found_only, found_nowhere}
use Rattle.hw_tlb.proofs.entries.shared_entry.Goals as goal

pub returns-then-not-may_share-clause-first : goal.returns-then-not-may_share-clause-first
returns-then-not-may_share-clause-first c =
    found_nowhere (are_beside (half_of c.args.new.now)) (1 - side (half_of c.args.new.now)) c.args.rooms.now (c.may_share.ensures (grind arith))

pub returns-then-place-lt-PLACES-clause-first : goal.returns-then-place-lt-PLACES-clause-first
returns-then-place-lt-PLACES-clause-first c =
    found_only (are_beside (half_of c.args.new.now)) (1 - side (half_of c.args.new.now)) c.args.rooms.now c.near_shared-place.result (omega arith) c.if-place-lt-PLACES.true (c.near_shared-place.ensures c.if-place-lt-PLACES.true)
