use Rattle.hw_tlb.specs.declared.room.Room.{Room}
use Rattle.hw_tlb.proofs.SoundLemmas.{consistent, sound-placed, half-keyed, filled_is, fills_is}
use Rattle.hw_tlb.proofs.tlb.HwTlb.fill.Goals as goal

pub invariant_of-self : goal.invariant_of-self
invariant_of-self c =
    sound-placed _ c.self.invariant c.put-place.new.rooms _ c.entry_for-entry.ensures.small c.put-place.ensures.placed _ c.entry_for-entry.ensures.small_turn

pub returns-clause-filled : goal.returns-clause-filled
returns-clause-filled c =
    let new : Room = record { key = c.key_of.result; global = c.args.global; page = c.args.page; frame = c.args.frame; writable = c.args.writable } in
    let is = half-keyed c.args.address c.args.asid new c.key_of.ensures c.ranges.asid.fits in
    rw (← c.self.view_is) (filled_is _ _ c.self.inside.rooms c.put-place.new.rooms c.self.inside.next _ _ is c.entry_for-entry.ensures.entry c.entry_for-entry.ensures.turn c.put-place.ensures.placed)

pub returns-clause-fills : goal.returns-clause-fills
returns-clause-fills c =
    let new : Room = record { key = c.key_of.result; global = c.args.global; page = c.args.page; frame = c.args.frame; writable = c.args.writable } in
    let is = half-keyed c.args.address c.args.asid new c.key_of.ensures c.ranges.asid.fits in
    rw (← c.self.view_is) (fills_is _ _ c.self.invariant c.put-place.new.rooms _ is c.entry_for-entry.ensures.small c.put-place.ensures.placed)

pub returns-clause-consistent : goal.returns-clause-consistent
returns-clause-consistent c =
    consistent (sound-placed _ c.self.invariant c.put-place.new.rooms _ c.entry_for-entry.ensures.small c.put-place.ensures.placed _ c.entry_for-entry.ensures.small_turn)
