use Rattle.std.proofs.Common.{◌≡◌, ◌++◌, take, drop}
use Rattle.guest_devs.specs.DeviceCalls.{called_by}
use Rattle.guest_devs.proofs.stores.call.Given as goal

-- the lines so far are done, and the rest goes by the bits that are left
abbrev pub invariant-loop-line : goal.invariant-loop-line
invariant-loop-line l = take l.line-index l.called ++ called_by l.bits (drop l.line-index l.called) ≡ called_by l.word l.initial.called
