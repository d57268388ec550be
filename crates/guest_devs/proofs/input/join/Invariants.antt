use Rattle.std.proofs.Common.{◌≡◌, ◌≤◌, ◌+◌, ◌-◌, ◌++◌, length, drop, sum_by}
use Rattle.std.specs.Vec.{vec_len, vec_capacity}
use Rattle.private_machine.specs.DeviceRegisters.{arrived, still_coming}
use Rattle.guest_devs.specs.DeviceState.{text_length}
use Rattle.guest_devs.proofs.input.join.Given as goal

-- what has joined so far and what still has to is what came, and there is room for the rest
abbrev pub invariant-loop-next : goal.invariant-loop-next
invariant-loop-next l = record {
  within : l.next ≤ length l.input;
  room : vec_len l.queue + sum_by text_length (drop l.next l.input) ≤ vec_capacity l.queue;
  queue : l.queue.items ++ arrived l.steps (drop l.next l.input) ≡ l.initial.queue.items ++ arrived l.steps (drop l.initial.next l.input);
  coming : still_coming l.steps (drop l.next l.input) ≡ still_coming l.steps (drop l.initial.next l.input);
}

abbrev pub decreases-loop-next : goal.decreases-loop-next
decreases-loop-next l = length l.input - l.next
