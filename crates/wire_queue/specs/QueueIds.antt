-- Which queue it is: the numbers by which its crate tells tables apart, and which it gives no name.
use Rattle.std.specs.Prelude.{ℕ, List, Option}
use Rattle.crossbeam_queue.specs.Passes.{Pass}
use Rattle.crossbeam_queue.specs.declared.array_queue.Slotted.{Slotted}
use Rattle.crossbeam_queue.specs.declared.array_queue.Doing.{Doing}

abbrev pub QueueId : Type 0
QueueId = ℕ × ℕ × ℕ × ℕ × ℕ × ℕ × List ℕ

-- the queue of a pass
abbrev pub pass_queue : {T V : Type 0} → Pass T V → QueueId
pass_queue p =
    let t = p.table_id in
    (t.words, t.slots, t.views_name, t.atom, t.block, t.offset, t.slot_names)

-- a queue itself
abbrev pub queue_id : {T V Q A : Type 0} → Slotted (Option T) (Doing T V) Q A → QueueId
queue_id q =
    let t = q.table.shared.table_id in
    (t.words, t.slots, t.views_name, t.atom, t.block, t.offset, t.slot_names)
