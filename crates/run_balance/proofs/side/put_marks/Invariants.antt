use Rattle.std.proofs.Common.{◌≡◌, ◌+◌, ◌++◌, replicate}
use Rattle.crossbeam_deque.specs.Handles.{worker_view, worker_index, SameWorker}
use Rattle.run_balance.specs.declared.task.Task.TheVariants.{End}
use Rattle.run_balance.proofs.side.put_marks.Given as goal

abbrev pub invariant-loop-mark : goal.invariant-loop-mark
invariant-loop-mark l = SameWorker l.initial.dealer l.dealer × (worker_index l.dealer ≡ worker_index l.initial.dealer + l._mark) × (worker_view l.dealer ≡ record (worker_view l.initial.dealer) { put = (worker_view l.initial.dealer).put ++ replicate l._mark End })
