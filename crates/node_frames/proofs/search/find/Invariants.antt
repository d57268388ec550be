use Rattle.std.proofs.Common.{◌≡◌, length, replicate}
use Rattle.node_frames.proofs.FindLemmas.{Searched}
use Rattle.node_frames.proofs.search.find.Given as goal
use Rattle.node_frames.specs.Layout.{layout_of}

abbrev pub invariant-loop-place : goal.invariant-loop-place
invariant-loop-place l =
    (l.holder.table ≡ l.initial.holder.table) × (length l.shown.items ≡ length l.order) × (l.page.value ≡ replicate 4096 0)
    × Searched (layout_of l.shape) l.table.terms.lends l.home.0 l.order l.place l.shown.items l.initial.holder.view l.holder.view
