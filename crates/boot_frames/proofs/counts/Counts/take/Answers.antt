use Rattle.std.proofs.Common.{rules, ◌≡◌, ◌≢◌, ◌==◌, ℕ, Bool, true, false, length, arith}
use Rattle.std.specs.Prelude.{not}
use Rattle.std.proofs.lemmas.Bool.Decides.{nat_tests}
use Rattle.node_frames.specs.Places.{cell_of_node}
use Rattle.boot_frames.proofs.CountLemmas.{counted-inside, counted-outside}
use Rattle.boot_frames.proofs.counts.Counts.take.Goals as goal
use Rattle.node_frames.specs.Layout.{layout_of}

apart : (a b : ℕ) (r : Bool) → r ≡ true → r ≡ not (a == b) → a ≢ b
apart a b r on is = grind (arith, nat_tests)

same : (a b : ℕ) (r : Bool) → r ≡ false → r ≡ not (a == b) → a ≡ b
same a b r off is = grind (arith, nat_tests)

pub returns-then-ne : goal.returns-then-ne
returns-then-ne c =
    let layout = (layout_of c.args.shape.now) in
    let node = c.args.node.0 in
    let nodes : length c.args.self.now.frames ≡ 8 = search rules in
    let cells : length c.args.self.now.loans ≡ 8 = search rules in
    let below = c.requires.node in
    let all = c.args.shape.now.has_cells in
    let few = c.args.shape.now.few_nodes in
    let low = c.requires.cells node (record { 0 = 0 }) (omega arith) in
    rw c.as_slice.ensures (counted-outside layout c.args.home.0 c.args.self.now node (omega arith)
    (apart (cell_of_node layout node) c.args.home.0 c.ne.result c.if-ne.true (rw c.as_slice.ensures at c.ne.ensures)) (omega arith))

pub returns-else-ne : goal.returns-else-ne
returns-else-ne c =
    let layout = (layout_of c.args.shape.now) in
    let node = c.args.node.0 in
    let nodes : length c.args.self.now.frames ≡ 8 = search rules in
    let below = c.requires.node in
    let few = c.args.shape.now.few_nodes in
    counted-inside layout c.args.home.0 c.args.self.now node (omega arith)
    (same (cell_of_node layout node) c.args.home.0 c.ne.result c.if-ne.false (rw c.as_slice.ensures at c.ne.ensures))
