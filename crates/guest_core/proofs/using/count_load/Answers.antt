-- One more is loaded in the processor's cell.
use Rattle.std.proofs.Common.{◌≡◌, ◌<◌, ◌≤◌, length, refl, sym, ap, ◌∙◌, subst, arith}
use Rattle.std.proofs.Math.ListN.{length-set}
use Rattle.std.proofs.lemmas.List.{length-map}
use Rattle.cell_depend.specs.Counters.{UsesState, with_vcpu}
use Rattle.guest_course.specs.CourseView.{processor_of, state_of}
use Rattle.guest_core.specs.Using.{AreUses, loaded_cells}
use Rattle.guest_core.proofs.LoadedCells.{cell_at, few-cells}
use Rattle.guest_core.proofs.UsingProofs.{Follows, uses-load}
use Rattle.guest_core.proofs.using.count_load.Goals as goal

pub add_vcpu-requires-clause-within : goal.add_vcpu-requires-clause-within
add_vcpu-requires-clause-within c = omega (arith, c.requires.used.cells)

pub add_vcpu-requires-clause-room : goal.add_vcpu-requires-clause-room
add_vcpu-requires-clause-room c =
    let s = state_of c.args.course.now in
    let cell = c.cell_of-cell.result.0 in
    let count = c.requires.used.counts.vcpus cell (add_vcpu-requires-clause-within c) in
    let few = c.vcpus_are_counted.ensures.few cell (loaded_cells s.around 0 s.processors) in
    let long = length-map c.args.course.now.places.items processor_of in
    omega (arith, count, few, few-cells s.around 0 s.processors, long, c.requires.sound.sized.few_processors)

pub returns-then-cell-lt-CELLS : goal.returns-then-cell-lt-CELLS
returns-then-cell-lt-CELLS c = λ v t row.
    let s = state_of c.args.course.now in
    let old = c.args.uses.now in
    let cell = cell_at s.around c.args.processor.0 in
    let is : c.add_vcpu.new.self ≡ with_vcpu old cell.0 = c.add_vcpu.ensures ∙ ap (with_vcpu old) c.cell_of-cell.ensures in
    let counted : cell.0 < length old.counts = omega (arith, c.cell_of-cell.ensures, c.requires.used.cells, c.if-cell-lt-CELLS.true) in
    let law : Follows old (with_vcpu old cell.0) cell = λ shape rows loaded are joins. c.vcpu_loaded.ensures.anywhere shape rows old cell loaded are counted joins in
    subst (λ (u : UsesState). AreUses t u) (sym is) (uses-load s t c.args.processor.0 v old (with_vcpu old cell.0) law (length-set old.counts cell.0 _) row c.requires.used)

pub returns-else-cell-lt-CELLS : goal.returns-else-cell-lt-CELLS
returns-else-cell-lt-CELLS c = λ v t row.
    let s = state_of c.args.course.now in
    let old = c.args.uses.now in
    let cell = cell_at s.around c.args.processor.0 in
    let past : length old.counts ≤ cell.0 = omega (arith, c.cell_of-cell.ensures, c.requires.used.cells, c.if-cell-lt-CELLS.false) in
    let law : Follows old old cell = λ shape rows loaded are joins. c.vcpu_loaded.ensures.elsewhere shape rows old cell loaded are past joins in
    uses-load s t c.args.processor.0 v old old law refl row c.requires.used
