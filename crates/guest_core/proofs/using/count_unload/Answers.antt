-- One fewer is loaded in the processor's cell.
use Rattle.std.proofs.Common.{◌≡◌, ◌<◌, ◌≤◌, ℕ, Option, Some, None, length, refl, sym, ap, ◌∙◌, subst, arith}
use Rattle.std.proofs.Math.ListN.{length-set}
use Rattle.std.proofs.lemmas.List.{length-map}
use Rattle.cell_depend.specs.Counters.{UsesState, count_at, without_vcpu}
use Rattle.isolation_law.specs.GuestState.{processor}
use Rattle.guest_course.specs.CourseView.{processor_of, state_of}
use Rattle.guest_core.specs.Using.{AreUses, rows_of}
use Rattle.guest_core.proofs.LoadedCells.{cell_at, cells-cleared}
use Rattle.guest_core.proofs.UsingProofs.{FollowsBack, uses-unload}
use Rattle.guest_core.proofs.using.count_unload.Goals as goal

-- something is loaded
loaded-some : (l : Option ℕ) → (l ≡ None → ⊥) → (v : ℕ) × (l ≡ Some v)
loaded-some None some = absurd (some refl)
loaded-some (Some v) some = (v, refl)

pub drop_vcpu-requires-clause-within : goal.drop_vcpu-requires-clause-within
drop_vcpu-requires-clause-within c = omega (arith, c.requires.used.cells)

pub drop_vcpu-requires-clause-some : goal.drop_vcpu-requires-clause-some
drop_vcpu-requires-clause-some c =
    let s = state_of c.args.course.now in
    let old = c.args.uses.now in
    let p = c.args.processor.0 in
    let cell = cell_at s.around p in
    let there = loaded-some (processor s p).loaded c.requires.loaded in
    let long = length-map c.args.course.now.places.items processor_of in
    let leaves = cells-cleared s.around p there.0 s.processors (omega (arith, long, c.requires.is_processor)) there.1 in
    let counted : cell.0 < length old.counts = omega (arith, c.cell_of-cell.ensures, c.requires.used.cells, c.if-cell-lt-CELLS.true) in
    subst (λ (n : ℕ). 0 < (count_at old n).vcpus) (sym c.cell_of-cell.ensures) (c.vcpu_unloaded.ensures.some c.requires.used.shape (rows_of s) old cell _ c.requires.used.counts counted leaves)

pub returns-then-cell-lt-CELLS : goal.returns-then-cell-lt-CELLS
returns-then-cell-lt-CELLS c = λ t row.
    let s = state_of c.args.course.now in
    let old = c.args.uses.now in
    let p = c.args.processor.0 in
    let cell = cell_at s.around p in
    let there = loaded-some (processor s p).loaded c.requires.loaded in
    let long = length-map c.args.course.now.places.items processor_of in
    let is : c.drop_vcpu.new.self ≡ without_vcpu old cell.0 = c.drop_vcpu.ensures ∙ ap (without_vcpu old) c.cell_of-cell.ensures in
    let counted : cell.0 < length old.counts = omega (arith, c.cell_of-cell.ensures, c.requires.used.cells, c.if-cell-lt-CELLS.true) in
    let law : FollowsBack old (without_vcpu old cell.0) cell = λ shape rows rest are leaves. c.vcpu_unloaded.ensures.lowered shape rows old cell rest are counted leaves in
    subst (λ (u : UsesState). AreUses t u) (sym is)
    (uses-unload s t p there.0 old (without_vcpu old cell.0) law (length-set old.counts cell.0 _) (omega (arith, long, c.requires.is_processor)) there.1 (c.uses_change.ensures.unloads s t p row) row c.requires.used)

pub returns-else-cell-lt-CELLS : goal.returns-else-cell-lt-CELLS
returns-else-cell-lt-CELLS c = λ t row.
    let s = state_of c.args.course.now in
    let old = c.args.uses.now in
    let p = c.args.processor.0 in
    let cell = cell_at s.around p in
    let there = loaded-some (processor s p).loaded c.requires.loaded in
    let long = length-map c.args.course.now.places.items processor_of in
    let past : length old.counts ≤ cell.0 = omega (arith, c.cell_of-cell.ensures, c.requires.used.cells, c.if-cell-lt-CELLS.false) in
    let law : FollowsBack old old cell = λ shape rows rest are leaves. c.vcpu_unloaded.ensures.elsewhere shape rows old cell rest are past leaves in
    uses-unload s t p there.0 old old law refl (omega (arith, long, c.requires.is_processor)) there.1 (c.uses_change.ensures.unloads s t p row) row c.requires.used
