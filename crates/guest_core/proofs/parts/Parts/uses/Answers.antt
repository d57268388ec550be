-- The counters tell what the state does, until the guest ends.
use Rattle.std.proofs.Common.{◌≡◌, ◌&&◌, ◌||◌, Bool, true, false, Option, Some, None, is_some, is_none, refl, sym, ap, ◌∙◌, arith}
use Rattle.std.specs.List.{list_any}
use Rattle.base_words.specs.declared.events.End.{End}
use Rattle.isolation_law.specs.CellUse.{used_frames, lies_in, loaded_in}
use Rattle.guest_course.specs.CourseView.{state_of}
use Rattle.guest_core.proofs.UntiedLemmas.{used-held}
use Rattle.guest_core.proofs.UseTells.{counted-use}
use Rattle.guest_core.proofs.parts.Parts.uses.Goals as goal

not-ended : (end : Option End) → is_some end ≡ false → end ≡ None
not-ended None e = refl
not-ended (Some end) e = cc

has-ended : (end : Option End) → is_some end ≡ true → is_none end ≡ false
has-ended None e = cc
has-ended (Some end) e = refl

pub uses-requires : goal.uses-requires
uses-requires c = omega (arith, c.requires.kept.used.cells, c.requires.cell)

pub returns-then-is_none : goal.returns-then-is_none
returns-then-is_none c =
    let g = c.args.self.now in
    let on = not-ended g.course.ended c.if-is_none.ensures in
    counted-use (state_of g.course) g.uses c.args.cell.0 c.uses.result on (λ frame some. c.requires.kept.frames.holding.within frame (used-held (state_of g.course) frame some)) c.requires.cell c.requires.kept.used c.uses.ensures

pub returns-else-is_none : goal.returns-else-is_none
returns-else-is_none c =
    let s = state_of c.args.self.now.course in
    let over = has-ended c.args.self.now.course.ended c.if-is_none.ensures in
    c.if-is_none.false ∙ ap (λ (b : Bool). b && (list_any (lies_in s.around c.args.cell.0) (used_frames s) || loaded_in s.around c.args.cell.0 0 s.processors)) (sym over)
