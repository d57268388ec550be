-- A cell that fails is its row, and with the end that follows the rows of that.
use Rattle.std.proofs.Common.{◌≡◌, ℕ, ◌<◌, if◌then◌else◌, Bool, true, false, Option, None, Some, set, length, inl, refl, sym, ap, ◌∙◌, subst, length-set, arith}
use Rattle.base_words.specs.Limits.{most_cells}
use Rattle.base_words.specs.declared.events.End.{End}
use Rattle.base_words.specs.declared.events.End.TheVariants.{Halted, CellFailed}
use Rattle.isolation_law.specs.CellFailure.{end_by}
use Rattle.isolation_law.specs.EndRows.{CellFailsIn, ended, with_failed}
use Rattle.isolation_law.specs.GuestState.{GuestState}
use Rattle.isolation_law.specs.Phases.{all_halted}
use Rattle.guest_course.specs.declared.course.Course.{Course}
use Rattle.guest_course.specs.CourseView.{state_of}
use Rattle.guest_course.specs.CourseRules.{IsSound}
use Rattle.guest_course.specs.FailCalls.{Marks, MayOutlive, EndsBy, FailsSo}
use Rattle.guest_course.specs.Failures.{dead_cells}
use Rattle.guest_course.proofs.EndProofs.{ends-from}
use Rattle.guest_course.proofs.RebackLemmas.{IsWell}

-- the end that is owed where a cell is used or isn't
abbrev closing_if : Bool → ℕ → Option End → Option End
closing_if used cell before = if used then Some (CellFailed (record { 0 = cell })) else before

pub fails-row : (c d : Course) (cell : ℕ) → IsSound c → cell < most_cells → Marks c cell d → MayOutlive (state_of c) cell → CellFailsIn (state_of c) cell (state_of d)
fails-row c d cell sound lt m may =
    let s = state_of c in
    record {
      phase = may.phase;
      is_cell = subst (λ (n : ℕ). cell < n) (sym sound.sized.dead) lt;
      once = may.lives;
      after = ap state_of m.same ∙ (λ i. record s { dead = m.cells i; closing = ap (λ (b : Bool). closing_if b cell None) (sym may.unused) i });
    }

-- all but the cells that have failed is as it was
pub fails-sound : (c : Course) (cell : ℕ) (dead : Option _) → IsSound c → dead_cells dead ≡ set (dead_cells c.dead) cell true → (c.ended ≡ None → IsWell (state_of (record c { dead = dead }))) → IsSound (record c { dead = dead })
fails-sound c cell dead sound cells w =
    let sized = sound.sized in
    record {
      sized = record {
        some_vcpus = sized.some_vcpus;
        few_vcpus = sized.few_vcpus;
        blocks = sized.blocks;
        transfers = sized.transfers;
        seconds = sized.seconds;
        few_processors = sized.few_processors;
        due = sized.due;
        few_pages = sized.few_pages;
        cells = sized.cells;
        dead = ap length cells ∙ length-set (dead_cells c.dead) cell true ∙ sized.dead;
      };
      agree = sound.agree;
      loaded = sound.loaded;
      places = sound.places;
      in_hand = sound.in_hand;
      going = λ on. record { coherent = (w on).coherent; live = (w on).live; pages = (sound.going on).pages; counted = (sound.going on).counted };
    }

-- the guest ends by a cell that it uses
pub fails-so : (s t : GuestState) (cell : ℕ) → EndsBy s cell → t ≡ record (ended (end_by cell) s) { dead = set s.dead cell true } → FailsSo s cell t
fails-so s t cell by after =
    let failed = with_failed s cell in
    let closes : failed.closing ≡ Some (end_by cell) = ap (λ (b : Bool). closing_if b cell s.closing) by.used in
    let fails : CellFailsIn s cell failed = record { phase = inl by.goes_on; is_cell = by.is_cell; once = by.lives; after = refl } in
    let ends = ends-from s.pages 0 failed (end_by cell) refl (λ r lt. absurd (omega (arith, lt))) (by.goes_on.not_ended, owes (all_halted s.vcpus) by.goes_on.owes_no_end closes) in
    subst (FailsSo s cell) (sym after) (s, failed, inl refl, fails, ends)
  where
    owes : (b : Bool) → (if b then Some Halted else s.closing) ≡ None → (with_failed s cell).closing ≡ Some (end_by cell) → (if b then Some Halted else (with_failed s cell).closing) ≡ Some (end_by cell)
    owes true none is = cc
    owes false none is = is
