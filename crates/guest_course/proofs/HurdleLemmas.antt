-- What keeps a page keeps what its bytes are to change for.
use Rattle.std.proofs.Common.{◌≡◌, ℕ, Option, Some, None, sym, ap, ◌∙◌, subst}
use Rattle.std.proofs.lemmas.Option.{same_Some}
use Rattle.isolation_law.specs.GuestState.{GuestState, page}
use Rattle.guest_course.specs.CourseRules.{IsWritable}
use Rattle.guest_course.specs.Hurdles.{NeedsMove, Keeps, KeepsAt}
use Rattle.guest_course.specs.declared.hurdles.Hurdle.{Hurdle}
use Rattle.guest_course.specs.declared.hurdles.Hurdle.TheVariants.{Free, Waits, Needs}

pub keeps-at : (s : GuestState) (at : Option ℕ) (q : ℕ) (hurdle : Hurdle) → at ≡ Some q → Keeps s q hurdle → KeepsAt s at hurdle
keeps-at s at q Free is keeps =
    (λ r there. subst (λ (k : ℕ). IsWritable (page s k)) (same_Some q r (sym is ∙ there)) keeps.writable, λ r there. subst (λ (k : ℕ). (page s k).move ≡ None) (same_Some q r (sym is ∙ there)) keeps.rests)
keeps-at s at q (Waits r) is keeps = (is ∙ ap Some (sym keeps.0), subst (λ (k : ℕ). (page s k).move ≡ None → ⊥) (sym keeps.0) keeps.1)
keeps-at s at q (Needs r kind) is keeps = (is ∙ ap Some (sym keeps.0), subst (λ (k : ℕ). NeedsMove s k kind) (sym keeps.0) keeps.1)

-- where there is no page, nothing does
pub never-some : (q : ℕ) → None ≡ Some q → ⊥
never-some q e = cc

pub keeps-none : (s : GuestState) (at : Option ℕ) → at ≡ None → KeepsAt s at Free
keeps-none s at is = (λ q there. absurd (never-some q (sym is ∙ there)), λ q there. absurd (never-some q (sym is ∙ there)))
