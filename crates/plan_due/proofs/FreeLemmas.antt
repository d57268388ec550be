-- Nothing is loaded once items are carried out.
use Rattle.std.proofs.Common.{◌≡◌, ℕ, List, [], ◌∷◌, ap, ◌∙◌, None}
use Rattle.shootdown.specs.declared.view.SidedNote.{SidedNote}
use Rattle.shootdown.specs.Notes.{with_side}
use Rattle.guest_core.specs.Noting.{loaded_by}
use Rattle.plan_due.specs.Planned.{Planned}
use Rattle.plan_due.specs.Slices.{Machine, AreTold}
use Rattle.plan_due.specs.declared.outcome.Outcome.{Outcome}
use Rattle.plan_due.proofs.NoteLists.{with_side-append}
use Rattle.plan_due.proofs.JournalLemmas.{loaded_by-append}
use Rattle.plan_due.proofs.ItemLemmas.{item-free}

pub told-free : (m : Machine) (g : ℕ) (plan : List Planned) (outcomes : List Outcome) (notes : List SidedNote) → AreTold m plan outcomes notes → loaded_by None (with_side g notes) ≡ None
told-free m g [] [] notes are = ap (λ ns. loaded_by None (with_side g ns)) are
told-free m g [] (s ∷ outcomes) notes are = absurd are
told-free m g (i ∷ plan) [] notes are = absurd are
told-free m g (i ∷ plan) (s ∷ outcomes) notes are =
    ap (λ ns. loaded_by None (with_side g ns)) are.3
    ∙ ap (loaded_by None) (with_side-append g are.0 are.1)
    ∙ loaded_by-append None (with_side g are.0) (with_side g are.1)
    ∙ ap (λ l. loaded_by l (with_side g are.1)) (item-free m g i s are.0 are.2)
    ∙ told-free m g plan outcomes are.1 are.4
