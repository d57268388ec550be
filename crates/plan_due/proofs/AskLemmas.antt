-- What a processor asked for by the plan: its notes are the begins and the skips, and those of its items.
use Rattle.std.proofs.Common.{◌≡◌, ℕ, ◌==◌, if◌then◌else◌, cond, Bool, true, false, List, [], ◌∷◌, ◌++◌, refl, sym, ap, ◌∙◌, append_assoc}
use Rattle.base_words.specs.declared.events.Event.{Event}
use Rattle.shootdown.specs.declared.notes.Note.{Note}
use Rattle.shootdown.specs.declared.notes.Note.TheVariants.{Made, Asked, Halted, Ended, Dead}
use Rattle.shootdown.specs.declared.view.SidedNote.{SidedNote}
use Rattle.shootdown.specs.Notes.{with_side}
use Rattle.isolation_law.specs.Parts.{Wish, SkipEntry}
use Rattle.guest_core.specs.Asks.{asks, wish_in, wishes_in, wishes_by}
use Rattle.guest_core.specs.Noting.{is_ask, asked_in}
use Rattle.plan_due.specs.Planned.{Planned, wish_of, wishes_for}
use Rattle.plan_due.specs.Slices.{Machine}
use Rattle.plan_due.specs.declared.outcome.Outcome.{Outcome}
use Rattle.plan_due.proofs.NoteLists.{Every, with_side-append}
use Rattle.plan_due.proofs.CertLemmas.{Certs, own_notes}
use Rattle.plan_due.proofs.ItemLemmas.{item-wishes}

-- only asks ask
kept-wishes : (p : ℕ) (notes : List SidedNote) → wishes_in (with_side p (asked_in notes)) ≡ wishes_in (with_side p notes)
kept-wishes p [] = refl
kept-wishes p (n ∷ notes) = by n.note (kept-wishes p notes)
  where
    Rest : Type 0
    Rest = wishes_in (with_side p (asked_in notes)) ≡ wishes_in (with_side p notes)

    none : (note : Note) (b : Bool) → wish_in note ≡ [] → Rest → wishes_in (with_side p (asked_in notes)) ≡ wishes_in (if b then note ∷ with_side p notes else with_side p notes)
    none note true is rest = rest ∙ ap (λ (l : List Wish). l ++ wishes_in (with_side p notes)) (sym is)
    none note false is rest = rest

    asked : (note : Note) (b : Bool) → Rest → wishes_in (if b then note ∷ with_side p (asked_in notes) else with_side p (asked_in notes)) ≡ wishes_in (if b then note ∷ with_side p notes else with_side p notes)
    asked note true rest = ap (λ (l : List Wish). wish_in note ++ l) rest
    asked note false rest = rest

    by : (note : Note) → Rest → wishes_in (with_side p (cond (is_ask note) (record { side = n.side; note = note } ∷ asked_in notes) (asked_in notes))) ≡ wishes_in (if n.side == p then note ∷ with_side p notes else with_side p notes)
    by (Made e) rest = none (Made e) (n.side == p) refl rest
    by (Asked page kind node) rest = asked (Asked page kind node) (n.side == p) rest
    by (Halted v) rest = none (Halted v) (n.side == p) refl rest
    by (Ended end) rest = none (Ended end) (n.side == p) refl rest
    by (Dead cell) rest = none (Dead cell) (n.side == p) refl rest

-- what a processor noted as asked is what a journal has of it
pub noted-wishes : (p : ℕ) (skips : List SkipEntry) (journal : List Event) (notes : List SidedNote) → asked_in notes ≡ asks skips journal → wishes_by p skips journal ≡ wishes_in (with_side p notes)
noted-wishes p skips journal notes asked = ap (λ (l : List SidedNote). wishes_in (with_side p l)) (sym asked) ∙ kept-wishes p notes

wishes-append : (xs ys : List Note) → wishes_in (xs ++ ys) ≡ wishes_in xs ++ wishes_in ys
wishes-append [] ys = refl
wishes-append (x ∷ xs) ys = ap (λ (l : List Wish). wish_in x ++ l) (wishes-append xs ys) ∙ sym (append_assoc (wish_in x) (wishes_in xs) (wishes_in ys))

-- and what its items asked for
pub own-wishes : (m : Machine) (p g : ℕ) (plan : List Planned) (outcomes : List Outcome) (tolds : List (List SidedNote)) → Certs m plan outcomes tolds → wishes_in (with_side g (own_notes p plan tolds)) ≡ wishes_for p g plan
own-wishes m p g [] [] [] certs = refl
own-wishes m p g [] [] (t ∷ tolds) certs = absurd certs
own-wishes m p g [] (o ∷ outcomes) tolds certs = absurd certs
own-wishes m p g (i ∷ plan) [] tolds certs = absurd certs
own-wishes m p g (i ∷ plan) (o ∷ outcomes) [] certs = absurd certs
own-wishes m p g (i ∷ plan) (o ∷ outcomes) (t ∷ tolds) certs =
    ap wishes_in (with_side-append g (if i.processor == p then t else []) (own_notes p plan tolds))
    ∙ wishes-append (with_side g (if i.processor == p then t else [])) (with_side g (own_notes p plan tolds))
    ∙ (λ k. first (i.processor == p) k ++ own-wishes m p g plan outcomes tolds certs.1 k)
  where
    first : (b : Bool) → wishes_in (with_side g (if b then t else [])) ≡ (if b then wish_of g i.work else [])
    first true = item-wishes m g i o t certs.0
    first false = refl

pub no-wishes : (p g : ℕ) (plan : List Planned) → Every (λ (i : Planned). (if i.processor == p then wish_of g i.work else []) ≡ []) plan → wishes_for p g plan ≡ []
no-wishes p g [] e = refl
no-wishes p g (i ∷ plan) e = (λ k. e.0 k ++ no-wishes p g plan e.1 k)
