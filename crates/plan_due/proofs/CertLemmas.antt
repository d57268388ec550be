-- What was told of each item: the outcomes of all processors, dealt in the order of the plan, and the notes of each processor, cut up
-- into those of its items.
use Rattle.std.proofs.Common.{◌≡◌, ◌≢◌, ℕ, ◌+◌, ◌<◌, ◌≤◌, ◌==◌, ◌&&◌, if◌then◌else◌, cond, Bool, true, false, List, [], ◌∷◌, ◌++◌, length, refl, sym, ap, ◌∙◌, subst, arith, eq-eqb, inl, inr, ◌⊎◌, eqb, get_or-set_same, get_or-set_other, count_by, None}
use Rattle.std.proofs.lemmas.Bool.Decides.{eqb_tells}
use Rattle.std.proofs.lemmas.List.{length-set}
use Rattle.shootdown.specs.declared.notes.Note.{Note}
use Rattle.shootdown.specs.declared.view.SidedNote.{SidedNote}
use Rattle.shootdown.specs.Notes.{with_side}
use Rattle.guest_core.specs.Noting.{loaded_by}
use Rattle.plan_due.specs.Planned.{Planned}
use Rattle.plan_due.specs.Slices.{Machine, IsTold, own, AreTold}
use Rattle.plan_due.specs.Dealt.{queue_of, front, behind, without_front, dealt}
use Rattle.plan_due.specs.declared.outcome.Outcome.{Outcome}
use Rattle.plan_due.proofs.NoteLists.{Every, tally, tally-append, with_side-append}
use Rattle.plan_due.proofs.JournalLemmas.{loaded_by-append, count-cons}

-- ---- what was told of each item

abbrev pub Certs : Machine → List Planned → List Outcome → List (List SidedNote) → Type 0
Certs m [] [] [] = Unit {0}
Certs m [] [] (told ∷ tolds) = ⊥
Certs m [] (outcome ∷ outcomes) tolds = ⊥
Certs m (item ∷ plan) [] tolds = ⊥
Certs m (item ∷ plan) (outcome ∷ outcomes) [] = ⊥
Certs m (item ∷ plan) (outcome ∷ outcomes) (told ∷ tolds) = IsTold m item outcome told × Certs m plan outcomes tolds

-- the notes of one processor are those of its items, one behind the other
abbrev pub own_notes : ℕ → List Planned → List (List SidedNote) → List SidedNote
own_notes p (item ∷ plan) (told ∷ tolds) = (if item.processor == p then told else []) ++ own_notes p plan tolds
own_notes p plan tolds = []

-- ---- dealing

abbrev pub AllTold : Machine → ℕ → List Planned → List (List Outcome) → (ℕ → List SidedNote) → Type 0
AllTold m processors plan queues notes = (p : ℕ) → p < processors → AreTold m (own p plan) (queue_of queues p) (notes p)

record Head (m : Machine) (item : Planned) (plan : List Planned) (queue : List Outcome) (notes : List SidedNote) : Type 0 where
  pub outcome : Outcome
  pub told : List SidedNote
  pub rest : List SidedNote
  pub front_is : front queue ≡ outcome ∷ []
  pub is : IsTold m item outcome told
  pub notes_are : notes ≡ told ++ rest
  pub others : AreTold m plan (behind queue) rest

head : (m : Machine) (item : Planned) (plan : List Planned) (queue : List Outcome) (notes : List SidedNote) → AreTold m (item ∷ plan) queue notes → Head m item plan queue notes
head m item plan [] notes are = absurd are
head m item plan (outcome ∷ queue) notes are = record { outcome = outcome; told = are.0; rest = are.1; front_is = refl; is = are.2; notes_are = are.3; others = are.4 }

own-yes : (p : ℕ) (item : Planned) (plan : List Planned) → (item.processor == p) ≡ true → own p (item ∷ plan) ≡ item ∷ own p plan
own-yes p item plan e = ap (λ b. if b then item ∷ own p plan else own p plan) e

own-no : (p : ℕ) (item : Planned) (plan : List Planned) → (item.processor == p) ≡ false → own p (item ∷ plan) ≡ own p plan
own-no p item plan e = ap (λ b. if b then item ∷ own p plan else own p plan) e

-- the notes of all processors once those of the first item are taken off
abbrev after : ℕ → List SidedNote → (ℕ → List SidedNote) → ℕ → List SidedNote
after r rest notes p = if r == p then rest else notes p

first-of : (m : Machine) (processors : ℕ) (item : Planned) (plan : List Planned) (queues : List (List Outcome)) (notes : ℕ → List SidedNote) → item.processor < processors → AllTold m processors (item ∷ plan) queues notes → Head m item (own item.processor plan) (queue_of queues item.processor) (notes item.processor)
first-of m processors item plan queues notes within all =
    let r = item.processor in
    head m item (own r plan) (queue_of queues r) (notes r) (subst (λ l. AreTold m l (queue_of queues r) (notes r)) (own-yes r item plan (eq-eqb r r refl)) (all r within))

next-told : (m : Machine) (processors : ℕ) (item : Planned) (plan : List Planned) (queues : List (List Outcome)) (notes : ℕ → List SidedNote) → length queues ≡ processors → item.processor < processors → AllTold m processors (item ∷ plan) queues notes → (h : Head m item (own item.processor plan) (queue_of queues item.processor) (notes item.processor)) → AllTold m processors plan (without_front queues item.processor) (after item.processor h.rest notes)
next-told m processors item plan queues notes many within all h q below = by (eqb_tells item.processor q)
  where
    r : ℕ
    r = item.processor

    left : List (List Outcome)
    left = without_front queues r

    by : ((eqb r q ≡ true) × (r ≡ q)) ⊎ ((eqb r q ≡ false) × (r ≢ q)) → AreTold m (own q plan) (queue_of left q) (after r h.rest notes q)
    by (inl same) =
        subst (λ (s : List SidedNote). AreTold m (own q plan) (queue_of left q) s) (sym (ap (λ b. if b then h.rest else notes q) same.0))
        (subst (λ (s : List Outcome). AreTold m (own q plan) s h.rest) (sym (ap (queue_of left) (sym same.1) ∙ get_or-set_same queues r (behind (queue_of queues r)) [] (subst (λ n. r < n) (sym many) within)))
        (subst (λ (k : ℕ). AreTold m (own k plan) (behind (queue_of queues r)) h.rest) same.1 h.others))
    by (inr other) =
        subst (λ (s : List SidedNote). AreTold m (own q plan) (queue_of left q) s) (sym (ap (λ b. if b then h.rest else notes q) other.0))
        (subst (λ (s : List Outcome). AreTold m (own q plan) s (notes q)) (sym (get_or-set_other queues r q (behind (queue_of queues r)) [] (λ e. other.1 (sym e))))
        (subst (λ (l : List Planned). AreTold m l (queue_of queues q) (notes q)) (own-no q item plan other.0) (all q below)))

no-more : (m : Machine) (notes : List SidedNote) (queue : List Outcome) → AreTold m [] queue notes → notes ≡ []
no-more m notes [] are = are
no-more m notes (s ∷ queue) are = absurd are

pub record Dealt (m : Machine) (processors : ℕ) (plan : List Planned) (outcomes : List Outcome) (notes : ℕ → List SidedNote) : Type 0 where
  pub tolds : List (List SidedNote)
  pub certs : Certs m plan outcomes tolds
  pub notes_are : (p : ℕ) → p < processors → notes p ≡ own_notes p plan tolds

with-front : (m : Machine) (processors : ℕ) (item : Planned) (plan : List Planned) (queue : List Outcome) (notes : ℕ → List SidedNote) (rest : List Outcome) → (h : Head m item (own item.processor plan) queue (notes item.processor)) → Dealt m processors plan rest (after item.processor h.rest notes) → Dealt m processors (item ∷ plan) (front queue ++ rest) notes
with-front m processors item plan queue notes rest h d = subst (λ l. Dealt m processors (item ∷ plan) (l ++ rest) notes) (sym h.front_is) (record {
  tolds = h.told ∷ d.tolds;
  certs = (h.is, d.certs);
  notes_are = λ p few. by p few (eqb_tells r p);
})
  where
    r : ℕ
    r = item.processor

    by : (p : ℕ) → p < processors → ((eqb r p ≡ true) × (r ≡ p)) ⊎ ((eqb r p ≡ false) × (r ≢ p)) → notes p ≡ (if r == p then h.told else []) ++ own_notes p plan d.tolds
    by p few (inl same) =
        ap notes (sym same.1) ∙ h.notes_are ∙ ap (λ (l : List SidedNote). h.told ++ l) (ap (λ b. if b then h.rest else notes p) (sym same.0) ∙ d.notes_are p few) ∙ ap (λ b. (if b then h.told else []) ++ own_notes p plan d.tolds) (sym same.0)
    by p few (inr other) = ap (λ b. if b then h.rest else notes p) (sym other.0) ∙ d.notes_are p few ∙ ap (λ b. (if b then h.told else []) ++ own_notes p plan d.tolds) (sym other.0)

pub deals : (m : Machine) (processors : ℕ) (plan : List Planned) (queues : List (List Outcome)) (notes : ℕ → List SidedNote) → length queues ≡ processors → Every (λ (i : Planned). i.processor < processors) plan → AllTold m processors plan queues notes → Dealt m processors plan (dealt plan queues) notes
deals m processors [] queues notes many within all = record { tolds = []; certs = tt; notes_are = λ p few. no-more m (notes p) (queue_of queues p) (all p few) }
deals m processors (item ∷ plan) queues notes many within all =
    let r = item.processor in
    let h = first-of m processors item plan queues notes within.0 all in
    with-front m processors item plan (queue_of queues r) notes (dealt plan (without_front queues r)) h
    (deals m processors plan (without_front queues r) (after r h.rest notes) (length-set queues r (behind (queue_of queues r)) ∙ many) within.1 (next-told m processors item plan queues notes many within.0 all h))

-- ---- how many notes of a kind

-- the notes of a kind that each item of a processor has with a guest, added up
abbrev pub shares : (Planned → Outcome → ℕ) → ℕ → List Planned → List Outcome → ℕ
shares each p (item ∷ plan) (outcome ∷ outcomes) = (if item.processor == p then each item outcome else 0) + shares each p plan outcomes
shares each p plan outcomes = 0

pub shares-told : (m : Machine) (f : Note → Bool) (g : ℕ) (each : Planned → Outcome → ℕ) → ((item : Planned) (outcome : Outcome) (told : List SidedNote) → IsTold m item outcome told → tally f (with_side g told) ≡ each item outcome)
    → (p : ℕ) (plan : List Planned) (outcomes : List Outcome) (tolds : List (List SidedNote)) → Certs m plan outcomes tolds → tally f (with_side g (own_notes p plan tolds)) ≡ shares each p plan outcomes
shares-told m f g each one p [] [] [] certs = refl
shares-told m f g each one p [] [] (t ∷ tolds) certs = absurd certs
shares-told m f g each one p [] (o ∷ outcomes) tolds certs = absurd certs
shares-told m f g each one p (i ∷ plan) [] tolds certs = absurd certs
shares-told m f g each one p (i ∷ plan) (o ∷ outcomes) [] certs = absurd certs
shares-told m f g each one p (i ∷ plan) (o ∷ outcomes) (t ∷ tolds) certs =
    ap (tally f) (with_side-append g (if i.processor == p then t else []) (own_notes p plan tolds))
    ∙ tally-append f (with_side g (if i.processor == p then t else [])) (with_side g (own_notes p plan tolds))
    ∙ (λ k. first (i.processor == p) k + shares-told m f g each one p plan outcomes tolds certs.1 k)
  where
    first : (b : Bool) → tally f (with_side g (if b then t else [])) ≡ (if b then each i o else 0)
    first true = one i o t certs.0
    first false = refl

-- at most so many
pub shares-most : (m : Machine) (f : Note → Bool) (g : ℕ) (most : Planned → Bool) → ((item : Planned) (outcome : Outcome) (told : List SidedNote) → IsTold m item outcome told → tally f (with_side g told) ≤ cond (most item) 1 0)
    → (p : ℕ) (plan : List Planned) (outcomes : List Outcome) (tolds : List (List SidedNote)) → Certs m plan outcomes tolds → tally f (with_side g (own_notes p plan tolds)) ≤ count_by (λ (i : Planned). (i.processor == p) && most i) plan
shares-most m f g most one p [] [] [] certs = omega arith
shares-most m f g most one p [] [] (t ∷ tolds) certs = absurd certs
shares-most m f g most one p [] (o ∷ outcomes) tolds certs = absurd certs
shares-most m f g most one p (i ∷ plan) [] tolds certs = absurd certs
shares-most m f g most one p (i ∷ plan) (o ∷ outcomes) [] certs = absurd certs
shares-most m f g most one p (i ∷ plan) (o ∷ outcomes) (t ∷ tolds) certs =
    let both = ap (tally f) (with_side-append g (if i.processor == p then t else []) (own_notes p plan tolds)) ∙ tally-append f (with_side g (if i.processor == p then t else [])) (with_side g (own_notes p plan tolds)) in
    let here = first (i.processor == p) in
    let rest = shares-most m f g most one p plan outcomes tolds certs.1 in
    let count = count-cons (λ (x : Planned). (x.processor == p) && most x) i plan in
    omega (arith, both, here, rest, count)
  where
    first : (b : Bool) → tally f (with_side g (if b then t else [])) ≤ cond (b && most i) 1 0
    first true = one i o t certs.0
    first false = omega arith

-- nothing is loaded after all items
pub free-told : (m : Machine) (g : ℕ) → ((item : Planned) (outcome : Outcome) (told : List SidedNote) → IsTold m item outcome told → loaded_by None (with_side g told) ≡ None)
    → (p : ℕ) (plan : List Planned) (outcomes : List Outcome) (tolds : List (List SidedNote)) → Certs m plan outcomes tolds → loaded_by None (with_side g (own_notes p plan tolds)) ≡ None
free-told m g one p [] [] [] certs = refl
free-told m g one p [] [] (t ∷ tolds) certs = absurd certs
free-told m g one p [] (o ∷ outcomes) tolds certs = absurd certs
free-told m g one p (i ∷ plan) [] tolds certs = absurd certs
free-told m g one p (i ∷ plan) (o ∷ outcomes) [] certs = absurd certs
free-told m g one p (i ∷ plan) (o ∷ outcomes) (t ∷ tolds) certs =
    ap (loaded_by None) (with_side-append g (if i.processor == p then t else []) (own_notes p plan tolds))
    ∙ loaded_by-append None (with_side g (if i.processor == p then t else [])) (with_side g (own_notes p plan tolds))
    ∙ ap (λ l. loaded_by l (with_side g (own_notes p plan tolds))) (first (i.processor == p))
    ∙ free-told m g one p plan outcomes tolds certs.1
  where
    first : (b : Bool) → loaded_by None (with_side g (if b then t else [])) ≡ None
    first true = one i o t certs.0
    first false = refl
