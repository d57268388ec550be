-- On which cells something of a guest is loaded, where something comes on a processor, leaves it, or stays.
use Rattle.std.proofs.Common.{◌≡◌, ◌≢◌, ℕ, zero, suc, ◌+◌, ◌<◌, ◌≤◌, List, [], ◌∷◌, ◌++◌, Option, Some, None, length, replicate, get_or, set, refl, sym, ap, ◌∙◌, subst, arith, append_assoc, get_or-set_same, get_or-set_other}
use Rattle.std.proofs.Math.ListN.{length-set}
use Rattle.std.proofs.lemmas.List.{length-append}
use Rattle.base_words.specs.declared.ids.CellId.{CellId}
use Rattle.cell_depend.specs.Events.{Leaves}
use Rattle.isolation_law.specs.GuestState.{idle}
use Rattle.isolation_law.specs.Parts.{Processor}
use Rattle.isolation_law.specs.Surroundings.{Surroundings, cell_of_processor}
use Rattle.guest_core.specs.Using.{cell_with, loaded_cells}

-- the cell of a processor
abbrev pub cell_at : Surroundings → ℕ → CellId
cell_at w p = record { 0 = cell_of_processor w p }

-- the same where each processor has as much loaded as before
pub cells-same : (w : Surroundings) (o : ℕ) (l m : List Processor) → length m ≡ length l → ((r : ℕ) → (get_or m r idle).loaded ≡ (get_or l r idle).loaded) → loaded_cells w o m ≡ loaded_cells w o l
cells-same w o [] [] long same = refl
cells-same w o [] (y ∷ m) long same = absurd (omega arith)
cells-same w o (x ∷ l) [] long same = absurd (omega arith)
cells-same w o (x ∷ l) (y ∷ m) long same = λ i. cell_with (cell_of_processor w o) (same 0 i) ++ cells-same w (o + 1) l m (omega arith) (λ r. same (suc r)) i

-- what leaves a list leaves it behind other items too
leaves-behind : (first : List CellId) (item : CellId) (old new : List CellId) → Leaves item old new → Leaves item (first ++ old) (first ++ new)
leaves-behind first item old new l = record {
  front = first ++ l.front;
  back = l.back;
  was = ap (λ (cells : List CellId). first ++ cells) l.was ∙ sym (append_assoc first l.front (item ∷ l.back));
  is = ap (λ (cells : List CellId). first ++ cells) l.is ∙ sym (append_assoc first l.front l.back);
}

-- one more where something comes on one processor
cells-more : (w : Surroundings) (o p v : ℕ) (l m : List Processor) → p < length l → length m ≡ length l → ((r : ℕ) → r ≢ p → (get_or m r idle).loaded ≡ (get_or l r idle).loaded)
    → (get_or l p idle).loaded ≡ None → (get_or m p idle).loaded ≡ Some v → Leaves (cell_at w (o + p)) (loaded_cells w o m) (loaded_cells w o l)
cells-more w o p v [] m lt long same free there = absurd (omega arith)
cells-more w o p v (x ∷ l) [] lt long same free there = absurd (omega arith)
cells-more w o zero v (x ∷ l) (y ∷ m) lt long same free there =
    let rest : loaded_cells w (o + 1) m ≡ loaded_cells w (o + 1) l = cells-same w (o + 1) l m (omega arith) (λ r. same (suc r) (λ e. let no : suc r ≡ 0 = e in omega arith)) in
    let here : o ≡ o + 0 = omega arith in
    record {
      front = [];
      back = loaded_cells w (o + 1) l;
      was = (λ i. cell_with (cell_of_processor w o) (there i) ++ rest i) ∙ ap (λ (n : ℕ). cell_at w n ∷ loaded_cells w (o + 1) l) here;
      is = ap (λ (x : Option ℕ). cell_with (cell_of_processor w o) x ++ loaded_cells w (o + 1) l) free;
    }
cells-more w o (suc p) v (x ∷ l) (y ∷ m) lt long same free there =
    let rest = cells-more w (o + 1) p v l m (omega arith) (omega arith) (λ r no. same (suc r) (λ e. no (let f : r ≡ p = omega arith in f))) free there in
    let here : o + 1 + p ≡ o + suc p = omega arith in
    let first = cell_with (cell_of_processor w o) x.loaded in
    let still : first ≡ cell_with (cell_of_processor w o) y.loaded = ap (cell_with (cell_of_processor w o)) (sym (same 0 (λ e. let no : 0 ≡ suc p = e in omega arith))) in
    subst (λ (cells : List CellId). Leaves (cell_at w (o + suc p)) (cells ++ loaded_cells w (o + 1) m) (first ++ loaded_cells w (o + 1) l)) still
    (subst (λ (n : ℕ). Leaves (cell_at w n) (first ++ loaded_cells w (o + 1) m) (first ++ loaded_cells w (o + 1) l)) here (leaves-behind first _ _ _ rest))

one-cell : (cell : ℕ) (l : Option ℕ) → length (cell_with cell l) ≤ 1
one-cell cell None = omega arith
one-cell cell (Some v) = omega arith

-- not more than there are processors
pub few-cells : (w : Surroundings) (o : ℕ) (l : List Processor) → length (loaded_cells w o l) ≤ length l
few-cells w o [] = omega arith
few-cells w o (x ∷ l) = omega (arith, few-cells w (o + 1) l, one-cell (cell_of_processor w o) x.loaded, length-append (cell_with (cell_of_processor w o) x.loaded) (loaded_cells w (o + 1) l))

-- with one processor as told
pub cells-set : (w : Surroundings) (p v : ℕ) (l : List Processor) (x : Processor) → p < length l → (get_or l p idle).loaded ≡ None → x.loaded ≡ Some v → Leaves (cell_at w p) (loaded_cells w 0 (set l p x)) (loaded_cells w 0 l)
cells-set w p v l x lt free is =
    subst (λ (n : ℕ). Leaves (cell_at w n) (loaded_cells w 0 (set l p x)) (loaded_cells w 0 l)) (let e : 0 + p ≡ p = omega arith in e)
    (cells-more w 0 p v l (set l p x) lt (length-set l p x) (λ r no. ap (λ (y : Processor). y.loaded) (get_or-set_other l p r x idle no)) free (ap (λ (y : Processor). y.loaded) (get_or-set_same l p x idle lt) ∙ is))

pub cells-cleared : (w : Surroundings) (p v : ℕ) (l : List Processor) → p < length l → (get_or l p idle).loaded ≡ Some v → Leaves (cell_at w p) (loaded_cells w 0 l) (loaded_cells w 0 (set l p idle))
cells-cleared w p v l lt there =
    let long = length-set l p idle in
    subst (λ (n : ℕ). Leaves (cell_at w n) (loaded_cells w 0 l) (loaded_cells w 0 (set l p idle))) (let e : 0 + p ≡ p = omega arith in e)
    (cells-more w 0 p v (set l p idle) l (omega (arith, long)) (sym long) (λ r no. ap (λ (y : Processor). y.loaded) (sym (get_or-set_other l p r idle idle no))) (ap (λ (y : Processor). y.loaded) (get_or-set_same l p idle idle lt)) there)

-- at the start nothing is
pub none-loaded : (w : Surroundings) (o n : ℕ) → loaded_cells w o (replicate n idle) ≡ []
none-loaded w o zero = refl
none-loaded w o (suc n) = none-loaded w (o + 1) n
