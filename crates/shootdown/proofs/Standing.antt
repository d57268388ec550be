-- The lists of one kind, of tokens or of seats, still stand after each kind of step.
use Rattle.std.proofs.Common.{◌≡◌, ◌≢◌, ℕ, ◌+◌, ◌==◌, if◌then◌else◌, List, [], ◌∷◌, ◌++◌, set, refl, sym, ap, ◌∙◌, subst, ⊎_elim, arith, eq-eqb, ne_eqb}
use Rattle.atomic_table.proofs.Lists.{at_set, at_snoc, set_again}
use Rattle.shootdown.specs.Board.{ByOwner, AreOf, times, IsView, Stand}
use Rattle.shootdown.specs.Steps.{list_of, first, others}
use Rattle.shootdown.specs.declared.view.SidedNote.{SidedNote}
use Rattle.shootdown.specs.declared.view.NoteList.{NoteList}
use Rattle.shootdown.specs.declared.view.View.{View}
use Rattle.shootdown.proofs.ListLemmas.{total_set, total-snoc, total_two, times-append, times-own, times_rest, are-append}

-- lists are cut in two
pub record Cut (whole left right : List NoteList) : Type 0 where
  pub counts : (k : ℕ) → times k left + times k right ≡ times k whole
  pub lists : (notes : ByOwner) → AreOf notes whole → AreOf notes left × AreOf notes right

pub all_go : (ls : List NoteList) → Cut ls [] ls
all_go ls = record { counts = λ k. omega arith; lists = λ notes are. (tt, are) }

pub all_stay : (ls : List NoteList) → Cut ls ls []
all_stay ls = record { counts = λ k. omega arith; lists = λ notes are. (are, tt) }

pub first_goes : (ls : List NoteList) → Cut ls (others ls) (first ls)
first_goes [] = record { counts = λ k. refl; lists = λ notes are. (tt, tt) }
first_goes (l ∷ ls) = record { counts = λ k. omega arith; lists = λ notes are. (are.1, (are.0, tt)) }

module _ (lists : View → List NoteList) where
  -- a place's lists are cut in two
  pub stand_cut : (notes : ByOwner) (views : List View) (id : ℕ) (v left right : View) → Stand lists notes views → IsView views id v
      → Cut (lists v) (lists left) (lists right) → Stand lists notes (set views id left ++ right ∷ [])
  stand_cut notes views id v left right stand at cut = record {
    once = λ k.
        let number = λ (u : View). times k (lists u) in
        let a = total-snoc number (set views id left) right in
        let b = total_set number views id v left at in
        let c = cut.counts k in
        let was = stand.once k in omega arith;
    each = λ j u there. ⊎_elim
        (λ was. ⊎_elim
        (λ (x : (j ≡ id) × (left ≡ u)). subst (λ (y : View). AreOf notes (lists y)) x.1 both.0)
        (λ (x : (j ≢ id) × IsView views j u). stand.each j u x.1)
        (at_set views id j left u was))
        (λ (x : right ≡ u). subst (λ (y : View). AreOf notes (lists y)) x both.1)
        (at_snoc (set views id left) right u j there);
  }
    where
      both : AreOf notes (lists left) × AreOf notes (lists right)
      both = cut.lists notes (stand.each id v at)

  -- a place takes another's lists
  pub stand_joined : (notes : ByOwner) (views : List View) (id : ℕ) (v : View) (other : ℕ) (w all none : View) → Stand lists notes views → IsView views id v
      → other ≢ id → IsView (set views id all) other w → lists all ≡ lists v ++ lists w → lists none ≡ []
      → Stand lists notes (set (set views id all) other none)
  stand_joined notes views id v other w all none stand at apart there has has_none = record {
    once = λ k.
        let number = λ (u : View). times k (lists u) in
        let a = total_set number (set views id all) other w none there in
        let b = total_set number views id v all at in
        let c = times-append k (lists v) (lists w) in
        let d : times k (lists all) ≡ times k (lists v ++ lists w) = ap (times k) has in
        let e : times k (lists none) ≡ 0 = ap (times k) has_none in
        let was = stand.once k in omega arith;
    each = λ j u place. ⊎_elim
        (λ (x : (j ≡ other) × (none ≡ u)). subst (λ (y : View). AreOf notes (lists y)) x.1 (subst (AreOf notes) (sym has_none) tt))
        (λ (x : (j ≢ other) × IsView (set views id all) j u). ⊎_elim
        (λ (y : (j ≡ id) × (all ≡ u)). subst (λ (z : View). AreOf notes (lists z)) y.1 (subst (AreOf notes) (sym has) (are-append notes (lists v) (lists w) (stand.each id v at) (stand.each other w other_was))))
        (λ (y : (j ≢ id) × IsView views j u). stand.each j u y.1)
        (at_set views id j all u x.1))
        (at_set (set views id all) other j none u place);
  }
    where
      other_was : IsView views other w
      other_was = ⊎_elim (λ (x : (other ≡ id) × (all ≡ w)). absurd (apart x.0)) (λ (x : (other ≢ id) × IsView views other w). x.1) (at_set views id other all w there)

  -- a place keeps its lists
  pub stand_same : (notes : ByOwner) (views : List View) (id : ℕ) (v : View) → Stand lists notes views → IsView views id v → Stand lists notes (set views id v)
  stand_same notes views id v stand at = subst (λ (vs : List View). Stand lists notes vs) (sym (set_again views id v at)) stand

-- as before, but this owner's notes
pub instead : ByOwner → ℕ → List SidedNote → ByOwner
instead notes k ns j = if j == k then ns else notes j

pub instead_here : (notes : ByOwner) (k : ℕ) (ns : List SidedNote) (j : ℕ) → j ≡ k → instead notes k ns j ≡ ns
unfolding instead
instead_here notes k ns j e = ap (λ b. if b then ns else notes j) (eq-eqb j k e)

pub instead_else : (notes : ByOwner) (k : ℕ) (ns : List SidedNote) (j : ℕ) → j ≢ k → instead notes k ns j ≡ notes j
unfolding instead
instead_else notes k ns j apart = ap (λ b. if b then ns else notes j) (ne_eqb j k apart)

-- lists of other owners
are_instead : (notes : ByOwner) (k : ℕ) (ns : List SidedNote) (ls : List NoteList) → times k ls ≡ 0 → AreOf notes ls → AreOf (instead notes k ns) ls
are_instead notes k ns [] none are = tt
are_instead notes k ns (l ∷ ls) none are = (
  are.0 ∙ sym (instead_else notes k ns l.owner (λ e. let one = times-own k l ls e in omega arith)),
  are_instead notes k ns ls (let some = times_rest k l ls in omega arith) are.1,
)

-- a place with one list has other notes in it
pub stand_noted : (lists : View → List NoteList) (notes : ByOwner) (views : List View) (id : ℕ) (v w : View) (k : ℕ) (xs ys : List SidedNote) → Stand lists notes views → IsView views id v
    → lists v ≡ list_of k xs ∷ [] → lists w ≡ list_of k ys ∷ [] → Stand lists (instead notes k ys) (set views id w)
stand_noted lists notes views id v w k xs ys stand at old new = record {
  once = λ o. let a = total_set (λ (u : View). times o (lists u)) views id v w at in let b : times o (lists v) ≡ times o (lists w) = ap (times o) old ∙ sym (ap (times o) new) in let was = stand.once o in omega arith;
  each = λ j u there. ⊎_elim
      (λ (x : (j ≡ id) × (w ≡ u)). subst (λ (y : View). AreOf (instead notes k ys) (lists y)) x.1 (subst (AreOf (instead notes k ys)) (sym new) (sym (instead_here notes k ys k refl), tt)))
      (λ (x : (j ≢ id) × IsView views j u). are_instead notes k ys (lists u)
      (let two = total_two (λ (y : View). times k (lists y)) views j id u v x.0 x.1 at in let one : times k (lists v) ≡ 1 = ap (times k) old ∙ times-own k (list_of k xs) [] refl in let was = stand.once k in omega arith)
      (stand.each j u x.1))
      (at_set views id j w u there);
}
