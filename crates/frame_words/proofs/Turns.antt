-- The rights rule after one step: the only place where the word, the stepping seat's view and all other views are told apart.
use Rattle.std.proofs.Common.{◌≡◌, ◌≢◌, ℕ, zero, suc, ◌+◌, ◌<◌, ◌≤◌, true, List, [], ◌∷◌, length, set, get_or, refl, sym, ap, ◌∙◌, subst, ⊎_elim, arith, length-set, get_or-set_same, get_or-set_other}
use mathlib.Core.Option.{some, some-ne-none, some-injective}
use mathlib.Core.Logic.{dite}
use native.Mathlib.Decide.{ℕ_discrete}
use lib.ListN.{get_elem?}
use Rattle.atomic_table.specs.Table.{State}
use Rattle.atomic_table.proofs.Lists.{at_set}
use Rattle.frame_words.specs.FrameWords.{count, generation}
use Rattle.frame_words.specs.Views.{held}
use Rattle.frame_words.specs.FrameRights.{total, AreUnder, IsOnly, IsView, FrameRights}
use Rattle.frame_words.specs.declared.view.View.{View}
use Rattle.frame_words.specs.declared.terms.Terms.{Terms}
use Rattle.frame_words.proofs.Bags.{total_set, total_least, under_set}

-- what a step may do that makes the word i the number n, where the view v becomes w
pub record Turn (t : Terms) (ws : List ℕ) (i n : ℕ) (v w : View) : Type 0 where
  pub inside : i < t.frames + 8
  pub sum : held i w + count (get_or ws i 0) ≡ held i v + count n
  pub others : (j : ℕ) → j ≢ i → held j w ≡ held j v
  pub stays : 0 < count (get_or ws i 0) → generation n ≡ generation (get_or ws i 0)
  pub under : AreUnder (set ws i n) w.holds
  pub loans : i < 8 → count n ≡ n
  pub lent : i < 8 → n ≤ get_or t.lends i 0
  pub alone : w.alone ≡ true → v.alone ≡ true
  pub long : length w.known ≡ length v.known
  pub knows : w.alone ≡ true → get_or w.known i 0 ≡ generation n
  pub knew : (j : ℕ) → j ≢ i → get_or w.known j 0 ≡ get_or v.known j 0

-- two views at two places hold no more of a word than its sum
pub both_least : (f : View → ℕ) (vs : List View) (i j : ℕ) (v u : View) → IsView vs i v → IsView vs j u → j ≢ i → f v + f u ≤ total f vs
both_least f [] i j v u at there apart = absurd (some-ne-none v (sym at))
both_least f (x ∷ xs) zero zero v u at there apart = absurd (apart refl)
both_least f (x ∷ xs) zero (suc j) v u at there apart = let e : f x ≡ f v = ap f (some-injective x v at) in let more = total_least f xs j u there in omega arith
both_least f (x ∷ xs) (suc i) zero v u at there apart = let e : f x ≡ f u = ap f (some-injective x u there) in let more = total_least f xs i v at in omega arith
both_least f (x ∷ xs) (suc i) (suc j) v u at there apart = let more = both_least f xs i j v u at there (λ e. apart (ap suc e)) in omega arith

-- the only view stands at place 0
pub place_of_one : (vs : List View) (i : ℕ) (v u : View) → vs ≡ u ∷ [] → IsView vs i v → (i ≡ 0) × (u ≡ v)
place_of_one vs zero v u one at = (refl, some-injective u v (subst (λ l. get_elem? l 0 ≡ some v) one at))
place_of_one vs (suc i) v u one at = absurd (some-ne-none v (sym (subst (λ l. get_elem? l (suc i) ≡ some v) one at)))

module _ (t : Terms) (s : State (Unit {0}) View) (id i n : ℕ) (v w : View) (k : FrameRights t s) (at : IsView s.views id v) (turn : Turn t s.words i n v w) where
  fits : i < length s.words
  fits = let e = k.whole in let h = turn.inside in omega arith

  counts : (j : ℕ) → j < t.frames + 8 → total (held j) (set s.views id w) ≡ count (get_or (set s.words i n) j 0)
  counts j inside = dite (ℕ_discrete j i)
      (λ e. subst (λ x. total (held x) (set s.views id w) ≡ count (get_or (set s.words i n) x 0)) (sym e)
      (rw (get_or-set_same s.words i n 0 fits) (let a = total_set (held i) s.views id v w at in let b = k.counts i turn.inside in let c = turn.sum in omega arith)))
      (λ ne. rw (get_or-set_other s.words i j n 0 ne) (let a = total_set (held j) s.views id v w at in let b = k.counts j inside in let c = turn.others j ne in omega arith))

  generations : (j : ℕ) (u : View) → IsView (set s.views id w) j u → AreUnder (set s.words i n) u.holds
  generations j u there = ⊎_elim
      (λ (x : (j ≡ id) × (w ≡ u)). subst (λ (y : View). AreUnder (set s.words i n) y.holds) x.1 turn.under)
      (λ (x : (j ≢ id) × IsView s.views j u).
      under_set s.words i n u.holds fits
      (λ some_held. let a = both_least (held i) s.views id j v u at x.1 x.0 in let b = k.counts i turn.inside in turn.stays (omega arith))
      (k.generations j u x.1))
      (at_set s.views id j w u there)

  loans : (c : ℕ) → c < 8 → count (get_or (set s.words i n) c 0) ≡ get_or (set s.words i n) c 0
  loans c cell = dite (ℕ_discrete c i)
      (λ e. let x = get_or-set_same s.words i n 0 fits in subst (λ c. count (get_or (set s.words i n) c 0) ≡ get_or (set s.words i n) c 0) (sym e) (rw x (turn.loans (omega arith))))
      (λ ne. rw (get_or-set_other s.words i c n 0 ne) (k.loans c cell))

  lent : (c : ℕ) → c < 8 → get_or (set s.words i n) c 0 ≤ get_or t.lends c 0
  lent c cell = dite (ℕ_discrete c i)
      (λ e. subst (λ c. get_or (set s.words i n) c 0 ≤ get_or t.lends c 0) (sym e) (rw (get_or-set_same s.words i n 0 fits) (turn.lent (omega arith))))
      (λ ne. rw (get_or-set_other s.words i c n 0 ne) (k.lent c cell))

  only_mine : w.alone ≡ true → IsOnly (set s.words i n) (set s.views id w) w
  only_mine alone =
      let was = k.only id v at (turn.alone alone) in
      let place = place_of_one s.views id v v was.one at in record {
        one = subst (λ l. set l id w ≡ w ∷ []) (sym was.one) (subst (λ x. set (v ∷ []) x w ≡ w ∷ []) (sym place.0) refl);
        all = turn.long ∙ was.all ∙ sym (length-set s.words i n);
        each = λ j inside. dite (ℕ_discrete j i)
            (λ e. subst (λ x. get_or w.known x 0 ≡ generation (get_or (set s.words i n) x 0)) (sym e) (turn.knows alone ∙ ap generation (sym (get_or-set_same s.words i n 0 fits))))
            (λ ne. turn.knew j ne ∙ was.each j (let e = length-set s.words i n in omega arith) ∙ ap generation (sym (get_or-set_other s.words i j n 0 ne)));
      }

  only : (j : ℕ) (u : View) → IsView (set s.views id w) j u → u.alone ≡ true → IsOnly (set s.words i n) (set s.views id w) u
  only j u there alone = ⊎_elim
      (λ (x : (j ≡ id) × (w ≡ u)). subst (λ (y : View). IsOnly (set s.words i n) (set s.views id w) y) x.1 (only_mine (subst (λ (y : View). y.alone ≡ true) (sym x.1) alone)))
      (λ (x : (j ≢ id) × IsView s.views j u).
      let was = k.only j u x.1 alone in absurd (x.0 ((place_of_one s.views j u u was.one x.1).0 ∙ sym (place_of_one s.views id v u was.one at).0)))
      (at_set s.views id j w u there)

  pub turns : FrameRights t record { words = set s.words i n; homes = s.homes; views = set s.views id w }
  turns = record {
    whole = length-set s.words i n ∙ k.whole;
    counts = counts;
    generations = generations;
    loans = loans;
    lent = lent;
    only = only;
  }
