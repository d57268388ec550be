-- A holder that is cut in two, and one that ends in another, keep the rights rule.
use Rattle.std.proofs.Common.{◌≡◌, ◌≢◌, ℕ, suc, ◌+◌, ◌<◌, ◌≤◌, true, false, true≢false, List, [], ◌∷◌, set, sym, ap, ◌∙◌, subst, ⊎_elim, arith}
use Rattle.std.specs.Prelude.{All, Contains}
use Rattle.std.proofs.lemmas.List.Elements.{All-contains_itself}
use mathlib.Core.Logic.{dite}
use native.Mathlib.Decide.{ℕ_discrete}
use Rattle.atomic_table.specs.Table.{State, Splits, Joins}
use Rattle.atomic_table.proofs.Lists.{at_set, at_snoc}
use Rattle.frame_words.specs.Views.{hold, times, held, without, OneGeneration, KeepsRest}
use Rattle.frame_words.specs.FrameRights.{AreUnder, IsView, FrameRights}
use Rattle.frame_words.specs.Steps.{without_all, left_with, begun_with, joined}
use Rattle.frame_words.specs.Splits.{HasHolds}
use Rattle.frame_words.specs.declared.view.Hold.{Hold}
use Rattle.frame_words.specs.declared.view.View.{View}
use Rattle.frame_words.specs.declared.terms.Terms.{Terms}
use Rattle.frame_words.proofs.Bags.{times-here, times-else, without_here, without_else, under_without, under_at, contains_without, held_contains, one_among, total_set, total-snoc}
use Rattle.frame_words.proofs.Turns.{place_of_one}

-- what is named less the first of it is among the holds without that
named_less : (g : Hold) (gone hs : List Hold) → ((j : ℕ) → times j (g ∷ gone) ≤ times j hs) → (j : ℕ) → times j gone ≤ times j (without g.word hs)
named_less g gone hs often j =
    let o = often j in
    dite (ℕ_discrete j g.word)
    (λ e. let h = times-here g.word g.generation gone in let o' = often g.word in let w = without_here g.word hs (omega arith) in subst (λ x. times x gone ≤ times x (without g.word hs)) (sym e) (omega arith))
    (λ ne. let h = times-else g.word j g.generation gone ne in let w = without_else g.word j hs ne in omega arith)

pub times-without_all : (gone hs : List Hold) (i : ℕ) → ((j : ℕ) → times j gone ≤ times j hs) → times i (without_all gone hs) + times i gone ≡ times i hs
times-without_all [] hs i often = omega arith
times-without_all (g ∷ gone) hs i often =
    let rest = times-without_all gone (without g.word hs) i (named_less g gone hs often) in
    dite (ℕ_discrete i g.word)
    (λ e. let h = times-here g.word g.generation gone in let o' = often g.word in let w = without_here g.word hs (omega arith) in
    let h' = subst (λ x. times x (g ∷ gone) ≡ times x gone + 1) (sym e) h in let w' = subst (λ x. times x (without g.word hs) + 1 ≡ times x hs) (sym e) w in omega arith)
    (λ ne. let h = times-else g.word i g.generation gone ne in let w = without_else g.word i hs ne in omega arith)

under_without_all : (ws : List ℕ) (gone hs : List Hold) → AreUnder ws hs → AreUnder ws (without_all gone hs)
under_without_all ws [] hs u = u
under_without_all ws (g ∷ gone) hs u = under_without_all ws gone (without g.word hs) (under_without ws g.word hs u)

under_part : (ws : List ℕ) (hs gone : List Hold) → AreUnder ws hs → All (Contains hs) gone → AreUnder ws gone
under_part ws hs [] u among = tt
under_part ws hs (g ∷ gone) u among =
    let here = among 0 g (omega arith) in
    (under_at ws hs here.0 g u here.1 here.2, under_part ws hs gone u (λ k d within. among (suc k) d (omega arith)))

-- what is left of holds is among them
pub left_among : (gone hs : List Hold) (x : Hold) → Contains (without_all gone hs) x → Contains hs x
left_among [] hs x c = c
left_among (g ∷ gone) hs x c = contains_without g.word hs x (left_among gone (without g.word hs) x c)

-- what stays when holds go
pub keeps_rest : (v : View) (gone : List Hold) (w : View) → OneGeneration v.holds → ((word : ℕ) → times word gone ≤ held word v) → w.holds ≡ without_all gone v.holds → KeepsRest v gone w
keeps_rest v gone w one few is = record {
  often = λ word. ap (λ hs. times word hs + times word gone) is ∙ times-without_all gone v.holds word few;
  among = subst (λ hs. All (Contains v.holds) hs) (sym is) (λ k d within. left_among gone v.holds _ (All-contains_itself (without_all gone v.holds) k d within));
  stays = λ word under less own. subst (λ hs. Contains hs (hold word under)) (sym is)
      (let rest = times-without_all gone v.holds word few in
      let some = held_contains word (without_all gone v.holds) (omega arith) in
      subst (λ g. Contains (without_all gone v.holds) (hold word g)) (one word some.0 under (left_among gone v.holds (hold word some.0) some.1) own) some.1);
}

-- the word of one hold stands among it once, and no other
pub times_least : (i g : ℕ) (v : View) → 0 < held i v → (word : ℕ) → times word (hold i g ∷ []) ≤ held word v
times_least i g v some word = dite (ℕ_discrete word i)
    (λ e. subst (λ k. times k (hold i g ∷ []) ≤ held k v) (sym e) (let one = times-here i g [] in omega arith))
    (λ ne. let none = times-else i word g [] ne in omega arith)

-- neither what stays nor what goes has a word under two generations
pub one_left : (gone hs : List Hold) → OneGeneration hs → OneGeneration (without_all gone hs)
one_left gone hs one = one_among hs (without_all gone hs) (λ k d within. left_among gone hs _ (All-contains_itself (without_all gone hs) k d within)) one

-- a view that is not alone is not the only one
not_alone : (v : View) {X : Type 0} → v.alone ≡ false → v.alone ≡ true → X
not_alone v off on = absurd (true≢false (sym on ∙ off))

-- where one view is alone, no other stands at another place
no_other : (t : Terms) (s : State (Unit {0}) View) (i j : ℕ) (u v : View) {X : Type 0} → FrameRights t s → IsView s.views j u → u.alone ≡ true → IsView s.views i v → j ≢ i → X
no_other t s i j u v k there alone at apart = let was = k.only j u there alone in absurd (apart ((place_of_one s.views j u u was.one there).0 ∙ sym (place_of_one s.views i v u was.one at).0))

pub splits : (t : Terms) (id : ℕ) (v : View) (gone : List Hold) → HasHolds v gone → Splits (FrameRights t) id v (left_with gone v) (begun_with gone)
splits t id v gone has s k at =
    let left = left_with gone v in
    let right = begun_with gone in
    let cut = set s.views id left in record {
      whole = k.whole;
      counts = λ i inside.
          let a = total_set (held i) s.views id v left at in
          let b = total-snoc (held i) cut right in
          let c = k.counts i inside in
          let d = times-without_all gone v.holds i has.often in omega arith;
      generations = λ j u there. ⊎_elim
          (λ (x : IsView cut j u). ⊎_elim
          (λ (y : (j ≡ id) × (left ≡ u)). subst (λ (z : View). AreUnder s.words z.holds) y.1 (under_without_all s.words gone v.holds (k.generations id v at)))
          (λ (y : (j ≢ id) × IsView s.views j u). k.generations j u y.1)
          (at_set s.views id j left u x))
          (λ (x : right ≡ u). subst (λ (z : View). AreUnder s.words z.holds) x (under_part s.words v.holds gone (k.generations id v at) has.under))
          (at_snoc cut right u j there);
      loans = k.loans;
      lent = k.lent;
      only = λ j u there alone. ⊎_elim
          (λ (x : IsView cut j u). ⊎_elim
          (λ (y : (j ≡ id) × (left ≡ u)). not_alone u (ap (λ (z : View). z.alone) (sym y.1)) alone)
          (λ (y : (j ≢ id) × IsView s.views j u). no_other t s id j u v k y.1 alone at y.0)
          (at_set s.views id j left u x))
          (λ (x : right ≡ u). not_alone u (ap (λ (z : View). z.alone) (sym x)) alone)
          (at_snoc cut right u j there);
    }

pub joins : (t : Terms) (id : ℕ) (v : View) (other : ℕ) (w : View) → w.holds ≡ [] → Joins (FrameRights t) id v other w (joined v) (begun_with [])
joins t id v other w none s k at apart there =
    let both = joined v in
    let one = set s.views id both in
    let was : IsView s.views other w = ⊎_elim (λ (x : (other ≡ id) × (both ≡ w)). absurd (apart x.0)) (λ (x : (other ≢ id) × IsView s.views other w). x.1) (at_set s.views id other both w there) in record {
      whole = k.whole;
      counts = λ i inside.
          let a = total_set (held i) s.views id v both at in
          let b = total_set (held i) one other w (begun_with []) there in
          let c = k.counts i inside in
          let d : held i w ≡ 0 = ap (times i) none in omega arith;
      generations = λ j u place. ⊎_elim
          (λ (x : (j ≡ other) × (begun_with [] ≡ u)). subst (λ (z : View). AreUnder s.words z.holds) x.1 tt)
          (λ (x : (j ≢ other) × IsView one j u). ⊎_elim
          (λ (y : (j ≡ id) × (both ≡ u)). subst (λ (z : View). AreUnder s.words z.holds) y.1 (k.generations id v at))
          (λ (y : (j ≢ id) × IsView s.views j u). k.generations j u y.1)
          (at_set s.views id j both u x.1))
          (at_set one other j (begun_with []) u place);
      loans = k.loans;
      lent = k.lent;
      only = λ j u place alone. ⊎_elim
          (λ (x : (j ≡ other) × (begun_with [] ≡ u)). not_alone u (ap (λ (z : View). z.alone) (sym x.1)) alone)
          (λ (x : (j ≢ other) × IsView one j u). ⊎_elim
          (λ (y : (j ≡ id) × (both ≡ u)). no_other t s other id v w k at (ap (λ (z : View). z.alone) y.1 ∙ alone) was (λ e. apart (sym e)))
          (λ (y : (j ≢ id) × IsView s.views j u). no_other t s id j u v k y.1 alone at y.0)
          (at_set s.views id j both u x.1))
          (at_set one other j (begun_with []) u place);
    }
