-- Each kind of step keeps the rights rule.
use Rattle.std.proofs.Common.{◌≡◌, ◌≢◌, ℕ, ◌+◌, ◌-◌, ◌%◌, ◌⊎◌, ⊎_elim, ◌<◌, ◌≤◌, ◌==◌, if◌then◌else◌, true, List, [], ◌∷◌, length, set, get_or, refl, sym, ap, ◌∙◌, subst, arith, length-set, get_or-set_same, get_or-set_other}
use Rattle.std.specs.Prelude.{Contains}
use mathlib.Core.Option.{none}
use prog.Atomic.{either}
use Rattle.atomic_table.specs.Table.{State, Act, keeps, step, stepped, Valid, carried_after, Allows}
use Rattle.frame_words.specs.FrameWords.{count, generation}
use Rattle.frame_words.specs.Views.{hold, held, without, seeing, holding, dropping, OneGeneration}
use Rattle.frame_words.specs.FrameRights.{total, IsView, FrameRights}
use Rattle.frame_words.specs.Steps.{Own, Fits, taken, Tells, Loaded, Taken, Added, Given}
use Rattle.frame_words.specs.declared.view.Look.{Look}
use Rattle.frame_words.specs.declared.view.View.{View}
use Rattle.frame_words.specs.declared.view.StepKind.{StepKind}
use Rattle.frame_words.specs.declared.view.StepKind.TheVariants.{Load, Share, Borrow}
use Rattle.frame_words.specs.declared.terms.Terms.{Terms}
use Rattle.frame_words.proofs.WordLemmas.{count-more, generation-more, count-next, less, count-less, generation-less, count-small}
use Rattle.frame_words.proofs.Bags.{by_word, times-here, times-else, without_here, without_else, under_without, under_at, under_set, one_under, contains_held, total_least}
use Rattle.frame_words.proofs.Turns.{Turn, turns}

-- what a view knows of the number at a word
pub fits_of : (t : Terms) (s : State (Unit {0}) View) (id i : ℕ) (v : View) → FrameRights t s → IsView s.views id v → i < t.frames + 8 → get_or s.words i 0 < 18446744073709551616 → Fits v i (get_or s.words i 0)
fits_of t s id i v k at inside range = record {
  range = range;
  least = let a = total_least (held i) s.views id v at in let b = k.counts i inside in omega arith;
  all = λ alone. let b = k.counts i inside in let o = (k.only id v at alone).one in let e : total (held i) s.views ≡ total (held i) (v ∷ []) = ap (total (held i)) o in omega arith;
  known = λ alone. (k.only id v at alone).each i (let e = k.whole in omega arith);
  agrees = λ own c. under_at s.words v.holds c.0 (hold i own) (k.generations id v at) c.1 c.2;
}

-- the view after a step holds no word under two generations
one_kept : (t : Terms) (s : State (Unit {0}) View) (i n : ℕ) (v w : View) → Turn t s.words i n v w → OneGeneration w.holds
one_kept t s i n v w turn = one_under (set s.words i n) w.holds turn.under

-- the step changes no word
idle : (t : Terms) (s : State (Unit {0}) View) (id i : ℕ) (v : View) (ls : List Look) → FrameRights t s → IsView s.views id v → i < t.frames + 8 → Turn t s.words i (get_or s.words i 0) v (record v { looks = ls })
idle t s id i v ls k at inside = record {
  inside = inside;
  sum = refl;
  others = λ j ne. refl;
  stays = λ _. refl;
  under = under_set s.words i (get_or s.words i 0) v.holds (let e = k.whole in omega arith) (λ _. refl) (k.generations id v at);
  loans = λ cell. k.loans i cell;
  lent = λ cell. k.lent i cell;
  alone = λ a. a;
  long = refl;
  knows = λ a. (k.only id v at a).each i (let e = k.whole in omega arith);
  knew = λ j ne. refl;
}

-- the step adds a hold, under the generation of the number that it leaves
adds : (t : Terms) (s : State (Unit {0}) View) (id i n : ℕ) (v : View) (ls : List Look) (ks : List ℕ) → FrameRights t s → IsView s.views id v → i < t.frames + 8
    → count n ≡ count (get_or s.words i 0) + 1 → (0 < count (get_or s.words i 0) → generation n ≡ generation (get_or s.words i 0))
    → (i < 8 → count n ≡ n) → (i < 8 → n ≤ get_or t.lends i 0)
    → length ks ≡ length v.known → (v.alone ≡ true → get_or ks i 0 ≡ generation n) → ((j : ℕ) → j ≢ i → get_or ks j 0 ≡ get_or v.known j 0)
    → Turn t s.words i n v (record { holds = hold i (generation n) ∷ v.holds; alone = v.alone; known = ks; looks = ls })
adds t s id i n v ls ks k at inside more stays loans lent long knows knew = record {
  inside = inside;
  sum = let h = times-here i (generation n) v.holds in omega arith;
  others = λ j ne. times-else i j (generation n) v.holds ne;
  stays = stays;
  under = (
    ap generation (sym (get_or-set_same s.words i n 0 within)),
    under_set s.words i n v.holds within (λ some_held. stays (let a = total_least (held i) s.views id v at in let b = k.counts i inside in omega arith)) (k.generations id v at),
  );
  loans = loans;
  lent = lent;
  alone = λ a. a;
  long = long;
  knows = knows;
  knew = knew;
}
  where
    within : i < length s.words
    within = let e = k.whole in omega arith

-- the step ends a hold
ends : (t : Terms) (s : State (Unit {0}) View) (id i : ℕ) (v : View) (ls : List Look) → FrameRights t s → IsView s.views id v → i < t.frames + 8 → 0 < held i v
    → Turn t s.words i (get_or s.words i 0 - 1) v (record { holds = without i v.holds; alone = v.alone; known = v.known; looks = ls })
ends t s id i v ls k at inside has = record {
  inside = inside;
  sum = let a = without_here i v.holds has in let b = count-less (get_or s.words i 0) some_held in omega arith;
  others = λ j ne. without_else i j v.holds ne;
  stays = λ _. generation-less (get_or s.words i 0) some_held;
  under = under_set s.words i (get_or s.words i 0 - 1) (without i v.holds) within (λ _. generation-less (get_or s.words i 0) some_held) (under_without s.words i v.holds (k.generations id v at));
  loans = λ cell. let a = k.loans i cell in omega arith;
  lent = λ cell. let a = k.lent i cell in omega arith;
  alone = λ a. a;
  long = refl;
  knows = λ a. (k.only id v at a).each i within ∙ sym (generation-less (get_or s.words i 0) some_held);
  knew = λ j ne. refl;
}
  where
    within : i < length s.words
    within = let e = k.whole in omega arith

    some_held : 0 < count (get_or s.words i 0)
    some_held = let a = total_least (held i) s.views id v at in let b = k.counts i inside in omega arith

pub loads : (t : Terms) (slots id : ℕ) (me : Own) (i : ℕ) → i < t.frames + 8 → Allows (FrameRights t) slots id me i (λ n. n) (Loaded (step slots i 0 0 none) me)
loads t slots id me i inside s k homes at range =
    let n = get_or s.words i 0 in
    let w = seeing me.0 Load i n in
    let turn = idle t s id i me.0 w.looks k at inside in
    (w, keeps, tt, turns t s id i n me.0 w k at turn, (refl, fits_of t s id i me.0 k at inside range, one_kept t s i n me.0 w turn))

-- a step that tells its view after and the number found
abbrev Steps : Terms → State (Unit {0}) View → ℕ → Own → ℕ → ℕ → View → Type 0
Steps t s id me i n w = (v : View) × (a : Act (Unit {0})) × Valid s.homes me.1 a × FrameRights t (stepped s i n id me.1 v a) × Tells w (step 0 i 0 0 none) me (get_or s.words i 0) (v, carried_after me.1 a)

-- an exchange: what it does where it finds the word that it expects
exchanges : (t : Terms) (s : State (Unit {0}) View) (id : ℕ) (me : Own) (i old new : ℕ) (w : View) → FrameRights t s → IsView s.views id me.0 → i < t.frames + 8 → get_or s.words i 0 < 18446744073709551616
    → (get_or s.words i 0 ≡ old → Turn t s.words i new me.0 w)
    → Steps t s id me i (either (get_or s.words i 0 == old) new (get_or s.words i 0)) (if get_or s.words i 0 == old then w else seeing me.0 Load i (get_or s.words i 0))
exchanges t s id me i old new w k at inside range hit =
    let n = get_or s.words i 0 in
    let f = fits_of t s id i me.0 k at inside range in
    let missed = seeing me.0 Load i n in
    by_word (λ b. Steps t s id me i (either b new n) (if b then w else missed)) n old
    (λ e. (w, keeps, tt, turns t s id i new me.0 w k at (hit e), (refl, f, one_kept t s i new me.0 w (hit e))))
    (λ ne. let turn = idle t s id i me.0 missed.looks k at inside in (missed, keeps, tt, turns t s id i n me.0 missed k at turn, (refl, f, one_kept t s i n me.0 missed turn)))

-- a take, of a frame that is free
pub takes : (t : Terms) (slots id : ℕ) (me : Own) (i old : ℕ) → i < t.frames + 8 → 8 ≤ i → count old ≡ 0
    → Allows (FrameRights t) slots id me i (λ n. either (n == old) (old + 4294967297) n) (Taken (step slots i old (old + 4294967297) none) me)
takes t slots id me i old inside frame unheld s k homes at range =
    let n = get_or s.words i 0 in
    let new = old + 4294967297 in
    let w = taken me.0 i n (generation new) in
    let whole = k.whole in
    exchanges t s id me i old new w k at inside range
    (λ e. let new_count = count-next old unheld in adds t s id i new me.0 w.looks w.known k at inside
    (let c : count n ≡ count old = ap count e in omega arith)
    (λ any. absurd (let c : count n ≡ count old = ap count e in omega arith))
    (λ cell. absurd (omega arith))
    (λ cell. absurd (omega arith))
    (length-set me.0.known i (generation new))
    (λ a. let o = k.only id me.0 at a in get_or-set_same me.0.known i (generation new) 0 (let all = o.all in omega arith))
    (λ j ne. get_or-set_other me.0.known i j (generation new) 0 ne))

-- a share, of a frame that is held
pub shares : (t : Terms) (slots id : ℕ) (me : Own) (i old : ℕ) → i < t.frames + 8 → 8 ≤ i → count old < 4294967295
    → Allows (FrameRights t) slots id me i (λ n. either (n == old) (old + 1) n) (Added Share (step slots i old (old + 1) none) me)
shares t slots id me i old inside frame room s k homes at range =
    let n = get_or s.words i 0 in
    let w = holding (seeing me.0 Share i n) i (generation (old + 1)) in
    let whole = k.whole in
    exchanges t s id me i old (old + 1) w k at inside range
    (λ e. let g : generation (old + 1) ≡ generation n = generation-more old room ∙ ap generation (sym e) in
    adds t s id i (old + 1) me.0 w.looks me.0.known k at inside
    (count-more old room ∙ ap (λ x. count x + 1) (sym e))
    (λ any. g)
    (λ cell. absurd (omega arith))
    (λ cell. absurd (omega arith))
    refl
    (λ a. (k.only id me.0 at a).each i (omega arith) ∙ sym g)
    (λ j ne. refl))

-- a borrow, of a cell that lends more
pub borrows : (t : Terms) (slots id : ℕ) (me : Own) (i old : ℕ) → i < 8 → old < get_or t.lends i 0 → old < 4294967295
    → Allows (FrameRights t) slots id me i (λ n. either (n == old) (old + 1) n) (Added Borrow (step slots i old (old + 1) none) me)
borrows t slots id me i old cell below small s k homes at range =
    let n = get_or s.words i 0 in
    let w = holding (seeing me.0 Borrow i n) i (generation (old + 1)) in
    let whole = k.whole in
    let inside : i < t.frames + 8 = omega arith in
    let room : count old < 4294967295 = omega arith in
    exchanges t s id me i old (old + 1) w k at inside range
    (λ e. let g : generation (old + 1) ≡ generation n = generation-more old room ∙ ap generation (sym e) in
    adds t s id i (old + 1) me.0 w.looks me.0.known k at inside
    (count-more old room ∙ ap (λ x. count x + 1) (sym e))
    (λ any. g)
    (λ _. count-small (old + 1) (omega arith))
    (λ _. omega arith)
    refl
    (λ a. (k.only id me.0 at a).each i (omega arith) ∙ sym g)
    (λ j ne. refl))

-- a subtraction of one, by a holder that holds the word
pub gives : (t : Terms) (slots id : ℕ) (me : Own) (kind : StepKind) (i : ℕ) → i < t.frames + 8 → 0 < held i me.0
    → Allows (FrameRights t) slots id me i (λ n. (n + (18446744073709551616 - 1)) % 18446744073709551616) (Given kind (step slots i 1 0 none) me)
gives t slots id me kind i inside has s k homes at range =
    let n = get_or s.words i 0 in
    let w = dropping (seeing me.0 kind i n) i in
    let f = fits_of t s id i me.0 k at inside range in
    let turn = ends t s id i me.0 w.looks k at inside has in
    let some_held : 0 < count n = let l = f.least in omega arith in (
      w,
      keeps,
      tt,
      subst (λ x. FrameRights t (stepped s i x id me.1 w keeps)) (sym (less n some_held range)) (turns t s id i (n - 1) me.0 w k at turn),
      (refl, f, one_kept t s i (n - 1) me.0 w turn),
    )

-- a load of a cell's word, which tells that it is at most the lend
pub loads_loans : (t : Terms) (slots id : ℕ) (me : Own) (i most : ℕ) → i < 8 → get_or t.lends i 0 ≡ most
    → Allows (FrameRights t) slots id me i (λ n. n) (λ n m'. Loaded (step slots i 0 0 none) me n m' × (n ≤ most))
loads_loans t slots id me i most cell is s k homes at range =
    let inside : i < t.frames + 8 = omega arith in
    let w = seeing me.0 Load i (get_or s.words i 0) in
    let below = k.lent i cell in
    let turn = idle t s id i me.0 w.looks k at inside in
    (w, keeps, tt, turns t s id i (get_or s.words i 0) me.0 w k at turn, ((refl, fits_of t s id i me.0 k at inside range, one_kept t s i (get_or s.words i 0) me.0 w turn), omega arith))

-- a view that holds the word under this generation finds it so
pub foreign_of : (v : View) (i n under : ℕ) → Fits v i n → (count n ≡ 0) ⊎ (generation n ≢ under) → Contains v.holds (hold i under) → ⊥
foreign_of v i n under f gone own = ⊎_elim
    (λ (none : count n ≡ 0). let h = contains_held i under v.holds own in let l = f.least in omega arith)
    (λ (other : generation n ≢ under). other (sym (f.agrees under own)))
    gone
