-- The workers, their callers and their operations, by their places.
use Rattle.std.proofs.Common.{◌≡◌, ℕ, zero, suc, ◌<◌, List, [], ◌∷◌, ◌++◌, length, map, take, drop, get_or, All, Some, refl, sym, ap, ◌∙◌, subst, arith, true≢false, append_assoc}
use Rattle.std.proofs.lemmas.List.{map-append, append-nil, length-map, drop_all, take_all}
use Rattle.std.specs.Prelude.{slice_get, unwrap_or, is_some}
use Rattle.page_slots.specs.declared.access.Entry.{Entry}
use Rattle.page_slots.specs.declared.op.Op.{Op}
use Rattle.page_slots.specs.declared.op.Litmus.{Litmus}
use Rattle.page_slots.specs.Closing.{AreHistoriesOf}
use Rattle.page_slots.specs.Histories.{of_caller}
use Rattle.page_slots.specs.Litmus.{AreMade, ops_on, IsOp, IsLitmus, IsOutcome}
use Rattle.page_slots.specs.Making.{AreFresh}
use Rattle.page_slots.specs.Slots.{MadeSlots, CallerState, AreAll}
use Rattle.litmus_run.specs.Workers.{caller_of, ops_of, IsReady, Works, AreDone}
use Rattle.litmus_run.specs.declared.workers.Worker.{Worker}
use Rattle.litmus_run.proofs.MadeLemmas.{made-on}

-- one item more came
pub came : {A B : Type 0} (f : A → B) (ws ws' : List A) (w : A) (x : B) (before after all : List B) → map f ws ++ before ≡ all → before ≡ x ∷ after → ws' ≡ ws ++ w ∷ [] → f w ≡ x → map f ws' ++ after ≡ all
came f ws ws' w x before after all so_far first is own =
    ap (λ l. map f l ++ after) is ∙ ap (λ l. l ++ after) (map-append f ws (w ∷ [])) ∙ append_assoc (map f ws) (f w ∷ []) after ∙ (λ i. map f ws ++ own i ∷ after) ∙ ap (λ l. map f ws ++ l) (sym first) ∙ so_far

none_left : {A : Type 0} (xs : List A) → length xs ≡ 0 → xs ≡ []
none_left [] e = refl
none_left (x ∷ xs) e = absurd (omega arith)

-- all came
pub all_came : {A B : Type 0} (f : A → B) (ws : List A) (left all : List B) → map f ws ++ left ≡ all → length left ≡ 0 → map f ws ≡ all
all_came f ws left all so_far none = sym (append-nil (map f ws)) ∙ ap (λ l. map f ws ++ l) (sym (none_left left none)) ∙ so_far

module _ {A : Type 0} where
  -- what stands at a place
  pub got : (l : List A) (k : ℕ) (d : A) → k < length l → slice_get l k ≡ Some (get_or l k d)
  got [] k d less = absurd (omega arith)
  got (y ∷ ys) zero d less = refl
  got (y ∷ ys) (suc k) d less = got ys k d (omega arith)

  pub got_is : (l : List A) (k : ℕ) (d x : A) → slice_get l k ≡ Some x → get_or l k d ≡ x
  got_is [] k d x e = absurd (true≢false (sym (ap is_some e)))
  got_is (y ∷ ys) zero d x e = ap (λ o. unwrap_or o x) e
  got_is (y ∷ ys) (suc k) d x e = got_is ys k d x e

  pub got_less : (l : List A) (k : ℕ) (x : A) → slice_get l k ≡ Some x → k < length l
  got_less [] k x e = absurd (true≢false (sym (ap is_some e)))
  got_less (y ∷ ys) zero x e = omega arith
  got_less (y ∷ ys) (suc k) x e = let rest = got_less ys k x e in omega arith

  pub got-map : {B : Type 0} (f : A → B) (l : List A) (k : ℕ) (x : B) → slice_get (map f l) k ≡ Some x → (w : A) × (slice_get l k ≡ Some w) × (f w ≡ x)
  got-map f [] k x e = absurd (true≢false (sym (ap is_some e)))
  got-map f (y ∷ ys) zero x e = (y, refl, ap (λ o. unwrap_or o x) e)
  got-map f (y ∷ ys) (suc k) x e = got-map f ys k x e

  pub map-got : {B : Type 0} (f : A → B) (l : List A) (k : ℕ) (w : A) → slice_get l k ≡ Some w → slice_get (map f l) k ≡ Some (f w)
  map-got f [] k w e = absurd (true≢false (sym (ap is_some e)))
  map-got f (y ∷ ys) zero w e = ap (λ o. Some (f (unwrap_or o w))) e
  map-got f (y ∷ ys) (suc k) w e = map-got f ys k w e

-- before and after all work
module _ (litmus : Litmus) (is_litmus : IsLitmus litmus) (slots : MadeSlots) (made : List CallerState) (fresh : AreFresh slots litmus.pages (length litmus.callers) made) (ws : List Worker)
    (callers : map caller_of ws ≡ made) (ops : map ops_of ws ≡ litmus.callers) where
  -- what is at a worker's place
  caller_at : (i : ℕ) (w : Worker) → slice_get ws i ≡ Some w → slice_get made i ≡ Some w.caller
  caller_at i w there = ap (λ l. slice_get l i) (sym callers) ∙ map-got caller_of ws i w there

  ops_at : (i : ℕ) (w : Worker) → slice_get ws i ≡ Some w → slice_get litmus.callers i ≡ Some w.ops
  ops_at i w there = ap (λ l. slice_get l i) (sym ops) ∙ map-got ops_of ws i w there

  count : length ws ≡ length litmus.callers
  count = sym (length-map ws ops_of) ∙ ap length ops

  -- all are ready
  pub all_ready : (i : ℕ) (d : Worker) → i < length ws → IsReady slots (get_or ws i d)
  all_ready i d less =
      let w = get_or ws i d in
      let there = got ws i d less in
      let mine = fresh.all.each i w.caller (caller_at i w there) in
      let at = ops_at i w there in record {
        made = mine.0;
        fresh = fresh.none i w.caller (caller_at i w there);
        ops = subst (λ n. All (IsOp n) w.ops) (sym fresh.pages_are) (subst (λ (l : List Op). All (IsOp litmus.pages) l) (got_is litmus.callers i w.ops w.ops at) (is_litmus.ops i w.ops (got_less litmus.callers i w.ops at)));
      }

  module _ (ws' : List Worker) (works : (i : ℕ) (d : Worker) → i < length ws → Works (get_or ws i d) (get_or ws' i d)) (same : length ws' ≡ length ws) where
    -- a worker before
    was_at : (i : ℕ) (w : Worker) → slice_get ws' i ≡ Some w → (v : Worker) × (slice_get ws i ≡ Some v) × Works v w
    was_at i w there =
        let less : i < length ws = let inside = got_less ws' i w there in omega arith in
        let v = get_or ws i w in
        (v, got ws i w less, subst (Works v) (got_is ws' i w w there) (works i w less))

    -- the callers are still all
    pub still_all : (made' : List CallerState) → made' ≡ map caller_of ws' → AreAll slots made'
    still_all made' are = record {
      count = ap length are ∙ length-map ws' caller_of ∙ same ∙ count ∙ sym fresh.callers_are;
      each = λ c x there.
          let w = got-map caller_of ws' c x (ap (λ l. slice_get l c) (sym are) ∙ there) in
          let v = was_at c w.0 w.1 in
          let mine = fresh.all.each c v.0.caller (caller_at c v.0 v.1) in
          (ap (λ (y : CallerState). y.slots) (sym w.2) ∙ v.2.stays.0 ∙ mine.0, ap (λ (y : CallerState). y.number) (sym w.2) ∙ v.2.stays.1 ∙ mine.1);
    }

    -- the histories are an outcome
    pub outcome : (made' : List CallerState) (histories : List (List Entry)) → made' ≡ map caller_of ws' → AreDone ws' → AreHistoriesOf slots made' histories → IsOutcome litmus histories
    outcome made' histories are done told = record {
      pages = told.pages ∙ fresh.pages_are;
      each = λ p h there.
          let one = told.each p h there in record {
            legal = one.legal;
            own = λ c os asked.
                let w0 = got-map ops_of ws c os (ap (λ l. slice_get l c) ops ∙ asked) in
                let less : c < length ws' = let inside = got_less ws c w0.0 w0.1 in omega arith in
                let w = get_or ws' c w0.0 in
                let there' = got ws' c w0.0 less in
                let v = was_at c w there' in
                let mine = fresh.all.each c v.0.caller (caller_at c v.0 v.1) in
                let at : slice_get made' c ≡ Some w.caller = ap (λ l. slice_get l c) are ∙ map-got caller_of ws' c w there' in
                let finished = done c w less in
                let is_done = ap (λ (y : Worker). y.done) (sym (got_is ws' c w w there')) ∙ finished in
                let all_made = v.2.made is_done in
                let own = one.own c w.caller at in
                let number : w.caller.number ≡ c = v.2.stays.1 ∙ mine.1 in
                let asked' : w.ops ≡ os = v.2.ops ∙ ap ops_of (sym (got_is ws c v.0 v.0 v.1) ∙ got_is ws c v.0 w0.0 w0.1) ∙ w0.2 in
                subst (λ (l : List Op). AreMade (ops_on p l) (of_caller c h)) asked'
                (subst (λ l. AreMade (ops_on p w.ops) l) (sym own ∙ ap (λ n. of_caller n h) number) (made-on p w.ops w.caller.mine all_made));
            known = subst (λ n. All (λ (e : Entry). e.caller < n) h) (ap length are ∙ length-map ws' caller_of ∙ same ∙ count) one.known;
          };
    }

-- what all of a list became is all of it
pub kept : {A : Type 0} (len : ℕ) (was now : List A) → length was ≡ len → length now ≡ length was → take len (now ++ drop (length now) was) ≡ now
kept len was now long same =
    ap (λ l. take len (now ++ l)) (drop_all (length now) was (omega arith)) ∙ ap (take len) (append-nil now) ∙ take_all len now (omega arith)
