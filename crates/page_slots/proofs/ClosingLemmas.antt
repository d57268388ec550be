-- The last state: who has all lists knows each page's history.
use Rattle.std.proofs.Common.{◌≡◌, ◌≢◌, ℕ, zero, suc, ◌%◌, ◌<◌, ◌==◌, ◌&&◌, nat_lt, List, [], ◌∷◌, length, get_or, Option, Some, None, refl, sym, ap, ◌∙◌, subst, arith, eq-eqb, ne_eqb, true≢false, inl, inr, All}
use Rattle.std.proofs.lemmas.Bool.{lt-ltb, le-ltb, cases_lt}
use Rattle.std.specs.Prelude.{slice_get, unwrap_or, is_some}
use mathlib.Core.Logic.{dite}
use mathlib.Core.Option.{some, some-injective, some-ne-none}
use native.Mathlib.Decide.{ℕ_discrete}
use lib.ListN.{get_elem?}
use Rattle.std.proofs.lemmas.Option.{slice_get_within}
use Rattle.atomic_table.specs.Table.{State, Final, Seen}
use Rattle.page_slots.specs.Histories.{entry_of, of_caller, on_page, IsLegal}
use Rattle.page_slots.specs.Inside.{IsListOf, AreListsOf}
use Rattle.page_slots.specs.PageRule.{Slot, ByPage, Each, total, IsView, IsEntry, IsTrueList, IsHolder, PageRule}
use Rattle.page_slots.specs.Slots.{CallerState, MadeSlots, AreAll}
use Rattle.page_slots.specs.Closing.{IsHistoryOf, AreHistoriesOf, AreHome, AreTaken}
use Rattle.page_slots.specs.Views.{one_if, is_at, times_carried, times_at, times_listed, times_held, free_with}
use Rattle.page_slots.specs.declared.access.Entry.{Entry}
use Rattle.page_slots.specs.declared.protocol.Terms.{Terms}
use Rattle.page_slots.specs.declared.view.AccessList.{AccessList}
use Rattle.page_slots.specs.declared.view.HeldPage.{HeldPage}
use Rattle.page_slots.specs.declared.view.ListedAccess.{ListedAccess}
use Rattle.page_slots.specs.declared.view.View.{View}
use Rattle.page_slots.proofs.Counting.{one_here, one_else}
use Rattle.page_slots.proofs.Matching.{own_entries}
use Rattle.page_slots.proofs.Sums.{total_least, total_two, total_none}

-- where all other views have none, one has all
total_one : (f : View → ℕ) (vs : List View) (id : ℕ) (v : View) → IsView vs id v → ((j : ℕ) (u : View) → j ≢ id → IsView vs j u → f u ≡ 0) → total f vs ≡ f v
total_one f [] id v at none = absurd (some-ne-none v (sym at))
total_one f (x ∷ xs) zero v at none = let is : f x ≡ f v = ap f (some-injective x v at) in let rest = total_none f xs (λ j u there. none (suc j) u (λ e. omega arith) there) in omega arith
total_one f (x ∷ xs) (suc id) v at none = let first = none 0 x (λ e. omega arith) refl in let rest = total_one f xs id v at (λ j u ne there. none (suc j) u (λ e. ne (let same : j ≡ id = omega arith in same)) there) in omega arith

-- a number that is carried at some place
carried_at : (ls : List AccessList) (k c : ℕ) (l : AccessList) → get_elem? ls k ≡ some l → l.caller ≡ c → 0 < times_carried c ls
carried_at [] k c l at is = absurd (some-ne-none l (sym at))
carried_at (x ∷ xs) zero c l at is = let one = one_here x.caller c (ap (λ (y : AccessList). y.caller) (some-injective x l at) ∙ is) in omega arith
carried_at (x ∷ xs) (suc k) c l at is = let rest = carried_at xs k c l at is in omega arith

-- the list of a caller
list_at : (ls : List AccessList) (cs : List CallerState) (k : ℕ) (x : CallerState) → AreListsOf ls cs → slice_get cs k ≡ Some x → (l : AccessList) × (get_elem? ls k ≡ some l) × IsListOf l x
list_at [] [] k x are at = absurd (true≢false (sym (ap is_some at)))
list_at [] (c ∷ cs) k x are at = absurd are
list_at (l ∷ ls) [] k x are at = absurd are
list_at (l ∷ ls) (c ∷ cs) zero x are at = (l, refl, subst (IsListOf l) (ap (λ o. unwrap_or o x) at) are.0)
list_at (l ∷ ls) (c ∷ cs) (suc k) x are at = list_at ls cs k x are.1 at

caller_there : (cs : List CallerState) (k : ℕ) → k < length cs → (x : CallerState) × (slice_get cs k ≡ Some x)
caller_there [] k less = absurd (omega arith)
caller_there (c ∷ cs) zero less = (c, refl)
caller_there (c ∷ cs) (suc k) less = caller_there cs k (omega arith)

-- a list of another caller doesn't list this entry's place
none_at : (histories : ByPage) (p i c : ℕ) (e : Entry) (xs : List ListedAccess) → Each (IsEntry histories c) xs → get_elem? (histories p) i ≡ some e → e.caller ≢ c → times_at p i xs ≡ 0
none_at histories p i c e [] are at other = refl
none_at histories p i c e (x ∷ xs) are at other =
    let rest = none_at histories p i c e xs are.1 at other in
    let first : one_if (is_at p i x) ≡ 0 = dite (ℕ_discrete x.access.page.0 p)
    (λ on. dite (ℕ_discrete x.place i)
    (λ here. absurd (other (ap (λ (d : Entry). d.caller) (some-injective e (entry_of c x.access) (sym at ∙ ap (get_elem? (histories p)) (sym here) ∙ ap (λ q. get_elem? (histories q) x.place) (sym on) ∙ are.0)))))
    (λ apart. (λ k. one_if (eq-eqb x.access.page.0 p on k && ne_eqb x.place i apart k))))
    (λ off. ap (λ b. one_if (b && (x.place == i))) (ne_eqb x.access.page.0 p off)) in
    omega arith

-- a caller whose number isn't carried has no entry listed
none_listed : (histories : ByPage) (p i : ℕ) (e : Entry) (ls : List AccessList) → Each (IsTrueList histories) ls → get_elem? (histories p) i ≡ some e → times_carried e.caller ls ≡ 0 → times_listed p i ls ≡ 0
none_listed histories p i e [] are at none = refl
none_listed histories p i e (l ∷ ls) are at none =
    let rest = none_listed histories p i e ls are.1 at (omega arith) in
    let first = none_at histories p i l.caller e l.accesses are.0.1 at (λ same. let one = one_here l.caller e.caller (sym same) in omega arith) in
    omega arith

-- an entry is listed by its caller's list
own_listed : (histories : ByPage) (p i k : ℕ) (e : Entry) (l : AccessList) (ls : List AccessList) → Each (IsTrueList histories) ls → get_elem? (histories p) i ≡ some e → get_elem? ls k ≡ some l → l.caller ≡ e.caller
    → times_carried e.caller ls ≡ 1 → times_listed p i ls ≡ times_at p i l.accesses
own_listed histories p i k e l [] are at there is once = absurd (some-ne-none l (sym there))
own_listed histories p i zero e l (x ∷ xs) are at there is once =
    let same : x ≡ l = some-injective x l there in
    let one = one_here x.caller e.caller (ap (λ (y : AccessList). y.caller) same ∙ is) in
    let rest = none_listed histories p i e xs are.1 at (omega arith) in
    let own : times_at p i x.accesses ≡ times_at p i l.accesses = ap (λ (y : AccessList). times_at p i y.accesses) same in
    omega arith
own_listed histories p i (suc k) e l (x ∷ xs) are at there is once =
    let later = carried_at xs k e.caller l there is in
    let none : times_at p i x.accesses ≡ 0 = none_at histories p i x.caller e x.accesses are.0.1 at (λ same. let one = one_here x.caller e.caller (sym same) in omega arith) in
    let first : one_if (x.caller == e.caller) ≡ 0 = dite (ℕ_discrete x.caller e.caller) (λ same. absurd (let one = one_here x.caller e.caller same in omega arith)) (λ apart. one_else x.caller e.caller apart) in
    let rest = own_listed histories p i k e l xs are.1 at there is (omega arith) in
    omega arith

-- what stands at a place
item_at : {A : Type 0} (xs : List A) (i : ℕ) (d : A) → i < length xs → get_elem? xs i ≡ some (get_or xs i d)
item_at [] i d less = absurd (omega arith)
item_at (x ∷ xs) zero d less = refl
item_at (x ∷ xs) (suc i) d less = item_at xs i d (omega arith)

-- a fact of each item, from its places
all_from : {A : Type 0} (P : A → Type 0) (xs : List A) → ((i : ℕ) (x : A) → get_elem? xs i ≡ some x → P x) → All P xs
all_from P xs f i d less = f i (get_or xs i d) (item_at xs i d less)

list_in : {A : Type 0} (P : A → Type 0) (xs : List A) (i : ℕ) (x : A) → Each P xs → get_elem? xs i ≡ some x → P x
list_in P [] i x a at = absurd (some-ne-none x (sym at))
list_in P (y ∷ ys) zero x a at = subst P (some-injective y x at) a.0
list_in P (y ∷ ys) (suc i) x a at = list_in P ys i x a.1 at

at_there : {A : Type 0} (xs : List A) (i : ℕ) (x : A) → get_elem? xs i ≡ some x → i < length xs
at_there [] i x at = absurd (some-ne-none x (sym at))
at_there (y ∷ ys) zero x at = omega arith
at_there (y ∷ ys) (suc i) x at = let rest = at_there ys i x at in omega arith

module _ (t : Terms) (s : State Slot View) (k : PageRule t s) (id : ℕ) (lists : List AccessList) (at : IsView s.views id (free_with lists)) (callers : List CallerState) (are : AreListsOf lists callers)
    (count : length callers ≡ t.callers) (numbered : (c : ℕ) (x : CallerState) → slice_get callers c ≡ Some x → x.number ≡ c) where
  -- all numbers are carried here
  carried_here : (c : ℕ) → c < t.callers → 0 < times_carried c lists
  carried_here c less =
      let x = caller_there callers c (omega arith) in
      let l = list_at lists callers c x.0 are x.1 in
      carried_at lists c c l.0 l.1 (l.2.number ∙ numbered c x.0 x.1)

  -- all others carry none
  other_carries : (j : ℕ) (u : View) → j ≢ id → IsView s.views j u → (ls : List AccessList) → u.lists ≡ ls → ls ≡ []
  other_carries j u apart there [] is = refl
  other_carries j u apart there (l ∷ ls) is = absurd (
      let f = λ (v : View). times_carried l.caller v.lists in
      let one = one_here l.caller l.caller refl in
      let own : f u ≡ times_carried l.caller (l ∷ ls) = ap (times_carried l.caller) is in
      let least = total_least f s.views j u there in
      let two = total_two f s.views j id u (free_with lists) apart there at in
      let all = k.carried l.caller in
      elim (cases_lt l.caller t.callers) [
        | inl less ↦ let most : one_if (nat_lt l.caller t.callers) ≡ 1 = ap one_if (lt-ltb l.caller t.callers less) in let here = carried_here l.caller less in omega arith
        | inr more ↦ let most : one_if (nat_lt l.caller t.callers) ≡ 0 = ap one_if (le-ltb l.caller t.callers more) in omega arith
      ]
      )

  unlisted : (j : ℕ) (u : View) → j ≢ id → IsView s.views j u → u.lists ≡ []
  unlisted j u apart there = other_carries j u apart there u.lists refl

  unheld : (ls : List AccessList) (held : Option HeldPage) → ls ≡ [] → IsHolder k.histories ls held → (p : ℕ) → times_held p held ≡ 0
  unheld ls None none h p = refl
  unheld ls (Some x) none h p = absurd (let some_list = h.1 in let e : length ls ≡ 0 = ap length none in omega arith)

  -- nobody holds a page
  pub even : (p : ℕ) → get_or s.words p 0 % 2 ≡ 0
  even p =
      let f = λ (v : View). times_held p v.held in
      let none : total f s.views ≡ 0 = total_none f s.views (λ j u there. dite (ℕ_discrete j id)
      (λ same. ap f (some-injective u (free_with lists) (sym there ∙ ap (get_elem? s.views) same ∙ at)))
      (λ apart. unheld u.lists u.held (unlisted j u apart there) (k.views j u there).holder p)) in
      let held = k.held p in
      omega arith

  -- each place of a history is listed here
  listed_here : (p i : ℕ) → i < length (k.histories p) → times_listed p i lists ≡ 1
  listed_here p i less =
      let f = λ (v : View). times_listed p i v.lists in
      let all : total f s.views ≡ f (free_with lists) = total_one f s.views id (free_with lists) at (λ j u apart there. ap (times_listed p i) (unlisted j u apart there)) in
      let one = k.placed p i in
      let below : one_if (nat_lt i (length (k.histories p))) ≡ 1 = ap one_if (lt-ltb i (length (k.histories p)) less) in
      omega arith

  true_here : Each (IsTrueList k.histories) lists
  true_here = (k.views id (free_with lists) at).lists

  once_here : (c : ℕ) → c < t.callers → times_carried c lists ≡ 1
  once_here c less =
      let f = λ (v : View). times_carried c v.lists in
      let least = total_least f s.views id (free_with lists) at in
      let all = k.carried c in
      let most : one_if (nat_lt c t.callers) ≡ 1 = ap one_if (lt-ltb c t.callers less) in
      let here = carried_here c less in
      omega arith

  -- each entry is of one of the callers
  known_here : (p i : ℕ) (e : Entry) → get_elem? (k.histories p) i ≡ some e → e.caller < t.callers
  known_here p i e there = elim (cases_lt e.caller t.callers) [
    | inl less ↦ less
    | inr more ↦ absurd (
        let f = λ (v : View). times_carried e.caller v.lists in
        let least = total_least f s.views id (free_with lists) at in
        let all = k.carried e.caller in
        let most : one_if (nat_lt e.caller t.callers) ≡ 0 = ap one_if (le-ltb e.caller t.callers more) in
        let none = none_listed k.histories p i e lists true_here there (omega arith) in
        let one = listed_here p i (at_there (k.histories p) i e there) in
        omega arith
        )
  ]

  -- each caller's entries are its accesses to the page
  own_here : (p c : ℕ) (x : CallerState) → slice_get callers c ≡ Some x → of_caller x.number (k.histories p) ≡ on_page p x.mine
  own_here p c x there =
      let l = list_at lists callers c x are there in
      let rule = list_in (IsTrueList k.histories) lists c l.0 true_here l.1 in
      ap (λ n. of_caller n (k.histories p)) (sym l.2.number)
      ∙ own_entries k.histories p l.0.caller l.0.accesses rule.0 rule.1 (λ i e at_i mine.
      let one = listed_here p i (at_there (k.histories p) i e at_i) in
      let less = known_here p i e at_i in
      let own = own_listed k.histories p i c e l.0 lists true_here at_i l.1 (sym mine) (once_here e.caller less) in
      omega arith)
      ∙ ap (on_page p) l.2.mine

  pub history_here : (p : ℕ) → IsLegal (k.histories p) → IsHistoryOf callers p (k.histories p)
  history_here p legal = record {
    legal = legal;
    own = own_here p;
    known = all_from (λ (e : Entry). e.caller < length callers) (k.histories p) (λ i e there. let less = known_here p i e there in omega arith);
  }

  pub home_here : (p : ℕ) → p < t.pages → get_elem? s.homes p ≡ some (some (Some (k.histories p)))
  home_here p less = k.home p less (even p)

-- what the end of the table tells
abbrev Ends : Terms → ℕ → View → List ℕ → List Slot → Type 0
Ends t id v words slots = Final (Seen (PageRule t) id v) words slots

module _ (t : Terms) (made : MadeSlots) (callers : List CallerState) (id : ℕ) (v : View) (lists : List AccessList) (words : List ℕ) (slots : List Slot)
    (ends : Ends t id v words slots) (is : v ≡ free_with lists) (are : AreListsOf lists callers) (all : AreAll made callers) (same : made.callers ≡ t.callers) where
  last_at : IsView ends.0.views id (free_with lists)
  last_at = ends.1.1 ∙ ap some is

  numbered : (c : ℕ) (x : CallerState) → slice_get callers c ≡ Some x → x.number ≡ c
  numbered c x there = (all.each c x there).1

  histories : ByPage
  histories = ends.1.0.histories

  there_at : (p : ℕ) → p < t.pages → get_elem? slots p ≡ some (Some (histories p))
  unfolding histories
  there_at p less = ends.4 p (Some (histories p)) (home_here t ends.0 ends.1.0 id lists last_at callers are (all.count ∙ same) numbered p less)

  -- each page is at home
  pub all_home : AreHome t.pages slots
  all_home p less = (histories p, there_at p less)

  -- the histories are those of the callers
  pub all_told : (hs : List (List Entry)) → AreTaken slots hs → length hs ≡ t.pages → made.pages ≡ t.pages → AreHistoriesOf made callers hs
  unfolding histories
  all_told hs taken long pages = record {
    pages = long ∙ sym pages;
    each = λ p h there.
        let t_h = taken p h there in
        let less : p < t.pages = let inside = slice_get_within hs p h there in omega arith in
        let eq : histories p ≡ h = ap (λ o. unwrap_or o h) (some-injective (Some (histories p)) (Some h) (sym (there_at p less) ∙ t_h.0)) in
        subst (IsHistoryOf callers p) eq (history_here t ends.0 ends.1.0 id lists last_at callers are (all.count ∙ same) numbered p (subst IsLegal (sym eq) t_h.1));
  }
