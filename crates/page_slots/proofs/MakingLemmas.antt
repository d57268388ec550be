-- The first state of new slots, and the callers that are cut off.
use Rattle.std.proofs.Common.{◌≡◌, ℕ, zero, suc, ◌+◌, ◌-◌, ◌<◌, ◌≤◌, nat_lt, List, [], ◌∷◌, ◌++◌, length, map, replicate, get_or, Some, refl, sym, ap, ◌∙◌, subst, arith, zero-add, inl, inr, true≢false}
use Rattle.std.proofs.lemmas.List.{get_or-replicate, get_or_past, length-replicate}
use Rattle.std.proofs.lemmas.Bool.{lt-ltb, le-ltb, cases_lt}
use Rattle.std.specs.Prelude.{slice_get, unwrap_or, is_some}
use mathlib.Core.Logic.{dite}
use mathlib.Core.Option.{some, some-injective, some-ne-none}
use native.Mathlib.Decide.{ℕ_discrete}
use lib.ListN.{get_elem?}
use Rattle.atomic_table.specs.Table.{opening}
use Rattle.page_slots.specs.declared.protocol.Terms.{Terms}
use Rattle.page_slots.specs.declared.view.View.{View}
use Rattle.page_slots.specs.PageRule.{Slot, Each, IsView, IsTrueList, IsTrueView, PageRule}
use Rattle.page_slots.specs.Slots.{SlotsId, CallerState, MadeSlots}
use Rattle.page_slots.specs.Steps.{first_view}
use Rattle.page_slots.specs.Making.{AreFresh, callers_from, fresh_caller}
use Rattle.page_slots.specs.Views.{one_if, times_carried, times_listed, blank_from, list_of, first, others}
use Rattle.page_slots.proofs.Counting.{one_here, one_else}

zeros : (n i : ℕ) → get_or {A = ℕ} (replicate {A = ℕ} n 0) i 0 ≡ 0
zeros n i = elim (cases_lt i n) [
  | inl lt ↦ get_or-replicate n i 0 0 lt
  | inr ge ↦ get_or_past (replicate n 0) i 0 (let e = length-replicate {A = ℕ} n 0 in omega arith)
]

-- numbers from a on: c is among them where it is from a on and below a + n
carried-blank : (c a n : ℕ) → a ≤ c → times_carried c (blank_from a n) ≡ one_if (nat_lt c (a + n))
carried-blank c a zero le = ap one_if (sym (le-ltb c (a + 0) (omega arith)))
carried-blank c a (suc n) le = dite (ℕ_discrete a c)
    (λ e. let one = one_here a c e in let rest = past c (suc a) n (omega arith) in let all : one_if (nat_lt c (a + suc n)) ≡ 1 = ap one_if (lt-ltb c (a + suc n) (omega arith)) in omega arith)
    (λ ne. let none = one_else a c ne in let rest = carried-blank c (suc a) n (omega arith) in let same : one_if (nat_lt c (suc a + n)) ≡ one_if (nat_lt c (a + suc n)) = (let e : suc a + n ≡ a + suc n = omega arith in ap (λ k. one_if (nat_lt c k)) e) in omega arith)
  where
    past : (c a n : ℕ) → c < a → times_carried c (blank_from a n) ≡ 0
    past c a zero lt = refl
    past c a (suc n) lt = let none = one_else a c (λ e. omega arith) in let rest = past c (suc a) n (omega arith) in omega arith

listed-blank : (q i a n : ℕ) → times_listed q i (blank_from a n) ≡ 0
listed-blank q i a zero = refl
listed-blank q i a (suc n) = let rest = listed-blank q i (suc a) n in omega arith

true-blank : (a n : ℕ) → Each (IsTrueList (λ _. [])) (blank_from a n)
true-blank a zero = tt
true-blank a (suc n) = ((tt, tt), true-blank (suc a) n)

abbrev blank_slot : Slot
blank_slot = Some []

home-blank : (n q : ℕ) → q < n → get_elem? (map some (replicate n blank_slot)) q ≡ some (some (Some []))
home-blank zero q lt = absurd (omega arith)
home-blank (suc n) zero lt = refl
home-blank (suc n) (suc q) lt = home-blank n q (omega arith)

only_view : (v w : View) (j : ℕ) → IsView (v ∷ []) j w → v ≡ w
only_view v w zero e = some-injective v w e
only_view v w (suc j) e = absurd (some-ne-none w (sym e))

-- the first state keeps the rule
pub begins : (t : Terms) (words : List ℕ) (slots : List Slot) → words ≡ replicate t.pages 0 → slots ≡ replicate t.pages (Some []) → PageRule t (opening words slots (first_view t))
begins t words slots are have = subst (λ ws. PageRule t (opening ws slots (first_view t))) (sym are) (subst (λ ss. PageRule t (opening (replicate t.pages 0) ss (first_view t))) (sym have) (record {
  histories = λ _. [];
  whole = length-replicate t.pages 0;
  lengths = λ q. let z = zeros t.pages q in omega arith;
  carried = λ c. let a = carried-blank c 0 t.callers (omega arith) in let e : one_if (nat_lt c (0 + t.callers)) ≡ one_if (nat_lt c t.callers) = ap (λ n. one_if (nat_lt c n)) (zero-add t.callers) in omega arith;
  placed = λ q i. let a = listed-blank q i 0 t.callers in let e : one_if (nat_lt i 0) ≡ 0 = ap one_if (le-ltb i 0 (omega arith)) in omega arith;
  held = λ q. let z = zeros t.pages q in omega arith;
  views = λ j v there. subst (IsTrueView (λ _. [])) (only_view (first_view t) v j there) (record { lists = true-blank 0 t.callers; holder = tt });
  home = λ q within even. home-blank t.pages q within;
}))

-- the first number of those that are left, and the others
blank-first : (a n : ℕ) → a < n → blank_from a (n - a) ≡ list_of a [] ∷ blank_from (a + 1) (n - (a + 1))
blank-first a n less =
    let one : n - a ≡ suc (n - (a + 1)) = omega arith in
    let next : suc a ≡ a + 1 = omega arith in
    ap (blank_from a) one ∙ ap (λ k. list_of a [] ∷ blank_from k (n - (a + 1))) next

pub first_is : (a n : ℕ) → a < n → first (blank_from a (n - a)) ≡ list_of a [] ∷ []
first_is a n less = ap first (blank-first a n less)

pub others_are : (a n : ℕ) → a < n → others (blank_from a (n - a)) ≡ blank_from (a + 1) (n - (a + 1))
others_are a n less = ap others (blank-first a n less)

-- one caller more
callers-more : (slots : SlotsId) (a n : ℕ) → callers_from slots a (n + 1) ≡ callers_from slots a n ++ fresh_caller slots (a + n) ∷ []
callers-more slots a zero = let same : a ≡ a + 0 = omega arith in ap (λ k. fresh_caller slots k ∷ []) same
callers-more slots a (suc n) =
    let same : suc a + n ≡ a + suc n = omega arith in
    let long : suc n + 1 ≡ suc (n + 1) = omega arith in
    ap (callers_from slots a) long ∙ ap (λ l. fresh_caller slots a ∷ l) (callers-more slots (suc a) n ∙ ap (λ k. callers_from slots (suc a) n ++ fresh_caller slots k ∷ []) same)

pub one_more : (slots : SlotsId) (was now : List CallerState) (x : CallerState) (n : ℕ) → was ≡ callers_from slots 0 n → x ≡ fresh_caller slots n → now ≡ was ++ x ∷ [] → now ≡ callers_from slots 0 (n + 1)
one_more slots was now x n so_far one is =
    let same : n ≡ 0 + n = omega arith in
    is ∙ (λ i. so_far i ++ one i ∷ []) ∙ ap (λ k. callers_from slots 0 n ++ fresh_caller slots k ∷ []) same ∙ sym (callers-more slots 0 n)

length-callers : (slots : SlotsId) (a n : ℕ) → length (callers_from slots a n) ≡ n
length-callers slots a zero = refl
length-callers slots a (suc n) = ap suc (length-callers slots (suc a) n)

caller_at : (slots : SlotsId) (a n c : ℕ) (x : CallerState) → slice_get (callers_from slots a n) c ≡ Some x → x ≡ fresh_caller slots (a + c)
caller_at slots a zero c x e = absurd (true≢false (sym (ap is_some e)))
caller_at slots a (suc n) zero x e = let same : a ≡ a + 0 = omega arith in sym (ap (λ o. unwrap_or o x) e) ∙ ap (fresh_caller slots) same
caller_at slots a (suc n) (suc c) x e = caller_at slots (suc a) n c x e ∙ (let same : suc a + c ≡ a + suc c = omega arith in ap (fresh_caller slots) same)

-- the callers of new slots
pub fresh : (slots : MadeSlots) (pages count : ℕ) (callers : List CallerState) → slots.pages ≡ pages → slots.callers ≡ count → callers ≡ callers_from slots.id 0 count → AreFresh slots pages count callers
fresh slots pages count callers pages_are callers_are are = record {
  pages_are = pages_are;
  callers_are = callers_are;
  numbered = are;
  all = record {
    count = ap length are ∙ length-callers slots.id 0 count ∙ sym callers_are;
    each = λ c x at. let is = caller_at slots.id 0 count c x (ap (λ l. slice_get l c) (sym are) ∙ at) in (ap (λ (y : CallerState). y.slots) is, ap (λ (y : CallerState). y.number) is ∙ zero-add c);
  };
  none = λ c x at. ap (λ (y : CallerState). y.mine) (caller_at slots.id 0 count c x (ap (λ l. slice_get l c) (sym are) ∙ at));
}
