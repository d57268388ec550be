-- Entries stay at their own places, and the marks of entries stay on.
use Rattle.std.proofs.Common.{◌≡◌, ℕ, ◌+◌, ◌*◌, ◌/◌, ◌%◌, ◌<◌, ◌==◌, Bool, true, false, cond, List, Option, Some, None, length, get_or, set, map, option_map, refl, sym, ap, ◌∙◌, subst, inl, inr, arith}
use Rattle.std.proofs.lemmas.List.{get_or-map, get_or-set_same, get_or-set_other, get_or-replicate, length-map, length-set, length-replicate, ext_get_or, map-set}
use Rattle.std.proofs.lemmas.Bool.{cases_eq, ne_eqb}
use Rattle.std.proofs.lemmas.Bool.Decides.{Decides-eqb}
use Rattle.private_machine.specs.SecondLevel.{Second, no_seconds, put, unless_of_page, unless_of_pair, seconds_without_page, seconds_without_pair}
use Rattle.l2_tlb.specs.Seconds.{AreInPlace, IsOwn, second_of, seen}
use Rattle.l2_tlb.specs.declared.entry.L2Entry.{L2Entry}
use Rattle.l2_tlb.specs.Marks.{AreMarked, IsMarked, mark_of}

-- what holds of an entry or of an empty place holds of a place that may be emptied
unless : (P : Option Second → Type 0) (b : Bool) (o : Option Second) → P None → P o → P (cond b None o)
unless P true o empty full = empty
unless P false o empty full = full

own-unless_of_page : (page k : ℕ) (o : Option Second) → IsOwn k o → IsOwn k (unless_of_page page o)
own-unless_of_page page k None own = tt
own-unless_of_page page k (Some e) own = unless (λ o. IsOwn k o) (e.page == page) (Some e) tt own

own-unless_of_pair : (pair k : ℕ) (o : Option Second) → IsOwn k o → IsOwn k (unless_of_pair pair o)
own-unless_of_pair pair k None own = tt
own-unless_of_pair pair k (Some e) own = unless (λ o. IsOwn k o) (e.number / 2 == pair) (Some e) tt own

marked-unless_of_pair : (pair k : ℕ) (marks : List Bool) (o : Option Second) → IsMarked marks k o → IsMarked marks k (unless_of_pair pair o)
marked-unless_of_pair pair k marks None own = tt
marked-unless_of_pair pair k marks (Some e) own = unless (λ o. IsMarked marks k o) (e.number / 2 == pair) (Some e) tt own

in_place-map : (f : Option Second → Option Second) (xs : List (Option Second)) → ((k : ℕ) (o : Option Second) → IsOwn k o → IsOwn k (f o)) → AreInPlace xs → AreInPlace (map f xs)
in_place-map f xs keeps are =
    let all : length xs ≡ 512 = are.all in
    record {
      all = length-map xs f ∙ are.all;
      own = λ k lt. subst (λ o. IsOwn k o) (sym (get_or-map f xs k None None (omega arith))) (keeps k (get_or xs k None) (are.own k lt));
    }

pub in_place-without_page : (page : ℕ) (xs : List (Option Second)) → AreInPlace xs → AreInPlace (seconds_without_page page xs)
in_place-without_page page xs are = in_place-map (unless_of_page page) xs (own-unless_of_page page) are

pub in_place-without_pair : (pair : ℕ) (xs : List (Option Second)) → AreInPlace xs → AreInPlace (seconds_without_pair pair xs)
in_place-without_pair pair xs are = in_place-map (unless_of_pair pair) xs (own-unless_of_pair pair) are

pub marked-without_pair : (pair : ℕ) (xs : List (Option Second)) (marks : List Bool) → length xs ≡ 512 → AreMarked xs marks → AreMarked (seconds_without_pair pair xs) marks
marked-without_pair pair xs marks all are = record {
  all = are.all;
  marked = λ k lt. subst (λ o. IsMarked marks k o) (sym (get_or-map (unless_of_pair pair) xs k None None (omega arith))) (marked-unless_of_pair pair k marks (get_or xs k None) (are.marked k lt));
}

-- no entry
none-get : (k : ℕ) → k < 512 → get_or no_seconds k None ≡ None
none-get k lt = get_or-replicate 512 k None None lt

pub in_place-none : AreInPlace no_seconds
in_place-none = record {
  all = let none : Option Second = None in length-replicate 512 none;
  own = λ k lt. subst (λ o. IsOwn k o) (sym (none-get k lt)) tt;
}

pub marked-none : (marks : List Bool) → length marks ≡ 2048 → AreMarked no_seconds marks
marked-none marks all = record {
  all = all;
  marked = λ k lt. subst (λ o. IsMarked marks k o) (sym (none-get k lt)) tt;
}

-- one entry more
own-put : (k place : ℕ) (e : Second) (xs : List (Option Second)) → k ≡ place → place < length xs → e.number % 512 ≡ place → IsOwn k (get_or (set xs place (Some e)) k None)
own-put k place e xs is there own =
    let at : get_or (set xs place (Some e)) k None ≡ Some e = ap (λ i. get_or (set xs place (Some e)) i None) is ∙ get_or-set_same xs place (Some e) None there in
    subst (λ o. IsOwn k o) (sym at) (own ∙ sym is)

pub in_place-put : (e : Second) (xs : List (Option Second)) → AreInPlace xs → AreInPlace (put e xs)
in_place-put e xs are =
    let all : length xs ≡ 512 = are.all in
    record {
      all = length-set xs (e.number % 512) (Some e) ∙ are.all;
      own = λ k lt. elim (cases_eq k (e.number % 512)) [
        | inl is ↦ own-put k (e.number % 512) e xs is (omega arith) refl
        | inr other ↦ subst (λ o. IsOwn k o) (sym (get_or-set_other xs (e.number % 512) k (Some e) None other)) (are.own k lt)
      ];
    }

-- a mark that goes on keeps the others on
marked-on : (marks : List Bool) (m k : ℕ) (o : Option Second) → m < length marks → IsMarked marks k o → IsMarked (set marks m true) k o
marked-on marks m k None there is = tt
marked-on marks m k (Some e) there is = elim (cases_eq (mark_of e.page k) m) [
  | inl same ↦ ap (λ i. get_or (set marks m true) i false) same ∙ get_or-set_same marks m true false there
  | inr other ↦ get_or-set_other marks m (mark_of e.page k) true false other ∙ is
]

pub marked-put : (e : Second) (m : ℕ) (xs : List (Option Second)) (marks : List Bool) → length xs ≡ 512 → m ≡ mark_of e.page (e.number % 512) → AreMarked xs marks → AreMarked (put e xs) (set marks m true)
marked-put e m xs marks all at are =
    let marks_all : length marks ≡ 2048 = are.all in
    let there : m < length marks = omega arith in
    record {
      all = length-set marks m true ∙ are.all;
      marked = λ k lt. elim (cases_eq k (e.number % 512)) [
        | inl is ↦ subst (λ o. IsMarked (set marks m true) k o)
            (sym (ap (λ i. get_or (put e xs) i None) is ∙ get_or-set_same xs (e.number % 512) (Some e) None (omega arith)))
            (ap (λ i. get_or (set marks m true) (mark_of e.page i) false) is ∙ ap (λ i. get_or (set marks m true) i false) (sym at) ∙ get_or-set_same marks m true false there)
        | inr other ↦ subst (λ o. IsMarked (set marks m true) k o) (sym (get_or-set_other xs (e.number % 512) k (Some e) None other))
            (marked-on marks m k (get_or xs k None) there (are.marked k lt))
      ];
    }

-- those of a pair stand at two places
other-stays : (pair k : ℕ) (o : Option Second) → IsOwn k o → (k ≡ pair % 256 * 2 → ⊥) → (k ≡ pair % 256 * 2 + 1 → ⊥) → unless_of_pair pair o ≡ o
other-stays pair k None own lower upper = refl
other-stays pair k (Some e) own lower upper =
    let differs : (e.number / 2 == pair) ≡ false = ne_eqb (e.number / 2) pair (λ is. omega arith) in
    ap (λ b. cond b None (Some e)) differs

pub without_pair-two : (pair : ℕ) (xs : List (Option Second)) → AreInPlace xs
    → set (set xs (pair % 256 * 2) (unless_of_pair pair (get_or xs (pair % 256 * 2) None))) (pair % 256 * 2 + 1) (unless_of_pair pair (get_or xs (pair % 256 * 2 + 1) None)) ≡ seconds_without_pair pair xs
without_pair-two pair xs are =
    let all : length xs ≡ 512 = are.all in
    let f = unless_of_pair pair in
    let lo : ℕ = pair % 256 * 2 in
    let x : Option Second = f (get_or xs lo None) in
    let y : Option Second = f (get_or xs (lo + 1) None) in
    ext_get_or None (set (set xs lo x) (lo + 1) y) (map f xs)
    (length-set (set xs lo x) (lo + 1) y ∙ length-set xs lo x ∙ sym (length-map xs f))
    (λ k lt.
    let within : k < length xs = omega (arith, length-set (set xs lo x) (lo + 1) y, length-set xs lo x) in
    let mapped = get_or-map f xs k None None within in
    elim (cases_eq k (lo + 1)) [
      | inl is ↦ ap (λ i. get_or (set (set xs lo x) (lo + 1) y) i None) is ∙ get_or-set_same (set xs lo x) (lo + 1) y None (omega (arith, length-set xs lo x)) ∙ ap (λ i. f (get_or xs i None)) (sym is) ∙ sym mapped
      | inr upper ↦ get_or-set_other (set xs lo x) (lo + 1) k y None upper ∙ elim (cases_eq k lo) [
        | inl is ↦ ap (λ i. get_or (set xs lo x) i None) is ∙ get_or-set_same xs lo x None (omega arith) ∙ ap (λ i. f (get_or xs i None)) (sym is) ∙ sym mapped
        | inr lower ↦ get_or-set_other xs lo k x None lower ∙ sym (other-stays pair k (get_or xs k None) (are.own k (omega arith)) lower upper) ∙ sym mapped
      ]
    ])

-- a place of the fields, as callers see it
pub seen-get : (xs : List (Option L2Entry)) (k : ℕ) → k < length xs → (d : Option L2Entry) → get_or (seen xs) k None ≡ option_map second_of (get_or xs k d)
seen-get xs k lt d = get_or-map (option_map second_of) xs k d None lt

pub seen-set : (xs : List (Option L2Entry)) (k : ℕ) (v : Option L2Entry) → seen (set xs k v) ≡ set (seen xs) k (option_map second_of v)
seen-set xs k v = map-set (option_map second_of) xs k v

pub length-seen : (xs : List (Option L2Entry)) → length (seen xs) ≡ length xs
length-seen xs = length-map xs (option_map second_of)

-- a place that is emptied, as callers see it
pub emptied : (f : Option Second → Option Second) (xs : List (Option L2Entry)) (k : ℕ) (e : L2Entry) → k < length xs → get_or xs k None ≡ Some e → f (Some (second_of e)) ≡ None
    → seen (set xs k None) ≡ set (seen xs) k (f (get_or (seen xs) k None))
emptied f xs k e lt is gone =
    seen-set xs k None ∙ ap (set (seen xs) k) (sym (ap f (seen-get xs k lt None ∙ ap (option_map second_of) is) ∙ gone))

pub unless_of_pair-gone : (pair : ℕ) (e : Second) → e.number / 2 ≡ pair → unless_of_pair pair (Some e) ≡ None
unless_of_pair-gone pair e is = let same = Decides-eqb (e.number / 2) pair in ap (λ b. cond b None (Some e)) (same.1 is)

pub unless_of_page-gone : (page : ℕ) (e : Second) → e.page ≡ page → unless_of_page page (Some e) ≡ None
unless_of_page-gone page e is = let same = Decides-eqb e.page page in ap (λ b. cond b None (Some e)) (same.1 is)
