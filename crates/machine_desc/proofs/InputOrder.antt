-- The input of a guest in order.
use Rattle.std.proofs.Common.{◌≡◌, ℕ, zero, suc, ◌<◌, ◌≤◌, ◌==◌, List, [], ◌∷◌, length, get_or, Bool, true, false, not, ◌&&◌, nat_le, nat_lt, if◌then◌else◌, refl, ap, ap₂, sym, ◌∙◌, subst, inl, inr, arith}
use Rattle.std.specs.Prelude.{filter}
use Rattle.std.specs.Ordering.{nat_cmp, is_lt}
use Rattle.std.specs.List.Sorted.{IsNonDecreasingBy, ties}
use Rattle.std.proofs.lemmas.Bool.{cases_Bool, cases_lt}
use Rattle.std.proofs.lemmas.Bool.Decides.{nat_tests}
use Rattle.std.proofs.lemmas.List.Elements.{filter_agree}
use Rattle.std.proofs.lemmas.List.Sorted.{IsNonDecreasingBy-from_sort}
use Rattle.base_words.specs.declared.input.InputEntry.{InputEntry}
use Rattle.machine_desc.specs.declared.sheet.InputTable.{InputTable}
use Rattle.machine_desc.specs.Input.{at_of, entries_for, IsInputOf, with_entry, in_order}

-- none of the entries comes earlier
abbrev pub NoneEarlier : ℕ → List InputEntry → Type 0
NoneEarlier n [] = Unit {0}
NoneEarlier n (e ∷ es) = (n ≤ e.at) × NoneEarlier n es

-- each entry comes no later than those behind it
abbrev pub Rises : List InputEntry → Type 0
Rises [] = Unit {0}
Rises (e ∷ es) = NoneEarlier e.at es × Rises es

NoneEarlier-less : (m n : ℕ) (es : List InputEntry) → m ≤ n → NoneEarlier n es → NoneEarlier m es
NoneEarlier-less m n [] le all = tt
NoneEarlier-less m n (e ∷ es) le all = (omega (arith, all.0), NoneEarlier-less m n es le all.1)

NoneEarlier-with : (n : ℕ) (e : InputEntry) (es : List InputEntry) → n ≤ e.at → NoneEarlier n es → NoneEarlier n (with_entry e es)
NoneEarlier-with n e [] le all = (le, tt)
NoneEarlier-with n e (f ∷ fs) le all = elim (nat_le e.at f.at) as (λ b. NoneEarlier n (let l : List InputEntry = if b then e ∷ f ∷ fs else f ∷ with_entry e fs in l)) [
  | true ↦ (le, all)
  | false ↦ (all.0, NoneEarlier-with n e fs le all.1)
]

Rises-with : (e : InputEntry) (es : List InputEntry) → Rises es → Rises (with_entry e es)
Rises-with e [] rises = (tt, tt)
Rises-with e (f ∷ fs) rises = elim (cases_Bool (nat_le e.at f.at)) [
  | inl here ↦ let le : e.at ≤ f.at = grind (arith, nat_tests) in rw here ((le, NoneEarlier-less e.at f.at fs le rises.0), rises)
  | inr later ↦ let le : f.at ≤ e.at = grind (arith, nat_tests) in rw later (NoneEarlier-with f.at e fs le rises.0, Rises-with e fs rises.1)
]

pub Rises-in_order : (es : List InputEntry) → Rises (in_order es)
Rises-in_order [] = tt
Rises-in_order (e ∷ es) = Rises-with e (in_order es) (Rises-in_order es)

NoneEarlier-at : (n : ℕ) (es : List InputEntry) (j : ℕ) (d : InputEntry) → NoneEarlier n es → j < length es → n ≤ (get_or es j d).at
NoneEarlier-at n [] j d all lt = absurd (omega arith)
NoneEarlier-at n (e ∷ es) zero d all lt = all.0
NoneEarlier-at n (e ∷ es) (suc j) d all lt = NoneEarlier-at n es j d all.1 (omega (arith, lt))

pub IsNonDecreasingBy-rises : (es : List InputEntry) → Rises es → IsNonDecreasingBy at_of es
IsNonDecreasingBy-rises es rises = λ i j d le lt. at es i j d rises le lt
  where
    at : (es : List InputEntry) (i j : ℕ) (d : InputEntry) → Rises es → i ≤ j → j < length es → (get_or es i d).at ≤ (get_or es j d).at
    at [] i j d rises le lt = absurd (omega arith)
    at (e ∷ es) zero zero d rises le lt = omega arith
    at (e ∷ es) zero (suc j) d rises le lt = NoneEarlier-at e.at es j d rises.0 (omega (arith, lt))
    at (e ∷ es) (suc i) zero d rises le lt = absurd (omega (arith, le))
    at (e ∷ es) (suc i) (suc j) d rises le lt = at es i j d rises.1 (omega (arith, le)) (omega (arith, lt))

pub Rises-from : (es : List InputEntry) → IsNonDecreasingBy at_of es → Rises es
Rises-from [] up = tt
Rises-from (e ∷ es) up = (none es (λ j d lt. up 0 (suc j) d (omega arith) (omega (arith, lt))), Rises-from es (λ i j d le lt. up (suc i) (suc j) d (omega (arith, le)) (omega (arith, lt))))
  where
    none : (fs : List InputEntry) → ((j : ℕ) (d : InputEntry) → j < length fs → e.at ≤ (get_or fs j d).at) → NoneEarlier e.at fs
    none [] all = tt
    none (f ∷ fs) all = (all 0 f (omega arith), none fs (λ j d lt. all (suc j) d (omega (arith, lt))))

-- ---- entries of one moment

abbrev pub of_moment : ℕ → List InputEntry → List InputEntry
of_moment n es = filter (λ e. e.at == n) es

of_moment-with : (n : ℕ) (e : InputEntry) (es : List InputEntry) → of_moment n (with_entry e es) ≡ of_moment n (e ∷ es)
of_moment-with n e [] = refl
of_moment-with n e (f ∷ fs) = elim (cases_Bool (nat_le e.at f.at)) [
  | inl here ↦ rw here refl
  | inr later ↦ rw (later, of_moment-with n e fs) (past (e.at == n) (f.at == n) (λ a b. (let no : ⊥ = grind (arith, nat_tests) in no)))
]
  where
    past : (a b : Bool) → (a ≡ true → b ≡ true → ⊥) → (let tail : List InputEntry = if a then e ∷ of_moment n fs else of_moment n fs in let l : List InputEntry = if b then f ∷ tail else tail in l)
        ≡ (let tail : List InputEntry = if b then f ∷ of_moment n fs else of_moment n fs in let l : List InputEntry = if a then e ∷ tail else tail in l)
    past true true never = absurd (never refl refl)
    past true false never = refl
    past false true never = refl
    past false false never = refl

pub of_moment-in_order : (n : ℕ) (es : List InputEntry) → of_moment n (in_order es) ≡ of_moment n es
of_moment-in_order n [] = refl
of_moment-in_order n (e ∷ es) = of_moment-with n e (in_order es) ∙ ap (λ (l : List InputEntry). let r : List InputEntry = if e.at == n then e ∷ l else l in r) (of_moment-in_order n es)

-- of an earlier moment there is none
of_moment-earlier : (n m : ℕ) (es : List InputEntry) → n < m → NoneEarlier m es → of_moment n es ≡ []
of_moment-earlier n m [] lt all = refl
of_moment-earlier n m (e ∷ es) lt all =
    let other : (e.at == n) ≡ false = grind (arith, nat_tests, all.0) in
    rw (other, of_moment-earlier n m es lt all.1) refl

of_moment-first : (e : InputEntry) (es : List InputEntry) → of_moment e.at (e ∷ es) ≡ e ∷ of_moment e.at es
of_moment-first e es = let same : (e.at == e.at) ≡ true = grind (arith, nat_tests) in rw same refl

-- two lists in order with the same entries of each moment are the same
pub same_order : (xs ys : List InputEntry) → Rises xs → Rises ys → ((n : ℕ) → of_moment n xs ≡ of_moment n ys) → xs ≡ ys
same_order [] [] up vp same = refl
same_order [] (y ∷ ys) up vp same = absurd (let e : [] ≡ y ∷ of_moment y.at ys = same y.at ∙ of_moment-first y ys in cc)
same_order (x ∷ xs) [] up vp same = absurd (let e : x ∷ of_moment x.at xs ≡ [] = sym (of_moment-first x xs) ∙ same x.at in cc)
same_order (x ∷ xs) (y ∷ ys) up vp same =
    elim (cases_lt x.at y.at) [
      | inl lt ↦ absurd (let e : x ∷ of_moment x.at xs ≡ [] = sym (of_moment-first x xs) ∙ (same x.at ∙ of_moment-earlier x.at y.at (y ∷ ys) lt (omega arith, vp.0)) in cc)
      | inr ge ↦ elim (cases_lt y.at x.at) [
        | inl lt ↦ absurd (let e : y ∷ of_moment y.at ys ≡ [] = sym (of_moment-first y ys) ∙ (sym (same y.at) ∙ of_moment-earlier y.at x.at (x ∷ xs) lt (omega arith, up.0)) in cc)
        | inr le ↦
            let at : x.at ≡ y.at = omega (arith, ge, le) in
            let heads : x ∷ of_moment x.at xs ≡ y ∷ of_moment x.at ys = sym (of_moment-first x xs) ∙ (same x.at ∙ subst (λ (n : ℕ). of_moment n (y ∷ ys) ≡ y ∷ of_moment n ys) (sym at) (of_moment-first y ys)) in
            let first : x ≡ y = cc in
            let tails : of_moment x.at xs ≡ of_moment x.at ys = cc in
            ap₂ (λ (e : InputEntry) (l : List InputEntry). e ∷ l) first (same_order xs ys up.1 vp.1 (λ n. others x y xs ys n at tails (same n)))
      ]
    ]
  where
    others : (x y : InputEntry) (xs ys : List InputEntry) (n : ℕ) → x.at ≡ y.at → of_moment x.at xs ≡ of_moment x.at ys → of_moment n (x ∷ xs) ≡ of_moment n (y ∷ ys) → of_moment n xs ≡ of_moment n ys
    others x y xs ys n at tails same = elim (cases_Bool (x.at == n)) [
      | inl here ↦ let e : x.at ≡ n = grind (arith, nat_tests) in subst (λ (m : ℕ). of_moment m xs ≡ of_moment m ys) e tails
      | inr other ↦
          let x_not : of_moment n (x ∷ xs) ≡ of_moment n xs = rw other refl in
          let y_not : (y.at == n) ≡ false = ap (λ (m : ℕ). m == n) (sym at) ∙ other in
          let y_past : of_moment n (y ∷ ys) ≡ of_moment n ys = rw y_not refl in
          sym x_not ∙ (same ∙ y_past)
    ]

-- ---- the sorted list of a guest

-- numbers tie exactly where they are the same
tie : (n m : ℕ) → (not (is_lt (nat_cmp n m)) && not (is_lt (nat_cmp m n))) ≡ (m == n)
tie n m = elim (cases_lt n m) [
  | inl below ↦
      let a : nat_lt n m ≡ true = grind (arith, nat_tests) in
      let b : (m == n) ≡ false = grind (arith, nat_tests) in
      rw (a, b) refl
  | inr ge ↦ elim (cases_lt m n) [
    | inl above ↦
        let a : nat_lt n m ≡ false = grind (arith, nat_tests) in
        let b : (n == m) ≡ false = grind (arith, nat_tests) in
        let c : nat_lt m n ≡ true = grind (arith, nat_tests) in
        let d : (m == n) ≡ false = grind (arith, nat_tests) in
        rw (a, b, c, d) refl
    | inr le ↦
        let e : n ≡ m = omega (arith, ge, le) in
        let a : nat_lt n m ≡ false = grind (arith, nat_tests) in
        let b : (n == m) ≡ true = grind (arith, nat_tests) in
        let c : nat_lt m n ≡ false = grind (arith, nat_tests) in
        let d : (m == n) ≡ true = grind (arith, nat_tests) in
        rw (a, b, c, d) refl
  ]
]

ties-moment : (n : ℕ) (e : InputEntry) → ties (λ (x y : InputEntry). is_lt (nat_cmp x.at y.at)) (record { at = n; text = [] }) e ≡ (e.at == n)
ties-moment n e = tie n e.at

-- the entries of a guest in order are those that are sorted
pub in_order-is : (guest : ℕ) (tables : List InputTable) (list : List InputEntry) → IsInputOf guest tables list → list ≡ in_order (entries_for guest tables)
in_order-is guest tables list is =
    let entries = entries_for guest tables in
    let same : (n : ℕ) → of_moment n list ≡ of_moment n entries = λ n.
    sym (filter_agree _ _ (ties-moment n) list) ∙ (is.ties (record { at = n; text = [] }) ∙ filter_agree _ _ (ties-moment n) entries) in
    same_order list (in_order entries) (Rises-from list (IsNonDecreasingBy-from_sort at_of list is.in_order)) (Rises-in_order entries) (λ n. same n ∙ sym (of_moment-in_order n entries))
