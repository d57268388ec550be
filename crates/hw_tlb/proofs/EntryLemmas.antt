-- Which place alone has a half of a kind, as counts and hints say it.
use Rattle.std.proofs.Common.{◌≡◌, ◌≢◌, ◌⊎◌, inl, inr, ℕ, ◌+◌, ◌-◌, ◌*◌, ◌/◌, ◌%◌, ◌<◌, ◌≤◌, Bool, true, false, not, List, length, Option, Some, None, refl, sym, ap, subst, ◌∙◌, arith}
use Rattle.std.proofs.lemmas.Bool.{cases_Bool, cases_eq, cases_lt, both_ways, eq-eqb, ne_eqb, and_left, and_from, or_right}
use Rattle.std.proofs.lemmas.List.{get_or_past}
use Rattle.base_words.specs.Halves.{Half, clash}
use Rattle.hw_tlb.specs.Tlb.{half_at, side, are_beside, AreSided}
use Rattle.hw_tlb.specs.Filling.{has_such}
use Rattle.hw_tlb.specs.Counts.{count, bucket_of_number, bucket_of_key, other_number, is_numbered, is_spaced, is_shared, HasNoSuchBut, HasNoSuchOn, IsOnlyOn, IsFirst}
use Rattle.hw_tlb.specs.Rooms.{AreApart, AreInOrder}
use Rattle.hw_tlb.proofs.CountLemmas.{count-sole}
use Rattle.hw_tlb.proofs.ScanLemmas.{weaken, first_entry-some}
use Rattle.hw_tlb.proofs.BucketLemmas.{number_apart}

abbrev Places : Type 0
Places = List (Option Half)

-- a place has such a half, this one
record Holds (q : Half → Bool) (p : Option Half) : Type 0 where
  half : Half
  is : p ≡ Some half
  such : q half ≡ true

holds : (q : Half → Bool) (p : Option Half) → has_such q p ≡ true → Holds q p
holds q None e = absurd (both_ways _ refl e)
holds q (Some h) e = record { half = h; is = refl; such = e }

clash-number : (a b : Half) → clash a b ≡ true → a.number ≡ b.number
clash-number a b e =
    elim (cases_eq a.number b.number) [
      | inl is ↦ is
      | inr ne ↦ absurd (both_ways _ (and_left _ _ (ne_eqb a.number b.number ne)) e)
    ]

clash-both : (new a b : Half) → new.global ≡ false → clash new a ≡ true → clash new b ≡ true → clash a b ≡ true
clash-both new a b own ea eb = grind arith

clash-same : (a b : Half) → a.number ≡ b.number → a.asid ≡ b.asid → clash a b ≡ true
clash-same a b n s = and_from _ _ (eq-eqb a.number b.number n) (or_right _ _ (or_right _ _ (eq-eqb a.asid b.asid s)))

record Beside (a b : Half) : Type 0 where
  pair : a.number / 2 ≡ b.number / 2
  space : a.asid ≡ b.asid
  mark : a.global ≡ b.global

beside : (a b : Half) → are_beside a b ≡ true → Beside a b
beside a b e = record { pair = grind arith; space = grind arith; mark = grind arith }

clash_less : (b : ℕ) (new : Half) → b ≡ bucket_of_number new.number → (h : Half) → is_numbered b h ≡ false → clash new h ≡ false
clash_less b new b_is h e = and_left _ _ (ne_eqb new.number h.number (λ is. number_apart b new.number h.number b_is e (sym is)))

-- the new half clashes with one alone: one that isn't global has no other, and else the count says it
abbrev pub HasFew : Half → ℕ → Places → Type 0
HasFew new b ps = (new.global ≡ false) ⊎ (count (is_numbered b) ps ≤ 1)

pub sole_clash : (ps : Places) (new : Half) (place b : ℕ) → AreApart ps → b ≡ bucket_of_number new.number → HasFew new b ps → has_such (clash new) (half_at ps place) ≡ true → (j : ℕ) → j ≢ place → has_such (clash new) (half_at ps j) ≡ false
sole_clash ps new place b apart b_is few here j ne =
    let a = holds (clash new) (half_at ps place) here in
    elim few [
      | inl own ↦ elim (cases_Bool (has_such (clash new) (half_at ps j))) [
        | inl there ↦
            let o = holds (clash new) (half_at ps j) there in
            absurd (both_ways _ (apart place j a.half o.half (λ e. ne (sym e)) a.is o.is) (clash-both new a.half o.half own a.such o.such))
        | inr away ↦ away
      ]
      | inr one ↦
          let counted : has_such (is_numbered b) (half_at ps place) ≡ true = ap (has_such (is_numbered b)) a.is ∙ eq-eqb (bucket_of_number a.half.number) b (ap bucket_of_number (sym (clash-number new a.half a.such)) ∙ sym b_is) in
          weaken (is_numbered b) (clash new) (clash_less b new b_is) (half_at ps j) (count-sole (is_numbered b) ps place one counted j ne)
    ]

clash-side : (ps : Places) (new : Half) (place : ℕ) → AreSided ps → has_such (clash new) (half_at ps place) ≡ true → place % 2 ≡ side new
clash-side ps new place sided here =
    let a = holds (clash new) (half_at ps place) here in
    sym (sided place a.half a.is) ∙ ap (λ (n : ℕ). n % 2) (sym (clash-number new a.half a.such))

pub only_clash : (ps : Places) (new : Half) (place b : ℕ) → AreInOrder ps → b ≡ bucket_of_number new.number → HasFew new b ps → has_such (clash new) (half_at ps place) ≡ true → IsOnlyOn (clash new) (side new) ps place
only_clash ps new place b order b_is few here = record {
  here = here;
  on = clash-side ps new place order.sided here;
  away = λ entry ne. sole_clash ps new place b order.apart b_is few here (2 * entry + side new) ne;
}

-- a half beside the new one, on the other side, is of the pair's other virtual page
other-page : (ps : Places) (new h : Half) (entry : ℕ) → AreSided ps → half_at ps (2 * entry + (1 - side new)) ≡ Some h → are_beside new h ≡ true → h.number ≡ other_number new
other-page ps new h entry sided is such =
    let b = (beside new h such).pair in
    let s = sided (2 * entry + (1 - side new)) h is in
    omega arith

pub only_shared : (ps : Places) (new : Half) (place : ℕ) → AreInOrder ps → has_such (are_beside new) (half_at ps place) ≡ true → place % 2 ≡ 1 - side new → IsOnlyOn (are_beside new) (1 - side new) ps place
only_shared ps new place order here on = record {
  here = here;
  on = on;
  away = λ entry ne. elim (cases_Bool (has_such (are_beside new) (half_at ps (2 * entry + (1 - side new))))) [
    | inl there ↦
        let a = holds (are_beside new) (half_at ps place) here in
        let o = holds (are_beside new) (half_at ps (2 * entry + (1 - side new))) there in
        let at : place ≡ 2 * (place / 2) + (1 - side new) = omega arith in
        let a_is : a.half.number ≡ other_number new = other-page ps new a.half (place / 2) order.sided (rw (← at) a.is) a.such in
        let o_is : o.half.number ≡ other_number new = other-page ps new o.half entry order.sided o.is o.such in
        absurd (both_ways _ (order.apart place (2 * entry + (1 - side new)) a.half o.half (λ e. ne (sym e)) a.is o.is)
        (clash-same a.half o.half (a_is ∙ sym o_is) (sym (beside new a.half a.such).space ∙ (beside new o.half o.such).space)))
    | inr away ↦ away
  ];
}

pub none_shared : (ps : Places) (new : Half) (n b near : ℕ) → AreSided ps → new.global ≡ true → n ≡ other_number new → b ≡ bucket_of_number n → HasNoSuchBut (is_shared b) ps near → has_such (are_beside new) (half_at ps near) ≡ false → HasNoSuchOn (are_beside new) (1 - side new) ps
none_shared ps new n b near sided all n_is b_is none away entry =
    elim (cases_Bool (has_such (are_beside new) (half_at ps (2 * entry + (1 - side new))))) [
      | inl there ↦
          let o = holds (are_beside new) (half_at ps (2 * entry + (1 - side new))) there in
          let o_is = other-page ps new o.half entry sided o.is o.such in
          let mark : o.half.global ≡ true = sym (beside new o.half o.such).mark ∙ all in
          let counted : is_shared b o.half ≡ true = and_from _ _ mark (eq-eqb (bucket_of_number o.half.number) b (ap bucket_of_number (o_is ∙ sym n_is) ∙ sym b_is)) in
          elim (cases_eq (2 * entry + (1 - side new)) near) [
            | inl at ↦ absurd (both_ways _ (ap (λ (k : ℕ). has_such (are_beside new) (half_at ps k)) at ∙ away) there)
            | inr ne ↦ absurd (both_ways _ (none (2 * entry + (1 - side new)) ne) (ap (has_such (is_shared b)) o.is ∙ counted))
          ]
      | inr none_here ↦ none_here
    ]

pub none_spaced : (ps : Places) (new : Half) (n s b near : ℕ) → AreSided ps → new.global ≡ false → n ≡ other_number new → s ≡ new.asid → b ≡ bucket_of_key n s → HasNoSuchBut (is_spaced b) ps near → has_such (are_beside new) (half_at ps near) ≡ false → HasNoSuchOn (are_beside new) (1 - side new) ps
none_spaced ps new n s b near sided own n_is s_is b_is none away entry =
    elim (cases_Bool (has_such (are_beside new) (half_at ps (2 * entry + (1 - side new))))) [
      | inl there ↦
          let o = holds (are_beside new) (half_at ps (2 * entry + (1 - side new))) there in
          let o_is = other-page ps new o.half entry sided o.is o.such in
          let parts = beside new o.half o.such in
          let mark : not o.half.global ≡ true = ap not (sym parts.mark ∙ own) in
          let key : bucket_of_key o.half.number o.half.asid ≡ b = ap (λ (m : ℕ). bucket_of_key m o.half.asid) (o_is ∙ sym n_is) ∙ ap (bucket_of_key n) (sym parts.space ∙ sym s_is) ∙ sym b_is in
          let counted : is_spaced b o.half ≡ true = and_from _ _ mark (eq-eqb (bucket_of_key o.half.number o.half.asid) b key) in
          elim (cases_eq (2 * entry + (1 - side new)) near) [
            | inl at ↦ absurd (both_ways _ (ap (λ (k : ℕ). has_such (are_beside new) (half_at ps k)) at ∙ away) there)
            | inr ne ↦ absurd (both_ways _ (none (2 * entry + (1 - side new)) ne) (ap (has_such (is_spaced b)) o.is ∙ counted))
          ]
      | inr none_here ↦ none_here
    ]

-- one that clashes stands in the entry that the new half finds
first_is : (ps : Places) (new : Half) (entry : ℕ) → length ps ≡ 96 → AreSided ps → IsFirst new entry ps → (j : ℕ) → has_such (clash new) (half_at ps j) ≡ true → has_such (clash new) (half_at ps (2 * entry + side new)) ≡ true
first_is ps new entry long sided first j there =
    let on = clash-side ps new j sided there in
    let at : j ≡ 2 * (j / 2) + side new = omega arith in
    let small : j < 96 = elim (cases_lt j 96) [
      | inl lt ↦ lt
      | inr ge ↦ absurd (both_ways _ (ap (has_such (clash new)) (get_or_past ps j None (omega arith))) there)
    ] in
    let f = first_entry-some (clash new) (side new) ps (j / 2) (omega arith) (subst (λ (k : ℕ). has_such (clash new) (half_at ps k) ≡ true) at there) in
    subst (λ (e : ℕ). has_such (clash new) (half_at ps (2 * e + side new)) ≡ true) (first f.first f.is) f.such

pub alone : (ps : Places) (new : Half) (entry b : ℕ) → length ps ≡ 96 → AreInOrder ps → IsFirst new entry ps → b ≡ bucket_of_number new.number → HasFew new b ps → (j : ℕ) → j ≢ 2 * entry + side new → has_such (clash new) (half_at ps j) ≡ false
alone ps new entry b long order first b_is few j ne =
    elim (cases_Bool (has_such (clash new) (half_at ps j))) [
      | inl there ↦ sole_clash ps new (2 * entry + side new) b order.apart b_is few (first_is ps new entry long order.sided first j there) j ne
      | inr away ↦ away
    ]
