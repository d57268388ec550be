-- What the places have, and how the list of halves changes with them.
use Rattle.std.proofs.Common.{◌≡◌, inl, inr, ℕ, suc, zero, Bool, true, false, not, List, [], ◌∷◌, map, replicate, filter, find, Option, Some, None, refl, sym, arith}
use Rattle.std.proofs.lemmas.Bool.{cases_Bool, both_ways}
use Rattle.base_words.specs.Halves.{Half, is_of, clash}
use Rattle.base_words.specs.Membership.{Has}
use Rattle.hw_tlb.specs.Tlb.{half_at, standing, IsUnambiguous}
use Rattle.hw_tlb.specs.Dropping.{emptied}
use Rattle.hw_tlb.specs.Rooms.{AreApart}

abbrev Places : Type 0
Places = List (Option Half)

pub half_at-map : (f : Option Half → Option Half) → f None ≡ None → (ps : Places) (k : ℕ) → half_at (map f ps) k ≡ f (half_at ps k)
half_at-map f e [] k = sym e
half_at-map f e (p ∷ ps) zero = refl
half_at-map f e (p ∷ ps) (suc k) = half_at-map f e ps k

pub half_at-replicate : (n k : ℕ) → half_at (replicate n None) k ≡ None
half_at-replicate zero k = refl
half_at-replicate (suc n) zero = refl
half_at-replicate (suc n) (suc k) = half_at-replicate n k

pub standing-emptied : (q : Half → Bool) (ps : Places) → standing (map (emptied q) ps) ≡ filter (λ h. not (q h)) (standing ps)
standing-emptied q [] = refl
standing-emptied q (None ∷ ps) = standing-emptied q ps
standing-emptied q (Some h ∷ ps) = grind (arith, standing-emptied q ps)

pub has-standing : (ps : Places) (k : ℕ) (h : Half) → half_at ps k ≡ Some h → Has (standing ps) h
has-standing [] k h e = absurd (cc)
has-standing (None ∷ ps) zero h e = absurd (cc)
has-standing (None ∷ ps) (suc k) h e = has-standing ps k h e
has-standing (Some x ∷ ps) zero h e = inl (cc)
has-standing (Some x ∷ ps) (suc k) h e = inr (has-standing ps k h e)

-- a half of the list stands at a place
pub record Stands (ps : Places) (h : Half) : Type 0 where
  pub at : ℕ
  pub is : half_at ps at ≡ Some h

next_place : (p : Option Half) (ps : Places) (h : Half) → Stands ps h → Stands (p ∷ ps) h
next_place p ps h s = record { at = suc s.at; is = s.is }

pub stands : (ps : Places) (h : Half) → Has (standing ps) h → Stands ps h
stands [] h x = absurd x
stands (None ∷ ps) h x = next_place None ps h (stands ps h x)
stands (Some y ∷ ps) h x = elim x [ inl e ↦ record { at = zero; is = rw e refl } | inr z ↦ next_place (Some y) ps h (stands ps h z) ]

-- two of one virtual page in one address space clash
clash_from : (a b : Half) (number asid : ℕ) → is_of number asid a ≡ true → is_of number asid b ≡ true → clash a b ≡ true
clash_from a b number asid ma mb = grind arith

tail_apart : (p : Option Half) (ps : Places) → AreApart (p ∷ ps) → AreApart ps
tail_apart p ps apart i j a b ne = apart (suc i) (suc j) a b (λ e. ne (omega arith))

pub find-standing : (number asid : ℕ) (ps : Places) (k : ℕ) (h : Half) → AreApart ps → half_at ps k ≡ Some h → is_of number asid h ≡ true → find (is_of number asid) (standing ps) ≡ Some h
find-standing number asid [] k h apart e m = absurd (cc)
find-standing number asid (None ∷ ps) zero h apart e m = absurd (cc)
find-standing number asid (None ∷ ps) (suc k) h apart e m = find-standing number asid ps k h (tail_apart None ps apart) e m
find-standing number asid (Some x ∷ ps) zero h apart e m =
    let same : x ≡ h = cc in
    rw (same, m) refl
find-standing number asid (Some x ∷ ps) (suc k) h apart e m =
    elim (cases_Bool (is_of number asid x)) [
      | inl here ↦ absurd (both_ways _ (apart zero (suc k) x h (λ z. omega arith) refl e) (clash_from x h number asid here m))
      | inr away ↦ rw away (find-standing number asid ps k h (tail_apart (Some x) ps apart) e m)
    ]

-- no place has a half of this virtual page in this address space
abbrev pub HasNone : ℕ → ℕ → Places → Type 0
HasNone number asid ps = (k : ℕ) (h : Half) → half_at ps k ≡ Some h → is_of number asid h ≡ false

pub filter-none : (number asid : ℕ) (ps : Places) → HasNone number asid ps → filter (is_of number asid) (standing ps) ≡ []
filter-none number asid [] none = refl
filter-none number asid (None ∷ ps) none = filter-none number asid ps (λ k. none (suc k))
filter-none number asid (Some x ∷ ps) none = rw (none zero x refl) (filter-none number asid ps (λ k. none (suc k)))

pub find-none : (number asid : ℕ) (ps : Places) → HasNone number asid ps → find (is_of number asid) (standing ps) ≡ None
find-none number asid [] none = refl
find-none number asid (None ∷ ps) none = find-none number asid ps (λ k. none (suc k))
find-none number asid (Some x ∷ ps) none = rw (none zero x refl) (find-none number asid ps (λ k. none (suc k)))

others_away : (number asid : ℕ) (x : Half) (ps : Places) → AreApart (Some x ∷ ps) → is_of number asid x ≡ true → HasNone number asid ps
others_away number asid x ps apart here k h e =
    elim (cases_Bool (is_of number asid h)) [
      | inl there ↦ absurd (both_ways _ (apart zero (suc k) x h (λ z. omega arith) refl e) (clash_from x h number asid here there))
      | inr away ↦ away
    ]

pub unambiguous : (ps : Places) → AreApart ps → IsUnambiguous (standing ps)
unambiguous [] apart number asid = omega arith
unambiguous (None ∷ ps) apart number asid = unambiguous ps (tail_apart None ps apart) number asid
unambiguous (Some x ∷ ps) apart number asid =
    elim (cases_Bool (is_of number asid x)) [
      | inl here ↦ rw (here, filter-none number asid ps (others_away number asid x ps apart here)) (omega arith)
      | inr away ↦ rw away (unambiguous ps (tail_apart (Some x) ps apart) number asid)
    ]
