-- What joins and what stays when a half is filled or halves are dropped.
use Rattle.std.proofs.Common.{◌≡◌, inl, inr, ℕ, ◌+◌, ◌-◌, ◌*◌, ◌<◌, Bool, not, false, List, length, map, set, Option, Some, None, refl, ◌∙◌, arith}
use Rattle.std.proofs.lemmas.Bool.{cases_Bool, cases_eq}
use Rattle.std.proofs.lemmas.List.{get_or-set_same, get_or-set_other, length-map, length-set}
use Rattle.base_words.specs.Halves.{Half, clash, Fills}
use Rattle.hw_tlb.specs.Tlb.{half_at, standing, side, are_beside}
use Rattle.hw_tlb.specs.Dropping.{emptied}
use Rattle.hw_tlb.specs.Filling.{placed}
use Rattle.hw_tlb.specs.Rooms.{AreApart}
use Rattle.hw_tlb.proofs.PlaceLemmas.{half_at-map, has-standing, stands}

abbrev Places : Type 0
Places = List (Option Half)

-- some places were emptied
abbrev pub Keeps : Places → Places → Type 0
Keeps ps qs = (k : ℕ) (h : Half) → half_at qs k ≡ Some h → half_at ps k ≡ Some h

pub apart-keeps : (ps qs : Places) → AreApart ps → Keeps ps qs → AreApart qs
apart-keeps ps qs apart keeps i j a b ne ea eb = apart i j a b ne (keeps i a ea) (keeps j b eb)

-- what stays of a place that was emptied
pub record Stays (q : Half → Bool) (p : Option Half) (h : Half) : Type 0 where
  pub was : p ≡ Some h
  pub other : q h ≡ false

pub stays : (q : Half → Bool) (p : Option Half) (h : Half) → emptied q p ≡ Some h → Stays q p h
stays q None h e = absurd (cc)
stays q (Some x) h e =
    elim (cases_Bool (q x)) [
      | inl gone ↦ let no = rw gone at e in absurd (cc)
      | inr kept ↦ let yes = rw kept at e in let same : x ≡ h = cc in record { was = yes; other = rw (← same) kept }
    ]

pub keeps-emptied : (q : Half → Bool) (ps : Places) → Keeps ps (map (emptied q) ps)
keeps-emptied q ps k h e = let s = stays q (half_at ps k) h (rw (half_at-map (emptied q) refl ps k) at e) in s.was

-- each half stood there before, and doesn't clash with the new one
abbrev IsClear : Half → Places → Places → Type 0
IsClear new ps qs = (k : ℕ) (h : Half) → half_at qs k ≡ Some h → Stays (clash new) (half_at ps k) h

clear-emptied : (new : Half) (ps : Places) → IsClear new ps (map (emptied (clash new)) ps)
clear-emptied new ps k h e = stays (clash new) (half_at ps k) h (rw (half_at-map (emptied (clash new)) refl ps k) at e)

-- one place more is emptied
clear-set : (new : Half) (q : Half → Bool) (ps qs : Places) (other : ℕ) → other < length qs → IsClear new ps qs → IsClear new ps (set qs other (emptied q (half_at qs other)))
clear-set new q ps qs other within clear k h e =
    elim (cases_eq k other) [
      | inl is ↦
          let here = get_or-set_same qs other (emptied q (half_at qs other)) None within in
          let s = stays q (half_at qs other) h (rw (is, here) at e) in
          rw is (clear other h s.was)
      | inr ne ↦ clear k h (rw (get_or-set_other qs other k (emptied q (half_at qs other)) None ne) at e)
    ]

clash_sym : (a b : Half) → clash a b ≡ false → clash b a ≡ false
clash_sym a b h = grind arith

apart-set : (new : Half) (ps qs : Places) (place : ℕ) → place < length qs → AreApart ps → IsClear new ps qs → AreApart (set qs place (Some new))
apart-set new ps qs place within apart clear i j a b ne ea eb =
    let here = get_or-set_same qs place (Some new) None within in
    elim (cases_eq i place) [
      | inl is_i ↦
          let own = rw (is_i, here) at ea in
          let same : new ≡ a = cc in
          let there = get_or-set_other qs place j (Some new) None (λ f. ne (omega arith)) in
          rw (← same) ((clear j b (rw there at eb)).other)
      | inr ne_i ↦
          let before = rw (get_or-set_other qs place i (Some new) None ne_i) at ea in
          elim (cases_eq j place) [
            | inl is_j ↦
                let own = rw (is_j, here) at eb in
                let same : new ≡ b = cc in
                rw (← same) (clash_sym new a ((clear i a before).other))
            | inr ne_j ↦
                let later = rw (get_or-set_other qs place j (Some new) None ne_j) at eb in
                apart i j a b ne ((clear i a before).was) ((clear j b later).was)
          ]
    ]

fills : (new : Half) (ps qs : Places) (place : ℕ) → place < length qs → IsClear new ps qs → Fills new (standing ps) (standing (set qs place (Some new)))
fills new ps qs place within clear =
    let here = get_or-set_same qs place (Some new) None within in
    record {
      joins = has-standing (set qs place (Some new)) place new here;
      others = λ h has.
          let s = stands (set qs place (Some new)) h has in
          elim (cases_eq s.at place) [
            | inl is ↦ let own = rw (is, here) at s.is in inl (cc)
            | inr ne ↦
                let c = clear s.at h (rw (get_or-set_other qs place s.at (Some new) None ne) at s.is) in
                inr (has-standing ps s.at h c.was, c.other)
          ];
    }

-- the places once all that can't stay beside the new half is gone
abbrev pub cleared : Half → ℕ → Places → Places
cleared new entry ps =
    let qs = map (emptied (clash new)) ps in
    let other = 2 * entry + (1 - side new) in
    set qs other (emptied (λ h. not (are_beside new h)) (half_at qs other))

pub length-cleared : (new : Half) (entry : ℕ) (ps : Places) → length (cleared new entry ps) ≡ length ps
length-cleared new entry ps =
    let qs = map (emptied (clash new)) ps in
    let other = 2 * entry + (1 - side new) in
    length-set qs other (emptied (λ h. not (are_beside new h)) (half_at qs other)) ∙ length-map ps (emptied (clash new))

pub clear-cleared : (new : Half) (entry : ℕ) (ps : Places) → entry < 48 → length ps ≡ 96 → IsClear new ps (cleared new entry ps)
clear-cleared new entry ps small long =
    clear-set new (λ h. not (are_beside new h)) ps (map (emptied (clash new)) ps) (2 * entry + (1 - side new)) (rw (length-map ps (emptied (clash new)), long) (omega arith)) (clear-emptied new ps)

pub in_place : (new : Half) (entry : ℕ) (ps : Places) → entry < 48 → length ps ≡ 96 → 2 * entry + side new < length (cleared new entry ps)
in_place new entry ps small long = rw (length-cleared new entry ps, long) (omega arith)

pub apart-placed : (new : Half) (entry : ℕ) (ps : Places) → entry < 48 → length ps ≡ 96 → AreApart ps → AreApart (placed new entry ps)
apart-placed new entry ps small long apart =
    apart-set new ps (cleared new entry ps) (2 * entry + side new) (in_place new entry ps small long) apart (clear-cleared new entry ps small long)

pub fills-placed : (new : Half) (entry : ℕ) (ps : Places) → entry < 48 → length ps ≡ 96 → Fills new (standing ps) (standing (placed new entry ps))
fills-placed new entry ps small long =
    fills new ps (cleared new entry ps) (2 * entry + side new) (in_place new entry ps small long) (clear-cleared new entry ps small long)

pub length-placed : (new : Half) (entry : ℕ) (ps : Places) → length (placed new entry ps) ≡ length ps
length-placed new entry ps = length-set (cleared new entry ps) (2 * entry + side new) (Some new) ∙ length-cleared new entry ps
