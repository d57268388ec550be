-- How the places follow from the rooms.
use Rattle.std.proofs.Common.{◌≡◌, inl, inr, ℕ, ◌<◌, nat_lt, Bool, true, false, List, length, get_or, set, replicate, Option, Some, None, refl, ap, ◌∷◌, suc, zero}
use Rattle.std.proofs.lemmas.Bool.{cases_Bool, both_ways}
use Rattle.std.proofs.lemmas.List.{get_or-map, map-set}
use Rattle.base_words.specs.Halves.{Half}
use Rattle.hw_tlb.specs.declared.room.Room.{Room}
use Rattle.hw_tlb.specs.Tlb.{half_at}
use Rattle.hw_tlb.specs.Dropping.{emptied}
use Rattle.hw_tlb.specs.Filling.{has_such}
use Rattle.hw_tlb.specs.Rooms.{half_of, half_in, places_of}

pub half_at-places : (rs : List Room) (k : ℕ) (d : Room) → k < length rs → half_at (places_of rs) k ≡ half_in (get_or rs k d)
half_at-places rs k d within = get_or-map half_in rs k d None within

pub places-set : (rs : List Room) (k : ℕ) (r : Room) → places_of (set rs k r) ≡ set (places_of rs) k (half_in r)
places-set rs k r = map-set half_in rs k r

-- rooms that are all alike and empty
pub places-empty : (n : ℕ) (r : Room) → half_in r ≡ None → places_of (replicate n r) ≡ replicate n None
places-empty zero r e = refl
places-empty (suc n) r e = rw e (ap (λ (ps : List (Option Half)). None ∷ ps) (places-empty n r e))

-- what a test of a room says of its place
pub gone : (q : Half → Bool) (r : Room) → q (half_of r) ≡ true → emptied q (half_in r) ≡ None
gone q r e = elim (cases_Bool (nat_lt r.key 268435456)) [ inl v ↦ rw (v, e) refl | inr v ↦ rw v refl ]

pub kept : (q : Half → Bool) (r : Room) → q (half_of r) ≡ false → emptied q (half_in r) ≡ half_in r
kept q r e = elim (cases_Bool (nat_lt r.key 268435456)) [ inl v ↦ rw (v, e) refl | inr v ↦ rw v refl ]

pub not_such : (q : Half → Bool) (r : Room) → q (half_of r) ≡ false → has_such q (half_in r) ≡ false
not_such q r e = elim (cases_Bool (nat_lt r.key 268435456)) [ inl v ↦ rw (v, e) refl | inr v ↦ rw v refl ]

-- a room that has such a half
pub such-room : (q : Half → Bool) (r : Room) → has_such q (half_in r) ≡ true → (half_in r ≡ Some (half_of r)) × (q (half_of r) ≡ true)
such-room q r e =
    elim (cases_Bool (nat_lt r.key 268435456)) [
      | inl v ↦ (rw v refl, rw v at e)
      | inr v ↦ let never = rw v at e in absurd (both_ways _ refl never)
    ]
