-- What the places and the turn have in common stays so.
use Rattle.std.proofs.Common.{◌≡◌, inl, inr, ℕ, ◌+◌, ◌-◌, ◌*◌, ◌/◌, ◌%◌, ◌<◌, lit<, Bool, true, false, List, map, replicate, find, Option, Some, None, unwrap_or, refl, sym, ◌∙◌, arith}
use Rattle.std.proofs.lemmas.Bool.{cases_lt}
use Rattle.std.proofs.lemmas.List.{get_or_past, length-map, length-replicate}
use Rattle.base_words.specs.Halves.{Half, is_of, clash, Fills}
use Rattle.hw_tlb.specs.declared.room.Room.{Room}
use Rattle.hw_tlb.specs.Tlb.{Tlb, half_at, standing, side, are_beside, no_halves, IsConsistent}
use Rattle.hw_tlb.specs.Dropping.{emptied}
use Rattle.hw_tlb.specs.Filling.{has_such, half_for, first_entry, found_entry, or_else, turn_after, placed, filled}
use Rattle.hw_tlb.specs.Counts.{IsFirst}
use Rattle.hw_tlb.specs.Rooms.{half_of, half_in, is_keyed, Sound}
use Rattle.hw_tlb.proofs.PlaceLemmas.{half_at-replicate, find-standing, find-none, unambiguous}
use Rattle.hw_tlb.proofs.FillLemmas.{keeps-emptied, fills-placed, length-placed}
use Rattle.hw_tlb.proofs.OrderLemmas.{order-keeps, order-empty, order-placed}
use Rattle.hw_tlb.proofs.RoomLemmas.{such-room}

abbrev Places : Type 0
Places = List (Option Half)

-- places and turn as a caller sees them
abbrev pub seen : Places → ℕ → Tlb
seen ps next = record { places = ps; next = next }

pub consistent : {ps : Places} {next : ℕ} → Sound ps next → IsConsistent (seen ps next)
consistent {ps} s = record {
  long = s.long;
  turn = s.turn;
  unambiguous = unambiguous ps s.order.apart;
  sided = s.order.sided;
  paired = s.order.paired;
}

pub sound-empty : (next : ℕ) → next < 48 → Sound no_halves next
sound-empty next lt = record {
  order = order-empty (replicate 96 None) (half_at-replicate 96);
  long = length-replicate {A = Option Half} 96 None;
  turn = lt;
}

pub sound-new : Sound no_halves 0
sound-new = sound-empty 0 (lit< tt)

pub sound-swept : (q : Half → Bool) {ps : Places} {next : ℕ} → Sound ps next → (qs : Places) → qs ≡ map (emptied q) ps → Sound qs next
sound-swept q {ps} s qs e = record {
  order = rw e (order-keeps ps (map (emptied q) ps) s.order (keeps-emptied q ps));
  long = rw (e, length-map ps (emptied q)) s.long;
  turn = s.turn;
}

-- a new half is placed
pub sound-placed : (new : Half) {ps : Places} {next : ℕ} → Sound ps next → (qs : Places) (entry : ℕ) → entry < 48 → qs ≡ placed new entry ps → (turn : ℕ) → turn < 48 → Sound qs turn
sound-placed new {ps} s qs entry small is turn in_turn = record {
  order = rw is (order-placed new entry ps small s.long s.order);
  long = rw (is, length-placed new entry ps) s.long;
  turn = in_turn;
}

-- the entry that a new half finds is the first where it clashes
pub first_found : (new : Half) (ps : Places) (entry next : ℕ) → entry ≡ unwrap_or (found_entry new ps) next → IsFirst new entry ps
first_found new ps entry next e first is = by (first_entry (clash new) (side new) ps) is e
  where
    by : (o : Option ℕ) → o ≡ Some first → entry ≡ unwrap_or (or_else o (first_entry (are_beside new) (1 - side new) ps)) next → first ≡ entry
    by None is e = absurd cc
    by (Some x) is e = let same : x ≡ first = cc in sym (e ∙ same)

-- the key of an address in an address space gives both back
pub key-number : (number asid : ℕ) → asid < 256 → (number * 256 + asid) / 256 ≡ number
key-number number asid lt = omega arith

pub key-asid : (number asid : ℕ) → asid < 256 → (number * 256 + asid) % 256 ≡ asid
key-asid number asid lt = omega arith

-- the half in a room whose key is made for an address
pub half-keyed : (address asid : ℕ) (r : Room) → r.key ≡ address / 4096 * 256 + asid → asid < 256 → half_of r ≡ half_for address asid r.global r.page r.frame r.writable
half-keyed address asid r e lt = rw (e, key-number (address / 4096) asid lt, key-asid (address / 4096) asid lt) refl

keyed : (number asid key : ℕ) (h : Half) → key ≡ number * 256 + asid → asid < 256 → is_keyed key h ≡ is_of number asid h
keyed number asid key h e lt = rw (e, key-number number asid lt, key-asid number asid lt) refl

pub found_at : {ps : Places} {next : ℕ} → Sound ps next → (number asid key : ℕ) → key ≡ number * 256 + asid → asid < 256 → (k : ℕ) (r : Room) → half_in r ≡ half_at ps k → has_such (is_keyed key) (half_in r) ≡ true → find (is_of number asid) (standing ps) ≡ Some (half_of r)
found_at {ps} s number asid key e lt k r at m =
    let there = such-room (is_keyed key) r m in
    find-standing number asid ps k (half_of r) s.order.apart (sym at ∙ there.0) (sym (keyed number asid key (half_of r) e lt) ∙ there.1)

such : (q : Half → Bool) (p : Option Half) (h : Half) → has_such q p ≡ false → p ≡ Some h → q h ≡ false
such q p h away is = rw is at away

pub found_nowhere : {ps : Places} {next : ℕ} → Sound ps next → (number asid key : ℕ) → key ≡ number * 256 + asid → asid < 256 → ((k : ℕ) → k < 96 → has_such (is_keyed key) (half_at ps k) ≡ false) → find (is_of number asid) (standing ps) ≡ None
found_nowhere {ps} s number asid key e lt m =
    find-none number asid ps (λ k h is. elim (cases_lt k 96) [
      | inl small ↦ sym (keyed number asid key h e lt) ∙ such (is_keyed key) (half_at ps k) h (m k small) is
      | inr big ↦ let never = rw (get_or_past ps k None (rw s.long big)) at is in absurd (cc)
    ])

-- the TLB after its parts are, of a half that is seen in two ways
pub filled_is : (n h : Half) (ps qs : Places) (next turn entry : ℕ) → n ≡ h → entry ≡ unwrap_or (found_entry n ps) next → turn ≡ turn_after (found_entry n ps) next → qs ≡ placed n entry ps → seen qs turn ≡ filled h (seen ps next)
filled_is n h ps qs next turn entry same in_entry in_turn is = rw (← same, is, in_entry, in_turn) refl

pub fills_is : (n h : Half) {ps : Places} {next : ℕ} → Sound ps next → (qs : Places) (entry : ℕ) → n ≡ h → entry < 48 → qs ≡ placed n entry ps → Fills h (standing ps) (standing qs)
fills_is n h {ps} s qs entry same small is = rw (← same, is) (fills-placed n entry ps small s.long)
