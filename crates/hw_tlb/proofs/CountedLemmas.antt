-- The counts stay exact as halves join and go.
use Rattle.std.proofs.Common.{◌≡◌, ℕ, ◌+◌, ◌-◌, ◌/◌, ◌%◌, ◌<◌, ◌≤◌, ◌==◌, nat_lt, Bool, true, false, not, ◌&&◌, List, length, get_or, set, replicate, Option, Some, None, refl, sym, ap, subst, ◌∙◌, lit<}
use mir.Val.{bool_byte}
use Rattle.std.proofs.lemmas.Bool.{lt-ltb}
use Rattle.std.proofs.lemmas.List.{set-get_or, get_or-replicate, length-map, length-set, length-replicate}
use Rattle.base_words.specs.Halves.{Half}
use Rattle.hw_tlb.specs.declared.room.Room.{Room}
use Rattle.hw_tlb.specs.Tlb.{half_at}
use Rattle.hw_tlb.specs.Counts.{AreCounts, bucket_of_number, bucket_of_key, is_numbered, is_spaced, is_shared}
use Rattle.hw_tlb.specs.Rooms.{half_of, half_in, places_of, AreCounted, AreHints}
use Rattle.hw_tlb.proofs.RoomLemmas.{half_at-places, places-set, places-empty}
use Rattle.hw_tlb.proofs.CountLemmas.{bit, enough, raised, lowered, counts-none}

pub hints-new : AreHints (replicate 256 0)
hints-new = record {
  wide = length-replicate {A = ℕ} 256 0;
  within = λ k lt. rw (get_or-replicate {A = ℕ} 256 k 0 0 lt) (lit< tt);
}

pub counted-new : (r : Room) → half_in r ≡ None → AreCounted (replicate 96 r) (replicate 256 0) (replicate 256 0) (replicate 256 0)
counted-new r e = record {
  long = length-replicate 96 r;
  by_number = rw (places-empty 96 r e) (counts-none is_numbered);
  by_key = rw (places-empty 96 r e) (counts-none is_spaced);
  globals = rw (places-empty 96 r e) (counts-none is_shared);
}

byte-bit : (b : Bool) → bool_byte b ≡ bit b
byte-bit true = refl
byte-bit false = refl

half-there : (r : Room) → nat_lt r.key 268435456 ≡ true → half_in r ≡ Some (half_of r)
half-there r e = rw e refl

long-places : (rs : List Room) → length rs ≡ 96 → length (places_of rs) ≡ 96
long-places rs e = length-map rs half_in ∙ e

pub counted-put : {rs : List Room} {ns ks gs : List ℕ} → AreCounted rs ns ks gs → (k : ℕ) (new : Room) (n b kb one all : ℕ) → k < 96 → half_at (places_of rs) k ≡ None → new.key < 268435456 → n ≡ new.key / 256 → b ≡ bucket_of_number n → b < 256 → kb ≡ bucket_of_key (new.key / 256) (new.key % 256) → kb < 256 → one ≡ bool_byte (not new.global) → all ≡ bool_byte new.global → AreCounted (set rs k new) (set ns b (get_or ns b 0 + 1)) (set ks kb (get_or ks kb 0 + one)) (set gs b (get_or gs b 0 + all))
counted-put {rs} {ns} {ks} {gs} s k new n b kb one all within free key n_is b_is b_lt kb_is kb_lt one_is all_is =
    let lt : k < length (places_of rs) = rw (long-places rs s.long) within in
    let set_is : places_of (set rs k new) ≡ set (places_of rs) k (Some (half_of new)) = places-set rs k new ∙ ap (λ (p : Option Half). set (places_of rs) k p) (half-there new (lt-ltb new.key 268435456 key)) in
    let number : bucket_of_number (new.key / 256) ≡ b = sym (b_is ∙ ap bucket_of_number n_is) in
    record {
      long = length-set rs k new ∙ s.long;
      by_number = subst (λ (ps : List (Option Half)). AreCounts is_numbered (set ns b (get_or ns b 0 + 1)) ps) (sym set_is) (raised s.by_number k (half_of new) b true 1 lt free (λ c. ap (λ (m : ℕ). m == c) number) b_lt refl);
      by_key = subst (λ (ps : List (Option Half)). AreCounts is_spaced (set ks kb (get_or ks kb 0 + one)) ps) (sym set_is) (raised s.by_key k (half_of new) kb (not new.global) one lt free (λ c. ap (λ (m : ℕ). not new.global && (m == c)) (sym kb_is)) kb_lt (one_is ∙ byte-bit (not new.global)));
      globals = subst (λ (ps : List (Option Half)). AreCounts is_shared (set gs b (get_or gs b 0 + all)) ps) (sym set_is) (raised s.globals k (half_of new) b new.global all lt free (λ c. ap (λ (m : ℕ). new.global && (m == c)) number) b_lt (all_is ∙ byte-bit new.global));
    }

pub room-there : {rs : List Room} {ns ks gs : List ℕ} → AreCounted rs ns ks gs → (k : ℕ) (d : Room) → k < 96 → nat_lt (get_or rs k d).key 268435456 ≡ true → half_at (places_of rs) k ≡ Some (half_of (get_or rs k d))
room-there {rs} s k d within taken = half_at-places rs k d (rw s.long within) ∙ half-there (get_or rs k d) taken

module _ (rs : List Room) (ns ks gs : List ℕ) (s : AreCounted rs ns ks gs) (k : ℕ) (d : Room) (within : k < 96) (taken : nat_lt (get_or rs k d).key 268435456 ≡ true) where
  there : half_at (places_of rs) k ≡ Some (half_of (get_or rs k d))
  there = room-there s k d within taken

  in_numbered : (n b : ℕ) → n ≡ (get_or rs k d).key / 256 → b ≡ bucket_of_number n → (c : ℕ) → is_numbered c (half_of (get_or rs k d)) ≡ (true && (b == c))
  in_numbered n b n_is b_is c = ap (λ (m : ℕ). m == c) (sym (b_is ∙ ap bucket_of_number n_is))

  in_spaced : (kb : ℕ) → kb ≡ bucket_of_key ((get_or rs k d).key / 256) ((get_or rs k d).key % 256) → (c : ℕ) → is_spaced c (half_of (get_or rs k d)) ≡ (not (get_or rs k d).global && (kb == c))
  in_spaced kb kb_is c = ap (λ (m : ℕ). not (get_or rs k d).global && (m == c)) (sym kb_is)

  in_shared : (n b : ℕ) → n ≡ (get_or rs k d).key / 256 → b ≡ bucket_of_number n → (c : ℕ) → is_shared c (half_of (get_or rs k d)) ≡ ((get_or rs k d).global && (b == c))
  in_shared n b n_is b_is c = ap (λ (m : ℕ). (get_or rs k d).global && (m == c)) (sym (b_is ∙ ap bucket_of_number n_is))

  pub enough-numbered : (n b : ℕ) → n ≡ (get_or rs k d).key / 256 → b ≡ bucket_of_number n → b < 256 → 1 ≤ get_or ns b 0
  enough-numbered n b n_is b_is b_lt = enough s.by_number k (half_of (get_or rs k d)) there b true b_lt (in_numbered n b n_is b_is b)

  pub enough-spaced : (kb one : ℕ) → kb ≡ bucket_of_key ((get_or rs k d).key / 256) ((get_or rs k d).key % 256) → kb < 256 → one ≡ bool_byte (not (get_or rs k d).global) → one ≤ get_or ks kb 0
  enough-spaced kb one kb_is kb_lt one_is = subst (λ (m : ℕ). m ≤ get_or ks kb 0) (sym (one_is ∙ byte-bit (not (get_or rs k d).global))) (enough s.by_key k (half_of (get_or rs k d)) there kb (not (get_or rs k d).global) kb_lt (in_spaced kb kb_is kb))

  pub enough-shared : (n b all : ℕ) → n ≡ (get_or rs k d).key / 256 → b ≡ bucket_of_number n → b < 256 → all ≡ bool_byte (get_or rs k d).global → all ≤ get_or gs b 0
  enough-shared n b all n_is b_is b_lt all_is = subst (λ (m : ℕ). m ≤ get_or gs b 0) (sym (all_is ∙ byte-bit (get_or rs k d).global)) (enough s.globals k (half_of (get_or rs k d)) there b (get_or rs k d).global b_lt (in_shared n b n_is b_is b))

  pub counted-clear : (n b kb one all : ℕ) → n ≡ (get_or rs k d).key / 256 → b ≡ bucket_of_number n → b < 256 → kb ≡ bucket_of_key ((get_or rs k d).key / 256) ((get_or rs k d).key % 256) → kb < 256 → one ≡ bool_byte (not (get_or rs k d).global) → all ≡ bool_byte (get_or rs k d).global → (e : Room) → half_in e ≡ None → AreCounted (set rs k e) (set ns b (get_or ns b 0 - 1)) (set ks kb (get_or ks kb 0 - one)) (set gs b (get_or gs b 0 - all))
  counted-clear n b kb one all n_is b_is b_lt kb_is kb_lt one_is all_is e empty =
      let lt : k < length (places_of rs) = rw (long-places rs s.long) within in
      let set_is : places_of (set rs k e) ≡ set (places_of rs) k None = places-set rs k e ∙ ap (λ (p : Option Half). set (places_of rs) k p) empty in
      record {
        long = length-set rs k e ∙ s.long;
        by_number = subst (λ (ps : List (Option Half)). AreCounts is_numbered (set ns b (get_or ns b 0 - 1)) ps) (sym set_is) (lowered s.by_number k (half_of (get_or rs k d)) b true 1 lt there (in_numbered n b n_is b_is) b_lt refl);
        by_key = subst (λ (ps : List (Option Half)). AreCounts is_spaced (set ks kb (get_or ks kb 0 - one)) ps) (sym set_is) (lowered s.by_key k (half_of (get_or rs k d)) kb (not (get_or rs k d).global) one lt there (in_spaced kb kb_is) kb_lt (one_is ∙ byte-bit (not (get_or rs k d).global)));
        globals = subst (λ (ps : List (Option Half)). AreCounts is_shared (set gs b (get_or gs b 0 - all)) ps) (sym set_is) (lowered s.globals k (half_of (get_or rs k d)) b (get_or rs k d).global all lt there (in_shared n b n_is b_is) b_lt (all_is ∙ byte-bit (get_or rs k d).global));
      }

-- a room without a half is cleared already
pub cleared-already : {rs : List Room} {ns ks gs : List ℕ} → AreCounted rs ns ks gs → (k : ℕ) (d : Room) → k < 96 → nat_lt (get_or rs k d).key 268435456 ≡ false → places_of rs ≡ set (places_of rs) k None
cleared-already {rs} s k d within free =
    let none : half_at (places_of rs) k ≡ None = half_at-places rs k d (rw s.long within) ∙ none-there (get_or rs k d) free in
    sym (ap (λ (p : Option Half). set (places_of rs) k p) (sym none) ∙ set-get_or (places_of rs) k None)
  where
    none-there : (r : Room) → nat_lt r.key 268435456 ≡ false → half_in r ≡ None
    none-there r e = rw e refl

-- a room as it is once a half was put or taken
pub places-put : (rs : List Room) (k : ℕ) (new : Room) → new.key < 268435456 → places_of (set rs k new) ≡ set (places_of rs) k (Some (half_of new))
places-put rs k new key = places-set rs k new ∙ ap (λ (p : Option Half). set (places_of rs) k p) (half-there new (lt-ltb new.key 268435456 key))

pub places-clear : (rs : List Room) (k : ℕ) (e : Room) → half_in e ≡ None → places_of (set rs k e) ≡ set (places_of rs) k None
places-clear rs k e empty = places-set rs k e ∙ ap (λ (p : Option Half). set (places_of rs) k p) empty
