-- Which wires were asked.
use Rattle.std.proofs.Common.{◌≡◌, ◌≢◌, ℕ, ◌+◌, ◌<◌, ◌≤◌, ◌==◌, if◌then◌else◌, Bool, true, false, not, ◌&&◌, ◌||◌, Option, Some, None, IfSome, IfNone, length, nat_le, nat_lt, ◌⊎◌, inl, inr, refl, sym, ap, ◌∙◌, subst, arith, true≢false}
use Rattle.std.proofs.lemmas.Bool.{cases_lt, eqb-true, eqb-false, leb-true, ltb-true, le-leb, lt-ltb}
use Rattle.wire_queue.specs.ListSteps.{asked_so_far, asked_again, AsksInVain, TakesFrom}
use Rattle.wire_queue.specs.PassLists.{taking_from, asks_of}
use Rattle.wire_queue.specs.Ends.{Taking}
use Rattle.wire_queue.specs.declared.lists.PassList.{PassList}
use Rattle.wire_queue.specs.declared.packet.WirePacket.{WirePacket}
use Rattle.guest_core.specs.Wiring.{is_other_in, others_of, TakesNext, TakenOn}

-- ---- another guest, by its number

both : (a b : Bool) → (a && b) ≡ true → (a ≡ true) × (b ≡ true)
both true b e = (refl, e)
both false b e = absurd (true≢false (sym e))

or-cases : (a b : Bool) → (a || b) ≡ true → (a ≡ true) ⊎ (b ≡ true)
or-cases true b e = inl refl
or-cases false b e = inr e

apart : (b : Bool) → not b ≡ true → b ≡ false
apart true e = absurd (true≢false (sym e))
apart false e = refl

record IsOther (own first end other : ℕ) : Type 0 where
  pub from : first ≤ other
  pub below : other < end
  pub apart : other ≢ own

is-other : (own first end other : ℕ) → is_other_in own first end other ≡ true → IsOther own first end other
is-other own first end other e =
    let a = both (nat_le first other) (nat_lt other end && not (other == own)) e in
    let b = both (nat_lt other end) (not (other == own)) a.1 in
    record { from = leb-true first other a.0; below = ltb-true other end b.0; apart = eqb-false other own (apart (other == own) b.1) }

equal-or : (P : Bool → Type 0) (a b : ℕ) → (a ≡ b → P true) → (a ≢ b → P false) → P (a == b)
equal-or P a b same other = by (a == b) refl
  where
    by : (z : Bool) → (a == b) ≡ z → P z
    by true e = same (eqb-true a b e)
    by false e = other (eqb-false a b e)

other-is : (own first end other : ℕ) → IsOther own first end other → is_other_in own first end other ≡ true
other-is own first end other x =
    ap (λ (z : Bool). z && (nat_lt other end && not (other == own))) (le-leb first other x.from)
    ∙ ap (λ (z : Bool). z && not (other == own)) (lt-ltb other end x.below)
    ∙ equal-or (λ z. not z ≡ true) other own (λ same. absurd (x.apart same)) (λ differ. refl)

-- ---- asks add up

-- fewer of those that were asked
pub vain-less : (a b : PassList) (these fewer : ℕ → Bool) → ((other : ℕ) → fewer other ≡ true → these other ≡ true) → AsksInVain a b these → AsksInVain a b fewer
vain-less a b these fewer among v = record { guest = v.guest; asks = λ other is. v.asks other (among other is); others = v.others; sends = v.sends; takes = v.takes }

pub vain-none : (passes : PassList) (own first : ℕ) → AsksInVain passes passes (is_other_in own first first)
vain-none passes own first = record {
  guest = refl;
  asks = λ other is. let x = is-other own first first other is in absurd (omega (arith, x.from, x.below));
  others = λ other. omega arith;
  sends = λ to. refl;
  takes = λ from. refl;
}

-- the guest itself is no other one
pub vain-own : (a b : PassList) (own first : ℕ) → AsksInVain a b (is_other_in own first own) → AsksInVain a b (is_other_in own first (own + 1))
vain-own a b own first =
    vain-less a b (is_other_in own first own) (is_other_in own first (own + 1)) (λ other is. let x = is-other own first (own + 1) other is in
    other-is own first own other (record { from = x.from; below = let below = x.below in let differ = x.apart in omega arith; apart = x.apart }))

vain-twice : (a b c : PassList) (these more all : ℕ → Bool) → ((other : ℕ) → all other ≡ true → (these other ≡ true) ⊎ (more other ≡ true)) → AsksInVain a b these → AsksInVain b c more → AsksInVain a c all
vain-twice a b c these more all among first next = record {
  guest = next.guest ∙ first.guest;
  asks = λ other is. by other (among other is);
  others = λ other. omega (arith, first.others other, next.others other);
  sends = λ to. next.sends to ∙ first.sends to;
  takes = λ from. next.takes from ∙ first.takes from;
}
  where
    by : (other : ℕ) → (these other ≡ true) ⊎ (more other ≡ true) → asked_again (asks_of a other) ≤ asks_of c other
    by other (inl is) = omega (arith, first.asks other is, next.others other)
    by other (inr is) = omega (arith, first.others other, next.asks other is)

-- a wire that gave none was asked in vain
vain-one : (a b : PassList) (from : ℕ) → TakesFrom a from None b → AsksInVain a b (λ other. other == from)
vain-one a b from t = record {
  guest = t.only.guest;
  asks = λ other is. let same = eqb-true other from is in
      let now : asks_of b other ≡ asked_again (asks_of a other) = t.only.asks other ∙ ap (λ (z : Bool). if z then asked_again (asks_of a from) else asks_of a other) is ∙ ap (λ (k : ℕ). asked_again (asks_of a k)) (sym same) in
      omega (arith, now);
  others = λ other. grows other (other == from) refl (t.only.asks other);
  sends = t.only.sends;
  takes = λ other. by other (other == from) refl;
}
  where
    grows : (other : ℕ) (same : Bool) → (other == from) ≡ same → asks_of b other ≡ (if same then asked_again (asks_of a from) else asks_of a other) → asked_so_far (asks_of a other) ≤ asks_of b other
    grows other true is now = let same : asks_of a other ≡ asks_of a from = ap (asks_of a) (eqb-true other from is) in omega (arith, now, same)
    grows other false is now = omega (arith, now)

    by : (other : ℕ) (same : Bool) → (other == from) ≡ same → taking_from b other ≡ taking_from a other
    by other true is = ap (taking_from b) (eqb-true other from is) ∙ t.is ∙ ap (λ (e : Taking). Some e) t.taken ∙ sym t.was ∙ ap (taking_from a) (sym (eqb-true other from is))
    by other false is = t.only.takes other (eqb-false other from is)

-- one more of them was
pub vain-next : (a b c : PassList) (own first from : ℕ) → AsksInVain a b (is_other_in own first from) → TakesFrom b from None c → AsksInVain a c (is_other_in own first (from + 1))
vain-next a b c own first from v t = vain-twice a b c (is_other_in own first from) (λ other. other == from) (is_other_in own first (from + 1)) among v (vain-one b c from t)
  where
    among : (other : ℕ) → is_other_in own first (from + 1) other ≡ true → (is_other_in own first from other ≡ true) ⊎ ((other == from) ≡ true)
    among other is =
        let x = is-other own first (from + 1) other is in
        equal-or (λ (z : Bool). (is_other_in own first from other ≡ true) ⊎ (z ≡ true)) other from (λ same. inr refl)
        (λ differ. inl (other-is own first from other (record { from = x.from; below = let below = x.below in let d = differ in omega arith; apart = x.apart })))

-- after some guests were asked in vain the others are asked, and then all were
pub taken-next : (old mid new : PassList) (start guests : ℕ) (o : Option WirePacket) → guests ≡ length old.takes.items → start ≤ guests → AsksInVain old mid (is_other_in old.guest.0 start guests)
    → IfNone o (AsksInVain mid new (is_other_in mid.guest.0 0 start)) → IfSome o (λ (packet : WirePacket). TakesNext mid packet new) → TakenOn old o new
taken-next old mid new start guests None all le first rest some =
    let own = ap (λ g. g.0) first.guest in
    vain-twice old mid new (is_other_in old.guest.0 start guests) (is_other_in mid.guest.0 0 start) (others_of old) (among own) first rest
  where
    among : mid.guest.0 ≡ old.guest.0 → (other : ℕ) → others_of old other ≡ true → (is_other_in old.guest.0 start guests other ≡ true) ⊎ (is_other_in mid.guest.0 0 start other ≡ true)
    among own other is =
        let x = is-other old.guest.0 0 (length old.takes.items) other is in
        elim (cases_lt other start) [
          | inl before ↦ inr (other-is mid.guest.0 0 start other (record { from = omega arith; below = before; apart = λ same. x.apart (same ∙ own) }))
          | inr after ↦ inl (other-is old.guest.0 start guests other (record { from = after; below = subst (λ (n : ℕ). other < n) (sym all) x.below; apart = x.apart }))
        ]
taken-next old mid new start guests (Some packet) all le first none t = record {
  asked = λ other. is_other_in old.guest.0 start guests other || t.asked other;
  mid = t.mid;
  vain = vain-twice old mid t.mid (is_other_in old.guest.0 start guests) t.asked (λ other. is_other_in old.guest.0 start guests other || t.asked other)
      (λ other. or-cases (is_other_in old.guest.0 start guests other) (t.asked other)) first t.vain;
  from = t.from;
  takes = t.takes;
}
