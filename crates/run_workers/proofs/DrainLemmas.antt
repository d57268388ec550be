-- Guests that were only asked tell the same of their wires.
use Rattle.std.proofs.Common.{◌≡◌, ◌≢◌, ℕ, zero, suc, ◌+◌, ◌<◌, ◌==◌, Bool, true, false, List, [], ◌∷◌, length, length-set, set, Some, Ok, refl, sym, ap, ◌∙◌, subst, arith}
use Rattle.std.specs.Prelude.{slice_get}
use Rattle.std.proofs.lemmas.Bool.{eqb-true, eqb-false}
use Rattle.wire_queue.specs.ListSteps.{SameEnds, HasTaken}
use Rattle.wire_queue.specs.PassLists.{sending_to, taking_from}
use Rattle.wire_queue.specs.declared.lists.PassList.{PassList}
use Rattle.guest_core.specs.GuestView.{Monitored, Shared, IsSameGuest}
use Rattle.guest_core.specs.Making.{Stays}
use Rattle.guest_core.specs.PacketCalls.{IsArmed, KeepsEnds, SameSends, TakesPacket}
use Rattle.guest_core.specs.declared.answers.Packeted.{Packeted}
use Rattle.guest_core.specs.declared.answers.Packeted.TheVariants as packeted
use Rattle.run_workers.specs.Draining.{HasAll, Receives, AreKept, AreOthers}

-- ---- lists by their places

get-set : {A : Type 0} (xs : List A) (i : ℕ) (y x : A) → slice_get (set xs i y) i ≡ Some x → y ≡ x
get-set [] i y x e = absurd cc
get-set (z ∷ xs) zero y x e = cc
get-set (z ∷ xs) (suc i) y x e = get-set xs i y x e

get-other : {A : Type 0} (xs : List A) (i j : ℕ) (y : A) → (j ≡ i → ⊥) → slice_get (set xs i y) j ≡ slice_get xs j
get-other [] i j y ne = refl
get-other (z ∷ xs) zero zero y ne = absurd (ne refl)
get-other (z ∷ xs) zero (suc j) y ne = refl
get-other (z ∷ xs) (suc i) zero y ne = refl
get-other (z ∷ xs) (suc i) (suc j) y ne = get-other xs i j y (λ e. ne (ap suc e))

there : {A : Type 0} (xs : List A) (i : ℕ) → i < length xs → (x : A) × (slice_get xs i ≡ Some x)
there [] i lt = absurd (let m : i < 0 = lt in omega arith)
there (x ∷ xs) zero lt = (x, refl)
there (x ∷ xs) (suc i) lt = there xs i (omega (arith, lt))

pub within : {A : Type 0} (xs : List A) (i : ℕ) (x : A) → slice_get xs i ≡ Some x → i < length xs
within [] i x e = absurd cc
within (y ∷ xs) zero x e = omega arith
within (y ∷ xs) (suc i) x e = let r = within xs i x e in omega (arith, r)

some-same : {A : Type 0} (x y : A) → Some x ≡ Some y → x ≡ y
some-same x y e = cc

-- ---- guests that were only asked

pub same-refl : (g : Monitored) → IsSameGuest g g
same-refl g = record { number = refl; start = refl; disk = refl; board = refl; table = refl; wires = refl; own = refl }

pub same-trans : (g h k : Monitored) → IsSameGuest g h → IsSameGuest h k → IsSameGuest g k
same-trans g h k a b = record { number = b.number ∙ a.number; start = b.start ∙ a.start; disk = b.disk ∙ a.disk; board = b.board ∙ a.board; table = b.table ∙ a.table; wires = b.wires ∙ a.wires; own = b.own ∙ a.own }

pub ends-refl : (g : Monitored) → KeepsEnds g g
ends-refl g = record {
  same = same-refl g;
  handed = refl;
  stays = record { journal = refl; state = refl; view = refl };
  notes = refl;
  room = refl;
  ends = record { guest = refl; asks = refl; sends = λ to. refl; takes = λ from. refl };
}

pub ends-trans : (g h k : Monitored) → KeepsEnds g h → KeepsEnds h k → KeepsEnds g k
ends-trans g h k a b = record {
  same = same-trans g h k a.same b.same;
  handed = b.handed ∙ a.handed;
  stays = record { journal = b.stays.journal ∙ a.stays.journal; state = b.stays.state ∙ a.stays.state; view = b.stays.view ∙ a.stays.view };
  notes = b.notes ∙ a.notes;
  room = b.room ∙ a.room;
  ends = record { guest = b.ends.guest ∙ a.ends.guest; asks = b.ends.asks ∙ a.ends.asks; sends = λ to. b.ends.sends to ∙ a.ends.sends to; takes = λ from. b.ends.takes from ∙ a.ends.takes from };
}

pub kept-refl : (gs : List Monitored) → AreKept gs gs
kept-refl gs = record { count = refl; each = λ i g h a b. subst (KeepsEnds g) (some-same g h (sym a ∙ b)) (ends-refl g) }

pub kept-trans : (gs hs ks : List Monitored) → AreKept gs hs → AreKept hs ks → AreKept gs ks
kept-trans gs hs ks a b = record {
  count = b.count ∙ a.count;
  each = λ i g k at end.
      let mid = there hs i (omega (arith, within gs i g at, a.count)) in
      ends-trans g mid.0 k (a.each i g mid.0 at mid.1) (b.each i mid.0 k mid.1 end);
}

-- one of them was asked once more
pub kept-set : (gs hs : List Monitored) (i : ℕ) (h k : Monitored) → AreKept gs hs → slice_get hs i ≡ Some h → KeepsEnds h k → AreKept gs (set hs i k)
kept-set gs hs i h k are at is = record {
  count = length-set hs i k ∙ are.count;
  each = λ j g x a b. by j g x a b (j == i) refl;
}
  where
    by : (j : ℕ) (g x : Monitored) → slice_get gs j ≡ Some g → slice_get (set hs i k) j ≡ Some x → (b : Bool) → (j == i) ≡ b → KeepsEnds g x
    by j g x a b true e =
        let here : j ≡ i = eqb-true j i e in
        let last : k ≡ x = get-set hs i k x (subst (λ (n : ℕ). slice_get (set hs i k) n ≡ Some x) here b) in
        subst (KeepsEnds g) last (ends-trans g h k (are.each j g h a (ap (slice_get hs) here ∙ at)) is)
    by j g x a b false e = are.each j g x a (sym (get-other hs i j k (eqb-false j i e)) ∙ b)

-- ---- what was taken

pub sends-of : (p q : PassList) → SameEnds p q → SameSends p q
sends-of p q same = record { guest = same.guest; sends = same.sends }

pub has-still : (receiver sender receiver' sender' : PassList) → HasTaken receiver sender true → SameEnds receiver receiver' → SameSends sender sender' → HasTaken receiver' sender' true
has-still receiver sender receiver' sender' t r s = record {
  end = t.end;
  other = t.other;
  sends = s.sends receiver'.guest.0 ∙ ap (λ n. sending_to sender n.0) r.guest ∙ t.sends;
  takes = r.takes sender'.guest.0 ∙ ap (λ n. taking_from receiver n.0) s.guest ∙ t.takes;
  all = t.all;
  first = t.first;
}

-- after one more was asked, all that was told of those before it holds
pub told-more : (g g' : Monitored) (hs : List Monitored) (place : ℕ) (h h' : Monitored) → ((i : ℕ) (x : Monitored) → i < place → slice_get hs i ≡ Some x → HasTaken g.passes x.passes true)
    → KeepsEnds g g' → KeepsEnds h h' → HasTaken g.passes h.passes true → (i : ℕ) (x : Monitored) → i < place + 1 → slice_get (set hs place h') i ≡ Some x → HasTaken g'.passes x.passes true
told-more g g' hs place h h' told a b last i x lt at = by (i == place) refl
  where
    by : (b : Bool) → (i == place) ≡ b → HasTaken g'.passes x.passes true
    by true e =
        let here : h' ≡ x = get-set hs place h' x (subst (λ (n : ℕ). slice_get (set hs place h') n ≡ Some x) (eqb-true i place e) at) in
        subst (λ (y : Monitored). HasTaken g'.passes y.passes true) here (has-still g.passes h.passes g'.passes h'.passes last a.ends (sends-of h.passes h'.passes b.ends))
    by false e =
        let ne : i ≢ place = eqb-false i place e in
        let was = sym (get-other hs place i h' ne) ∙ at in
        has-still g.passes x.passes g'.passes x.passes (told i x (omega (arith, lt, ne)) was) a.ends (record { guest = refl; sends = λ to. refl })

pub has-all-kept : (g g' : Monitored) (hs hs' : List Monitored) → HasAll g hs → KeepsEnds g g' → AreKept hs hs' → HasAll g' hs'
has-all-kept g g' hs hs' has a are i x at armed =
    let was = there hs i (omega (arith, within hs' i x at, are.count)) in
    let b = are.each i was.0 x was.1 at in
    let before : IsArmed g = record { not_ended = ap (λ s. s.end) (sym a.stays.state) ∙ armed.not_ended; armed = λ e. armed.armed (ap (λ s. s.devices.armed) a.stays.state ∙ e) } in
    has-still g.passes was.0.passes g'.passes x.passes (has i was.0 was.1 before) a.ends (sends-of was.0.passes x.passes b.ends)

-- ---- others

pub others-kept : (shared : Shared) (g g' : Monitored) (hs hs' : List Monitored) → AreOthers shared g hs → g'.passes.guest ≡ g.passes.guest → AreKept hs hs' → AreOthers shared g' hs'
others-kept shared g g' hs hs' others same are = record {
  wires = λ i x at.
      let was = there hs i (omega (arith, within hs' i x at, are.count)) in
      (are.each i was.0 x was.1 at).same.wires ∙ others.wires i was.0 was.1;
  apart = λ i x at e.
      let was = there hs i (omega (arith, within hs' i x at, are.count)) in
      others.apart i was.0 was.1 (ap (λ n. n.0) (sym (are.each i was.0 x was.1 at).ends.guest) ∙ e ∙ ap (λ n. n.0) same);
}

-- ---- packets that came

pub receives-trans : (g h k : Monitored) → Receives g h → Receives h k → Receives g k
receives-trans g h k a b = record {
  same = same-trans g h k a.same b.same;
  end = b.end ∙ a.end;
  sends = record { guest = b.sends.guest ∙ a.sends.guest; sends = λ to. b.sends.sends to ∙ a.sends.sends to };
}

pub receives-kept : (g h : Monitored) → KeepsEnds g h → Receives g h
receives-kept g h a = record { same = a.same; end = ap (λ s. s.end) a.stays.state; sends = sends-of g.passes h.passes a.ends }

-- room was made for one more
pub receives-room : (g h : Monitored) → IsSameGuest g h → Stays g h → h.passes ≡ g.passes → Receives g h
receives-room g h same stays passes = record {
  same = same;
  end = ap (λ s. s.end) stays.state;
  sends = record { guest = ap (λ p. p.guest) passes; sends = λ to. ap (λ p. sending_to p to) passes };
}

-- the guest was asked for a packet: it goes on, or nothing of its state has changed
end-still : (g h : Monitored) (answer : Packeted) → TakesPacket g h (Ok answer) → h.state.end ≡ g.state.end
end-still g h packeted.Delivered takes = takes.1.not_ended ∙ sym takes.0.not_ended
end-still g h (packeted.Begun q) takes = takes.has.goes_on ∙ sym takes.has.not_ended
end-still g h (packeted.Finished q) takes = takes.has.goes_on ∙ sym takes.has.not_ended
end-still g h (packeted.Waits q set) takes = takes.has.goes_on ∙ sym takes.has.not_ended
end-still g h (packeted.Discarded cell) takes = takes.not_ended ∙ sym takes.armed.not_ended
end-still g h packeted.NoneInHand takes = ap (λ s. s.end) takes.stays.state
end-still g h packeted.NotArmed takes = ap (λ (m : Monitored). m.state.end) takes.same

pub receives-packet : (g h : Monitored) (answer : Packeted) → IsSameGuest g h → SameSends g.passes h.passes → TakesPacket g h (Ok answer) → Receives g h
receives-packet g h answer same sends takes = record { same = same; end = end-still g h answer takes; sends = sends }
