-- Wires while they are being closed: what one sender's wires leave of the others, and what all passes have.
use Rattle.std.proofs.Common.{◌≡◌, ℕ, zero, suc, ◌<◌, ◌≤◌, List, [], ◌∷◌, Option, Some, None, length, get_or, refl, sym, ap, ◌∙◌, inl, inr, arith}
use Rattle.std.proofs.lemmas.Bool.{cases_lt}
use Rattle.std.proofs.lemmas.List.{get_or_past}
use Rattle.std.proofs.lemmas.Option.{none-some}
use Rattle.std.specs.Option.{option_map}
use Rattle.wire_queue.specs.QueueIds.{QueueId}
use Rattle.wire_queue.specs.Ends.{Wire, Sending, Taking}
use Rattle.wire_queue.specs.Between.{Made, entry, wire_between}
use Rattle.wire_queue.specs.PassTables.{sends_of, takes_of}
use Rattle.wire_queue.specs.PassLists.{sending_wire, taking_wire, AreAllOf}
use Rattle.wire_queue.specs.Closing.{IsInOrder, HasEnds, HasPlaces}
use Rattle.wire_queue.specs.declared.lists.PassList.{PassList}
use Rattle.wire_queue.proofs.QueueTables.{count_sends, count_takes}
use Rattle.wire_queue.proofs.ListLemmas.{sends_at, takes_at, guest_at}

abbrev Sends : Type 0
Sends = List (List (Option Sending))

abbrev Takes : Type 0
Takes = List (List (Option Taking))

pub in_order_as : (s s' : Sends) (t t' : Takes) (from to : ℕ) → entry s from to ≡ entry s' from to → entry t to from ≡ entry t' to from → IsInOrder s t from to → IsInOrder s' t' from to
in_order_as s s' t t' from to sends takes ordered end other here there = ordered end other (sends ∙ here) (takes ∙ there)

pub ends_as : (q : List (List (Option QueueId))) (before now : List PassList) (from : ℕ) → sends_of now ≡ sends_of before → ((to : ℕ) → entry (takes_of now) to from ≡ entry (takes_of before) to from) → HasEnds q before from → HasEnds q now from
ends_as q before now from sends takes ends = record {
  sends = λ to. ap (λ (r : Sends). option_map (λ (p : Sending). p.wire.queue) (entry r from to)) sends ∙ ends.sends to;
  takes = λ to. ap (option_map (λ (p : Taking). p.wire.queue)) (takes to) ∙ ends.takes to;
}

-- the queue of an end is that of its wire
queue_of_sending : (end : Option Sending) → option_map (λ (p : Sending). p.wire.queue) end ≡ option_map (λ (w : Wire). w.queue) (sending_wire end)
queue_of_sending None = refl
queue_of_sending (Some p) = refl

queue_of_taking : (end : Option Taking) → option_map (λ (p : Taking). p.wire.queue) end ≡ option_map (λ (w : Wire). w.queue) (taking_wire end)
queue_of_taking None = refl
queue_of_taking (Some p) = refl

queue_between : (wires : Made) (from to : ℕ) → option_map (λ (w : Wire). w.queue) (wire_between wires from to) ≡ entry wires.queues from to
queue_between wires from to = named (entry wires.queues from to)
  where
    named : (o : Option QueueId) → option_map (λ (w : Wire). w.queue) (option_map (λ queue. record { queue = queue; line = record { from = from; to = to; terms = wires.terms } }) o) ≡ o
    named None = refl
    named (Some queue) = refl

-- an element is read at itself
itself : (l : List PassList) (k : ℕ) → k < length l → (x : PassList) × (get_or l k x ≡ x)
itself [] k within = absurd (omega arith)
itself (x ∷ xs) zero within = (x, refl)
itself (x ∷ xs) (suc k) within = itself xs k (omega arith)

past_rows : {A : Type 0} (rows : List (List (Option A))) (i j : ℕ) → length rows ≤ i → entry rows i j ≡ None
past_rows rows i j past = ap (λ r. get_or r j None) (get_or_past rows i [] past)

pub places_of : (wires : Made) (l : List PassList) (n : ℕ) → AreAllOf wires l → length wires.queues ≡ n → HasPlaces n l
places_of wires l n are count = record {
  sends_all = record {
    rows_all = count_sends l ∙ are.all ∙ count;
    places_all = λ row lt.
        let within : row < length l = omega (arith, are.all) in
        let d = (itself l row within).0 in
        ap length (sends_at l row d within) ∙ (are.each row d within).sends_all ∙ count;
  };
  takes_all = record {
    rows_all = count_takes l ∙ are.all ∙ count;
    places_all = λ row lt.
        let within : row < length l = omega (arith, are.all) in
        let d = (itself l row within).0 in
        ap length (takes_at l row d within) ∙ (are.each row d within).takes_all ∙ count;
  };
}

sends_end : (wires : Made) (l : List PassList) → AreAllOf wires l → (from to : ℕ) → option_map (λ (p : Sending). p.wire.queue) (entry (sends_of l) from to) ≡ entry wires.queues from to
sends_end wires l are from to = elim (cases_lt from (length l)) [
  | inl within ↦
      let d = (itself l from within).0 in
      let own = sym (guest_at l from d within) ∙ are.numbered from (omega (arith, are.all)) in
      queue_of_sending (entry (sends_of l) from to)
      ∙ ap (option_map (λ (w : Wire). w.queue)) (ap (λ (r : List (Option Sending)). sending_wire (get_or r to None)) (sends_at l from d within) ∙ (are.each from d within).sends to ∙ ap (λ g. wire_between wires g to) own)
      ∙ queue_between wires from to
  | inr past ↦
      ap (option_map (λ (p : Sending). p.wire.queue)) (past_rows (sends_of l) from to (omega (arith, count_sends l))) ∙ sym (past_rows wires.queues from to (omega (arith, are.all)))
]

-- there is no end of a wire to a guest that there isn't
no_send_past : (wires : Made) (l : List PassList) → AreAllOf wires l → (from to : ℕ) → length l ≤ to → entry (sends_of l) from to ≡ None
no_send_past wires l are from to past = elim (cases_lt from (length l)) [
  | inl within ↦
      let d = (itself l from within).0 in
      ap (λ (r : List (Option Sending)). get_or r to None) (sends_at l from d within) ∙ get_or_past (get_or l from d).sends.items to None (omega (arith, (are.each from d within).sends_all, are.all))
  | inr out ↦ past_rows (sends_of l) from to (omega (arith, count_sends l))
]

takes_end : (wires : Made) (l : List PassList) → AreAllOf wires l → (from to : ℕ) → option_map (λ (p : Taking). p.wire.queue) (entry (takes_of l) to from) ≡ entry wires.queues from to
takes_end wires l are from to = elim (cases_lt to (length l)) [
  | inl within ↦
      let d = (itself l to within).0 in
      let own = sym (guest_at l to d within) ∙ are.numbered to (omega (arith, are.all)) in
      queue_of_taking (entry (takes_of l) to from)
      ∙ ap (option_map (λ (w : Wire). w.queue)) (ap (λ (r : List (Option Taking)). taking_wire (get_or r from None)) (takes_at l to d within) ∙ (are.each to d within).takes from ∙ ap (λ g. wire_between wires from g) own)
      ∙ queue_between wires from to
  | inr past ↦
      ap (option_map (λ (p : Taking). p.wire.queue)) (past_rows (takes_of l) to from (omega (arith, count_takes l)))
      ∙ sym (ap (option_map (λ (p : Sending). p.wire.queue)) (no_send_past wires l are from to past))
      ∙ sends_end wires l are from to
]

pub ends_of : (wires : Made) (l : List PassList) → AreAllOf wires l → (from : ℕ) → HasEnds wires.queues l from
ends_of wires l are from = record { sends = sends_end wires l are from; takes = takes_end wires l are from }

-- what holds of the wires between guests holds of all
pub all_in_order : (wires : Made) (l : List PassList) (n : ℕ) → AreAllOf wires l → length wires.queues ≡ n → ((from to : ℕ) → from < n → to < n → IsInOrder (sends_of l) (takes_of l) from to) → (from to : ℕ) → IsInOrder (sends_of l) (takes_of l) from to
all_in_order wires l n are count within from to = elim (cases_lt from n) [
  | inl from_there ↦ elim (cases_lt to n) [
    | inl to_there ↦ within from to from_there to_there
    | inr past ↦ λ end other here there. absurd (none-some other (sym (past_rows (takes_of l) to from (omega (arith, count_takes l, are.all))) ∙ there))
  ]
  | inr past ↦ λ end other here there. absurd (none-some end (sym (past_rows (sends_of l) from to (omega (arith, count_sends l, are.all))) ∙ here))
]
