-- Wires while they are being made: none yet, and one more.
use Rattle.std.proofs.Common.{◌≡◌, ◌≢◌, ℕ, ◌+◌, ◌<◌, List, [], Option, Some, None, IsSome, replicate, slice_index, refl, sym, ap, ◌∙◌, subst, inl, inr, arith}
use Rattle.std.proofs.lemmas.Bool.{cases_eq}
use Rattle.std.proofs.lemmas.Option.{same_Some, none-some}
use Rattle.std.specs.Option.{option_map}
use Rattle.wire_queue.specs.QueueIds.{QueueId}
use Rattle.wire_queue.specs.declared.terms.Terms.{Terms}
use Rattle.wire_queue.specs.Ends.{Sending, Taking}
use Rattle.wire_queue.specs.Between.{entry, wire_between}
use Rattle.wire_queue.specs.PassTables.{sends_of, takes_of, guests_of, asks_kept, IsSquare}
use Rattle.wire_queue.specs.PassLists.{sending_wire, taking_wire}
use Rattle.wire_queue.specs.Making.{AreMade, IsConnected, MadeBelow, MadeTo}
use Rattle.wire_queue.specs.declared.lists.PassList.{PassList}
use Rattle.wire_queue.proofs.Tables.{entry-with_entry_same, entry-with_entry_other, square-with_entry, square-replicate, entry-replicate}

abbrev Queues : Type 0
Queues = List (List (Option QueueId))

-- none yet
nothing_there : {A : Type 0} (n : ℕ) (rows : List (List (Option A))) (i j : ℕ) → rows ≡ replicate n (replicate n None) → entry rows i j ≡ None
nothing_there n rows i j none = ap (λ r. entry r i j) none ∙ entry-replicate n n i j

pub none_made : (n : ℕ) (terms : Terms) (q : Queues) (l : List PassList) → q ≡ replicate n (replicate n None) → sends_of l ≡ replicate n (replicate n None) → takes_of l ≡ replicate n (replicate n None) → asks_kept l ≡ replicate n n
    → ((g : ℕ) → g < n → slice_index (guests_of l) g ≡ g) → AreMade n terms q l
none_made n terms q l queues sends takes asks numbered = record {
  queues_all = subst (IsSquare n) (sym queues) (square-replicate n);
  sends_all = subst (IsSquare n) (sym sends) (square-replicate n);
  takes_all = subst (IsSquare n) (sym takes) (square-replicate n);
  asks_all = asks;
  numbered = numbered;
  sends = λ f t. ap sending_wire (nothing_there n (sends_of l) f t sends) ∙ sym (ap (option_map (λ queue. record { queue = queue; line = record { from = f; to = t; terms = terms } })) (nothing_there n q f t queues));
  takes = λ f t. ap taking_wire (nothing_there n (takes_of l) t f takes) ∙ sym (ap (option_map (λ queue. record { queue = queue; line = record { from = f; to = t; terms = terms } })) (nothing_there n q f t queues));
  accepted = λ f t p there. absurd (none-some p (sym (nothing_there n (sends_of l) f t sends) ∙ there));
  taken = λ f t p there. absurd (none-some p (sym (nothing_there n (takes_of l) t f takes) ∙ there));
  itself = λ g. nothing_there n q g g queues;
}

-- this wire or another
data Which (from to f t : ℕ) : Type 0 where
  this : f ≡ from → t ≡ to → Which from to f t
  other : ((f ≡ from) × (t ≡ to) → ⊥) → Which from to f t

which : (from to f t : ℕ) → Which from to f t
which from to f t = elim (cases_eq f from) [
  | inl same ↦ elim (cases_eq t to) [ inl here ↦ this same here | inr apart ↦ other (λ both. apart both.1) ]
  | inr apart ↦ other (λ both. apart both.0)
]

-- one wire more
module _ (n : ℕ) (terms : Terms) (q q' : Queues) (l l' : List PassList) (from to : ℕ) (made : AreMade n terms q l) (is : IsConnected terms from to q q' l l') (from_there : from < n) (to_there : to < n) where
  queue_here : entry q' from to ≡ Some is.wire.queue
  queue_here =
      ap (λ r. entry r from to) is.queues
      ∙ entry-with_entry_same q from to (Some is.wire.queue) (let all = made.queues_all.rows_all in omega arith) (let all = made.queues_all.places_all from from_there in omega arith)

  queue_other : (f t : ℕ) → ((f ≡ from) × (t ≡ to) → ⊥) → entry q' f t ≡ entry q f t
  queue_other f t apart = ap (λ r. entry r f t) is.queues ∙ entry-with_entry_other q from to f t (Some is.wire.queue) apart

  send_here : entry (sends_of l') from to ≡ Some (record { wire = is.wire; accepted = [] })
  send_here =
      ap (λ r. entry r from to) is.sends
      ∙ entry-with_entry_same (sends_of l) from to _ (let all = made.sends_all.rows_all in omega arith) (let all = made.sends_all.places_all from from_there in omega arith)

  send_other : (f t : ℕ) → ((f ≡ from) × (t ≡ to) → ⊥) → entry (sends_of l') f t ≡ entry (sends_of l) f t
  send_other f t apart = ap (λ r. entry r f t) is.sends ∙ entry-with_entry_other (sends_of l) from to f t _ apart

  take_here : entry (takes_of l') to from ≡ Some (record { wire = is.wire; taken = [] })
  take_here =
      ap (λ r. entry r to from) is.takes
      ∙ entry-with_entry_same (takes_of l) to from _ (let all = made.takes_all.rows_all in omega arith) (let all = made.takes_all.places_all to to_there in omega arith)

  take_other : (f t : ℕ) → ((f ≡ from) × (t ≡ to) → ⊥) → entry (takes_of l') t f ≡ entry (takes_of l) t f
  take_other f t apart = ap (λ r. entry r t f) is.takes ∙ entry-with_entry_other (takes_of l) to from t f _ (λ both. apart (both.1, both.0))

  wire_here : Some is.wire ≡ wire_between (record { queues = q'; terms = terms }) from to
  wire_here =
      let as_named : Some is.wire ≡ Some (record { queue = is.wire.queue; line = record { from = from; to = to; terms = terms } }) = ap (λ line. Some (record { queue = is.wire.queue; line = line })) is.line in
      as_named ∙ sym (ap (option_map (λ queue. record { queue = queue; line = record { from = from; to = to; terms = terms } })) queue_here)

  wire_other : (f t : ℕ) → ((f ≡ from) × (t ≡ to) → ⊥) → wire_between (record { queues = q'; terms = terms }) f t ≡ wire_between (record { queues = q; terms = terms }) f t
  wire_other f t apart = ap (option_map (λ queue. record { queue = queue; line = record { from = f; to = t; terms = terms } })) (queue_other f t apart)

  at_both : (P : ℕ → ℕ → Type 0) (f t : ℕ) → P from to → (((f ≡ from) × (t ≡ to) → ⊥) → P f t) → P f t
  at_both P f t here elsewhere = elim (which from to f t) [
    | this sf st ↦ subst (λ x. P x t) (sym sf) (subst (λ y. P from y) (sym st) here)
    | other apart ↦ elsewhere apart
  ]

  pub one_more : from ≢ to → AreMade n terms q' l'
  one_more differ = record {
    queues_all = subst (IsSquare n) (sym is.queues) (square-with_entry n q from to (Some is.wire.queue) made.queues_all);
    sends_all = subst (IsSquare n) (sym is.sends) (square-with_entry n (sends_of l) from to _ made.sends_all);
    takes_all = subst (IsSquare n) (sym is.takes) (square-with_entry n (takes_of l) to from _ made.takes_all);
    asks_all = is.asks ∙ made.asks_all;
    numbered = λ g lt. ap (λ x. slice_index x g) is.guests ∙ made.numbered g lt;
    sends = λ f t. at_both (λ x y. sending_wire (entry (sends_of l') x y) ≡ wire_between (record { queues = q'; terms = terms }) x y) f t
        (ap sending_wire send_here ∙ wire_here) (λ apart. ap sending_wire (send_other f t apart) ∙ made.sends f t ∙ sym (wire_other f t apart));
    takes = λ f t. at_both (λ x y. taking_wire (entry (takes_of l') y x) ≡ wire_between (record { queues = q'; terms = terms }) x y) f t
        (ap taking_wire take_here ∙ wire_here) (λ apart. ap taking_wire (take_other f t apart) ∙ made.takes f t ∙ sym (wire_other f t apart));
    accepted = λ f t. at_both (λ x y. (p : Sending) → entry (sends_of l') x y ≡ Some p → p.accepted ≡ []) f t
        (λ p there. ap (λ (x : Sending). x.accepted) (sym (same_Some _ p (sym send_here ∙ there)))) (λ apart p there. made.accepted f t p (sym (send_other f t apart) ∙ there));
    taken = λ f t. at_both (λ x y. (p : Taking) → entry (takes_of l') y x ≡ Some p → p.taken ≡ []) f t
        (λ p there. ap (λ (x : Taking). x.taken) (sym (same_Some _ p (sym take_here ∙ there)))) (λ apart p there. made.taken f t p (sym (take_other f t apart) ∙ there));
    itself = λ g. queue_other g g (λ both. differ (sym both.0 ∙ both.1)) ∙ made.itself g;
  }

  pub some_more : (f t : ℕ) → (((f ≡ from) × (t ≡ to) → ⊥) → IsSome (entry q f t)) → IsSome (entry q' f t)
  some_more f t before = at_both (λ x y. IsSome (entry q' x y)) f t (subst (λ o. IsSome o) (sym queue_here) refl) (λ apart. subst (λ o. IsSome o) (sym (queue_other f t apart)) (before apart))

  -- the wires that are made by then
  pub below_more : MadeBelow n from q → MadeBelow n from q'
  below_more below f t f_there t_there differ = some_more f t (λ _. below f t f_there t_there differ)

  pub to_more : MadeTo from to q → MadeTo from (to + 1) q'
  to_more before t t_there differ = some_more from t (λ apart. before t (let past : t ≢ to = λ same. apart (refl, same) in omega arith) differ)

-- no wire leads to the sender itself
pub to_itself : (from to : ℕ) (q : Queues) → to ≡ from → MadeTo from to q → MadeTo from (to + 1) q
to_itself from to q itself before t t_there differ = before t (let past : t ≢ to = λ same. differ (sym itself ∙ sym same) in omega arith) differ

pub next_below : (n from : ℕ) (q : Queues) → MadeBelow n from q → MadeTo from n q → MadeBelow n (from + 1) q
next_below n from q below all f t f_there t_there differ = elim (cases_eq f from) [
  | inl same ↦ subst (λ x. IsSome (entry q x t)) (sym same) (all t t_there (λ is. differ (same ∙ is)))
  | inr past ↦ below f t (omega arith) t_there differ
]

pub as_seen : (n : ℕ) (terms : Terms) (q q' : Queues) (l l' : List PassList) → q' ≡ q → l' ≡ l → AreMade n terms q l → AreMade n terms q' l'
as_seen n terms q q' l l' queues lists made = subst (λ x. AreMade n terms x l') (sym queues) (subst (λ x. AreMade n terms q x) (sym lists) made)
