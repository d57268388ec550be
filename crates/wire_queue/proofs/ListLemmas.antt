-- From the tables of all ends to each guest's list, and back.
use Rattle.std.proofs.Common.{◌≡◌, ℕ, ◌<◌, List, [], Option, Some, None, IfSome, All, length, get_or, slice_index, refl, sym, ap, ◌∙◌, subst, arith}
use Rattle.std.proofs.lemmas.List.{get_or-map, get_or-replicate}
use Rattle.wire_queue.specs.QueueIds.{QueueId}
use Rattle.wire_queue.specs.declared.terms.Terms.{Terms}
use Rattle.wire_queue.specs.Ends.{Sending, Taking}
use Rattle.wire_queue.specs.Between.{Made, wire_between}
use Rattle.wire_queue.specs.PassTables.{sends_of, takes_of, guests_of, asks_kept}
use Rattle.wire_queue.specs.PassLists.{sending_wire, taking_wire, sending_to, taking_from, IsListOf, AreAllOf, IsUnused}
use Rattle.wire_queue.specs.Making.{AreMade}
use Rattle.wire_queue.specs.declared.lists.PassList.{PassList}
use Rattle.wire_queue.proofs.QueueTables.{count_sends}

if_some : {A : Type 0} (o : Option A) (P : A → Type 0) → ((x : A) → o ≡ Some x → P x) → IfSome o P
if_some None P each = tt
if_some (Some x) P each = each x refl

-- the list at a place, as the tables have it
pub sends_at : (l : List PassList) (k : ℕ) (d : PassList) → k < length l → get_or (sends_of l) k [] ≡ (get_or l k d).sends.items
sends_at l k d within = get_or-map (λ (list : PassList). list.sends.items) l k d [] within

pub takes_at : (l : List PassList) (k : ℕ) (d : PassList) → k < length l → get_or (takes_of l) k [] ≡ (get_or l k d).takes.items
takes_at l k d within = get_or-map (λ (list : PassList). list.takes.items) l k d [] within

pub guest_at : (l : List PassList) (k : ℕ) (d : PassList) → k < length l → slice_index (guests_of l) k ≡ (get_or l k d).guest.0
guest_at l k d within = get_or-map (λ (list : PassList). list.guest.0) l k d 0 within

pub asks_at : (l : List PassList) (k : ℕ) (d : PassList) → k < length l → get_or (asks_kept l) k 0 ≡ length (get_or l k d).asks.items
asks_at l k d within = get_or-map (λ (list : PassList). length list.asks.items) l k d 0 within

pub list_of : (n : ℕ) (terms : Terms) (q : List (List (Option QueueId))) (l : List PassList) → AreMade n terms q l → All (IsListOf (record { queues = q; terms = terms })) l
list_of n terms q l made k d within =
    let wires : Made = record { queues = q; terms = terms } in
    let here : k < n = omega (arith, count_sends l, made.sends_all.rows_all) in
    let queues : length q ≡ n = made.queues_all.rows_all in
    let own : k ≡ (get_or l k d).guest.0 = sym (made.numbered k here) ∙ guest_at l k d within in record {
      sends_all = ap length (sym (sends_at l k d within)) ∙ made.sends_all.places_all k here ∙ sym queues;
      takes_all = ap length (sym (takes_at l k d within)) ∙ made.takes_all.places_all k here ∙ sym queues;
      asks_all = sym (asks_at l k d within) ∙ ap (λ (r : List ℕ). get_or r k 0) made.asks_all ∙ get_or-replicate n k n 0 here ∙ sym queues;
      sends = λ other. ap (λ (r : List (Option Sending)). sending_wire (get_or r other None)) (sym (sends_at l k d within)) ∙ made.sends k other ∙ ap (λ x. wire_between wires x other) own;
      takes = λ other. ap (λ (r : List (Option Taking)). taking_wire (get_or r other None)) (sym (takes_at l k d within)) ∙ made.takes other k ∙ ap (λ x. wire_between wires other x) own;
    }

pub all_of : (n : ℕ) (terms terms' : Terms) (q : List (List (Option QueueId))) (l l' : List PassList) → terms' ≡ terms → l' ≡ l → AreMade n terms q l → AreAllOf (record { queues = q; terms = terms' }) l'
all_of n terms terms' q l l' same lists made =
    let wires : Made = record { queues = q; terms = terms } in
    let here : AreAllOf wires l = record {
      all = sym (count_sends l) ∙ made.sends_all.rows_all ∙ sym made.queues_all.rows_all;
      numbered = λ g lt. made.numbered g (let count = made.queues_all.rows_all in omega arith);
      each = list_of n terms q l made;
    } in
    subst (λ (t : Terms). AreAllOf (record { queues = q; terms = t }) l') (sym same) (subst (AreAllOf wires) (sym lists) here)

pub unused_of : (n : ℕ) (terms : Terms) (q : List (List (Option QueueId))) (l l' : List PassList) → l' ≡ l → AreMade n terms q l → All IsUnused l'
unused_of n terms q l l' lists made = subst (All IsUnused) (sym lists) (λ k d within. record {
  sends = λ other. if_some (sending_to (get_or l k d) other) (λ p. p.accepted ≡ [])
      (λ p there. made.accepted k other p (ap (λ (r : List (Option Sending)). get_or r other None) (sends_at l k d within) ∙ there));
  takes = λ other. if_some (taking_from (get_or l k d) other) (λ p. p.taken ≡ [])
      (λ p there. made.taken other k p (ap (λ (r : List (Option Taking)). get_or r other None) (takes_at l k d within) ∙ there));
})
