-- For callers: which list is whose, and that it has an end of a wire to each other guest and from it.
use Rattle.std.proofs.Common.{◌≡◌, ◌≢◌, ℕ, ◌<◌, List, Option, Some, None, IsSome, is_some, length, get_or, sym, ap, subst, ◌∙◌, arith}
use Rattle.wire_queue.specs.Ends.{Sending, Taking}
use Rattle.wire_queue.specs.Between.{Made, guest_count, wire_between}
use Rattle.wire_queue.specs.Steps.{AreFirstOf}
use Rattle.wire_queue.specs.Closing.{AreInOrder}
use Rattle.wire_queue.specs.PassLists.{sending_to, taking_from, IsListOf, AreAllOf, JoinsAll}
use Rattle.wire_queue.specs.declared.lists.PassList.{PassList}
use Rattle.wire_queue.proofs.Callers.{some_wire}
use Rattle.wire_queue.proofs.ListLemmas.{guest_at, sends_at, takes_at}

-- the list at a guest's number is that guest's
pub list_at : (wires : Made) (lists : List PassList) (guest : ℕ) (list : PassList) → AreAllOf wires lists → guest < guest_count wires → list ≡ get_or lists guest list
    → IsListOf wires list × (list.guest.0 ≡ guest)
list_at wires lists guest list are there is =
    let within : guest < length lists = omega (arith, are.all) in
    let own : (get_or lists guest list).guest.0 ≡ guest = sym (guest_at lists guest list within) ∙ are.numbered guest there in
    (subst (IsListOf wires) (sym is) (are.each guest list within), ap (λ (l : PassList). l.guest.0) is ∙ own)

pub sends_there : (wires : Made) (list : PassList) (own other : ℕ) → JoinsAll wires → IsListOf wires list → list.guest.0 ≡ own → own < guest_count wires → other < guest_count wires → own ≢ other → IsSome (sending_to list other)
sends_there wires list own other joins of is own_there there differ =
    sym (some_wire (λ (p : Sending). p.wire) (sending_to list other)) ∙ ap is_some (of.sends other) ∙ ap (λ g. is_some (wire_between wires g other)) is ∙ joins.others own other own_there there differ

pub takes_there : (wires : Made) (list : PassList) (own other : ℕ) → JoinsAll wires → IsListOf wires list → list.guest.0 ≡ own → own < guest_count wires → other < guest_count wires → own ≢ other → IsSome (taking_from list other)
takes_there wires list own other joins of is own_there there differ =
    sym (some_wire (λ (p : Taking). p.wire) (taking_from list other)) ∙ ap is_some (of.takes other) ∙ ap (λ g. is_some (wire_between wires other g)) is
    ∙ joins.others other own there own_there (λ same. differ (sym same))

-- what `close` tells, by the lists of two guests
pub in_order_of : (lists : List PassList) (from to : ℕ) (sender receiver : PassList) (p : Sending) (t : Taking) → AreInOrder lists → from < length lists → to < length lists → sender ≡ get_or lists from sender → receiver ≡ get_or lists to receiver
    → sending_to sender to ≡ Some p → taking_from receiver from ≡ Some t → AreFirstOf t.taken p.accepted
in_order_of lists from to sender receiver p t ordered from_there to_there sends takes here there =
    ordered from to p t
    (ap (λ (r : List (Option Sending)). get_or r to None) (sends_at lists from sender from_there) ∙ ap (λ (l : PassList). sending_to l to) (sym sends) ∙ here)
    (ap (λ (r : List (Option Taking)). get_or r from None) (takes_at lists to receiver to_there) ∙ ap (λ (l : PassList). taking_from l from) (sym takes) ∙ there)
