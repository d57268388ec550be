-- For callers: the passes of a guest's list are of these wires, and whose.
use Rattle.std.proofs.Common.{◌≡◌, ◌==◌, ◌<◌, if◌then◌else◌, ℕ, zero, suc, Bool, true, false, List, [], ◌∷◌, length, get_or, set, IsSome, is_some, Option, Some, None, refl, sym, ap, ◌∙◌, arith}
use Rattle.std.proofs.lemmas.Bool.{false≢true, eqb-true, eqb-false}
use Rattle.std.proofs.lemmas.List.{get_or-set_same, get_or-set_other}
use Rattle.std.proofs.lemmas.Option.{same_Some, none-some}
use Rattle.std.specs.Option.{option_map}
use Rattle.wire_queue.specs.QueueIds.{QueueId}
use Rattle.wire_queue.specs.Lines.{Line}
use Rattle.wire_queue.specs.Ends.{Wire, Sending, Taking}
use Rattle.wire_queue.specs.Between.{Made, entry, wire_between, IsOf, line_between}
use Rattle.wire_queue.specs.PassLists.{sending_wire, taking_wire, sending_to, taking_from, IsListOf}
use Rattle.wire_queue.specs.declared.lists.PassList.{PassList}

named : (line : Line) (o : Option QueueId) (w : Wire) → option_map (λ queue. record { queue = queue; line = line }) o ≡ Some w → w.line ≡ line
named line None w is = absurd (none-some w is)
named line (Some queue) w is = ap (λ (x : Wire). x.line) (sym (same_Some _ w is))

-- a wire between two guests has their line, and is one of these
pub line-between : (wires : Made) (from to : ℕ) (w : Wire) → wire_between wires from to ≡ Some w → w.line ≡ line_between wires from to
line-between wires from to w is = named (line_between wires from to) (entry wires.queues from to) w is

pub of_between : (wires : Made) (from to : ℕ) (w : Wire) → wire_between wires from to ≡ Some w → IsOf wires w
of_between wires from to w is = ap (λ (line : Line). wire_between wires line.from line.to) (line-between wires from to w is) ∙ is

-- the wires of a guest's ends
pub wire_to : (wires : Made) (list : PassList) (other : ℕ) (p : Sending) → IsListOf wires list → sending_to list other ≡ Some p → wire_between wires list.guest.0 other ≡ Some p.wire
wire_to wires list other p of there = sym (of.sends other) ∙ ap sending_wire there

pub wire_from : (wires : Made) (list : PassList) (other : ℕ) (p : Taking) → IsListOf wires list → taking_from list other ≡ Some p → wire_between wires other list.guest.0 ≡ Some p.wire
wire_from wires list other p of there = sym (of.takes other) ∙ ap taking_wire there

-- what an index finds where something stands
pub found : {A : Type 0} (xs : List (Option A)) (k : ℕ) (o : Option A) → IsSome (get_or xs k None) → o ≡ get_or xs k o → get_or xs k None ≡ o
found [] k o there is = absurd (false≢true there)
found (x ∷ xs) zero o there is = sym is
found (x ∷ xs) (suc k) o there is = found xs k o there is

-- where one end stands, so does the other
pub some_wire : {A B : Type 0} (f : A → B) (o : Option A) → is_some (option_map f o) ≡ is_some o
some_wire f None = refl
some_wire f (Some x) = refl

pub both_ends : (wires : Made) (receiver sender : PassList) → IsListOf wires receiver → IsListOf wires sender → IsSome (taking_from receiver sender.guest.0) → IsSome (sending_to sender receiver.guest.0)
both_ends wires receiver sender of from there =
    sym (some_wire (λ (p : Sending). p.wire) (sending_to sender receiver.guest.0))
    ∙ ap is_some (from.sends receiver.guest.0 ∙ sym (of.takes sender.guest.0))
    ∙ some_wire (λ (p : Taking). p.wire) (taking_from receiver sender.guest.0)
    ∙ there

-- a place that has something is there
pub some-within : {A : Type 0} (l : List (Option A)) (n : ℕ) → IsSome (get_or l n None) → n < length l
some-within [] n some = absurd (false≢true some)
some-within (x ∷ l) zero some = omega arith
some-within (x ∷ l) (suc n) some = let below = some-within l n some in omega (arith, below)

-- one count is another, and the others stay
pub counted : (asks : List ℕ) (from n other : ℕ) → from < length asks → get_or (set asks from n) other 0 ≡ (if other == from then n else get_or asks other 0)
counted asks from n other lt = by (other == from) refl
  where
    by : (b : Bool) → (other == from) ≡ b → get_or (set asks from n) other 0 ≡ (if b then n else get_or asks other 0)
    by true e = ap (λ (k : ℕ). get_or (set asks from n) k 0) (eqb-true other from e) ∙ get_or-set_same asks from n 0 lt
    by false e = get_or-set_other asks from other n 0 (eqb-false other from e)
