-- What each guest took of what another sent to it is the first of what the wire between them accepted.
use Rattle.std.proofs.Common.{◌≡◌, ◌≢◌, inl, inr, ℕ, zero, suc, ◌+◌, ◌<◌, ◌≤◌, Bool, true, false, cond, List, [], ◌∷◌, ◌++◌, map, filter, get_or, length, All, Option, Some, None, IsSome, refl, sym, ap, ◌∙◌, subst, arith}
use Rattle.std.specs.Prelude.{slice_get, slice_index_or}
use Rattle.std.proofs.lemmas.Bool.{eq-eqb}
use Rattle.std.proofs.lemmas.List.{map-append, length-append}
use Rattle.private_machine.specs.Operation.{Packet}
use Rattle.isolation_law.specs.GuestState.{GuestState}
use Rattle.isolation_law.specs.Start.{Boot}
use Rattle.isolation_law.specs.WireHistory.{sent_to, AreAccepted, taken, is_from, taken_from, IsFromOther, MeetsWire}
use Rattle.wire_queue.specs.Between.{Made, guest_count, entry, wire_between}
use Rattle.wire_queue.specs.Closing.{AreInOrder}
use Rattle.wire_queue.specs.Ends.{Wire, Sending, Taking}
use Rattle.wire_queue.specs.ListSteps.{HasTaken}
use Rattle.wire_queue.specs.PassLists.{sending_wire, taking_wire, sending_to, taking_from}
use Rattle.wire_queue.specs.PassTables.{sends_of, takes_of}
use Rattle.wire_queue.specs.Steps.{AreFirstOf}
use Rattle.wire_queue.specs.declared.lists.PassList.{PassList}
use Rattle.guest_core.specs.declared.records.GuestRecord.{GuestRecord}
use Rattle.guest_core.specs.Wiring.{shown, taken_at}
use Rattle.run_workers.specs.Ending.{Told, AllTold, EndDrained}
use Rattle.run_workers.specs.WholeRecord.{MeetWires}
use Rattle.run_workers.proofs.WholeLemmas.{side}

same-some : {A : Type 0} (x y : A) → Some x ≡ Some y → x ≡ y
same-some x y e = cc

-- ---- the guest of a place

record At (starts : List Boot) (wires : Made) (number i : ℕ) (state : GuestState) (lefts : List GuestRecord) (lists : List PassList) : Type 0 where
  pub start : Boot
  pub left : GuestRecord
  pub passes : PassList
  pub start_is : slice_get starts number ≡ Some start
  pub left_is : slice_get lefts i ≡ Some left
  pub passes_are : slice_get lists i ≡ Some passes
  pub told : Told start wires state left passes

told-from : (starts : List Boot) (wires : Made) (k i : ℕ) (states : List GuestState) (lefts : List GuestRecord) (lists : List PassList) (state : GuestState) → AllTold starts wires k states lefts lists → slice_get states i ≡ Some state → At starts wires (k + i) i state lefts lists
told-from starts wires k i [] lefts lists state all is = absurd cc
told-from starts wires k i (s ∷ states) [] lists state all is = absurd all
told-from starts wires k i (s ∷ states) (r ∷ lefts) [] state all is = absurd all
told-from starts wires k zero (s ∷ states) (r ∷ lefts) (t ∷ lists) state all is = record {
  start = all.0.0;
  left = r;
  passes = t;
  start_is = subst (λ (n : ℕ). slice_get starts n ≡ Some all.0.0) (let e : k ≡ k + 0 = omega arith in e) all.0.1;
  left_is = refl;
  passes_are = refl;
  told = subst (λ (x : GuestState). Told all.0.0 wires x r t) (same-some s state is) all.0.2;
}
told-from starts wires k (suc i) (s ∷ states) (r ∷ lefts) (t ∷ lists) state all is =
    let at = told-from starts wires (k + 1) i states lefts lists state all.1 is in
    record {
      start = at.start;
      left = at.left;
      passes = at.passes;
      start_is = subst (λ (n : ℕ). slice_get starts n ≡ Some at.start) (let e : k + 1 + i ≡ k + suc i = omega arith in e) at.start_is;
      left_is = at.left_is;
      passes_are = at.passes_are;
      told = at.told;
    }

told-at : (starts : List Boot) (wires : Made) (i : ℕ) (states : List GuestState) (lefts : List GuestRecord) (lists : List PassList) (state : GuestState) → AllTold starts wires 0 states lefts lists → slice_get states i ≡ Some state → At starts wires i i state lefts lists
told-at starts wires i states lefts lists state all is = subst (λ (n : ℕ). At starts wires n i state lefts lists) (let e : 0 + i ≡ i = omega arith in e) (told-from starts wires 0 i states lefts lists state all is)

-- ---- the ends of a wire

sending-there : (end : Option Sending) (wire : Option Wire) → sending_wire end ≡ wire → IsSome wire → (x : Sending) × (end ≡ Some x)
sending-there None wire is some = absurd (let none : IsSome {T = Wire} None = subst (IsSome {T = Wire}) (sym is) some in cc)
sending-there (Some x) wire is some = (x, refl)

taking-there : (end : Option Taking) (wire : Option Wire) → taking_wire end ≡ wire → IsSome wire → (x : Taking) × (end ≡ Some x)
taking-there None wire is some = absurd (let none : IsSome {T = Wire} None = subst (IsSome {T = Wire}) (sym is) some in cc)
taking-there (Some x) wire is some = (x, refl)

sends-entry : (lists : List PassList) (from to : ℕ) (passes : PassList) → slice_get lists from ≡ Some passes → entry (sends_of lists) from to ≡ sending_to passes to
sends-entry [] from to passes is = absurd cc
sends-entry (t ∷ lists) zero to passes is = ap (λ (x : PassList). sending_to x to) (same-some t passes is)
sends-entry (t ∷ lists) (suc from) to passes is = sends-entry lists from to passes is

takes-entry : (lists : List PassList) (to from : ℕ) (passes : PassList) → slice_get lists to ≡ Some passes → entry (takes_of lists) to from ≡ taking_from passes from
takes-entry [] to from passes is = absurd cc
takes-entry (t ∷ lists) zero from passes is = ap (λ (x : PassList). taking_from x from) (same-some t passes is)
takes-entry (t ∷ lists) (suc to) from passes is = takes-entry lists to from passes is

no-rest : {A : Type 0} (xs rest : List A) → xs ++ rest ≡ xs → rest ≡ []
no-rest xs [] e = refl
no-rest xs (r ∷ rest) e = absurd (omega (arith, ap length e, length-append xs (r ∷ rest)))

-- ---- what is not there

filter-has : (f : Packet → Bool) (xs : List Packet) (i : ℕ) (d : Packet) → i < length xs → f (get_or xs i d) ≡ true → filter f xs ≡ [] → ⊥
filter-has f [] i d lt holds none = let m : i < 0 = lt in omega arith
filter-has f (x ∷ xs) zero d lt holds none = let e : x ∷ filter f xs ≡ [] = ap (λ (b : Bool). cond b (x ∷ filter f xs) (filter f xs)) (sym holds) ∙ none in cc
filter-has f (x ∷ xs) (suc i) d lt holds none = by (f x) (filter-has f xs i d (omega (arith, lt)) holds) none
  where
    by : (b : Bool) → (filter f xs ≡ [] → ⊥) → cond b (x ∷ filter f xs) (filter f xs) ≡ [] → ⊥
    by true other e = cc
    by false other e = other e

past-none : {A : Type 0} (xs : List (Option A)) (i : ℕ) → length xs ≤ i → slice_index_or xs i None ≡ None
past-none [] i past = refl
past-none (x ∷ xs) zero past = absurd (omega (arith, past))
past-none (x ∷ xs) (suc i) past = past-none xs i (omega (arith, past))

no-wire : (end : Option Taking) → taking_wire end ≡ None → map shown (taken_at end) ≡ []
no-wire None is = refl
no-wire (Some x) is = absurd cc

-- ---- a wire between two guests

module _ (starts : List Boot) (wires : Made) (states : List GuestState) (lefts : List GuestRecord) (lists : List PassList) (all : AllTold starts wires 0 states lefts lists) (numbers : (i : ℕ) (b : Boot) → slice_get starts i ≡ Some b → b.around.guest ≡ i) where
  -- a guest's number is its place
  own-at : (i : ℕ) (state : GuestState) (at : At starts wires i i state lefts lists) → at.passes.guest.0 ≡ i
  own-at i state at = at.told.wired.number ∙ numbers i at.start at.start_is

  guest-at : (i : ℕ) (state : GuestState) (at : At starts wires i i state lefts lists) → state.around.guest ≡ i
  guest-at i state at = ap (λ w. w.guest) at.told.around ∙ numbers i at.start at.start_is

  meets : EndDrained states lists → AreInOrder lists → (i j : ℕ) (sender receiver : GuestState) (left : GuestRecord) → slice_get states i ≡ Some sender → slice_get states j ≡ Some receiver → slice_get lefts j ≡ Some left → i ≢ j → MeetsWire sender receiver left.journal.entries
  meets drained ordered i j sender receiver left p q r other =
      let a = told-at starts wires i states lefts lists sender all p in
      let b = told-at starts wires j states lefts lists receiver all q in
      let record-is : b.left ≡ left = same-some b.left left (sym b.left_is ∙ r) in
      let from = own-at i sender a in
      let to = own-at j receiver b in
      let there = a.told.wired.joins.others a.passes.guest.0 b.passes.guest.0 a.told.wired.is_guest b.told.wired.is_guest (λ e. other (sym from ∙ e ∙ to)) in
      let end = sending-there (sending_to a.passes b.passes.guest.0) (wire_between wires a.passes.guest.0 b.passes.guest.0) (a.told.wired.list.sends b.passes.guest.0) there in
      let taking = taking-there (taking_from b.passes a.passes.guest.0) (wire_between wires a.passes.guest.0 b.passes.guest.0) (b.told.wired.list.takes a.passes.guest.0) there in
      let end-is : sending_to a.passes j ≡ Some end.0 = ap (sending_to a.passes) (sym to) ∙ end.1 in
      let taking-is : taking_from b.passes i ≡ Some taking.0 = ap (taking_from b.passes) (sym from) ∙ taking.1 in
      let first : AreFirstOf taking.0.taken end.0.accepted = ordered i j end.0 taking.0 (sends-entry lists i j a.passes a.passes_are ∙ end-is) (takes-entry lists j i b.passes b.passes_are ∙ taking-is) in
      let was : map shown taking.0.taken ≡ taken_from left.journal.entries receiver sender.around.guest =
      ap (λ (x : Option Taking). map shown (taken_at x)) (sym taking-is) ∙ b.told.posted.taken i ∙ ap (λ (x : GuestRecord). taken_from x.journal.entries receiver i) record-is ∙ ap (taken_from left.journal.entries receiver) (sym (guest-at i sender a)) in
      record {
        accepted = map shown end.0.accepted;
        some = subst (λ (n : ℕ). AreAccepted 0 (sent_to sender n) (map shown end.0.accepted)) (sym (guest-at j receiver b)) (a.told.posted.sent j end.0 end-is);
        rest = map shown first.0;
        first = ap (map shown) first.1 ∙ map-append shown taking.0.taken first.0 ∙ ap (λ (l : List Packet). l ++ map shown first.0) was;
        all = λ waits.
            let has : HasTaken b.passes a.passes true = drained.all j i receiver b.passes a.passes q b.passes_are a.passes_are (λ e. other (sym e)) waits in
            let end' : has.end ≡ end.0 = same-some has.end end.0 (sym has.sends ∙ end.1) in
            let other' : has.other ≡ taking.0 = same-some has.other taking.0 (sym has.takes ∙ taking.1) in
            let same : taking.0.taken ≡ end.0.accepted = ap (λ (x : Taking). x.taken) (sym other') ∙ has.all.0 refl ∙ ap (λ (x : Sending). x.accepted) end' in
            let none : first.0 ≡ [] = no-rest taking.0.taken first.0 (sym first.1 ∙ sym same) in
            (ap (map shown) none, drained.none j receiver q waits);
      }

  -- ---- nothing else is taken

  others : (j : ℕ) (receiver : GuestState) (left : GuestRecord) → slice_get states j ≡ Some receiver → slice_get lefts j ≡ Some left → All (IsFromOther receiver) (taken left.journal.entries receiver)
  others j receiver left q r i d lt =
      let b = told-at starts wires j states lefts lists receiver all q in
      let record-is : b.left ≡ left = same-some b.left left (sym b.left_is ∙ r) in
      let wired = b.told.wired in
      let list = taken left.journal.entries receiver in
      let from = (get_or list i d).from in
      let homes : length receiver.around.homes ≡ guest_count wires = ap (λ w. length w.homes) b.told.around ∙ sym wired.guests in
      let own : receiver.around.guest ≡ b.passes.guest.0 = ap (λ w. w.guest) b.told.around ∙ sym wired.number in
      let has : map shown (taken_at (taking_from b.passes from)) ≡ [] → ⊥ = λ none. filter-has (is_from from) list i d lt (eq-eqb from from refl) (ap (λ (x : GuestRecord). taken_from x.journal.entries receiver from) (sym record-is) ∙ sym (b.told.posted.taken from) ∙ none) in (
        elim (side from (length receiver.around.homes)) [
          | inl within ↦ within
          | inr past ↦ absurd (has (ap (λ (x : Option Taking). map shown (taken_at x)) (past-none b.passes.takes.items from (omega (arith, past, homes, wired.list.takes_all)))))
        ],
        λ e. has (no-wire (taking_from b.passes from) (wired.list.takes from ∙ ap (λ (n : ℕ). wire_between wires n b.passes.guest.0) (e ∙ own) ∙ wired.joins.itself b.passes.guest.0)),
      )

  pub meet-wires : EndDrained states lists → AreInOrder lists → MeetWires states lefts
  meet-wires drained ordered = record { between = meets drained ordered; others = others }
