-- One guest more has ended.
use Rattle.std.proofs.Common.{◌≡◌, ◌≢◌, ℕ, zero, suc, ◌+◌, ◌<◌, List, [], ◌∷◌, ◌++◌, length, length-append, All, sym, ap, ◌∙◌, subst, arith, refl, Option, Some, None, is_some, Bool, true, false, if◌then◌else◌, ⊎_elim}
use Rattle.std.specs.Prelude.{slice_get}
use Rattle.atomic_table.specs.Seated.{TableId}
use Rattle.base_words.specs.declared.events.Event.{Event}
use Rattle.base_words.specs.declared.events.Event.TheVariants.{Finish, End as Ending}
use Rattle.base_words.specs.declared.events.End.{End}
use Rattle.base_words.specs.declared.events.End.TheVariants.{Budget}
use Rattle.shootdown.specs.declared.view.SidedNote.{SidedNote}
use Rattle.shootdown.specs.Notes.{Seat}
use Rattle.private_machine.specs.Backing.{Page}
use Rattle.isolation_law.specs.EndRows.{is_taking}
use Rattle.isolation_law.specs.GuestState.{GuestState}
use Rattle.isolation_law.specs.Run.{Run}
use Rattle.isolation_law.specs.Start.{Boot, start}
use Rattle.isolation_law.specs.WireHistory.{EndsWaiting}
use Rattle.guest_course.specs.EndCalls.{letting_go}
use Rattle.guest_core.specs.GuestView.{Monitored, Shared, IsSameGuest}
use Rattle.guest_core.specs.MoveCalls.{EndsByPlan}
use Rattle.guest_core.specs.Noting.{IsNoted}
use Rattle.guest_core.specs.Records.{IsRecord}
use Rattle.guest_core.specs.Wiring.{IsWired, Posted}
use Rattle.wire_queue.specs.Between.{Made}
use Rattle.wire_queue.specs.ListSteps.{HasTaken}
use Rattle.wire_queue.specs.declared.lists.PassList.{PassList}
use Rattle.guest_core.specs.declared.records.GuestRecord.{GuestRecord}
use Rattle.guest_lock.specs.Guests.{IsGuestOf, GuestsFrom}
use Rattle.run_workers.specs.Draining.{AreDrained}
use Rattle.run_workers.specs.Ending.{Leaves, Told, EndsSo, HasLeft, AreLeft, AllTold, EndDrained}
use Rattle.run_workers.proofs.WholeLemmas.{get-index}
use Rattle.run_workers.proofs.LoopLemmas.{left-more}

-- ---- the end of one guest

pub none-of : (end : Option End) → is_some end ≡ false → end ≡ None
none-of None is = refl
none-of (Some end) is = absurd cc

pub some-of : (end : Option End) → is_some end ≡ true → end ≡ None → ⊥
some-of None is none = absurd cc
some-of (Some end) is none = absurd cc

-- the end that comes last is the guest's
pub ends-so : (q : ℕ) (pages : List Page) (s t : GuestState) → Run s (letting_go q pages ++ Ending Budget ∷ []) t → t.end ≡ Some Budget
ends-so q [] s t run =
    let last = ap (λ (x : GuestState). x.end) run.3.after in
    ⊎_elim (λ same. ap (λ (x : GuestState). x.end) same ∙ last) (λ comes. (let both : None ≡ Some Budget = sym comes.goes_on.not_ended ∙ last in absurd cc)) run.4
ends-so q (g ∷ pages) s t run = by (is_taking g.move) (λ m. ends-so (suc q) pages m t) run
  where
    by : (b : Bool) → ((m : GuestState) → Run m (letting_go (suc q) pages ++ Ending Budget ∷ []) t → t.end ≡ Some Budget) → Run s ((if b then Finish (record { 0 = q }) ∷ letting_go (suc q) pages else letting_go (suc q) pages) ++ Ending Budget ∷ []) t → t.end ≡ Some Budget
    by true rest run = rest run.1 run.4
    by false rest run = rest s run

-- the plan's end, and the moves that are finished before, keep what is armed and in hand
pub ends-by-plan : (guest room last : Monitored) (passes : PassList) → passes ≡ guest.passes → room.state ≡ guest.state → guest.state.end ≡ None → EndsByPlan room last → EndsSo guest last.state passes
ends-by-plan guest room last passes same stays goes_on ends =
    let devices = ends.devices ∙ ap (λ (s : GuestState). s.devices) stays in
    record {
      same = same;
      armed = λ waits. record { not_ended = goes_on; armed = λ e. waits.1 (ap (λ d. d.armed) devices ∙ e) };
      hand = λ waits. ends.hand ∙ ap (λ (s : GuestState). s.hand) stays;
    }

-- a guest that had ended waits for nothing
pub ended-before : (guest : Monitored) (passes : PassList) → passes ≡ guest.passes → guest.state.end ≢ Some Budget → EndsSo guest guest.state passes
ended-before guest passes same other = record { same = same; armed = λ waits. absurd (other waits.0); hand = λ waits. absurd (other waits.0) }

-- what a guest leaves, by what it was last
pub has-left : ((s t : GuestState) (journal : List Event) → Run s journal t → t.around ≡ s.around) → (guest last : Monitored) (left : GuestRecord) (passes : PassList) (seat : Seat) → EndsSo guest last.state passes → IsSameGuest guest last → IsRecord last.start last.state left → left.journal.entries ≡ last.journal → seat ≡ record { board = last.board; number = last.number; notes = last.notes } → IsNoted last.state last.journal last.notes → All (λ (n : SidedNote). n.side < length last.start.around.processors) last.notes → IsWired last.wires passes last.start.around → Posted last.state last.journal passes → HasLeft guest left passes seat
has-left around guest last left passes seat ends same is journal seat-is noted sides wired posted =
    let notes : seat.notes ≡ last.notes = ap (λ (s : Seat). s.notes) seat-is in record {
      state = last.state;
      leaves = record {
        record_is = subst (λ (b : Boot). IsRecord b last.state left) same.start is;
        number_is = ap (λ (s : Seat). s.number) seat-is ∙ same.number;
        board_is = ap (λ (s : Seat). s.board) seat-is ∙ same.board;
        notes = subst (λ (ns : List SidedNote). IsNoted last.state left.journal.entries ns) (sym notes) (subst (λ (j : List Event). IsNoted last.state j last.notes) (sym journal) noted);
        sides = subst (λ (ns : List SidedNote). All (λ (n : SidedNote). n.side < length guest.start.around.processors) ns) (sym notes) (subst (λ (b : Boot). All (λ (n : SidedNote). n.side < length b.around.processors) last.notes) same.start sides);
      };
      told = record {
        around = around (start last.start) last.state left.journal.entries is.run ∙ ap (λ (b : Boot). b.around) same.start;
        wired = subst (λ (m : Made). IsWired m passes guest.start.around) same.wires (subst (λ (b : Boot). IsWired last.wires passes b.around) same.start wired);
        posted = subst (λ (j : List Event). Posted last.state j passes) (sym journal) posted;
      };
      ends = ends;
    }

-- ---- one guest more

-- the next guest's record and seat
pub left-next : (starts : List Boot) (board : TableId) (shared : Shared) (states : List GuestState) (lefts : List GuestRecord) (seats : List Seat) (guest : Monitored) (left : GuestRecord) (passes : PassList) (seat : Seat) → AreLeft starts board 0 states lefts seats → IsGuestOf starts board shared (length lefts) guest → (has : HasLeft guest left passes seat) → AreLeft starts board 0 (states ++ has.state ∷ []) (lefts ++ left ∷ []) (seats ++ seat ∷ [])
left-next starts board shared states lefts seats guest left passes seat are is has =
    let here : length lefts ≡ 0 + length lefts = omega arith in
    let leaves : Leaves guest.start board (length lefts) has.state left seat = subst (λ b. Leaves guest.start b (length lefts) has.state left seat) is.board_is (subst (λ n. Leaves guest.start guest.board n has.state left seat) is.number_is has.leaves) in
    left-more starts board 0 states lefts seats guest.start has.state left seat are (subst (λ n. slice_get starts n ≡ Some guest.start) here is.start_is) (subst (λ n. Leaves guest.start board n has.state left seat) here leaves)

-- and the guests behind it
pub rest-next : (starts : List Boot) (board : TableId) (shared : Shared) (lefts more : List GuestRecord) (left : GuestRecord) (guests : List Monitored) → more ≡ lefts ++ left ∷ [] → GuestsFrom starts board shared (length lefts + 1) guests → GuestsFrom starts board shared (length more) guests
rest-next starts board shared lefts more left guests grown from =
    let n = length-append lefts (left ∷ []) in
    let count : length lefts + 1 ≡ length more = sym (ap (λ (l : List GuestRecord). length l) grown ∙ n) in
    subst (λ k. GuestsFrom starts board shared k guests) count from

-- the next guest's ends
told-more : (starts : List Boot) (wires : Made) (k : ℕ) (states : List GuestState) (lefts : List GuestRecord) (lists : List PassList) (start : Boot) (state : GuestState) (left : GuestRecord) (passes : PassList) → AllTold starts wires k states lefts lists → slice_get starts (k + length lefts) ≡ Some start → Told start wires state left passes → AllTold starts wires k (states ++ state ∷ []) (lefts ++ left ∷ []) (lists ++ passes ∷ [])
told-more starts wires k [] [] [] start state left passes are named told =
    let here : k + 0 ≡ k = omega arith in
    ((start, subst (λ n. slice_get starts n ≡ Some start) here named, told), tt)
told-more starts wires k [] [] (t ∷ lists) start state left passes are named told = absurd are
told-more starts wires k [] (r ∷ lefts) lists start state left passes are named told = absurd are
told-more starts wires k (s ∷ states) [] lists start state left passes are named told = absurd are
told-more starts wires k (s ∷ states) (r ∷ lefts) [] start state left passes are named told = absurd are
told-more starts wires k (s ∷ states) (r ∷ lefts) (t ∷ lists) start state left passes are named told =
    let next : k + suc (length lefts) ≡ k + 1 + length lefts = omega arith in
    (are.0, told-more starts wires (k + 1) states lefts lists start state left passes are.1 (subst (λ n. slice_get starts n ≡ Some start) next named) told)

pub told-next : (starts : List Boot) (board : TableId) (shared : Shared) (states : List GuestState) (lefts : List GuestRecord) (lists : List PassList) (guest : Monitored) (left : GuestRecord) (passes : PassList) (seat : Seat) → AllTold starts shared.wires 0 states lefts lists → IsGuestOf starts board shared (length lefts) guest → (has : HasLeft guest left passes seat) → AllTold starts shared.wires 0 (states ++ has.state ∷ []) (lefts ++ left ∷ []) (lists ++ passes ∷ [])
told-next starts board shared states lefts lists guest left passes seat are is has =
    let here : length lefts ≡ 0 + length lefts = omega arith in
    told-more starts shared.wires 0 states lefts lists guest.start has.state left passes are (subst (λ n. slice_get starts n ≡ Some guest.start) here is.start_is) (subst (λ (m : Made). Told guest.start m has.state left passes) is.shared_is.wires has.told)

-- ---- whoever waits at the end has taken all

-- the guests before their ends, with their last states and their ends of the wires
abbrev pub AllEndSo : List Monitored → List GuestState → List PassList → Type 0
AllEndSo [] [] [] = Unit {0}
AllEndSo (guest ∷ guests) (state ∷ states) (passes ∷ lists) = EndsSo guest state passes × AllEndSo guests states lists
AllEndSo guests states lists = ⊥

pub end-so-next : (guests : List Monitored) (states : List GuestState) (lists : List PassList) (guest : Monitored) (state : GuestState) (passes : PassList) → AllEndSo guests states lists → EndsSo guest state passes → AllEndSo (guests ++ guest ∷ []) (states ++ state ∷ []) (lists ++ passes ∷ [])
end-so-next [] [] [] guest state passes all ends = (ends, tt)
end-so-next [] [] (t ∷ lists) guest state passes all ends = absurd all
end-so-next [] (s ∷ states) lists guest state passes all ends = absurd all
end-so-next (g ∷ guests) [] lists guest state passes all ends = absurd all
end-so-next (g ∷ guests) (s ∷ states) [] guest state passes all ends = absurd all
end-so-next (g ∷ guests) (s ∷ states) (t ∷ lists) guest state passes all ends = (all.0, end-so-next guests states lists guest state passes all.1 ends)

-- the guest of a place
record At (guests : List Monitored) (states : List GuestState) (lists : List PassList) (i : ℕ) : Type 0 where
  pub guest : Monitored
  pub state : GuestState
  pub passes : PassList
  pub guest_is : slice_get guests i ≡ Some guest
  pub state_is : slice_get states i ≡ Some state
  pub passes_are : slice_get lists i ≡ Some passes
  pub ends : EndsSo guest state passes

end-at : (guests : List Monitored) (states : List GuestState) (lists : List PassList) (i : ℕ) → AllEndSo guests states lists → i < length lists → At guests states lists i
end-at [] [] [] i all lt = absurd (let m : i < 0 = lt in omega arith)
end-at [] [] (t ∷ lists) i all lt = absurd all
end-at [] (s ∷ states) lists i all lt = absurd all
end-at (g ∷ guests) [] lists i all lt = absurd all
end-at (g ∷ guests) (s ∷ states) [] i all lt = absurd all
end-at (g ∷ guests) (s ∷ states) (t ∷ lists) zero all lt = record { guest = g; state = s; passes = t; guest_is = refl; state_is = refl; passes_are = refl; ends = all.0 }
end-at (g ∷ guests) (s ∷ states) (t ∷ lists) (suc i) all lt =
    let at = end-at guests states lists i all.1 (omega (arith, lt)) in
    record { guest = at.guest; state = at.state; passes = at.passes; guest_is = at.guest_is; state_is = at.state_is; passes_are = at.passes_are; ends = at.ends }

end-count : (guests : List Monitored) (states : List GuestState) (lists : List PassList) → AllEndSo guests states lists → length states ≡ length lists
end-count [] [] [] all = refl
end-count [] [] (t ∷ lists) all = absurd all
end-count [] (s ∷ states) lists all = absurd all
end-count (g ∷ guests) [] lists all = absurd all
end-count (g ∷ guests) (s ∷ states) [] all = absurd all
end-count (g ∷ guests) (s ∷ states) (t ∷ lists) all = ap suc (end-count guests states lists all.1)

same-some : {A : Type 0} (x y : A) → Some x ≡ Some y → x ≡ y
same-some x y e = cc

pub end-drained : (guests : List Monitored) (states : List GuestState) (lists : List PassList) → AllEndSo guests states lists → AreDrained guests → EndDrained states lists
end-drained guests states lists all drained = record {
  none = λ i s is waits.
      let at = end-at guests states lists i all (omega (arith, (get-index states i s s is).0, end-count guests states lists all)) in
      let same : at.state ≡ s = same-some at.state s (sym at.state_is ∙ is) in
      let waits' = subst EndsWaiting (sym same) waits in
      ap (λ (x : GuestState). x.hand) (sym same) ∙ at.ends.hand waits' ∙ drained.none i at.guest at.guest_is (at.ends.armed waits');
  all = λ i j s receiver sender is p q other waits.
      let at = end-at guests states lists i all (get-index lists i receiver receiver p).0 in
      let from = end-at guests states lists j all (get-index lists j sender sender q).0 in
      let same : at.state ≡ s = same-some at.state s (sym at.state_is ∙ is) in
      let taker : at.guest.passes ≡ receiver = sym at.ends.same ∙ same-some at.passes receiver (sym at.passes_are ∙ p) in
      let giver : from.guest.passes ≡ sender = sym from.ends.same ∙ same-some from.passes sender (sym from.passes_are ∙ q) in
      let has = drained.all i j at.guest from.guest at.guest_is from.guest_is other (at.ends.armed (subst EndsWaiting (sym same) waits)) in
      subst (λ (x : PassList). HasTaken x sender true) taker (subst (λ (y : PassList). HasTaken at.guest.passes y true) giver has);
}
