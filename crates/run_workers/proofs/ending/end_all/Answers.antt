use Rattle.std.proofs.Common.{rules, ◌≡◌, ◌∙◌, ◌++◌, ◌∷◌, suc, [], List, refl, sym, ap, subst, arith, length, append-nil, append_assoc}
use Rattle.std.specs.Vec.Iter.{into_iter_items}
use Rattle.shootdown.specs.Notes.{Seat}
use Rattle.guest_core.specs.GuestView.{Monitored}
use Rattle.wire_queue.specs.declared.lists.PassList.{PassList}
use Rattle.guest_core.specs.declared.records.GuestRecord.{GuestRecord}
use Rattle.guest_lock.specs.Guests.{GuestsFrom}
use Rattle.run_workers.specs.Draining.{AreDrained}
use Rattle.run_workers.specs.Ending.{HasLeft, AreLeft, AllTold}
use Rattle.run_workers.proofs.EndLemmas.{left-next, rest-next, told-next, AllEndSo, end-so-next, end-drained}
use Rattle.run_workers.proofs.LoopLemmas.{left-within, guests-past}
use Rattle.run_workers.proofs.ending.end_all.Goals as goal

pub returns-clause-left : goal.returns-clause-left
returns-clause-left g c =
    let i = c.loop-guest.invariant in
    let none : length (into_iter_items c.loop-guest.guest-iterator) ≡ 0 = sym c.loop-guest.guest-iterator.rest.ok.0 ∙ c.in-None.ensures.steps.0 in
    let few = left-within g.N.Starts.starts g.N.Starts.board 0 i.3.0 c.loop-guest.records c.loop-guest.seats i.3.1 (omega arith) in
    let many = guests-past g.N.Starts.starts g.N.Starts.board g.N.Starts.shared (length c.loop-guest.records) (into_iter_items c.loop-guest.guest-iterator) i.2 none in
    let done = i.3.3.0 in
    let rest : into_iter_items c.loop-guest.guest-iterator ≡ [] = length_zero (into_iter_items c.loop-guest.guest-iterator) none in
    let all : c.args.guests.items ≡ done = i.3.3.1 ∙ ap (λ (l : List Monitored). done ++ l) rest ∙ append-nil done in
    record {
      states = i.3.0;
      each = i.3.1;
      told = i.3.2;
      drained = end-drained done i.3.0 c.loop-guest.lists i.3.3.2 (subst AreDrained all c.requires.drained);
      count = omega (arith, few, many);
    }
  where
    length_zero : (xs : List Monitored) → length xs ≡ 0 → xs ≡ []
    length_zero [] e = refl
    length_zero (x ∷ xs) e = absurd (let m : suc (length xs) ≡ 0 = e in omega arith)

pub loop-guest-init : goal.loop-guest-init
loop-guest-init g c = (search rules, search rules, search rules, ([], search rules, search rules, ([], sym c.into_iter-guest-iterator.ensures.into_iter_gives.0, search rules)), search rules, search rules)

pub loop-guest-preserved : goal.loop-guest-preserved
loop-guest-preserved g c =
    let i = c.loop-guest.invariant in
    let starts = g.N.Starts.starts in
    let board = g.N.Starts.board in
    let shared = g.N.Starts.shared in
    let lefts = c.loop-guest.records in
    let seats = c.loop-guest.seats in
    let from = subst (λ (l : List Monitored). GuestsFrom starts board shared (length lefts) l) c.in-Some.ensures.steps.0 i.2 in
    let grown : c.push.new.self ≡ lefts ++ c.in_ok-record.record ∷ [] = search rules in
    let longer : c.push-in-loop-guest-2.new.self ≡ seats ++ c.in_ok-record.seat ∷ [] = search rules in
    let lists = c.loop-guest.lists in
    let further : c.push-in-loop-guest.new.self ≡ lists ++ c.in_ok-record.passes ∷ [] = search rules in
    let has : HasLeft c.in-Some.guest c.in_ok-record.record c.in_ok-record.passes c.in_ok-record.seat = c.in_ok-record.ensures.left in
    let states = i.3.0 ++ has.state ∷ [] in (
      tt,
      tt,
      rest-next starts board shared lefts c.push.new.self c.in_ok-record.record (into_iter_items c.next.new.self) grown from.1,
      (
        states,
        subst (λ (l : List GuestRecord). AreLeft starts board 0 states l c.push-in-loop-guest-2.new.self) (sym grown)
            (subst (λ (l : List Seat). AreLeft starts board 0 states (lefts ++ c.in_ok-record.record ∷ []) l) (sym longer)
            (left-next starts board shared i.3.0 lefts seats c.in-Some.guest c.in_ok-record.record c.in_ok-record.passes c.in_ok-record.seat i.3.1 from.0 has)),
        subst (λ (l : List GuestRecord). AllTold starts shared.wires 0 states l c.push-in-loop-guest.new.self) (sym grown)
            (subst (λ (l : List PassList). AllTold starts shared.wires 0 states (lefts ++ c.in_ok-record.record ∷ []) l) (sym further)
            (told-next starts board shared i.3.0 lefts lists c.in-Some.guest c.in_ok-record.record c.in_ok-record.passes c.in_ok-record.seat i.3.2 from.0 has)),
        (
          i.3.3.0 ++ c.in-Some.guest ∷ [],
          i.3.3.1 ∙ ap (λ (l : List Monitored). i.3.3.0 ++ l) c.in-Some.ensures.steps.0 ∙ sym (append_assoc i.3.3.0 (c.in-Some.guest ∷ []) (into_iter_items c.next.new.self)),
          subst (AllEndSo (i.3.3.0 ++ c.in-Some.guest ∷ []) states) (sym further) (end-so-next i.3.3.0 i.3.0 lists c.in-Some.guest has.state c.in_ok-record.passes i.3.3.2 has.ends),
        ),
      ),
      c.end.ensures.nothing,
      c.end.ensures.same ∙ i.5,
    )
