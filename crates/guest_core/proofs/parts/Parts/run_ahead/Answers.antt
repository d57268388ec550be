-- Steps that the processor made by itself are their rows, one after the other, and the guest is kept.
use Rattle.std.proofs.Common.{◌≡◌, ℕ, zero, suc, ◌+◌, ◌-◌, ◌^◌, ◌<◌, ◌≤◌, ◌++◌, min, Option, Some, None, IfSome, List, length, map, replicate, refl, sym, ap, ◌∙◌, subst, arith, length-append}
use Rattle.std.proofs.lemmas.List.{length-replicate}
use Rattle.base_words.specs.declared.events.Event.{Event}
use Rattle.base_words.specs.declared.events.Event.TheVariants.{Direct}
use Rattle.base_words.specs.declared.ids.ProcId.{ProcId}
use Rattle.shootdown.specs.declared.notes.Note.TheVariants.{Made}
use Rattle.shootdown.specs.declared.view.SidedNote.{SidedNote}
use Rattle.shootdown.specs.Notes.{Seat, Token, sided}
use Rattle.guest_course.specs.CourseView.{state_of}
use Rattle.isolation_law.specs.GuestState.{GuestState}
use Rattle.base_words.specs.declared.ids.VcpuId.{VcpuId}
use Rattle.base_words.specs.declared.trap.HwStep.{HwStep}
use Rattle.base_words.specs.declared.trap.HwStep.TheVariants as steps
use Rattle.base_words.specs.declared.trap.TrapCause.{TrapCause}
use Rattle.guest_course.specs.StepCalls.{MayStep, StepsMany, StepsTo, StopsAt, TrapsFor}
use Rattle.guest_core.specs.GuestView.{Monitored, guest_of}
use Rattle.guest_core.specs.GuestCalls.{TrapsNext, processor_of, trap_in}
use Rattle.guest_core.specs.Wiring.{Posted}
use Rattle.guest_core.proofs.AheadProofs.{around-many, due-many, frames-many, kept-many, many-of, map-replicate, quiet-many, run-many, uses-many}
use Rattle.guest_core.proofs.EnterProofs.{handed-same, of-these}
use Rattle.guest_core.proofs.RoomLemmas.{two-entries}
use Rattle.guest_core.proofs.WiringProofs.{posted-same}
use Rattle.guest_core.proofs.parts.Parts.run_ahead.Goals as goal

-- so many entries are counted in 64 bits
counted-still : (entries steps left due : ℕ) → steps ≤ left → (0 < left → entries + left + due < 2 ^ 64) → entries < 2 ^ 64 → entries + steps < 2 ^ 64
counted-still entries steps zero due few some below = omega (arith, few, below)
counted-still entries steps (suc left) due few some below = let all = some (omega arith) in omega (arith, few, all)

-- and there is room for those that are still to come
owed-still : (entries steps left due room room' longer : ℕ) → steps ≤ left → (0 < left → entries + left + due < 2 ^ 64) → longer ≡ entries + steps
    → due + 2 ≤ room → min (room - 1) (2 ^ 64 - 1 - longer) ≤ room' → (steps ≡ 0 → room' ≡ room) → due ≤ room'
owed-still entries zero left due room room' longer few some is enough used none = let same = none refl in omega (arith, enough, same)
owed-still entries (suc steps) left due room room' longer few some is enough used none =
    let all = some (omega (arith, few)) in omega (arith, few, all, is, enough, used)

pub push_directs-requires-clause-few : goal.push_directs-requires-clause-few
push_directs-requires-clause-few c =
    let few = c.steps-made.ensures.few in
    let least = c.min-few.ensures in
    counted-still _ _ c.entries_left.result _ (omega (arith, few, least)) c.entries_left.ensures.left c.entries_left.ensures.counted

pub returns-clause-kept : goal.returns-clause-kept
returns-clause-kept c =
    let old = c.args.self.now in
    let token : Token = c.args.token.now in
    let n = c.steps-made.result.made in
    let done = c.steps-made.ensures in
    let s = state_of old.course in
    let m = state_of c.steps-made.new.self in
    let k = c.requires.kept in
    let q : ProcId = processor_of token in
    let v = c.args.vcpu in
    let w = c.laws.ensures.rows in
    let same : c.number-processor.result ≡ q = ap (λ (n : ℕ). record { 0 = n }) c.number-processor.ensures in
    let there : q.0 < length s.processors = subst (λ (n : ℕ). q.0 < n) (sym k.kept.processors) c.requires.may.notes.is_processor in
    let many : StepsMany n s q.0 v.0 m = subst (λ (p : ℕ). StepsMany n s p v.0 m) c.number-processor.ensures (many-of n s _ v.0 m c.steps-made.result.last done.came) in
    let journal : c.push_directs.new.self.entries ≡ old.journal.entries ++ replicate n (Direct q v) = c.push_directs.ensures.entries ∙ ap (λ (p : ProcId). old.journal.entries ++ replicate n (Direct p v)) same in
    let notes : c.note_many.new.seat.notes ≡ old.seat.notes ++ replicate n (sided q.0 (Made (Direct q v))) =
    ap (λ (x : Seat). x.notes) c.note_many.ensures.seat
    ∙ ap (λ (p : ProcId). old.seat.notes ++ map (sided q.0) (replicate n (Made (Direct p v)))) same
    ∙ ap (λ (more : List SidedNote). old.seat.notes ++ more) (map-replicate (sided q.0) n (Made (Direct q v))) in
    let around = around-many w q v n s m many in
    let due = due-many w q v c.laws.ensures.moves n s m many in
    let few = done.few in
    let least = c.min-few.ensures in
    let long = ap length journal ∙ length-append old.journal.entries (replicate n (Direct q v)) ∙ ap (λ (l : ℕ). length old.journal.entries + l) (length-replicate n (Direct q v)) in
    let owed = owed-still (length old.journal.entries) n c.entries_left.result _ old.journal.room c.push_directs.new.self.room (length c.push_directs.new.self.entries)
    (omega (arith, few, least)) c.entries_left.ensures.left long (two-entries _ _ _ c.requires.room) c.push_directs.ensures.room (λ is. ap (λ j. j.room) (c.push_directs.ensures.none is)) in
    record {
      sound = done.sound;
      seat = ap (λ (x : Seat). x.number) c.note_many.ensures.seat ∙ k.seat;
      booted = k.booted;
      kept = of-these old.start m _ _ _ _ journal notes (kept-many w q v c.laws.ensures.runs old.start n s m old.journal.entries old.seat.notes k.kept there many);
      goes_on = λ e. done.goes_on;
      frames = frames-many w q v c.exchanges.ensures.steps n s m _ many done.goes_on.not_ended k.frames;
      used = uses-many w q v c.uses_change.ensures.steps n s m old.uses many k.used;
      at_home = k.at_home;
      owed = omega (arith, due, owed);
      few_guests = k.few_guests;
      wired = k.wired;
      posted = subst (λ (j : List Event). Posted m j old.wiring.passes) (sym journal)
          (posted-same c.laws.ensures.takes s m old.journal.entries (replicate n (Direct q v)) old.wiring.passes k.posted
          (record { received = rw done.packets.received refl; discarded = rw done.packets.discarded refl; hand = rw done.packets.hand refl })
          done.packets.sent (rw done.cells refl) around (quiet-many s q v n));
    }

pub returns-clause-ahead : goal.returns-clause-ahead
returns-clause-ahead c =
    let old = c.args.self.now in
    let token : Token = c.args.token.now in
    let n = c.steps-made.result.made in
    let s = state_of old.course in
    let m = state_of c.steps-made.new.self in
    let q : ProcId = processor_of token in
    let v = c.args.vcpu in
    let same : c.number-processor.result ≡ q = ap (λ (n : ℕ). record { 0 = n }) c.number-processor.ensures in
    let many : StepsMany n s q.0 v.0 m = subst (λ (p : ℕ). StepsMany n s p v.0 m) c.number-processor.ensures (many-of n s _ v.0 m c.steps-made.result.last c.steps-made.ensures.came) in
    record {
      rest = λ some. c.requires.rest;
      makes = record {
        makes = record {
          journal = c.push_directs.ensures.entries ∙ ap (λ (p : ProcId). old.journal.entries ++ replicate n (Direct p v)) same;
          run = run-many c.laws.ensures.rows q v n s m many;
        };
        passes = refl;
      };
      learns = record {
        seat = ap (λ (x : Seat). x.notes) c.note_many.ensures.seat ∙ ap (λ (p : ProcId). old.seat.notes ++ map (sided token.number) (replicate n (Made (Direct p v)))) same;
        token_is = c.note_many.ensures.token
            ∙ ap (λ (p : ProcId). record token { notes = token.notes ++ map (sided old.seat.number) (replicate n (Made (Direct p v))) }) same
            ∙ ap (λ (g : ℕ). record token { notes = token.notes ++ map (sided g) (replicate n (Made (Direct q v))) }) c.requires.kept.seat;
      };
      end = c.steps-made.ensures.goes_on.not_ended ∙ sym c.requires.runs.not_ended;
      same = record { number = refl; start = refl; disk = refl; board = ap (λ (x : Seat). x.board) c.note_many.ensures.seat; table = refl; wires = refl; own = refl };
      handed = handed-same old.course c.steps-made.new.self c.steps-made.ensures.packets.hand;
    }

-- a step that trapped came before there were enough
few-before : (most few n : ℕ) (t : GuestState) (p : ℕ) (last : HwStep) → few ≤ most → StopsAt few n t p last → IfSome (trap_in last) (λ cause. n < most)
few-before most few n t p (steps.Direct access) le stops = tt
few-before most few n t p (steps.Trap cause) le stops = omega (arith, le, stops)

-- and may be made
next-of : (n : ℕ) (s : GuestState) (p v : ℕ) (t : GuestState) (last : HwStep) → StepsTo n s p v t last → IfSome (trap_in last) (λ cause. TrapsFor t p v cause × MayStep t p v)
next-of n s p v t (steps.Direct access) came = tt
next-of n s p v t (steps.Trap cause) came = (came.traps, came.may)

traps-next : (g : Monitored) (token : Token) (v : VcpuId) (p : ℕ) (o : Option TrapCause) → token.number ≡ p → IfSome o (λ cause. TrapsFor g.state p v.0 cause × MayStep g.state p v.0) → IfSome o (TrapsNext g token v)
traps-next g token v p None is next = tt
traps-next g token v p (Some cause) is next = record {
  traps = subst (λ (n : ℕ). TrapsFor g.state n v.0 cause) (sym is) next.0;
  may = subst (λ (n : ℕ). MayStep g.state n v.0) (sym is) next.1;
}

pub returns-clause-fewer : goal.returns-clause-fewer
returns-clause-fewer c =
    let least = c.min-few.ensures in
    subst (λ (o : Option TrapCause). IfSome o (λ cause. c.steps-made.result.made < c.args.most)) (sym c.trap_of.ensures)
    (few-before c.args.most c.min-few.result c.steps-made.result.made (state_of c.steps-made.new.self) c.number-processor.result.0 c.steps-made.result.last (omega (arith, least)) c.steps-made.ensures.stops)

pub returns-clause-traps : goal.returns-clause-traps
returns-clause-traps c =
    let old = c.args.self.now in
    let new : Monitored = guest_of (record old { course = c.steps-made.new.self; journal = c.push_directs.new.self; seat = c.note_many.new.seat }) in
    traps-next new c.note_many.new.token c.args.vcpu c.number-processor.result.0 c.trap_of.result (ap (λ (t : Token). t.number) c.note_many.ensures.token ∙ sym c.number-processor.ensures)
    (subst (λ (o : Option TrapCause). IfSome o (λ cause. TrapsFor (state_of c.steps-made.new.self) c.number-processor.result.0 c.args.vcpu.0 cause × MayStep (state_of c.steps-made.new.self) c.number-processor.result.0 c.args.vcpu.0)) (sym c.trap_of.ensures)
    (next-of c.steps-made.result.made (state_of old.course) c.number-processor.result.0 c.args.vcpu.0 (state_of c.steps-made.new.self) c.steps-made.result.last c.steps-made.ensures.came))
