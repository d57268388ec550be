-- The entry that is made for a trap is its row, and the guest is kept.
use Rattle.std.proofs.Common.{◌≡◌, inl, ℕ, ◌<◌, ◌++◌, [], ◌∷◌, if◌then◌else◌, Bool, true, false, List, Ok, Some, None, length, map, refl, sym, ap, ◌∙◌, subst, arith}
use Rattle.std.specs.Global.{Vec}
use Rattle.base_words.specs.declared.ids.CellId.{CellId}
use Rattle.base_words.specs.declared.events.Event.{Event}
use Rattle.base_words.specs.declared.events.Event.TheVariants.{Refill, Emulate}
use Rattle.base_words.specs.declared.ids.ProcId.{ProcId}
use Rattle.private_machine.specs.DeviceAct.{StoresTo}
use Rattle.shootdown.specs.declared.notes.Note.{Note}
use Rattle.shootdown.specs.declared.notes.Note.TheVariants.{Made}
use Rattle.shootdown.specs.Notes.{Seat, Token, sided}
use Rattle.isolation_law.specs.GuestState.{GuestState}
use Rattle.base_words.specs.declared.events.End.TheVariants.{Halted as ByHalt}
use Rattle.isolation_law.specs.Phases.{all_halted, GoesOn}
use Rattle.isolation_law.specs.RefillRow.{Refills}
use Rattle.isolation_law.specs.StepRows.{Emulates}
use Rattle.isolation_law.specs.Surroundings.{Surroundings}
use Rattle.guest_course.specs.CourseView.{state_of}
use Rattle.base_words.specs.declared.moves.MoveKind.TheVariants.{Collapse}
use Rattle.guest_course.specs.RefillCalls.{StaysNeeding, StaysLosing}
use Rattle.guest_course.specs.declared.course.Course.{Course}
use Rattle.isolation_law.specs.StepAct.{at_hand}
use Rattle.guest_core.specs.MoveCalls.{MeetsPage}
use Rattle.guest_core.specs.GuestCalls.{end_of, processor_of, step_entries, told_of_turn, Leaves, TurnAnswers}
use Rattle.guest_core.specs.GuestView.{guest_of, shared_by}
use Rattle.guest_core.specs.Holding.{FitsAround}
use Rattle.guest_core.specs.Making.{Makes}
use Rattle.guest_core.specs.TurnParts.{BeginsFor, Concludes, Quietly}
use Rattle.guest_core.specs.Wiring.{Posted}
use Rattle.guest_core.proofs.ActingLemmas.{begun-lost, begun-store}
use Rattle.guest_core.proofs.EnterProofs.{concluded, handed-same, kept-refill, kept-step, learns-none, of-these, one-row, quiet-leaves, step-run, uses-none}
use Rattle.guest_core.proofs.HoldingLemmas.{frames-stay}
use Rattle.guest_core.proofs.KeptProofs.{emulate-due, emulate-end, refill-due}
use Rattle.guest_core.proofs.LettingLemmas.{letting-open, quiet-step}
use Rattle.guest_core.proofs.MoveLemmas.{needs-kind}
use Rattle.guest_core.proofs.RoomLemmas.{UsesCall, no-more, room-used, two-entries}
use Rattle.guest_core.proofs.UsingProofs.{uses-row}
use Rattle.guest_core.proofs.WiringProofs.{packets-then, posted-same, posts-none, quiet-one, same-ends, takes-none}
use Rattle.guest_core.proofs.parts.Parts.trapped.Goals as goal

-- ---- a half was given

pub returns-in-Refill-clause-kept : goal.returns-in-Refill-clause-kept
returns-in-Refill-clause-kept g c =
    let old = c.args.self.now in
    let d = c.serve.new.self in
    let s = state_of old.course in
    let m = state_of d in
    let k = c.requires.kept in
    let q : ProcId = processor_of c.args.token.now in
    let same : c.number-processor.result ≡ q = ap (λ (n : ℕ). record { 0 = n }) c.number-processor.ensures in
    let w = c.laws.ensures.rows in
    let e = c.in-Refill.ensures in
    let did : Refills s q.0 m = subst (λ (n : ℕ). Refills s n m) c.number-processor.ensures e.enters in
    let kept = kept-refill w c.laws.ensures.runs old.start s m old.journal.entries old.seat.notes q k.kept did in
    let journal = c.push.ensures.entries ∙ ap (λ (p : ProcId). old.journal.entries ++ Refill p ∷ []) same in
    let around = w.around s m (Refill q) did in
    let room = two-entries _ _ _ c.requires.room in
    record {
      sound = e.sound;
      seat = k.seat;
      booted = k.booted;
      kept = of-these old.start m _ _ _ _ journal refl kept;
      goes_on = λ on. e.goes_on;
      frames = frames-stay s m _ (c.exchanges.ensures.refills s m q.0 did) around (ap (λ (x : GuestState). x.end) did.after) k.frames;
      used = uses-row w s m (Refill q) old.uses did (c.uses_change.ensures.refills s m q.0 did) (λ r. refl) k.used;
      at_home = k.at_home;
      owed = omega (arith, refill-due w c.laws.ensures.moves s m q did, room, c.push.ensures.room);
      few_guests = k.few_guests;
      wired = k.wired;
      posted = subst (λ (j : List Event). Posted m j old.wiring.passes) (sym journal)
          (posted-same c.laws.ensures.takes s m old.journal.entries (Refill q ∷ []) old.wiring.passes k.posted (takes-none old.course d e.packets) e.packets.sent (ap (λ (l : Vec CellId). map (λ (x : CellId). x.0) l.items) e.cells) around (quiet-one s (Refill q) refl (λ x. tt)));
    }

pub returns-in-Refill-clause-turns : goal.returns-in-Refill-clause-turns
returns-in-Refill-clause-turns g c =
    let old = c.args.self.now in
    let s = state_of old.course in
    let m = state_of c.serve.new.self in
    let q : ProcId = processor_of c.args.token.now in
    let same : c.number-processor.result ≡ q = ap (λ (n : ℕ). record { 0 = n }) c.number-processor.ensures in
    let did : Refills s q.0 m = subst (λ (n : ℕ). Refills s n m) c.number-processor.ensures c.in-Refill.ensures.enters in
    record {
      rest = c.requires.rest;
      makes = record {
        makes = record { journal = c.push.ensures.entries ∙ ap (λ (p : ProcId). old.journal.entries ++ Refill p ∷ []) same; run = one-row s m (Refill q) did };
        passes = refl;
      };
    }

pub returns-in-Refill-clause-leaves : goal.returns-in-Refill-clause-leaves
returns-in-Refill-clause-leaves g c =
    let old = c.args.self.now in
    let token : Token = c.args.token.now in
    let d = c.serve.new.self in
    let s = state_of old.course in
    let m = state_of d in
    let e = c.in-Refill.ensures in
    let did : Refills s token.number m = subst (λ (n : ℕ). Refills s n m) c.number-processor.ensures e.enters in
    let due = refill-due c.laws.ensures.rows c.laws.ensures.moves s m (processor_of token) did in
    let uses : UsesCall old.course d = record { print_room = e.print_room; send_room = omega (arith, e.send_room); cells = no-more _ _ e.cells; received = no-more _ _ e.packets.received; discarded = no-more _ _ e.packets.discarded; begins = omega (arith, e.room); skips = no-more _ _ e.skips } in
    record {
      learns = learns-none (guest_of old) _ token refl;
      same = record { number = refl; start = refl; disk = refl; board = refl; table = refl; wires = refl; own = refl };
      handed = handed-same old.course d e.packets.hand;
      room = room-used _ _ old.course d uses (omega (arith, due, c.push.ensures.room));
    }

-- ---- the step was made

pub conclude-requires-clause-fits : goal.conclude-requires-clause-fits
conclude-requires-clause-fits g c =
    let s = state_of c.args.self.now.course in
    let m = state_of c.serve.new.self in
    let q : ProcId = processor_of c.args.token.now in
    let did : Emulates s q.0 c.args.vcpu.0 m = subst (λ (n : ℕ). Emulates s n c.args.vcpu.0 m) c.number-processor.ensures c.in-Emulate.ensures.enters in
    subst (λ (x : Surroundings). FitsAround c.args.resources.now.table.now x) (sym (c.laws.ensures.rows.around s m (Emulate q c.args.vcpu) (inl did) ∙ c.requires.kept.kept.around)) c.requires.shared.table.fits

pub conclude-requires-clause-at_home : goal.conclude-requires-clause-at_home
conclude-requires-clause-at_home g c =
    let s = state_of c.args.self.now.course in
    let m = state_of c.serve.new.self in
    let q : ProcId = processor_of c.args.token.now in
    let did : Emulates s q.0 c.args.vcpu.0 m = subst (λ (n : ℕ). Emulates s n c.args.vcpu.0 m) c.number-processor.ensures c.in-Emulate.ensures.enters in
    subst (λ (x : Surroundings). x.home < length x.nodes) (sym (c.laws.ensures.rows.around s m (Emulate q c.args.vcpu) (inl did) ∙ c.requires.kept.kept.around)) c.requires.kept.at_home

pub conclude-requires-clause-goes_on : goal.conclude-requires-clause-goes_on
conclude-requires-clause-goes_on g c =
    let s = state_of c.args.self.now.course in
    let m = state_of c.serve.new.self in
    let q : ProcId = processor_of c.args.token.now in
    let did : Emulates s q.0 c.args.vcpu.0 m = subst (λ (n : ℕ). Emulates s n c.args.vcpu.0 m) c.number-processor.ensures c.in-Emulate.ensures.enters in
    emulate-end s m q.0 c.args.vcpu.0 did

pub conclude-requires-clause-frames : goal.conclude-requires-clause-frames
conclude-requires-clause-frames g c =
    let s = state_of c.args.self.now.course in
    let m = state_of c.serve.new.self in
    let q : ProcId = processor_of c.args.token.now in
    let v = c.args.vcpu in
    let did : Emulates s q.0 v.0 m = subst (λ (n : ℕ). Emulates s n v.0 m) c.number-processor.ensures c.in-Emulate.ensures.enters in
    frames-stay s m c.args.self.now.holder.view (c.exchanges.ensures.emulates s m q.0 v.0 did) (c.laws.ensures.rows.around s m (Emulate q v) (inl did)) (emulate-end s m q.0 v.0 did ∙ sym did.traps.goes_on.not_ended) c.requires.kept.frames

pub conclude-requires-clause-used : goal.conclude-requires-clause-used
conclude-requires-clause-used g c =
    let s = state_of c.args.self.now.course in
    let m = state_of c.serve.new.self in
    let q : ProcId = processor_of c.args.token.now in
    let v = c.args.vcpu in
    let did : Emulates s q.0 v.0 m = subst (λ (n : ℕ). Emulates s n v.0 m) c.number-processor.ensures c.in-Emulate.ensures.enters in
    uses-row c.laws.ensures.rows s m (Emulate q v) c.args.self.now.uses (inl did) (c.uses_change.ensures.emulates s m q.0 v.0 did) (λ r. refl) c.requires.kept.used

pub conclude-requires-clause-room : goal.conclude-requires-clause-room
conclude-requires-clause-room g c =
    let s = state_of c.args.self.now.course in
    let m = state_of c.serve.new.self in
    let q : ProcId = processor_of c.args.token.now in
    let v = c.args.vcpu in
    let did : Emulates s q.0 v.0 m = subst (λ (n : ℕ). Emulates s n v.0 m) c.number-processor.ensures c.in-Emulate.ensures.enters in
    let due = emulate-due c.laws.ensures.rows c.laws.ensures.moves s m q v did in
    let room = two-entries _ _ _ c.requires.room in
    omega (arith, due, room, letting-open 0 m.pages)

-- a guest that goes on owes no end
goes-on-then : (halted : Bool) (m t : GuestState) → all_halted m.vcpus ≡ halted → m.end ≡ None → t.end ≡ end_of halted → Concludes halted m t → m.closing ≡ None → t.end ≡ None → GoesOn t
goes-on-then true m t all on end is closing now = absurd (no (sym end ∙ now))
  where
    no : Some ByHalt ≡ None → ⊥
    no e = cc
goes-on-then false m t all on end is closing now = subst GoesOn (sym is) (record { not_ended = on; owes_no_end = ap (λ (b : Bool). if b then Some ByHalt else m.closing) all ∙ closing })

pub returns-in-Emulate-clause-kept : goal.returns-in-Emulate-clause-kept
returns-in-Emulate-clause-kept g c =
    let old = c.args.self.now in
    let d = c.serve.new.self in
    let s = state_of old.course in
    let m = state_of d in
    let t = state_of c.conclude.new.course in
    let k = c.requires.kept in
    let q : ProcId = processor_of c.args.token.now in
    let v = c.args.vcpu in
    let w = c.laws.ensures.rows in
    let halted = all_halted m.vcpus in
    let x = c.conclude.ensures in
    let e = c.in-Emulate.ensures in
    let same : c.number-processor.result ≡ q = ap (λ (n : ℕ). record { 0 = n }) c.number-processor.ensures in
    let there : q.0 < length s.processors = subst (λ (n : ℕ). q.0 < n) (sym k.kept.processors) c.requires.may.notes.is_processor in
    let did : Emulates s q.0 v.0 m = subst (λ (n : ℕ). Emulates s n v.0 m) c.number-processor.ensures e.enters in
    let notes = old.seat.notes ++ sided q.0 (Made (Emulate q v)) ∷ [] in
    let first = kept-step w c.laws.ensures.runs old.start s m old.journal.entries old.seat.notes q v k.kept there (inl did) in
    let kept = concluded halted c.run_grows.ensures.hand w c.laws.ensures.runs old.start m t m.pages old.journal.entries notes q v first x.concludes refl in
    let journal = x.entries ∙ ap (λ (p : ProcId). old.journal.entries ++ step_entries p v halted m.pages) same in
    let packets = packets-then old.course d c.conclude.new.course e.packets x.packets in
    let room = two-entries _ _ _ c.requires.room in
    record {
      sound = x.sound;
      seat = ap (λ (y : Seat). y.number) c.note.ensures.seat ∙ k.seat;
      booted = k.booted;
      kept = of-these old.start t _ _ _ _ journal (ap (λ (y : Seat). y.notes) c.note.ensures.seat ∙ ap (λ (p : ProcId). old.seat.notes ++ sided q.0 (Made (Emulate p v)) ∷ []) same) kept;
      goes_on = goes-on-then halted m t refl (emulate-end s m q.0 v.0 did) x.end x.concludes refl;
      frames = x.frames;
      used = x.used;
      at_home = k.at_home;
      owed = omega (arith, emulate-due w c.laws.ensures.moves s m q v did, room, x.room);
      few_guests = k.few_guests;
      wired = k.wired;
      posted = subst (λ (j : List Event). Posted t j old.wiring.passes) (sym journal)
          (posted-same c.laws.ensures.takes s t old.journal.entries (step_entries q v halted m.pages) old.wiring.passes k.posted (takes-none old.course c.conclude.new.course packets) packets.sent
          (ap (λ (l : Vec CellId). map (λ (y : CellId). y.0) l.items) (x.cells ∙ e.cells)) (x.around ∙ w.around s m (Emulate q v) (inl did)) (quiet-step s q v halted m.pages));
    }

pub returns-in-Emulate-clause-turns : goal.returns-in-Emulate-clause-turns
returns-in-Emulate-clause-turns g c =
    let old = c.args.self.now in
    let d = c.serve.new.self in
    let s = state_of old.course in
    let m = state_of d in
    let t = state_of c.conclude.new.course in
    let q : ProcId = processor_of c.args.token.now in
    let v = c.args.vcpu in
    let halted = all_halted m.vcpus in
    let x = c.conclude.ensures in
    let e = c.in-Emulate.ensures in
    let same : c.number-processor.result ≡ q = ap (λ (n : ℕ). record { 0 = n }) c.number-processor.ensures in
    let did : Emulates s q.0 v.0 m = subst (λ (n : ℕ). Emulates s n v.0 m) c.number-processor.ensures e.enters in
    let packets = packets-then old.course d c.conclude.new.course e.packets x.packets in
    let posts = posts-none s t (takes-none old.course c.conclude.new.course packets) packets.sent (ap (λ (l : Vec CellId). map (λ (y : CellId). y.0) l.items) (x.cells ∙ e.cells)) (x.around ∙ c.laws.ensures.rows.around s m (Emulate q v) (inl did)) in
    let now : all_halted t.vcpus ≡ halted = ap (λ (l : Vec _). all_halted l.items) x.vcpus in
    let new = (guest_of (record old { course = c.conclude.new.course; holder = c.conclude.new.holder; uses = c.conclude.new.uses; journal = c.conclude.new.journal; seat = c.note.new.seat })) in
    let done : Makes (guest_of old) (step_entries q v halted m.pages) new = record { journal = x.entries ∙ ap (λ (p : ProcId). old.journal.entries ++ step_entries p v halted m.pages) same; run = step-run halted s m t q v (inl did) x.concludes } in
    record {
      rest = c.requires.rest;
      uses = uses-none _ old.disk s v.0 old.holder.view _ (c.serve.ensures.uses_none c.in-Emulate.is);
      mid = m;
      step = inl did;
      makes = subst (λ (b : Bool). Makes (guest_of old) (step_entries q v b m.pages) new) (sym now) done;
      end = x.end ∙ sym (ap end_of now);
      sends = record { out = None; whole = tt; sends = posts.sends; sent = same-ends old.wiring.passes };
    }

pub returns-in-Emulate-clause-leaves : goal.returns-in-Emulate-clause-leaves
returns-in-Emulate-clause-leaves g c =
    let old = c.args.self.now in
    let token : Token = c.args.token.now in
    let d = c.serve.new.self in
    let u = c.conclude.new.course in
    let s = state_of old.course in
    let m = state_of d in
    let k = c.requires.kept in
    let q : ProcId = processor_of token in
    let v = c.args.vcpu in
    let x = c.conclude.ensures in
    let e = c.in-Emulate.ensures in
    let same : c.number-processor.result ≡ q = ap (λ (n : ℕ). record { 0 = n }) c.number-processor.ensures in
    let did : Emulates s q.0 v.0 m = subst (λ (n : ℕ). Emulates s n v.0 m) c.number-processor.ensures e.enters in
    let due = emulate-due c.laws.ensures.rows c.laws.ensures.moves s m q v did in
    let packets = packets-then old.course d u e.packets x.packets in
    let uses : UsesCall old.course u = record {
      print_room = rw x.devs e.print_room;
      send_room = rw x.devs (omega (arith, e.send_room));
      cells = no-more _ _ (x.cells ∙ e.cells);
      received = no-more _ _ packets.received;
      discarded = no-more _ _ packets.discarded;
      begins = omega (arith, x.begins, e.room);
      skips = no-more _ _ (x.skips ∙ e.skips);
    } in
    record {
      learns = record {
        seat = ap (λ (y : Seat). y.notes) c.note.ensures.seat ∙ ap (λ (p : ProcId). old.seat.notes ++ sided token.number (Made (Emulate p v)) ∷ []) same;
        token_is = c.note.ensures.token ∙ ap (λ (p : ProcId). record token { notes = token.notes ++ sided old.seat.number (Made (Emulate p v)) ∷ [] }) same ∙ ap (λ (n : ℕ). record token { notes = token.notes ++ sided n (Made (Emulate (processor_of token) v)) ∷ [] }) k.seat;
      };
      same = record { number = refl; start = refl; disk = refl; board = ap (λ (y : Seat). y.board) c.note.ensures.seat; table = x.same; wires = refl; own = refl };
      handed = handed-same old.course u packets.hand;
      room = room-used _ _ old.course u uses (omega (arith, due, x.room));
    }

-- ---- the step is on a page with a move, or one that needs a move

-- nothing has changed before it
pub meet-requires-clause-meets : goal.meet-requires-clause-meets
meet-requires-clause-meets g c =
    subst (λ (x : Course). MeetsPage (state_of x) c.number-processor.result.0 c.args.vcpu.0 c.in-Waits.page.0) (sym c.in-Waits.ensures.same) (inl c.in-Waits.ensures.enters.reaches)

pub returns-in-Waits-clause-turns : goal.returns-in-Waits-clause-turns
returns-in-Waits-clause-turns g c =
    let old = c.args.self.now in
    let shared = shared_by c.args.resources.now in
    let new = guest_of c.meet.new.self in
    let here : TurnAnswers shared (guest_of (record old { course = c.serve.new.self })) (processor_of c.args.token.now) c.args.vcpu new c.meet.result =
    subst (λ (p : ProcId). TurnAnswers shared (guest_of (record old { course = c.serve.new.self })) p c.args.vcpu new c.meet.result) (ap (λ (n : ℕ). record { 0 = n }) c.number-processor.ensures) c.meet.ensures.turns in
    subst (λ (x : Course). TurnAnswers shared (guest_of (record old { course = x })) (processor_of c.args.token.now) c.args.vcpu new c.meet.result) c.in-Waits.ensures.same here

pub returns-in-Needs-clause-turns : goal.returns-in-Needs-clause-turns
returns-in-Needs-clause-turns g c =
    let old = c.args.self.now in
    let shared = shared_by c.args.resources.now in
    let new = guest_of c.begin_store.new.self in
    let mid = guest_of (record old { course = c.serve.new.self }) in
    let s = state_of old.course in
    let m = state_of c.serve.new.self in
    let q : ProcId = processor_of c.args.token.now in
    let v = c.args.vcpu in
    let r = c.in-Needs.page in
    let kind = c.in-Needs.kind in
    let same : c.number-processor.result ≡ q = ap (λ (n : ℕ). record { 0 = n }) c.number-processor.ensures in
    let needs : StaysNeeding s q.0 v.0 r.0 kind m = subst (λ (n : ℕ). StaysNeeding s n v.0 r.0 kind m) c.number-processor.ensures c.in-Needs.ensures.enters in
    let begins : BeginsFor mid q r kind new = subst (λ (p : ProcId). BeginsFor mid p r kind new) same c.begin_store.ensures.begins in
    let stores = subst (λ (x : Course). at_hand (state_of x) v.0 ≡ StoresTo r.0) c.in-Needs.ensures.same c.begin_store.ensures.stores in
    begun-store shared (guest_of old) new q v r kind c.requires.rest (needs-kind s r.0 kind needs.needs.needs) (inl (inl needs.reaches)) stores
    (subst (λ (x : Course). BeginsFor (guest_of (record old { course = x })) q r kind new) c.in-Needs.ensures.same begins)

pub returns-in-Lost-clause-turns : goal.returns-in-Lost-clause-turns
returns-in-Lost-clause-turns g c =
    let old = c.args.self.now in
    let shared = shared_by c.args.resources.now in
    let new = guest_of c.begin_lost.new.self in
    let mid = guest_of (record old { course = c.serve.new.self }) in
    let s = state_of old.course in
    let m = state_of c.serve.new.self in
    let q : ProcId = processor_of c.args.token.now in
    let v = c.args.vcpu in
    let r = c.in-Lost.page in
    let same : c.number-processor.result ≡ q = ap (λ (n : ℕ). record { 0 = n }) c.number-processor.ensures in
    let loses : StaysLosing s q.0 v.0 r.0 m = subst (λ (n : ℕ). StaysLosing s n v.0 r.0 m) c.number-processor.ensures c.in-Lost.ensures.enters in
    let begins : BeginsFor mid q r Collapse new = subst (λ (p : ProcId). BeginsFor mid p r Collapse new) same c.begin_lost.ensures.begins in
    begun-lost shared (guest_of old) new q v r c.requires.rest loses.loses
    (subst (λ (x : Course). BeginsFor (guest_of (record old { course = x })) q r Collapse new) c.in-Lost.ensures.same begins)

pub returns-in-Waits-clause-leaves : goal.returns-in-Waits-clause-leaves
returns-in-Waits-clause-leaves g c =
    let old = c.args.self.now in
    let token = c.args.token.now in
    let new = guest_of c.meet.new.self in
    let v = c.args.vcpu in
    let none : told_of_turn (processor_of token) v (Ok c.meet.result) ≡ [] = subst (λ (p : ProcId). told_of_turn p v (Ok c.meet.result) ≡ []) (ap (λ (n : ℕ). record { 0 = n }) c.number-processor.ensures) c.meet.ensures.told in
    let quiet : Quietly (guest_of old) new = subst (λ (x : Course). Quietly (guest_of (record old { course = x })) new) c.in-Waits.ensures.same c.meet.ensures.quiet in
    subst (λ (told : List Note). Leaves (guest_of old) token told new token) (sym none) (quiet-leaves (guest_of old) new token quiet)
