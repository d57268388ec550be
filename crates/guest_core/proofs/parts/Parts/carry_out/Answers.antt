-- The step is its row, and the guest is kept with what it sent on its wire.
use Rattle.std.proofs.Common.{◌≡◌, inl, ℕ, false, ◌+◌, ◌<◌, ◌≤◌, ◌++◌, [], ◌∷◌, List, Option, option_map, length, map, refl, sym, ap, ◌∙◌, subst, arith}
use Rattle.std.specs.Global.{Vec}
use Rattle.base_words.specs.declared.events.Event.{Event}
use Rattle.base_words.specs.declared.events.Event.TheVariants.{Emulate}
use Rattle.base_words.specs.declared.ids.ProcId.{ProcId}
use Rattle.shootdown.specs.declared.notes.Note.TheVariants.{Made}
use Rattle.shootdown.specs.Notes.{Seat, Token, sided}
use Rattle.isolation_law.specs.CellUse.{held}
use Rattle.isolation_law.specs.GuestState.{page}
use Rattle.isolation_law.specs.StepRows.{Emulates, IsEmulated}
use Rattle.isolation_law.specs.Surroundings.{Surroundings}
use Rattle.isolation_law.specs.WireHistory.{sent_to}
use Rattle.private_machine.specs.Operation.{Packet}
use Rattle.wire_queue.specs.Between.{Made as Wires}
use Rattle.wire_queue.specs.PassLists.{IsListOf}
use Rattle.guest_devs.specs.declared.act.DevAct.{DevAct}
use Rattle.guest_course.specs.CourseView.{got_of, hand_of, state_of}
use Rattle.guest_course.specs.declared.got.GotPacket.{GotPacket}
use Rattle.guest_course.specs.declared.course.Course.{Course}
use Rattle.guest_course.specs.declared.posting.Outgoing.{Outgoing}
use Rattle.guest_course.specs.LeavingCalls.{UsesCell}
use Rattle.guest_course.specs.Packets.{TakesNothing}
use Rattle.guest_course.specs.Posting.{AreTermsOf, GoesOut, posted}
use Rattle.guest_core.specs.GuestCalls.{processor_of}
use Rattle.guest_core.specs.Wiring.{IsWired, Posted}
use Rattle.guest_core.proofs.EnterProofs.{handed-same, kept-step, of-these, one-row}
use Rattle.guest_core.proofs.FoundLemmas.{has-counts}
use Rattle.guest_core.proofs.HandProofs.{wired-again}
use Rattle.guest_core.proofs.HoldingLemmas.{frames-stay}
use Rattle.guest_core.proofs.KeptProofs.{emulate-due, emulate-end}
use Rattle.guest_core.proofs.LettingLemmas.{quiet-step}
use Rattle.guest_core.proofs.RoomLemmas.{UsesCall, no-more, room-used, two-entries}
use Rattle.guest_core.proofs.SpreadLemmas.{page-has}
use Rattle.guest_core.proofs.UsingProofs.{uses-row}
use Rattle.guest_core.proofs.WiringProofs.{Posts, fits-out, posted-out, sent-guest}
use Rattle.guest_core.proofs.parts.Parts.carry_out.Goals as goal

-- what goes out was told of the same guest
emulated : (a b d : Course) (p v : ℕ) → a ≡ b → IsEmulated (state_of b) p v → ((q : ℕ) → IsEmulated (state_of a) q v → Emulates (state_of a) q v (state_of d)) → Emulates (state_of b) p v (state_of d)
emulated a b d p v from traps row = subst (λ (x : Course). Emulates (state_of x) p v (state_of d)) from (row p (subst (λ (x : Course). IsEmulated (state_of x) p v) (sym from) traps))

posts : (a b d : Course) (v : ℕ) (act : DevAct) (out : Option Outgoing) → a ≡ b → ((to : ℕ) → sent_to (state_of d) to ≡ sent_to (state_of a) to ++ posted (state_of a) v act to) → TakesNothing a d → GoesOut (state_of b) v act out → Posts (state_of b) out (state_of d)
posts a b d v act out from sends takes goes =
    let same : TakesNothing b d = subst (λ (x : Course). TakesNothing x d) from takes in
    record {
      sends = λ to other. subst (λ (x : Course). sent_to (state_of d) to ≡ sent_to (state_of x) to ++ posted (state_of x) v act to) from (sends to) ∙ ap (λ (l : List Packet). sent_to (state_of b) to ++ l) (sym (goes.packets to other));
      received = ap (λ (l : Vec GotPacket). map got_of l.items) same.received;
      discarded = ap (λ (l : Vec GotPacket). map got_of l.items) same.discarded;
      hand = ap (option_map hand_of) same.hand;
    }

uses : (a b d : Course) → a ≡ b → d.devs.print_room ≡ a.devs.print_room → a.devs.send_room ≤ d.devs.send_room + 1 → UsesCell a.sent_from d.sent_from → TakesNothing a d → d.pmap.room ≡ a.pmap.room → d.skips ≡ a.skips → UsesCall b d
uses a b d from print send cells takes room skips = subst (λ (x : Course). UsesCall x d) from (record {
  print_room = omega (arith, print);
  send_room = send;
  cells = cells;
  received = no-more a.received d.received takes.received;
  discarded = no-more a.discarded d.discarded takes.discarded;
  begins = omega (arith, room);
  skips = no-more a.skips d.skips skips;
})

-- a page lies in a frame of the machine
pub outgoing-requires-clause-within : goal.outgoing-requires-clause-within
outgoing-requires-clause-within g c = λ q lt.
    let s = state_of c.args.self.now.course in
    let master = (page s q).master in
    c.requires.kept.frames.holding.within master.frame (has-counts (held s) master (page-has s.pages s.spares q master lt (inl refl)))

pub post-requires-clause-fits : goal.post-requires-clause-fits
post-requires-clause-fits g c =
    let old = c.args.self.now in
    let s = state_of old.course in
    let k = c.requires.kept in
    let terms : AreTermsOf s.around c.args.resources.now.wires.now.terms =
    subst (λ (x : Surroundings). AreTermsOf x c.args.resources.now.wires.now.terms) (sym k.kept.around) (subst (λ (m : Wires). AreTermsOf old.start.around m.terms) c.requires.shared.wires k.wired.terms) in
    fits-out c.args.resources.now.wires.now old.wiring.passes s c.in_ok-out.out c.in_ok-out.ensures.out.goes (k.wired.number ∙ sym (ap (λ (x : Surroundings). x.guest) k.kept.around)) terms

pub returns-clause-kept : goal.returns-clause-kept
returns-clause-kept g c =
    let old = c.args.self.now in
    let d = c.carry_out.new.self in
    let s = state_of old.course in
    let t = state_of d in
    let k = c.requires.kept in
    let q = processor_of c.args.token.now in
    let v = c.args.vcpu in
    let e = c.in_ok-carry_out.ensures in
    let w = c.laws.ensures.rows in
    let row = emulated c.outgoing.new.self old.course d c.args.token.now.number c.args.vcpu.0 c.in_ok-out.ensures.same c.requires.left.traps c.in_ok-carry_out.ensures.emulates in
    let same : c.number-processor.result ≡ q = ap (λ (n : ℕ). record { 0 = n }) c.number-processor.ensures in
    let there : q.0 < length s.processors = subst (λ (n : ℕ). q.0 < n) (sym k.kept.processors) c.requires.may.notes.is_processor in
    let kept = kept-step w c.laws.ensures.runs old.start s t old.journal.entries old.seat.notes q v k.kept there (inl row) in
    let journal = c.push.ensures.entries ∙ ap (λ (p : ProcId). old.journal.entries ++ Emulate p v ∷ []) same in
    let room = two-entries _ _ _ c.requires.room in
    let around = w.around s t (Emulate q v) (inl row) in
    let ex = c.exchanges.ensures.emulates s t q.0 v.0 row in
    let here : IsWired old.wiring.wires.value old.wiring.passes s.around = subst (λ (x : Surroundings). IsWired old.wiring.wires.value old.wiring.passes x) (sym k.kept.around) k.wired in
    record {
      sound = e.sound;
      seat = ap (λ (x : Seat). x.number) c.note.ensures.seat ∙ k.seat;
      booted = k.booted;
      kept = of-these old.start t _ _ _ _ journal (ap (λ (x : Seat). x.notes) c.note.ensures.seat ∙ ap (λ (p : ProcId). old.seat.notes ++ sided q.0 (Made (Emulate p v)) ∷ []) same) kept;
      goes_on = λ is. e.goes_on;
      frames = frames-stay s t old.holder.view ex around (emulate-end s t q.0 v.0 row ∙ sym row.traps.goes_on.not_ended) k.frames;
      used = uses-row w s t (Emulate q v) old.uses (inl row) (c.uses_change.ensures.emulates s t q.0 v.0 row) (λ r. refl) k.used;
      at_home = k.at_home;
      owed = omega (arith, emulate-due w c.laws.ensures.moves s t q v row, room, c.push.ensures.room);
      few_guests = k.few_guests;
      wired = subst (λ (m : Wires). IsWired m c.post.new.self.passes old.start.around) (ap (λ x. x.value) (sym c.post.ensures.wires))
          (wired-again old.wiring.wires.value old.wiring.passes c.post.new.self.passes old.start.around k.wired (subst (λ (m : Wires). IsListOf m c.post.new.self.passes) (sym c.requires.shared.wires) c.post.ensures.list) (sent-guest old.wiring.passes c.post.new.self.passes c.in_ok-out.out c.post.ensures.sent));
      posted = subst (λ (j : List Event). Posted t j c.post.new.self.passes) (sym journal)
          (posted-out c.laws.ensures.sends c.laws.ensures.takes old.wiring.wires.value s t old.journal.entries (Emulate q v ∷ []) old.wiring.passes c.post.new.self.passes c.in_ok-out.out here k.posted (posts c.outgoing.new.self old.course d c.args.vcpu.0 c.args.act c.in_ok-out.out c.in_ok-out.ensures.same c.in_ok-carry_out.ensures.sends c.in_ok-carry_out.ensures.takes c.in_ok-out.ensures.out) (quiet-step s q v false []) c.post.ensures.sent);
    }

pub returns-clause-carries_out : goal.returns-clause-carries_out
returns-clause-carries_out g c =
    let old = c.args.self.now in
    let s = state_of old.course in
    let d = c.carry_out.new.self in
    let t = state_of d in
    let q = processor_of c.args.token.now in
    let v = c.args.vcpu in
    let row = emulated c.outgoing.new.self old.course d c.args.token.now.number c.args.vcpu.0 c.in_ok-out.ensures.same c.requires.left.traps c.in_ok-carry_out.ensures.emulates in
    let same : c.number-processor.result ≡ q = ap (λ (n : ℕ). record { 0 = n }) c.number-processor.ensures in
    record {
      row = inl row;
      makes = record { journal = c.push.ensures.entries ∙ ap (λ (p : ProcId). old.journal.entries ++ Emulate p v ∷ []) same; run = one-row s t (Emulate q v) (inl row) };
      goes_on = c.in_ok-carry_out.ensures.goes_on;
      view = refl;
      sends = record { out = c.in_ok-out.out; whole = c.in_ok-out.ensures.out.whole; sends = (posts c.outgoing.new.self old.course d c.args.vcpu.0 c.args.act c.in_ok-out.out c.in_ok-out.ensures.same c.in_ok-carry_out.ensures.sends c.in_ok-carry_out.ensures.takes c.in_ok-out.ensures.out).sends; sent = c.post.ensures.sent };
    }

pub returns-clause-made : goal.returns-clause-made
returns-clause-made g c =
    let old = c.args.self.now in
    let token : Token = c.args.token.now in
    let d = c.carry_out.new.self in
    let s = state_of old.course in
    let t = state_of d in
    let k = c.requires.kept in
    let q = processor_of token in
    let v = c.args.vcpu in
    let e = c.in_ok-carry_out.ensures in
    let same : c.number-processor.result ≡ q = ap (λ (n : ℕ). record { 0 = n }) c.number-processor.ensures in
    let row = emulated c.outgoing.new.self old.course d c.args.token.now.number c.args.vcpu.0 c.in_ok-out.ensures.same c.requires.left.traps c.in_ok-carry_out.ensures.emulates in
    let used = uses c.outgoing.new.self old.course d c.in_ok-out.ensures.same e.print_room e.send_room e.cell_room e.takes e.room e.skips in
    record {
      learns = record {
        seat = ap (λ (x : Seat). x.notes) c.note.ensures.seat ∙ ap (λ (p : ProcId). old.seat.notes ++ sided token.number (Made (Emulate p v)) ∷ []) same;
        token_is = c.note.ensures.token ∙ ap (λ (p : ProcId). record token { notes = token.notes ++ sided old.seat.number (Made (Emulate p v)) ∷ [] }) same ∙ ap (λ (n : ℕ). record token { notes = token.notes ++ sided n (Made (Emulate (processor_of token) v)) ∷ [] }) k.seat;
      };
      same = record { number = refl; start = refl; disk = refl; board = ap (λ (x : Seat). x.board) c.note.ensures.seat; table = refl; wires = ap (λ x. x.value) c.post.ensures.wires; own = sent-guest old.wiring.passes c.post.new.self.passes c.in_ok-out.out c.post.ensures.sent };
      handed = handed-same old.course d (subst (λ (x : Course). d.hand ≡ x.hand) c.in_ok-out.ensures.same e.takes.hand);
      room = room-used _ _ old.course d used (omega (arith, emulate-due c.laws.ensures.rows c.laws.ensures.moves s t q v row, c.push.ensures.room));
    }
