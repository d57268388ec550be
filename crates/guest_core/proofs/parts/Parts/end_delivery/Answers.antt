-- The packet is received, and the guest is kept: the frames that its page dropped are given back and counted no more.
use Rattle.std.specs.Vec.{vec_len}
use Rattle.std.proofs.Common.{rules, ◌≡◌, inr, ℕ, ◌<◌, [], ◌∷◌, ◌++◌, Option, Some, None, length, refl, sym, ap, ◌∙◌, subst, arith}
use Rattle.base_words.specs.declared.events.End.{End}
use Rattle.base_words.specs.declared.events.Event.{Event}
use Rattle.base_words.specs.declared.events.Event.TheVariants.{PacketIn}
use Rattle.private_machine.specs.PageMove.{dropped_taken, untied_taken}
use Rattle.isolation_law.specs.GuestState.{page}
use Rattle.isolation_law.specs.Surroundings.{Surroundings}
use Rattle.isolation_law.specs.UseChange.{UseChanged}
use Rattle.guest_course.specs.CourseView.{state_of}
use Rattle.guest_core.specs.Holding.{FitsAround}
use Rattle.guest_core.proofs.ActLemmas.{acts-ended}
use Rattle.guest_core.proofs.KeptProofs.{kept-none, ended-due}
use Rattle.guest_core.proofs.MoveLemmas.{counts-dropped, holds-dropped, kept-made}
use Rattle.guest_core.proofs.RoomLemmas.{UsesCall, no-more, room-used, two-entries}
use Rattle.guest_core.proofs.UntiedLemmas.{taken-within, to-count}
use Rattle.guest_core.proofs.WiringProofs.{posted-ended}
use Rattle.guest_core.proofs.parts.Parts.end_delivery.Goals as goal

pub give_back-requires-clause-fits : goal.give_back-requires-clause-fits
give_back-requires-clause-fits c =
    let old = c.args.self.now in
    let around = c.laws.ensures.rows.around (state_of old.course) (state_of c.end_delivery.new.self) (PacketIn (length old.course.received.items)) (inr c.in_ok-freed.ensures.ends) ∙ c.requires.kept.kept.around in
    subst (λ (x : Surroundings). FitsAround c.args.resources.now.table.now x) (sym around) c.requires.shared.table.fits

pub give_back-requires-clause-at_home : goal.give_back-requires-clause-at_home
give_back-requires-clause-at_home c =
    let old = c.args.self.now in
    let around = c.laws.ensures.rows.around (state_of old.course) (state_of c.end_delivery.new.self) (PacketIn (length old.course.received.items)) (inr c.in_ok-freed.ensures.ends) ∙ c.requires.kept.kept.around in
    subst (λ (x : Surroundings). x.home < length x.nodes) (sym around) c.requires.kept.at_home

pub give_back-requires-clause-freed : goal.give_back-requires-clause-freed
give_back-requires-clause-freed c =
    let old = c.args.self.now in
    let s = state_of old.course in
    let t = state_of c.end_delivery.new.self in
    let k = c.requires.kept in
    let place = length old.course.received.items in
    let w = c.laws.ensures.rows in
    let row = c.in_ok-freed.ensures.ends in
    let around = w.around s t (PacketIn place) (inr row) in
    record {
      copies = dropped_taken (page s row.q);
      numbers = c.in_ok-freed.ensures.freed row.q row.delivered.armed;
      held_too = holds-dropped s t _ old.holder.view (c.exchanges.ensures.ends_delivery s t place row) around k.frames.holding;
    }

-- the page that is armed
armed-same : (o : Option ℕ) (q r : ℕ) → o ≡ Some q → o ≡ Some r → q ≡ r
armed-same o q r is also = same-some q r (sym is ∙ also)
  where
    same-some : (q r : ℕ) → Some q ≡ Some r → q ≡ r
    same-some q r e = cc

pub untied_by_taking-untied-requires : goal.untied_by_taking-untied-requires
untied_by_taking-untied-requires c = (c.requires.kept.sound.going c.requires.armed.not_ended).coherent.consistent.armed_page c.args.page.0 c.requires.page

pub count_untied-requires : goal.count_untied-requires
count_untied-requires c =
    let old = c.args.self.now in
    let s = state_of old.course in
    let t = state_of c.end_delivery.new.self in
    let k = c.requires.kept in
    let place = length old.course.received.items in
    let w = c.laws.ensures.rows in
    let row = c.in_ok-freed.ensures.ends in
    let around = w.around s t (PacketIn place) (inr row) in
    let lt = (k.sound.going c.requires.armed.not_ended).coherent.consistent.armed_page c.args.page.0 c.requires.page in
    let same : row.q ≡ c.args.page.0 = armed-same s.devices.armed row.q c.args.page.0 row.delivered.armed c.requires.page in
    let used : UseChanged s t [] (untied_taken (page s c.args.page.0)) = subst (λ (q : ℕ). UseChanged s t [] (untied_taken (page s q))) same (c.uses_change.ensures.ends_delivery s t place row) in
    to-count s t c.untied_by_taking-untied.result (untied_taken (page s c.args.page.0)) old.uses around c.untied_by_taking-untied.ensures (taken-within s c.args.page.0 old.holder.view lt k.frames.holding)
    (counts-dropped s t _ old.uses used around (w.processors s t (PacketIn place) (inr row)) (λ r. w.loaded s t (PacketIn place) r (inr row)) k.used)

pub returns-clause-kept : goal.returns-clause-kept
returns-clause-kept c =
    let old = c.args.self.now in
    let s = state_of old.course in
    let t = state_of c.end_delivery.new.self in
    let k = c.requires.kept in
    let place = length old.course.received.items in
    let w = c.laws.ensures.rows in
    let row = c.in_ok-freed.ensures.ends in
    let e : Event = PacketIn place in
    let long : vec_len old.course.received ≡ place = search rules in
    kept-made old e c.end_delivery.new.self c.give_back.new.holder c.count_untied.new.uses c.push.new.self k (record {
      sound = c.in_ok-freed.ensures.sound;
      kept = kept-none w c.laws.ensures.runs old.start s t old.journal.entries old.seat.notes e k.kept (inr row) refl;
      goes_on = λ on. c.in_ok-freed.ensures.goes_on;
      frames = record { holding = c.give_back.ensures.holding; given_back = λ end is. absurd (not-ended end (sym c.in_ok-freed.ensures.goes_on.not_ended ∙ is)) };
      used = c.count_untied.ensures;
      owed = omega (arith, ended-due w c.laws.ensures.moves s t place row, k.owed, two-entries _ _ _ c.requires.room, c.push.ensures.room);
      posted = posted-ended c.laws.ensures.takes s t old.journal.entries place old.wiring.passes k.posted row;
      entries = c.push.ensures.entries ∙ ap (λ n. old.journal.entries ++ PacketIn n ∷ []) (c.len-place.ensures ∙ long);
    })
  where
    not-ended : (end : End) → None ≡ Some end → ⊥
    not-ended end is = cc

pub returns-clause-leaves : goal.returns-clause-leaves
returns-clause-leaves c =
    let old = c.args.self.now in
    let s = state_of old.course in
    let d = c.end_delivery.new.self in
    let t = state_of d in
    let e = c.in_ok-freed.ensures in
    let place = length old.course.received.items in
    let uses : UsesCall old.course d = record {
      print_room = omega (arith, e.print_room);
      send_room = omega (arith, e.send_room);
      cells = no-more _ _ e.cells;
      received = e.place_room;
      discarded = no-more _ _ e.discarded;
      begins = omega (arith, e.room);
      skips = no-more _ _ e.skips;
    } in
    record {
      notes = refl;
      passes = refl;
      acts = acts-ended s t place e.ends;
      same = record { number = refl; start = refl; disk = refl; board = refl; table = c.give_back.ensures.same; wires = refl; own = refl };
      room = room-used _ _ old.course d uses (omega (arith, ended-due c.laws.ensures.rows c.laws.ensures.moves s t place e.ends, c.push.ensures.room));
    }
