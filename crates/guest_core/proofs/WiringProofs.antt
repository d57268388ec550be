-- A guest's ends of its wires stay in step with what it sends and takes.
use Rattle.std.proofs.Common.{◌≡◌, ◌≢◌, ℕ, zero, suc, ◌<◌, ◌==◌, if◌then◌else◌, Bool, true, false, List, [], ◌∷◌, ◌++◌, All, Option, None, Some, IsSome, IfSome, option_map, length, map, filter, flat_map, get_or, unwrap_or, cond, refl, sym, ap, ◌∙◌, subst, arith}
use Rattle.std.proofs.lemmas.List.{append-nil, map-append, length-map}
use Rattle.std.proofs.lemmas.List.Elements.{All-nil, All-cons, All-append, filter-append}
use Rattle.std.proofs.lemmas.Bool.{eqb-true, eqb-false}
use Rattle.base_words.specs.declared.events.Event.{Event}
use Rattle.base_words.specs.declared.events.Event.TheVariants.{PacketIn, Discard}
use Rattle.private_machine.specs.Operation.{Packet}
use Rattle.private_machine.specs.Packet.{came_into}
use Rattle.private_machine.specs.PrivateMachine.{PrivateMachine}
use Rattle.isolation_law.specs.Content.{content}
use Rattle.isolation_law.specs.GuestState.{GuestState}
use Rattle.isolation_law.specs.LoadRows.{Loads, Unloads}
use Rattle.isolation_law.specs.PacketRows.{ComesToHand, EndsDelivery, Receives, Discards}
use Rattle.isolation_law.specs.Start.{Boot, start as started}
use Rattle.isolation_law.specs.WireHistory.{packets_to, sent_to, AreAccepted, taken_by, taken, is_from, taken_from, Tells, TakesNothing}
use Rattle.isolation_law.specs.Surroundings.{Surroundings}
use Rattle.wire_queue.specs.QueueIds.{QueueId}
use Rattle.wire_queue.specs.Between.{Made, guest_count, entry, line_between, wire_between}
use Rattle.wire_queue.specs.Ends.{Wire, Sending, Taking}
use Rattle.wire_queue.specs.ListSteps.{SameEnds, SendsTo, TakesFrom}
use Rattle.wire_queue.specs.Lines.{Fits}
use Rattle.wire_queue.specs.Packets.{packet_of}
use Rattle.wire_queue.specs.PassLists.{IsListOf, IsUnused, sending_wire, taking_wire, sending_to, taking_from}
use Rattle.wire_queue.specs.Steps.{SentBy}
use Rattle.wire_queue.specs.declared.lists.PassList.{PassList}
use Rattle.wire_queue.specs.declared.packet.WirePacket.{WirePacket}
use Rattle.wire_queue.specs.declared.wires.Sent.{Sent}
use Rattle.wire_queue.specs.declared.wires.Sent.TheVariants as answers
use Rattle.std.specs.Global.{Vec}
use Rattle.guest_course.specs.CourseView.{got_of, hand_of, state_of}
use Rattle.guest_course.specs.Packets.{SamePackets}
use Rattle.guest_course.specs.declared.course.Course.{Course}
use Rattle.guest_course.specs.declared.got.GotPacket.{GotPacket}
use Rattle.guest_course.specs.declared.posting.Outgoing.{Outgoing}
use Rattle.guest_course.specs.Posting.{AreTermsOf, IsOther, put_on, Goes}
use Rattle.guest_core.specs.Wiring.{shown, taken_at, IsWired, Posted, SentOn, TakesNext}
use Rattle.guest_core.specs.Laws.{SendLaws, TakeLaws}

-- ---- whose an end is

some-sending : (end : Option Sending) → IsSome (sending_wire end) → IsSome end
some-sending None some = cc
some-sending (Some end) some = refl

some-of : {A : Type 0} (a b : A) → Some a ≡ Some b → a ≡ b
some-of a b is = ap (λ x. unwrap_or x a) is

none-some : {A : Type 0} (a : A) → None ≡ Some a → ⊥
none-some a is = cc

some-taking : (end : Option Taking) → IsSome (taking_wire end) → IsSome end
some-taking None some = cc
some-taking (Some end) some = refl

-- an end stands in the list
within : {A : Type 0} (ends : List (Option A)) (n : ℕ) (end : A) → get_or ends n None ≡ Some end → n < length ends
within [] n end is = absurd (none-some end is)
within (x ∷ ends) zero end is = omega arith
within (x ∷ ends) (suc n) end is = omega (arith, within ends n end is)

pub other-of : (wires : Made) (passes : PassList) (s : GuestState) (to : ℕ) (end : Sending) → IsWired wires passes s.around → sending_to passes to ≡ Some end → IsOther s to
other-of wires passes s to end w is =
    let lt : to < length s.around.homes = omega (arith, within passes.sends.items to end is, w.list.sends_all, w.guests) in
    (lt, λ at. none-some end.wire (sym (w.joins.itself passes.guest.0) ∙ ap (wire_between wires passes.guest.0) (w.number ∙ sym at) ∙ sym (w.list.sends to) ∙ ap sending_wire is))

-- the wire from a guest is its own
sender-of : (wires : Made) (from to : ℕ) (wire : Wire) → Some wire ≡ wire_between wires from to → wire.line.from ≡ from
sender-of wires from to wire is = by (entry wires.queues from to) is
  where
    by : (queue : Option QueueId) → Some wire ≡ option_map (λ (q : QueueId). record { queue = q; line = line_between wires from to }) queue → wire.line.from ≡ from
    by None e = absurd (none-some wire (sym e))
    by (Some q) e = ap (λ (x : Option Wire). (unwrap_or x wire).line.from) e

-- ---- entries that tell of no packet

pub record AreQuiet (s : GuestState) (more : List Event) : Type 0 where
  pub none : flat_map (taken_by s.received s.discarded) more ≡ []
  pub tell : (t : GuestState) → All (Tells t) more

taken-quiet : TakeLaws → (s t : GuestState) (journal more : List Event) (from : ℕ) → TakesNothing s t → AreQuiet s more → taken_from journal s from ≡ taken_from (journal ++ more) t from
taken-quiet w s t journal more from same quiet = ap (filter (is_from from)) (sym (w.same s t journal more same quiet.none))

told-quiet : TakeLaws → (s t : GuestState) (journal more : List Event) → TakesNothing s t → AreQuiet s more → All (Tells s) journal → All (Tells t) (journal ++ more)
told-quiet w s t journal more same quiet tells = All-append (Tells t) journal more (w.tells_same s t journal same tells) (quiet.tell t)

-- nothing is sent
pub posted-same : TakeLaws → (s t : GuestState) (journal more : List Event) (passes : PassList) → Posted s journal passes → TakesNothing s t
    → t.devices.sent ≡ s.devices.sent → t.sent_from ≡ s.sent_from → t.around ≡ s.around → AreQuiet s more → Posted t (journal ++ more) passes
posted-same w s t journal more passes p same sent cells around quiet = record {
  tells = told-quiet w s t journal more same quiet p.tells;
  sent = λ to end is. subst (λ (l : List Packet). AreAccepted 0 l (map shown end.accepted)) (sym (λ i. packets_to (around i).guest to (sent i) (cells i))) (p.sent to end is);
  taken = λ from. p.taken from ∙ taken-quiet w s t journal more from same quiet;
}

-- ---- what goes out

accepts : SendLaws → (sent : List Packet) (packet : WirePacket) (answer : Sent) (before after : Sending) → SentBy before packet answer after → AreAccepted 0 sent (map shown before.accepted)
    → AreAccepted 0 (sent ++ hand_of packet ∷ []) (map shown after.accepted)
accepts w sent packet answers.Ok before after is old =
    subst (λ (e : Sending). AreAccepted 0 (sent ++ hand_of packet ∷ []) (map shown e.accepted)) (sym is)
    (subst (AreAccepted 0 (sent ++ hand_of packet ∷ [])) (sym (map-append shown before.accepted (packet_of packet ∷ []))) (w.accepted sent (map shown before.accepted) (hand_of packet) old))
accepts w sent packet (answers.Full back) before after is old =
    subst (λ (e : Sending). AreAccepted 0 (sent ++ hand_of packet ∷ []) (map shown e.accepted)) (sym is.1)
    (w.full sent (map shown before.accepted) (hand_of packet) (omega (arith, is.2, length-map before.accepted shown)) old)

sent-out : SendLaws → (s t : GuestState) (passes new : PassList) (out : Option Outgoing) → ((to : ℕ) (end : Sending) → sending_to passes to ≡ Some end → AreAccepted 0 (sent_to s to) (map shown end.accepted))
    → ((to : ℕ) → IsOther s to → sent_to t to ≡ sent_to s to ++ put_on out to) → ((to : ℕ) (end : Sending) → sending_to passes to ≡ Some end → IsOther s to)
    → SentOn passes out new → (to : ℕ) (end : Sending) → sending_to new to ≡ Some end → AreAccepted 0 (sent_to t to) (map shown end.accepted)
sent-out w s t passes new None old sends others on to end is =
    let was = sym (on.sends to) ∙ is in
    subst (λ (l : List Packet). AreAccepted 0 l (map shown end.accepted)) (sym (sends to (others to end was) ∙ append-nil (sent_to s to))) (old to end was)
sent-out w s t passes new (Some out) old sends others on to end is = by (out.to.0 == to) refl
  where
    x : SendsTo passes out.to.0 out.packet on.0 new
    x = on.1

    by : (b : Bool) → (out.to.0 == to) ≡ b → AreAccepted 0 (sent_to t to) (map shown end.accepted)
    by true e =
        let at : out.to.0 ≡ to = eqb-true out.to.0 to e in
        let was : sending_to passes to ≡ Some x.before = subst (λ (n : ℕ). sending_to passes n ≡ Some x.before) at x.was in
        let same : x.after ≡ end = some-of x.after end (sym x.is ∙ ap (sending_to new) at ∙ is) in
        let list = sends to (others to x.before was) ∙ ap (λ (b : Bool). sent_to s to ++ (if b then hand_of out.packet ∷ [] else [])) e in
        subst (λ (l : List Packet). AreAccepted 0 l (map shown end.accepted)) (sym list)
        (subst (λ (y : Sending). AreAccepted 0 (sent_to s to ++ hand_of out.packet ∷ []) (map shown y.accepted)) same (accepts w (sent_to s to) out.packet on.0 x.before x.after x.sent (old to x.before was)))
    by false e =
        let was = sym (x.only.sends to (λ at. eqb-false out.to.0 to e (sym at))) ∙ is in
        let list = sends to (others to end was) ∙ ap (λ (b : Bool). sent_to s to ++ (if b then hand_of out.packet ∷ [] else [])) e ∙ append-nil (sent_to s to) in
        subst (λ (l : List Packet). AreAccepted 0 l (map shown end.accepted)) (sym list) (old to end was)

takes-same : (passes new : PassList) (out : Option Outgoing) (from : ℕ) → SentOn passes out new → taking_from new from ≡ taking_from passes from
takes-same passes new None from on = on.takes from
takes-same passes new (Some out) from on = on.1.only.takes from

-- what a guest's parts keep of packets, its state keeps
pub takes-none : (c d : Course) → SamePackets c d → TakesNothing (state_of c) (state_of d)
takes-none c d same = record {
  received = ap (λ (l : Vec GotPacket). map got_of l.items) same.received;
  discarded = ap (λ (l : Vec GotPacket). map got_of l.items) same.discarded;
  hand = ap (option_map hand_of) same.hand;
}

pub packets-then : (c d e : Course) → SamePackets c d → SamePackets d e → SamePackets c e
packets-then c d e x y = record { sent = y.sent ∙ x.sent; received = y.received ∙ x.received; discarded = y.discarded ∙ x.discarded; hand = y.hand ∙ x.hand }

-- to each other guest was sent just what goes on its wire, and nothing was taken
pub record Posts (s : GuestState) (out : Option Outgoing) (t : GuestState) : Type 0 where
  pub sends : (to : ℕ) → IsOther s to → sent_to t to ≡ sent_to s to ++ put_on out to
  pub received : t.received ≡ s.received
  pub discarded : t.discarded ≡ s.discarded
  pub hand : t.hand ≡ s.hand

-- so it is where nothing goes out and nothing was sent
pub posts-none : (s t : GuestState) → TakesNothing s t → t.devices.sent ≡ s.devices.sent → t.sent_from ≡ s.sent_from → t.around ≡ s.around → Posts s None t
posts-none s t same sent cells around = record {
  sends = λ to other. (λ i. packets_to (around i).guest to (sent i) (cells i)) ∙ sym (append-nil (sent_to s to));
  received = same.received;
  discarded = same.discarded;
  hand = same.hand;
}

pub posted-out : SendLaws → TakeLaws → (wires : Made) (s t : GuestState) (journal more : List Event) (passes new : PassList) (out : Option Outgoing) → IsWired wires passes s.around → Posted s journal passes
    → Posts s out t → AreQuiet s more → SentOn passes out new → Posted t (journal ++ more) new
posted-out v w wires s t journal more passes new out wired p posts quiet on =
    let same : TakesNothing s t = record { received = posts.received; discarded = posts.discarded; hand = posts.hand } in
    record {
      tells = told-quiet w s t journal more same quiet p.tells;
      sent = sent-out v s t passes new out p.sent posts.sends (λ to end is. other-of wires passes s to end wired is) on;
      taken = λ from. ap (λ (e : Option Taking). map shown (taken_at e)) (takes-same passes new out from on) ∙ p.taken from ∙ taken-quiet w s t journal more from same quiet;
    }

-- ---- what comes in

filtered : (from : ℕ) (p : Packet) (b : Bool) → (p.from == from) ≡ b → filter (is_from from) (p ∷ []) ≡ (if b then p ∷ [] else [])
filtered from p b e = ap (λ (x : Bool). cond x (p ∷ []) []) e

taken-in : TakeLaws → (wires : Made) (s t : GuestState) (journal : List Event) (passes new : PassList) (packet : WirePacket) → IsListOf wires passes
    → ((from : ℕ) → map shown (taken_at (taking_from passes from)) ≡ taken_from journal s from)
    → taken journal t ≡ taken journal s ++ hand_of packet ∷ [] → TakesNext passes packet new
    → (from : ℕ) → map shown (taken_at (taking_from new from)) ≡ taken_from journal t from
taken-in w wires s t journal passes new packet list old grows on from = by (on.from == from) refl
  where
    x : TakesFrom on.mid on.from (Some packet) new
    x = on.takes

    stood : taking_from passes on.from ≡ Some x.before
    stood = sym (on.vain.takes on.from) ∙ x.was

    sender : packet.from.0 ≡ on.from
    sender = x.taken.1.sender ∙ sender-of wires on.from passes.guest.0 x.before.wire (sym (ap taking_wire stood) ∙ list.takes on.from)

    all : taken_from journal t from ≡ taken_from journal s from ++ filter (is_from from) (hand_of packet ∷ [])
    all = ap (filter (is_from from)) grows ∙ filter-append (is_from from) (taken journal s) (hand_of packet ∷ [])

    by : (b : Bool) → (on.from == from) ≡ b → map shown (taken_at (taking_from new from)) ≡ taken_from journal t from
    by true e =
        let at : on.from ≡ from = eqb-true on.from from e in
        let was : taking_from passes from ≡ Some x.before = subst (λ (n : ℕ). taking_from passes n ≡ Some x.before) at stood in
        let now : taking_from new from ≡ Some x.after = subst (λ (n : ℕ). taking_from new n ≡ Some x.after) at x.is in
        ap (λ (y : Option Taking). map shown (taken_at y)) now
        ∙ ap (λ (y : Taking). map shown y.taken) x.taken.0
        ∙ map-append shown x.before.taken (packet_of packet ∷ [])
        ∙ ap (λ (l : List Packet). l ++ hand_of packet ∷ []) (sym (ap (λ (y : Option Taking). map shown (taken_at y)) was) ∙ old from)
        ∙ ap (λ (l : List Packet). taken_from journal s from ++ l) (sym (filtered from (hand_of packet) true (ap (λ (n : ℕ). n == from) sender ∙ e)))
        ∙ sym all
    by false e =
        ap (λ (y : Option Taking). map shown (taken_at y)) (x.only.takes from (λ at. eqb-false on.from from e (sym at)) ∙ on.vain.takes from)
        ∙ old from
        ∙ sym (append-nil (taken_from journal s from))
        ∙ ap (λ (l : List Packet). taken_from journal s from ++ l) (sym (filtered from (hand_of packet) false (ap (λ (n : ℕ). n == from) sender ∙ e)))
        ∙ sym all

pub posted-comes : TakeLaws → (wires : Made) (s t : GuestState) (journal : List Event) (passes new : PassList) (packet : WirePacket) → IsWired wires passes s.around → Posted s journal passes
    → ComesToHand s t → t.hand ≡ Some (hand_of packet) → TakesNext passes packet new → Posted t journal new
posted-comes w wires s t journal passes new packet wired p comes held on = record {
  tells = subst (λ (x : GuestState). All (Tells x) journal) (sym comes.after) p.tells;
  sent = λ to end is. subst (λ (x : GuestState). AreAccepted 0 (sent_to x to) (map shown end.accepted)) (sym comes.after) (p.sent to end (sym (on.takes.only.sends to ∙ on.vain.sends to) ∙ is));
  taken = taken-in w wires s t journal passes new packet wired.list p.taken (w.comes s t journal (hand_of packet) comes held) on;
}

-- ---- what is received

came-sent : (m : PrivateMachine) (from : ℕ) (bytes : List ℕ) (armed : Option ℕ) → (came_into m from bytes armed).devices.sent ≡ m.devices.sent
came-sent m from bytes None = refl
came-sent m from bytes (Some q) = refl

pub posted-received : TakeLaws → (s t : GuestState) (journal : List Event) (k : ℕ) (passes : PassList) → Posted s journal passes → Receives s k t → Posted t (journal ++ PacketIn k ∷ []) passes
posted-received w s t journal k passes p row =
    let around = ap (λ (x : GuestState). x.around) row.after in
    let sent : t.devices.sent ≡ s.devices.sent = ap (λ (x : GuestState). x.devices.sent) row.after ∙ came-sent (content s) row.packet.from row.packet.bytes s.devices.armed in
    let cells = ap (λ (x : GuestState). x.sent_from) row.after in
    record {
      tells = w.tells s t journal k p.tells row;
      sent = λ to end is. subst (λ (l : List Packet). AreAccepted 0 l (map shown end.accepted)) (sym (λ i. packets_to (around i).guest to (sent i) (cells i))) (p.sent to end is);
      taken = λ from. p.taken from ∙ ap (filter (is_from from)) (sym (w.received s t journal k p.tells row));
    }

pub posted-ended : TakeLaws → (s t : GuestState) (journal : List Event) (k : ℕ) (passes : PassList) → Posted s journal passes → EndsDelivery s k t → Posted t (journal ++ PacketIn k ∷ []) passes
posted-ended w s t journal k passes p row =
    let around = ap (λ (x : GuestState). x.around) row.after in
    let sent : t.devices.sent ≡ s.devices.sent = ap (λ (x : GuestState). x.devices.sent) row.after ∙ came-sent (content s) row.packet.from row.packet.bytes s.devices.armed in
    let cells = ap (λ (x : GuestState). x.sent_from) row.after in
    record {
      tells = w.tells_ended s t journal k p.tells row;
      sent = λ to end is. subst (λ (l : List Packet). AreAccepted 0 l (map shown end.accepted)) (sym (λ i. packets_to (around i).guest to (sent i) (cells i))) (p.sent to end is);
      taken = λ from. p.taken from ∙ ap (filter (is_from from)) (sym (w.ended s t journal k p.tells row));
    }

-- ---- what is thrown away

pub posted-discarded : TakeLaws → (s t : GuestState) (journal : List Event) (k : ℕ) (passes : PassList) → Posted s journal passes → Discards s k t → Posted t (journal ++ Discard k ∷ []) passes
posted-discarded w s t journal k passes p row = record {
  tells = w.tells_discarded s t journal k p.tells row;
  sent = λ to end is. subst (λ (x : GuestState). AreAccepted 0 (sent_to x to) (map shown end.accepted)) (sym row.after) (p.sent to end is);
  taken = λ from. p.taken from ∙ ap (filter (is_from from)) (sym (w.discarded s t journal k p.tells row));
}

-- ---- single entries

pub quiet-one : (s : GuestState) (e : Event) → taken_by s.received s.discarded e ≡ [] → ((t : GuestState) → Tells t e) → AreQuiet s (e ∷ [])
quiet-one s e none tells = record { none = ap (λ l. l ++ []) none; tell = λ t. All-cons (Tells t) e [] (tells t) (All-nil (Tells t)) }

-- a load, an unload and an end send and take nothing
pub quiet-load : (s t : GuestState) (p v : ℕ) → Loads s p v t → TakesNothing s t
quiet-load s t p v row = record { received = ap (λ (x : GuestState). x.received) row.after; discarded = ap (λ (x : GuestState). x.discarded) row.after; hand = ap (λ (x : GuestState). x.hand) row.after }

pub quiet-unload : (s t : GuestState) (p : ℕ) → Unloads s p t → TakesNothing s t
quiet-unload s t p row = record { received = ap (λ (x : GuestState). x.received) row.after; discarded = ap (λ (x : GuestState). x.discarded) row.after; hand = ap (λ (x : GuestState). x.hand) row.after }

-- what comes after it sends and takes nothing
pub posts-then : (s m t : GuestState) (out : Option Outgoing) → Posts s out m → TakesNothing m t → t.devices.sent ≡ m.devices.sent → t.sent_from ≡ m.sent_from → t.around ≡ m.around → Posts s out t
posts-then s m t out posts same sent cells around = record {
  sends = λ to other. (λ i. packets_to (around i).guest to (sent i) (cells i)) ∙ posts.sends to other;
  received = same.received ∙ posts.received;
  discarded = same.discarded ∙ posts.discarded;
  hand = same.hand ∙ posts.hand;
}

-- ---- what goes out fits on its wire

pub sent-guest : (passes new : PassList) (out : Option Outgoing) → SentOn passes out new → new.guest ≡ passes.guest
sent-guest passes new None on = on.guest
sent-guest passes new (Some out) on = on.1.only.guest

pub same-ends : (passes : PassList) → SentOn passes None passes
same-ends passes = record { guest = refl; asks = refl; sends = λ to. refl; takes = λ from. refl }

pub fits-out : (wires : Made) (passes : PassList) (s : GuestState) (out : Option Outgoing) → IfSome out (Goes s) → passes.guest.0 ≡ s.around.guest → AreTermsOf s.around wires.terms → IfSome out (λ o. Fits (line_between wires passes.guest.0 o.to.0) (packet_of o.packet))
fits-out wires passes s None goes same terms = tt
fits-out wires passes s (Some out) goes same terms = goes.fits (line_between wires passes.guest.0 out.to.0) same refl terms

pub there-out : (wires : Made) (passes : PassList) (s : GuestState) (out : Option Outgoing) → IsWired wires passes s.around → IfSome out (Goes s) → IfSome out (λ o. IsSome (sending_to passes o.to.0))
there-out wires passes s None w goes = tt
there-out wires passes s (Some out) w goes =
    let to = out.to.0 in
    let lt : to < guest_count wires = omega (arith, goes.other.0, w.guests) in
    let there = w.joins.others passes.guest.0 to w.is_guest lt (λ e. goes.other.1 (sym e ∙ w.number)) in
    some-sending (sending_to passes to) (subst IsSome (sym (w.list.sends to)) there)

-- ---- the start

unused-at : (end : Option Taking) → IfSome end (λ (x : Taking). x.taken ≡ []) → map shown (taken_at end) ≡ []
unused-at None unused = refl
unused-at (Some end) unused = ap (map shown) unused

pub posted-start : (b : Boot) (passes : PassList) → IsUnused passes → Posted (started b) [] passes
posted-start b passes unused = record {
  tells = All-nil (Tells (started b));
  sent = λ to end is. ap (map shown) (subst (λ (e : Option Sending). IfSome e (λ (x : Sending). x.accepted ≡ [])) is (unused.sends to));
  taken = λ from. unused-at (taking_from passes from) (unused.takes from);
}

-- ---- ends that were only asked

pub posted-asked : (s : GuestState) (journal : List Event) (passes new : PassList) → Posted s journal passes → SameEnds passes new → Posted s journal new
posted-asked s journal passes new p same = record {
  tells = p.tells;
  sent = λ to end is. p.sent to end (sym (same.sends to) ∙ is);
  taken = λ from. ap (λ (e : Option Taking). map shown (taken_at e)) (same.takes from) ∙ p.taken from;
}

pub there-from : (wires : Made) (passes : PassList) (w : Surroundings) (from : ℕ) → IsWired wires passes w → from < guest_count wires → from ≢ passes.guest.0 → IsSome (taking_from passes from)
there-from wires passes w from is lt other = some-taking (taking_from passes from) (subst IsSome (sym (is.list.takes from)) (is.joins.others from passes.guest.0 lt is.is_guest other))
