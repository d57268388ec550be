-- What is sent on wires and taken from them, entry by entry.
use Rattle.std.proofs.Common.{◌≡◌, ℕ, suc, ◌+◌, ◌≤◌, ⊎_elim, inl, inr, List, [], ◌∷◌, ◌++◌, length, flat_map, All, None, Some, refl, sym, ap, ◌∙◌, subst, arith}
use Rattle.std.proofs.lemmas.List.{append-nil, append_assoc, length_push, get_or_append_left, get_or_push}
use Rattle.std.proofs.lemmas.List.Elements.{All-nil, All-cons, All-head, All-tail, All-append}
use Rattle.std.proofs.lemmas.Grind.{flat_map-append}
use Rattle.base_words.specs.declared.events.Event.{Event}
use Rattle.base_words.specs.declared.events.Event.TheVariants.{Direct, Refill, Emulate, Begin, Ack, Finish, Load, Unload, PacketIn, Discard, Skip, CellFails, End as Ending}
use Rattle.base_words.specs.declared.input.SentPacket.{SentPacket}
use Rattle.private_machine.specs.Operation.{Packet}
use Rattle.isolation_law.specs.GuestState.{GuestState}
use Rattle.isolation_law.specs.OwnHistory.{no_packet}
use Rattle.isolation_law.specs.PacketRows.{ComesToHand, Receives, EndsDelivery, Discards}
use Rattle.isolation_law.specs.WireHistory.{packet_to, packets_to, AreAccepted, taken_by, in_hand, taken, Tells, TakesNothing}

-- ---- sending

pub packets-more : (from to : ℕ) (sent : List SentPacket) (cells : List ℕ) (p : SentPacket) (cell : ℕ) → length cells ≡ length sent
    → packets_to from to (sent ++ p ∷ []) (cells ++ cell ∷ []) ≡ packets_to from to sent cells ++ packet_to from to p cell
packets-more from to [] [] p cell long = append-nil (packet_to from to p cell)
packets-more from to [] (c ∷ cells) p cell long = absurd (omega (arith, long))
packets-more from to (q ∷ sent) [] p cell long = absurd (omega (arith, long))
packets-more from to (q ∷ sent) (c ∷ cells) p cell long =
    ap (λ l. packet_to from to q c ++ l) (packets-more from to sent cells p cell (omega (arith, long)))
    ∙ sym (append_assoc (packet_to from to q c) (packets_to from to sent cells) (packet_to from to p cell))

pub accepted-more : (before : ℕ) (sent accepted : List Packet) (p : Packet) → AreAccepted before sent accepted → AreAccepted before (sent ++ p ∷ []) (accepted ++ p ∷ [])
accepted-more before [] accepted p none = inl ([], ap (λ l. l ++ p ∷ []) none, refl)
accepted-more before (q ∷ sent) accepted p is = ⊎_elim
    (λ x. inl (x.0 ++ p ∷ [], ap (λ l. l ++ p ∷ []) x.1, accepted-more (suc before) sent x.0 p x.2))
    (λ x. inr (x.0, accepted-more before sent accepted p x.1))
    is

pub accepted-full : (before : ℕ) (sent accepted : List Packet) (p : Packet) → 64 ≤ before + length accepted → AreAccepted before sent accepted → AreAccepted before (sent ++ p ∷ []) accepted
accepted-full before [] accepted p many none = inr (omega (arith, subst (λ (l : List Packet). 64 ≤ before + length l) none many), none)
accepted-full before (q ∷ sent) accepted p many is = ⊎_elim
    (λ x. inl (x.0, x.1, accepted-full (suc before) sent x.0 p (omega (arith, subst (λ (l : List Packet). 64 ≤ before + length l) x.1 many)) x.2))
    (λ x. inr (x.0, accepted-full before sent accepted p many x.1))
    is

-- ---- taking

-- an entry tells the same once more packets were received
told-longer : (s : GuestState) (p : Packet) (e : Event) → Tells s e → taken_by (s.received ++ p ∷ []) s.discarded e ≡ taken_by s.received s.discarded e
told-longer s p (Direct q v) there = refl
told-longer s p (Refill q) there = refl
told-longer s p (Emulate q v) there = refl
told-longer s p (Begin page kind node by) there = refl
told-longer s p (Ack q page) there = refl
told-longer s p (Finish page) there = refl
told-longer s p (Load q v) there = refl
told-longer s p (Unload q) there = refl
told-longer s p (PacketIn k) there = ap (λ x. x ∷ []) (get_or_append_left s.received (p ∷ []) no_packet k there)
told-longer s p (Discard k) there = refl
told-longer s p (Skip k) there = refl
told-longer s p (CellFails cell) there = refl
told-longer s p (Ending end) there = refl

all-longer : (s : GuestState) (p : Packet) (journal : List Event) → All (Tells s) journal → flat_map (taken_by (s.received ++ p ∷ []) s.discarded) journal ≡ flat_map (taken_by s.received s.discarded) journal
all-longer s p [] there = refl
all-longer s p (e ∷ journal) there =
    ap (λ l. l ++ flat_map (taken_by (s.received ++ p ∷ []) s.discarded) journal) (told-longer s p e (All-head (Tells s) e journal there))
    ∙ ap (λ l. taken_by s.received s.discarded e ++ l) (all-longer s p journal (All-tail (Tells s) e journal there))

-- an entry still tells of a packet that is there
tells-more : (s t : GuestState) (e : Event) → length s.received ≤ length t.received → length s.discarded ≤ length t.discarded → Tells s e → Tells t e
tells-more s t (Direct q v) more others there = there
tells-more s t (Refill q) more others there = there
tells-more s t (Emulate q v) more others there = there
tells-more s t (Begin page kind node by) more others there = there
tells-more s t (Ack q page) more others there = there
tells-more s t (Finish page) more others there = there
tells-more s t (Load q v) more others there = there
tells-more s t (Unload q) more others there = there
tells-more s t (PacketIn k) more others there = omega (arith, more, there)
tells-more s t (Discard k) more others there = omega (arith, others, there)
tells-more s t (Skip k) more others there = there
tells-more s t (CellFails cell) more others there = there
tells-more s t (Ending end) more others there = there

tell-more : (s t : GuestState) (journal : List Event) → length s.received ≤ length t.received → length s.discarded ≤ length t.discarded → All (Tells s) journal → All (Tells t) journal
tell-more s t journal more others there k e within = tells-more s t _ more others (there k e within)

pub taken-same : (s t : GuestState) (journal more : List Event) → TakesNothing s t → flat_map (taken_by s.received s.discarded) more ≡ [] → taken (journal ++ more) t ≡ taken journal s
taken-same s t journal more same none =
    (λ i. flat_map (taken_by (same.received i) (same.discarded i)) (journal ++ more) ++ in_hand (same.hand i))
    ∙ ap (λ l. l ++ in_hand s.hand)
    (flat_map-append (taken_by s.received s.discarded) journal more
    ∙ ap (λ l. flat_map (taken_by s.received s.discarded) journal ++ l) none
    ∙ append-nil (flat_map (taken_by s.received s.discarded) journal))

pub taken-comes : (s t : GuestState) (journal : List Event) (packet : Packet) → ComesToHand s t → t.hand ≡ Some packet → taken journal t ≡ taken journal s ++ packet ∷ []
taken-comes s t journal packet comes held =
    let told = flat_map (taken_by s.received s.discarded) journal in
    ap (λ (x : GuestState). flat_map (taken_by x.received x.discarded) journal ++ in_hand t.hand) comes.after
    ∙ ap (λ h. told ++ in_hand h) held
    ∙ ap (λ l. l ++ packet ∷ []) (sym (append-nil told) ∙ ap (λ h. told ++ in_hand h) (sym comes.free))

-- the packet in hand is received, by an entry that tells of it
taken-one : (s t : GuestState) (journal : List Event) (k : ℕ) (p : Packet) → All (Tells s) journal → t.received ≡ s.received ++ p ∷ [] → t.discarded ≡ s.discarded → t.hand ≡ None → s.hand ≡ Some p → k ≡ length s.received
    → taken (journal ++ PacketIn k ∷ []) t ≡ taken journal s
taken-one s t journal k p there more same gone in_hand_was next =
    let told = flat_map (taken_by s.received s.discarded) journal in
    let now = taken_by (s.received ++ p ∷ []) s.discarded in
    (λ i. flat_map (taken_by (more i) (same i)) (journal ++ PacketIn k ∷ []) ++ in_hand (gone i))
    ∙ append-nil (flat_map now (journal ++ PacketIn k ∷ []))
    ∙ flat_map-append now journal (PacketIn k ∷ [])
    ∙ ap (λ l. l ++ (now (PacketIn k) ++ [])) (all-longer s p journal there)
    ∙ ap (λ l. told ++ l) (append-nil (now (PacketIn k)))
    ∙ ap (λ x. told ++ (x ∷ [])) (get_or_push s.received p no_packet k (sym next))
    ∙ ap (λ h. told ++ in_hand h) (sym in_hand_was)

tells-one : (s t : GuestState) (journal : List Event) (k : ℕ) (p : Packet) → All (Tells s) journal → t.received ≡ s.received ++ p ∷ [] → t.discarded ≡ s.discarded → k ≡ length s.received → All (Tells t) (journal ++ PacketIn k ∷ [])
tells-one s t journal k p there more same next =
    let now : length t.received ≡ length s.received + 1 = ap (λ (l : List Packet). length l) more ∙ length_push s.received p in
    let others : length t.discarded ≡ length s.discarded = ap (λ (l : List Packet). length l) same in
    All-append (Tells t) journal (PacketIn k ∷ []) (tell-more s t journal (omega (arith, now)) (omega (arith, others)) there)
    (All-cons (Tells t) (PacketIn k) [] (omega (arith, now, next)) (All-nil (Tells t)))

pub taken-received : (s t : GuestState) (journal : List Event) (k : ℕ) → All (Tells s) journal → Receives s k t → taken (journal ++ PacketIn k ∷ []) t ≡ taken journal s
taken-received s t journal k there row =
    taken-one s t journal k row.packet there (ap (λ (x : GuestState). x.received) row.after) (ap (λ (x : GuestState). x.discarded) row.after) (ap (λ (x : GuestState). x.hand) row.after) row.delivered.in_hand row.delivered.next

pub tells-received : (s t : GuestState) (journal : List Event) (k : ℕ) → All (Tells s) journal → Receives s k t → All (Tells t) (journal ++ PacketIn k ∷ [])
tells-received s t journal k there row = tells-one s t journal k row.packet there (ap (λ (x : GuestState). x.received) row.after) (ap (λ (x : GuestState). x.discarded) row.after) row.delivered.next

pub taken-ended : (s t : GuestState) (journal : List Event) (k : ℕ) → All (Tells s) journal → EndsDelivery s k t → taken (journal ++ PacketIn k ∷ []) t ≡ taken journal s
taken-ended s t journal k there row =
    taken-one s t journal k row.packet there (ap (λ (x : GuestState). x.received) row.after) (ap (λ (x : GuestState). x.discarded) row.after) (ap (λ (x : GuestState). x.hand) row.after) row.delivered.in_hand row.delivered.next

pub tells-ended : (s t : GuestState) (journal : List Event) (k : ℕ) → All (Tells s) journal → EndsDelivery s k t → All (Tells t) (journal ++ PacketIn k ∷ [])
tells-ended s t journal k there row = tells-one s t journal k row.packet there (ap (λ (x : GuestState). x.received) row.after) (ap (λ (x : GuestState). x.discarded) row.after) row.delivered.next

-- it is thrown away: an entry tells the same once more packets were
told-thrown : (s : GuestState) (p : Packet) (e : Event) → Tells s e → taken_by s.received (s.discarded ++ p ∷ []) e ≡ taken_by s.received s.discarded e
told-thrown s p (Direct q v) there = refl
told-thrown s p (Refill q) there = refl
told-thrown s p (Emulate q v) there = refl
told-thrown s p (Begin page kind node by) there = refl
told-thrown s p (Ack q page) there = refl
told-thrown s p (Finish page) there = refl
told-thrown s p (Load q v) there = refl
told-thrown s p (Unload q) there = refl
told-thrown s p (PacketIn k) there = refl
told-thrown s p (Discard k) there = ap (λ x. x ∷ []) (get_or_append_left s.discarded (p ∷ []) no_packet k there)
told-thrown s p (Skip k) there = refl
told-thrown s p (CellFails cell) there = refl
told-thrown s p (Ending end) there = refl

all-thrown : (s : GuestState) (p : Packet) (journal : List Event) → All (Tells s) journal → flat_map (taken_by s.received (s.discarded ++ p ∷ [])) journal ≡ flat_map (taken_by s.received s.discarded) journal
all-thrown s p [] there = refl
all-thrown s p (e ∷ journal) there =
    ap (λ l. l ++ flat_map (taken_by s.received (s.discarded ++ p ∷ [])) journal) (told-thrown s p e (All-head (Tells s) e journal there))
    ∙ ap (λ l. taken_by s.received s.discarded e ++ l) (all-thrown s p journal (All-tail (Tells s) e journal there))

pub taken-discarded : (s t : GuestState) (journal : List Event) (k : ℕ) → All (Tells s) journal → Discards s k t → taken (journal ++ Discard k ∷ []) t ≡ taken journal s
taken-discarded s t journal k there row =
    let p = row.packet in
    let told = flat_map (taken_by s.received s.discarded) journal in
    let now = taken_by s.received (s.discarded ++ p ∷ []) in
    ap (λ (x : GuestState). taken (journal ++ Discard k ∷ []) x) row.after
    ∙ append-nil (flat_map now (journal ++ Discard k ∷ []))
    ∙ flat_map-append now journal (Discard k ∷ [])
    ∙ ap (λ l. l ++ (now (Discard k) ++ [])) (all-thrown s p journal there)
    ∙ ap (λ l. told ++ l) (append-nil (now (Discard k)))
    ∙ ap (λ x. told ++ (x ∷ [])) (get_or_push s.discarded p no_packet k (sym row.next))
    ∙ ap (λ h. told ++ in_hand h) (sym row.in_hand)

pub tells-discarded : (s t : GuestState) (journal : List Event) (k : ℕ) → All (Tells s) journal → Discards s k t → All (Tells t) (journal ++ Discard k ∷ [])
tells-discarded s t journal k there row =
    let now : length t.received ≡ length s.received = ap (λ (x : GuestState). length x.received) row.after in
    let others : length t.discarded ≡ length s.discarded + 1 = ap (λ (x : GuestState). length x.discarded) row.after ∙ length_push s.discarded row.packet in
    let next = row.next in
    All-append (Tells t) journal (Discard k ∷ []) (tell-more s t journal (omega (arith, now)) (omega (arith, others)) there)
    (All-cons (Tells t) (Discard k) [] (omega (arith, others, next)) (All-nil (Tells t)))

pub tells-same : (s t : GuestState) (journal : List Event) → TakesNothing s t → All (Tells s) journal → All (Tells t) journal
tells-same s t journal same there =
    let now = ap (λ (l : List Packet). length l) same.received in
    let others = ap (λ (l : List Packet). length l) same.discarded in
    tell-more s t journal (omega (arith, now)) (omega (arith, others)) there
