-- Packets keep coherence, by copying and by sharing.
use Rattle.std.proofs.Common.{◌≡◌, ℕ, ◌+◌, ◌<◌, ◌≤◌, Bool, true, false, cond, inl, inr, ⊎_elim, if◌then◌else◌, Option, Some, None, List, [], ◌∷◌, ◌++◌, length, map, set, get_or, drop, refl, sym, ap, ◌∙◌, subst, arith, true≢false, get_or-set_same}
use Rattle.std.proofs.lemmas.List.{length-append, length-drop}
use Rattle.std.specs.Prelude.{count_by}
use Rattle.base_words.specs.declared.tlb.Entry.{Entry}
use Rattle.base_words.specs.Membership.{HasNone}
use Rattle.base_words.specs.Halves.{Half}
use Rattle.base_words.specs.Membership.{Has}
use Rattle.private_machine.specs.Backing.{Copy, TakesShared, Move, Page, copies, with_first, no_page}
use Rattle.private_machine.specs.Operation.{Packet}
use Rattle.private_machine.specs.Links.{unlinked_page}
use Rattle.private_machine.specs.Packet.{own_packet, came_into}
use Rattle.private_machine.specs.PageMove.{taken, spares_taken}
use Rattle.private_machine.specs.PrivateMachine.{PrivateMachine}
use Rattle.private_machine.specs.Vcpu.{no_vcpu, with_line_on}
use Rattle.private_machine.specs.declared.vcpu.Vcpu.{Vcpu}
use Rattle.isolation_law.specs.Coherence.{Sound, Consistent}
use Rattle.isolation_law.specs.PageRules.{needs_spare, Sources, sources}
use Rattle.isolation_law.specs.Content.{content, with_own}
use Rattle.isolation_law.specs.GuestState.{GuestState, page, with_page, hand_place, operation_of}
use Rattle.isolation_law.specs.Needs.{for_packet}
use Rattle.isolation_law.specs.PacketRows.{Receives, EndsDelivery}
use Rattle.isolation_law.specs.StepRows.{taken_shared}
use Rattle.isolation_law.proofs.Lists.{count_by-set}
use Rattle.isolation_law.proofs.Parts.{coherent_with_page, coherent_with_spares, count_same, coherent_with_operation}
use Rattle.isolation_law.proofs.LeaveProofs.{moving_within}
use Rattle.isolation_law.proofs.FinishProofs.{open_rule, nobody_maps}
use Rattle.isolation_law.proofs.SourceProofs.{coherent_with_sources, passed}

-- the guest's own parts change, but no TLB of them, and the packet in hand is received
received_keeps : (s : GuestState) (m : PrivateMachine) (x : Packet) → Consistent s → ((q : ℕ) → m.devices.armed ≡ Some q → q < length s.pages) → map (λ c. c.tlb) m.vcpus ≡ map (λ c. c.tlb) s.vcpus
    → Consistent (record (with_own m s) { hand = None; received = s.received ++ x ∷ [] })
received_keeps s m x co armed same =
    let new : Sources = record { disk = s.disk; place = length (s.received ++ x ∷ []) + length s.discarded; hand = None } in
    let more : hand_place s < new.place = let one = length-append s.received (x ∷ []) in omega arith in
    let past = coherent_with_sources s new co (λ o bytes old. passed (sources s) new o bytes refl more old) co.blocks (λ y e. cc) in
    let made : Sound new s.operations s.pages s.spares s.processors (map (λ c. c.tlb) s.vcpus) s.seconds m.devices.armed =
    record { by_page = past.by_page; as_many = past.as_many; within = past.within; on_page = past.on_page; in_tlb = past.in_tlb; exact = past.exact; empty = past.empty; once = past.once; rests = past.rests; by_second = past.by_second; enough = past.enough; blocks = past.blocks; armed_page = armed; packet = past.packet } in
    subst (λ (l : List (List Entry)). Sound new s.operations s.pages s.spares s.processors l s.seconds m.devices.armed) (sym same) made

-- what a packet leaves of TLBs and of the armed page
unlinked-tlbs : (page : ℕ) (cs : List Vcpu) → map (λ c. c.tlb) (map (unlinked_page page) cs) ≡ map (λ c. c.tlb) cs
unlinked-tlbs page [] = refl
unlinked-tlbs page (c ∷ cs) = ap (λ (l : List (List Entry)). c.tlb ∷ l) (unlinked-tlbs page cs)

first-line : (cs : List Vcpu) → map (λ c. c.tlb) (set cs 0 (with_line_on 3 true (get_or cs 0 no_vcpu))) ≡ map (λ c. c.tlb) cs
first-line [] = refl
first-line (c ∷ cs) = refl

pub packet-tlbs : (m : PrivateMachine) (from : ℕ) (bytes : List ℕ) (armed : Option ℕ) → map (λ c. c.tlb) (came_into m from bytes armed).vcpus ≡ map (λ c. c.tlb) m.vcpus
packet-tlbs m from bytes None = refl
packet-tlbs m from bytes (Some q) = first-line (map (unlinked_page q) m.vcpus) ∙ unlinked-tlbs q m.vcpus

packet-armed : (m : PrivateMachine) (from : ℕ) (bytes : List ℕ) (armed : Option ℕ) (q r : ℕ) → armed ≡ Some q → (came_into m from bytes armed).devices.armed ≡ Some r → ⊥
packet-armed m from bytes None q r is e = cc
packet-armed m from bytes (Some k) q r is e = cc

-- the first bytes of an own page without replicas are replaced
pub filled_keeps : (s : GuestState) (q : ℕ) (bytes : List ℕ) → Consistent s → q < length s.pages → length bytes ≤ 4096 → (page s q).replicas ≡ [] → Consistent (with_page s q (with_first bytes (page s q)))
filled_keeps s q bytes co lt short alone =
    let g = page s q in
    let rule = co.by_page q lt in
    let whole : length (bytes ++ drop (length bytes) g.master.bytes) ≡ 4096 =
    let rest = length-drop (length bytes) g.master.bytes in
    let full = rule.whole in
    length-append bytes (drop (length bytes) g.master.bytes) ∙ (let sum : length bytes + length (drop (length bytes) g.master.bytes) ≡ 4096 = omega arith in sum) in
    coherent_with_page s q (with_first bytes g) lt co
    (record { whole = whole; equal = λ c has. absurd (subst (λ (l : List Copy). Has l c) alone has); single = rule.single; moves = rule.moves; sized = rule.sized })
    (λ p h has at old. record { backed = backed g h old.backed.0 old.backed.1 old.backed.2; is_mapped = old.is_mapped; alone = old.alone })
    (λ p h has at old. (refl, refl))
    (λ v e has at none. none)
    (rw (count_same s.pages q (with_first bytes g) lt refl) co.enough)
  where
    backed : (g : Page) (h : Half) (c : Copy) → Has (copies g) c → c.frame ≡ h.frame → (d : Copy) × Has (copies (with_first bytes g)) d × (d.frame ≡ h.frame)
    backed g h c has e = ⊎_elim
        (λ (is : g.master ≡ c). ((with_first bytes g).master, inl refl, ap (λ (z : Copy). z.frame) is ∙ e))
        (λ later. (c, inr later, e))
        has

-- a page is taken shared
pub taken_keeps : (s : GuestState) (q : ℕ) (target : Copy) (waiting : List Bool) → Consistent s → (page s q).move ≡ Some (record { change = TakesShared target; waiting = waiting }) → HasNone waiting → Consistent (taken_shared q target s)
taken_keeps s q target waiting co is nobody =
    let g = page s q in
    let m : Move = record { change = TakesShared target; waiting = waiting } in
    let lt = moving_within s.pages q m is in
    let rule = co.by_page q lt in
    let fine = (open_rule (sources s) (operation_of s q) g m rule.moves is).1 in
    let unmapped = nobody_maps (sources s) (operation_of s q) g m rule.moves is nobody in
    let more = spares_taken g s.spares in
    let before = co.enough in
    let c = count_by-set needs_spare s.pages q (taken target g) no_page lt in
    let counts : (count_by needs_spare s.pages ≤ length more) × (count_by needs_spare (set s.pages q (taken target g)) ≤ length more) = by_shared g.shared refl c in
    let s1 : GuestState = record s { spares = more } in
    let done : Consistent (with_page s1 q (taken target g)) =
    coherent_with_page s1 q (taken target g) lt (coherent_with_spares s more co counts.0)
    (record { whole = fine.1; equal = λ c has. absurd has; single = λ _. refl; moves = tt; sized = rule.sized })
    (λ p h has at old. absurd (true≢false (sym old.is_mapped ∙ unmapped p)))
    (λ p h has at old. absurd (true≢false (sym old.is_mapped ∙ unmapped p)))
    (λ v e has at none. refl)
    counts.1 in
    coherent_with_operation (with_page s1 q (taken target g)) q None done (ap (λ (x : Page). x.move) (get_or-set_same s.pages q (taken target g) no_page lt))
  where
    by_shared : (b : Bool) → (page s q).shared ≡ b
        → count_by needs_spare (set s.pages q (taken target (page s q))) + cond {A = ℕ} (needs_spare (page s q)) 1 0 ≡ count_by needs_spare s.pages + 1
        → (count_by needs_spare s.pages ≤ length (if b then s.spares else s.spares ++ (page s q).master ∷ [])) × (count_by needs_spare (set s.pages q (taken target (page s q))) ≤ length (if b then s.spares else s.spares ++ (page s q).master ∷ []))
    by_shared true shared c =
        let needs : cond {A = ℕ} (needs_spare (page s q)) 1 0 ≡ 1 = rw (shared, is) refl in
        let room = co.enough in
        (room, omega arith)
    by_shared false shared c =
        let needs : cond {A = ℕ} (needs_spare (page s q)) 1 0 ≡ 0 = rw shared refl in
        let room = co.enough in
        (rw length-append (omega arith), rw length-append (omega arith))

alone : (s : GuestState) (shares : Bool) (packet : Packet) (q : ℕ) → for_packet s shares packet q ≡ None → (page s q).replicas ≡ []
alone s shares packet q none = grind arith

pub receives_keeps : (s t : GuestState) (k : ℕ) → Consistent s → Receives s k t → Consistent t
receives_keeps s t k co row =
    let q = row.q in
    let bytes = row.packet.bytes in
    let lt = co.armed_page q row.delivered.armed in
    let co1 = filled_keeps s q bytes co lt (co.packet row.packet row.delivered.in_hand) (alone s row.shares row.packet q row.needs_nothing) in
    subst Consistent (sym row.after) (received_keeps (with_page s q (with_first bytes (page s q))) (own_packet (content s) row.packet.from bytes) row.packet co1
    (λ r e. absurd (packet-armed (content s) row.packet.from bytes s.devices.armed q r row.delivered.armed e))
    (packet-tlbs (content s) row.packet.from bytes s.devices.armed))

pub ends_delivery_keeps : (s t : GuestState) (k : ℕ) → Consistent s → EndsDelivery s k t → Consistent t
ends_delivery_keeps s t k co row =
    let q = row.q in
    let bytes = row.packet.bytes in
    let co1 = taken_keeps s q row.target row.waiting co row.open_move row.nobody_waits in
    subst Consistent (sym row.after) (received_keeps (taken_shared q row.target s) (own_packet (content s) row.packet.from bytes) row.packet co1
    (λ r e. absurd (packet-armed (content s) row.packet.from bytes s.devices.armed q r row.delivered.armed e))
    (packet-tlbs (content s) row.packet.from bytes s.devices.armed))
