-- What an emulated step and a packet do to the content is the guest's own step and packet.
use Rattle.std.proofs.Common.{◌≡◌, ◌≢◌, ℕ, ◌+◌, ◌*◌, ◌<◌, ◌≤◌, ◌==◌, true, false, if◌then◌else◌, Option, Some, None, List, [], ◌++◌, length, map, set, get_or, take, drop, refl, sym, ap, ◌∙◌, subst, arith, length-set, ⊎_elim}
use Rattle.std.proofs.lemmas.List.{length-map, get_or-map, map-set, drop_all, append-nil}
use Rattle.std.specs.Prelude.{flat_map, unwrap_or}
use Rattle.private_machine.specs.Backing.{Copy, TakesShared, Page, Move, with_first, no_page}
use Rattle.private_machine.specs.Operation.{Packet, Operation}
use Rattle.private_machine.specs.Links.{page_filled, page_bytes}
use Rattle.private_machine.specs.OwnStep.{joined, input_joined, own_step}
use Rattle.private_machine.specs.Packet.{own_packet, came_into}
use Rattle.private_machine.specs.PageMove.{taken}
use Rattle.private_machine.specs.RegisterPage.{has_page}
use Rattle.private_machine.specs.PrivateMachine.{PrivateMachine}
use Rattle.isolation_law.specs.Coherence.{Consistent}
use Rattle.private_machine.specs.DeviceAct.{Act, StoresTo, ReadsDisk, WritesDisk, SendsPage, WritesEntry, NoAct}
use Rattle.isolation_law.specs.PageRules.{sources, ChangeRule}
use Rattle.private_machine.specs.Disk.{block_now}
use Rattle.isolation_law.specs.Content.{content, with_own}
use Rattle.private_machine.specs.Disk.{no_block}
use Rattle.isolation_law.specs.GuestState.{GuestState, page, block, vcpu_of, with_page, hand_place, operation_of}
use Rattle.isolation_law.specs.PacketRows.{Receives, EndsDelivery}
use Rattle.isolation_law.specs.StepAct.{at_hand}
use Rattle.isolation_law.specs.StepRows.{act_done, taken_shared, Emulates, EndsRead}
use Rattle.isolation_law.proofs.Memory.{flat_filled, flat_page}
use Rattle.isolation_law.proofs.Acts.{Reads, next-in}
use Rattle.isolation_law.proofs.ActEffects.{Same, After, step-after}
use Rattle.isolation_law.proofs.DirectProofs.{even}
use Rattle.isolation_law.proofs.LeaveProofs.{moving_within}
use Rattle.isolation_law.proofs.FinishProofs.{open_rule}

abbrev bytes_of : Page → List ℕ
bytes_of g = g.master.bytes

-- a content is a machine where pages, memory and disk are
with_own-content : (n : PrivateMachine) (u : GuestState) → length u.pages ≡ n.pages → flat_map bytes_of u.pages ≡ n.memory → map block_now u.disk ≡ n.disk → has_page u.around.profile ≡ n.register_page → content (with_own n u) ≡ n
with_own-content n u pages memory disk paged = λ i. record n { pages = pages i; memory = memory i; disk = disk i; register_page = paged i }

-- what joins changes no page and no block
joined-same : (m : PrivateMachine) (v : ℕ) → Same m (joined m v)
joined-same m v = elim (v == 0) as (λ b. Same m (if b then input_joined m else m)) [ true ↦ record { pages = refl; memory = refl; disk = refl; paged = refl } | false ↦ record { pages = refl; memory = refl; disk = refl; paged = refl } ]

filled-memory : (s : GuestState) (q : ℕ) (bytes : List ℕ) → Consistent s → q < length s.pages → length bytes ≤ 4096
    → flat_map bytes_of (set s.pages q (with_first bytes (page s q))) ≡ take (q * 4096) (content s).memory ++ (bytes ++ drop (q * 4096 + length bytes) (content s).memory)
filled-memory s q bytes co lt short = flat_filled bytes_of 4096 s.pages q bytes (with_first bytes (page s q)) no_page (even s co) lt short refl

-- what the act of a step leaves of pages and disk
act-content : (s : GuestState) (p v : ℕ) (act : Act) (n : PrivateMachine) → Consistent s → ((q : ℕ) → act ≢ StoresTo q) → Reads (length s.pages) (length s.disk) act → After (content s) act n → content (with_own n (act_done s p v act)) ≡ n
act-content s p v (StoresTo q) n co no_store within after = absurd (no_store q refl)
act-content s p v (ReadsDisk b q) n co no_store within after =
    let bytes = block_now (block s b) in
    let same : get_or (map block_now s.disk) b [] ≡ bytes = get_or-map block_now s.disk b no_block [] within.0 in
    let whole : length bytes ≡ 4096 = (co.blocks b within.0).whole in
    with_own-content n (act_done s p v (ReadsDisk b q)) (length-set s.pages q (with_first bytes (page s q)) ∙ sym after.pages)
    (filled-memory s q bytes co within.1 (omega arith) ∙ ap (λ (x : List ℕ). take (q * 4096) (content s).memory ++ (x ++ drop (q * 4096 + length x) (content s).memory)) (sym same) ∙ sym after.memory)
    (sym after.disk) (sym after.paged)
act-content s p v (WritesDisk b q) n co no_store within after =
    let bytes = (page s q).master.bytes in
    let same : page_bytes (content s) q 4096 ≡ bytes = flat_page bytes_of 4096 s.pages q no_page (even s co) within.1 in
    with_own-content n (act_done s p v (WritesDisk b q)) (sym after.pages) (sym after.memory)
    (map-set block_now s.disk b (record (block s b) { overlay = Some bytes }) ∙ ap (set (map block_now s.disk) b) (sym same) ∙ sym after.disk) (sym after.paged)
act-content s p v (SendsPage q length to) n co no_store within after = with_own-content n (act_done s p v (SendsPage q length to)) (sym after.pages) (sym after.memory) (sym after.disk) (sym after.paged)
act-content s p v (WritesEntry index) n co no_store within after = with_own-content n (act_done s p v (WritesEntry index)) (sym after.pages) (sym after.memory) (sym after.disk) (sym after.paged)
act-content s p v NoAct n co no_store within after = with_own-content n (act_done s p v NoAct) (sym after.pages) (sym after.memory) (sym after.disk) (sym after.paged)

-- the same from where the input has joined
after-joined : (m j n : PrivateMachine) (act : Act) → Same m j → After j act n → After m act n
after-joined m j n (StoresTo q) same after = tt
after-joined m j n (ReadsDisk b q) same after = record {
  pages = after.pages ∙ same.pages;
  memory = after.memory ∙ (λ i. (page_filled (record m { memory = same.memory i; disk = same.disk i }) q (get_or (same.disk i) b [])).memory);
  disk = after.disk ∙ same.disk;
  paged = after.paged ∙ same.paged;
}
after-joined m j n (WritesDisk b q) same after = record {
  pages = after.pages ∙ same.pages;
  memory = after.memory ∙ same.memory;
  disk = after.disk ∙ (λ i. set (same.disk i) b (take 4096 (drop (q * 4096) (same.memory i))));
  paged = after.paged ∙ same.paged;
}
after-joined m j n (SendsPage q length to) same after = record { pages = after.pages ∙ same.pages; memory = after.memory ∙ same.memory; disk = after.disk ∙ same.disk; paged = after.paged ∙ same.paged }
after-joined m j n (WritesEntry index) same after = record { pages = after.pages ∙ same.pages; memory = after.memory ∙ same.memory; disk = after.disk ∙ same.disk; paged = after.paged ∙ same.paged }
after-joined m j n NoAct same after = record { pages = after.pages ∙ same.pages; memory = after.memory ∙ same.memory; disk = after.disk ∙ same.disk; paged = after.paged ∙ same.paged }

hand-after : (s : GuestState) (v : ℕ) → (vcpu_of s v).halted ≡ false → After (content s) (at_hand s v) (own_step (content s) v)
hand-after s v running = after-joined (content s) (joined (content s) v) (own_step (content s) v) (at_hand s v) (joined-same (content s) v) (step-after (content s) v running)

pub hand-in : (s : GuestState) (v : ℕ) → Reads (length s.pages) (length s.disk) (at_hand s v)
hand-in s v =
    let j = joined-same (content s) v in
    let blocks : length (joined (content s) v).disk ≡ length s.disk = ap length j.disk ∙ length-map s.disk block_now in
    subst (λ (n : ℕ). Reads n (length s.disk) (at_hand s v)) j.pages (subst (λ (n : ℕ). Reads (joined (content s) v).pages n (at_hand s v)) blocks (next-in (joined (content s) v) v))

pub emulates_content : (s t : GuestState) (p v : ℕ) → Consistent s → Emulates s p v t → ((q : ℕ) → at_hand s v ≢ StoresTo q) → content t ≡ own_step (content s) v
emulates_content s t p v co row no_store =
    ap content row.after ∙ act-content s p v (at_hand s v) (own_step (content s) v) co no_store (hand-in s v) (hand-after s v row.traps.runs.running)

-- a page that is taken shared has the bytes of the operation
taken-content : (s : GuestState) (q : ℕ) (target : Copy) (n : PrivateMachine) → Consistent s → q < length s.pages → length target.bytes ≡ 4096 → Same (page_filled (content s) q target.bytes) n → content (with_own n (taken_shared q target s)) ≡ n
taken-content s q target n co lt whole after =
    let none : drop (length target.bytes) (page s q).master.bytes ≡ [] = drop_all (length target.bytes) (page s q).master.bytes (let full = (co.by_page q lt).whole in omega arith) in
    with_own-content n (taken_shared q target s) (length-set s.pages q (taken target (page s q)) ∙ sym after.pages)
    (flat_filled bytes_of 4096 s.pages q target.bytes (taken target (page s q)) no_page (even s co) lt (omega arith) (sym (ap (λ (b : List ℕ). target.bytes ++ b) none ∙ append-nil target.bytes))
    ∙ sym after.memory)
    (sym after.disk) (sym after.paged)

-- a disk read ends the move that was for it
pub ends_read_content : (s t : GuestState) (p v : ℕ) → Consistent s → EndsRead s p v t → content t ≡ own_step (content s) v
ends_read_content s t p v co row =
    let n = own_step (content s) v in
    let m : Move = record { change = TakesShared row.target; waiting = row.waiting } in
    let lt = moving_within s.pages row.q m row.open_move in
    let fine = subst (λ (o : Option Operation). ChangeRule (sources s) o (page s row.q).shared (TakesShared row.target)) row.its_own (open_rule (sources s) (operation_of s row.q) (page s row.q) m (co.by_page row.q lt).moves row.open_move).1 in
    let within : Reads (length s.pages) (length s.disk) (ReadsDisk row.b row.q) = subst (Reads (length s.pages) (length s.disk)) row.reads (hand-in s v) in
    let after : After (content s) (ReadsDisk row.b row.q) n = subst (λ (a : Act). After (content s) a n) row.reads (hand-after s v row.traps.runs.running) in
    let read : get_or (map block_now s.disk) row.b [] ≡ block_now (block s row.b) = get_or-map block_now s.disk row.b no_block [] within.0 in
    let unwritten : block_now (block s row.b) ≡ (block s row.b).given = ap (λ (o : Option (List ℕ)). unwrap_or o (block s row.b).given) row.unwritten in
    let bytes : get_or (map block_now s.disk) row.b [] ≡ row.target.bytes = read ∙ unwritten ∙ sym fine.0 in
    ap content row.after
    ∙ taken-content s row.q row.target n co lt fine.1 (subst (λ (l : List ℕ). Same (page_filled (content s) row.q l) n) bytes after)

packet-after : (m : PrivateMachine) (from q : ℕ) (bytes : List ℕ) (armed : Option ℕ) → armed ≡ Some q → Same (page_filled m q bytes) (came_into m from bytes armed)
packet-after m from q bytes None e = cc
packet-after m from q bytes (Some r) e = let is : r ≡ q = cc in subst (λ (k : ℕ). Same (page_filled m k bytes) (came_into m from bytes (Some r))) is (record { pages = refl; memory = refl; disk = refl; paged = refl })

pub receives_content : (s t : GuestState) (k : ℕ) → Consistent s → (row : Receives s k t) → content t ≡ own_packet (content s) row.packet.from row.packet.bytes
receives_content s t k co row =
    let q = row.q in
    let bytes = row.packet.bytes in
    let n = own_packet (content s) row.packet.from bytes in
    let lt = co.armed_page q row.delivered.armed in
    let after = packet-after (content s) row.packet.from q bytes s.devices.armed row.delivered.armed in
    ap content row.after
    ∙ with_own-content n (with_page s q (with_first bytes (page s q))) (length-set s.pages q (with_first bytes (page s q)) ∙ sym after.pages)
    (filled-memory s q bytes co lt (co.packet row.packet row.delivered.in_hand) ∙ sym after.memory)
    (sym after.disk) (sym after.paged)

pub ends_delivery_content : (s t : GuestState) (k : ℕ) → Consistent s → (row : EndsDelivery s k t) → content t ≡ own_packet (content s) row.packet.from row.packet.bytes
ends_delivery_content s t k co row =
    let q = row.q in
    let bytes = row.packet.bytes in
    let n = own_packet (content s) row.packet.from bytes in
    let m : Move = record { change = TakesShared row.target; waiting = row.waiting } in
    let lt = moving_within s.pages q m row.open_move in
    let fine = subst (λ (o : Option Operation). ChangeRule (sources s) o (page s q).shared (TakesShared row.target)) row.its_own (open_rule (sources s) (operation_of s q) (page s q) m (co.by_page q lt).moves row.open_move).1 in
    let after = packet-after (content s) row.packet.from q bytes s.devices.armed row.delivered.armed in
    let its_bytes : bytes ≡ row.target.bytes = ap (λ (x : Packet). x.bytes) (the-hand row.packet row.kept (⊎_elim
    (λ (lt : hand_place s < hand_place s). absurd (omega arith))
    (λ (here : (hand_place s ≡ hand_place s) × (s.hand ≡ Some row.kept)). sym row.delivered.in_hand ∙ here.1)
    fine.0.1)) ∙ sym fine.0.0 in
    ap content row.after
    ∙ taken-content s q row.target n co lt fine.1 (subst (λ (l : List ℕ). Same (page_filled (content s) q l) n) its_bytes after)
  where
    the-hand : (x y : Packet) → Some x ≡ Some y → x ≡ y
    the-hand x y e = cc
