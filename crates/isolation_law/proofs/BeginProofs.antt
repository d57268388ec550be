-- A begin keeps coherence and content.
use Rattle.std.proofs.Common.{◌≡◌, ℕ, zero, suc, ◌<◌, ◌≤◌, ◌==◌, Bool, true, false, not, ◌&&◌, cond, Option, Some, None, List, [], ◌∷◌, length, map, set, refl, sym, ap, ◌∙◌, subst, arith, true≢false, if◌then◌else◌, inr, ⊎_elim, get_or-set_same}
use Rattle.std.proofs.lemmas.Bool.{eq-eqb, eqb-true}
use Rattle.std.proofs.lemmas.List.{length-map}
use Rattle.std.specs.Prelude.{count_by, slice_get, remove}
use Rattle.base_words.specs.Membership.{Has}
use Rattle.private_machine.specs.Backing.{Copy, Change, Migrates, Replicates, Collapses, Breaks, TakesShared, GivesShared, no_page}
use Rattle.private_machine.specs.Operation.{Packet as InHand, Operation, ReadsBlock, Delivers}
use Rattle.private_machine.specs.OwnStep.{joined, input_joined}
use Rattle.private_machine.specs.PageMove.{kind_of, begun}
use Rattle.private_machine.specs.PrivateMachine.{PrivateMachine}
use Rattle.private_machine.specs.SecondLevel.{Second, seconds_without_page}
use Rattle.isolation_law.specs.Coherence.{Consistent}
use Rattle.private_machine.specs.DeviceAct.{Act, StoresTo, ReadsDisk, WritesDisk, SendsPage, WritesEntry, NoAct}
use Rattle.isolation_law.specs.PageRules.{ChangeRule, HasBytes, breaks, is_breaking, needs_spare, sources}
use Rattle.private_machine.specs.Disk.{block_now}
use Rattle.isolation_law.specs.Content.{content}
use Rattle.isolation_law.specs.GuestState.{GuestState, page, second_level, with_page, hand_place, operation_of, with_operation}
use Rattle.isolation_law.specs.MoveRows.{Asks, Fits, StepLoses, bytes_for, Begins}
use Rattle.isolation_law.specs.Needs.{needed, for_packet}
use Rattle.isolation_law.specs.Parts.{Wish}
use Rattle.isolation_law.specs.StepAct.{at_hand}
use Rattle.base_words.specs.declared.moves.By.{By}
use Rattle.base_words.specs.declared.moves.By.TheVariants.{Plan, Due, Step, Packet}
use Rattle.base_words.specs.declared.moves.MoveKind.{MoveKind}
use Rattle.base_words.specs.declared.moves.MoveKind.TheVariants.{Migrate, Replicate, Break, TakeShared, GiveShared}
use Rattle.isolation_law.proofs.Lists.{count_by-set}
use Rattle.isolation_law.proofs.SecondProofs.{Has-all_without}
use Rattle.isolation_law.proofs.Parts.{coherent_with_page, coherent_with_seconds, coherent_with_spares, count_same, content-page, coherent_with_operation}
use Rattle.isolation_law.proofs.Asked.{asks-fits}
use Rattle.isolation_law.proofs.Acts.{Reads, next-in}

-- what an operation for which a page is taken shared says of its bytes
abbrev IsWhole : GuestState → Option Operation → Type 0
IsWhole s None = Unit {0}
IsWhole s (Some (ReadsBlock v b)) = b < length s.disk
IsWhole s (Some (Delivers place packet)) = (length packet.bytes ≡ 4096) × (place ≡ hand_place s) × (s.hand ≡ Some packet)

needed-whole : (s : GuestState) (v : ℕ) (shares : Bool) (act : Act) (r : ℕ) (k : MoveKind) (o : Option Operation) → ((b q : ℕ) → act ≡ ReadsDisk b q → b < length s.disk)
    → needed s v shares act ≡ Some (record { page = r; kind = k; operation = o }) → IsWhole s o
needed-whole s v shares (StoresTo q) r k o within needs = grind arith
needed-whole s v shares (ReadsDisk b q) r k o within needs = let here = within b q refl in grind arith
needed-whole s v shares (WritesDisk b q) r k o within needs = cc
needed-whole s v shares (SendsPage q length to) r k o within needs = grind arith
needed-whole s v shares (WritesEntry index) r k o within needs = cc
needed-whole s v shares NoAct r k o within needs = cc

none-whole : (s : GuestState) (o : Option Operation) → o ≡ None → IsWhole s o
none-whole s o is = subst (IsWhole s) (sym is) tt

packet-whole : (s : GuestState) (shares : Bool) (packet : InHand) (q r : ℕ) (k : MoveKind) (o : Option Operation) → s.hand ≡ Some packet → for_packet s shares packet q ≡ Some (record { page = r; kind = k; operation = o }) → IsWhole s o
packet-whole s shares packet q r k o hand needs = grind (arith, eqb-true (length packet.bytes) 4096)

pub joined-disk : (m : PrivateMachine) (v : ℕ) → (joined m v).disk ≡ m.disk
joined-disk m v = elim (v == 0) as (λ b. (if b then input_joined m else m).disk ≡ m.disk) [ true ↦ refl | false ↦ refl ]

asks-whole : (s : GuestState) (by : By) (wish : Wish) (target : Copy) (o : Operation) → wish.kind ≡ TakeShared → Asks s by wish (Some o) → IsWhole s (Some o)
asks-whole s (Plan p) wish target o k asks = grind arith
asks-whole s (Due p) wish target o k asks = grind arith
asks-whole s (Step p) wish target o k asks =
    let m = joined (content s) asks.v in
    ⊎_elim
    (needed-whole s asks.v asks.shares (at_hand s asks.v) wish.page wish.kind (Some o)
    (λ b q is. blocks_same s asks.v b (subst (Reads m.pages (length m.disk)) is (next-in m asks.v)).0))
    (λ (lost : StepLoses s p.0 asks.v wish (Some o)). none-whole s (Some o) lost.for_none)
    asks.needs
  where
    blocks_same : (s : GuestState) (v b : ℕ) → b < length (joined (content s) v).disk → b < length s.disk
    blocks_same s v b lt = subst (λ (n : ℕ). b < n) (ap length (joined-disk (content s) v) ∙ length-map s.disk block_now) lt
asks-whole s Packet wish target o k asks = packet-whole s asks.shares asks.packet wish.page wish.page wish.kind (Some o) asks.in_hand asks.needs

target-bytes : (s : GuestState) (target : Copy) (o : Operation) → Consistent s → IsWhole s (Some o) → target.bytes ≡ bytes_for s o → HasBytes (sources s) target.bytes o × (length target.bytes ≡ 4096)
target-bytes s target (ReadsBlock v b) co whole e = (e, ap length e ∙ (co.blocks b whole).given_whole)
target-bytes s target (Delivers place packet) co whole e = ((e, inr (whole.1, whole.2)), ap length e ∙ whole.0)

begun_change : (s : GuestState) (q node : ℕ) (by : By) (change : Change) (o : Option Operation) (rest : List Copy) → Consistent s → Asks s by (record { page = q; kind = kind_of change; node = node }) o → Fits s node change o rest → ChangeRule (sources s) o (page s q).shared change
begun_change s q node by (Migrates target) o rest co asks fits = asks-fits s by (record { page = q; kind = Migrate; node = node }) o asks
begun_change s q node by (Replicates target) o rest co asks fits = asks-fits s by (record { page = q; kind = Replicate; node = node }) o asks
begun_change s q node by Collapses o rest co asks fits = tt
begun_change s q node by (Breaks target) o rest co asks fits = asks-fits s by (record { page = q; kind = Break; node = node }) o asks
begun_change s q node by (TakesShared target) None rest co asks fits = absurd fits.0
begun_change s q node by (TakesShared target) (Some o) rest co asks fits = target-bytes s target o co (asks-whole s by (record { page = q; kind = TakeShared; node = node }) target o refl asks) fits.0
begun_change s q node by (GivesShared target) o rest co asks fits = asks-fits s by (record { page = q; kind = GiveShared; node = node }) o asks

-- the count after the begin, against the spares before and after it
plain : (s : GuestState) (q : ℕ) (change : Change) (rest : List Copy) → Consistent s → q < length s.pages → (page s q).move ≡ None → breaks change ≡ false → rest ≡ s.spares
    → (count_by needs_spare (set s.pages q (begun change (page s q))) ≤ length s.spares) × (count_by needs_spare (set s.pages q (begun change (page s q))) ≤ length rest)
plain s q change rest co lt none other same =
    let needs : needs_spare (begun change (page s q)) ≡ needs_spare (page s q) = ap (λ b. (page s q).shared && not b) (other ∙ sym (ap is_breaking none)) in
    let c = count_same s.pages q (begun change (page s q)) lt needs in
    let before : count_by needs_spare (set s.pages q (begun change (page s q))) ≤ length s.spares = rw c co.enough in
    (before, rw same before)

removed : (xs : List Copy) (i : ℕ) (x : Copy) → slice_get xs i ≡ Some x → length xs ≡ suc (length (remove xs i))
removed [] i x e = cc
removed (y ∷ ys) zero x e = refl
removed (y ∷ ys) (suc i) x e = ap suc (removed ys i x e)

begun_count : (s : GuestState) (q node : ℕ) (change : Change) (o : Option Operation) (rest : List Copy) → Consistent s → q < length s.pages → (page s q).move ≡ None → ChangeRule (sources s) o (page s q).shared change → Fits s node change o rest
    → (count_by needs_spare (set s.pages q (begun change (page s q))) ≤ length s.spares) × (count_by needs_spare (set s.pages q (begun change (page s q))) ≤ length rest)
begun_count s q node (Migrates target) o rest co lt none rule fits = plain s q (Migrates target) rest co lt none refl fits.2
begun_count s q node (Replicates target) o rest co lt none rule fits = plain s q (Replicates target) rest co lt none refl fits.2
begun_count s q node Collapses o rest co lt none rule fits = plain s q Collapses rest co lt none refl fits
begun_count s q node (TakesShared target) o rest co lt none rule fits = plain s q (TakesShared target) rest co lt none refl fits.1
begun_count s q node (GivesShared target) o rest co lt none rule fits = plain s q (GivesShared target) rest co lt none refl fits.1
begun_count s q node (Breaks target) o rest co lt none rule fits =
    let c = count_by-set needs_spare s.pages q (begun (Breaks target) (page s q)) no_page lt in
    let old : cond {A = ℕ} (needs_spare (page s q)) 1 0 ≡ 1 = rw (rule, none) in
    let new : cond {A = ℕ} (needs_spare (begun (Breaks target) (page s q))) 1 0 ≡ 0 = rw rule in
    let one_less : length s.spares ≡ suc (length rest) = removed s.spares fits.place target fits.is_it ∙ ap (λ (l : List Copy). suc (length l)) (sym fits.others) in
    let room = co.enough in
    (omega arith, omega arith)

pub begins_keeps : (s t : GuestState) (q : ℕ) (kind : MoveKind) (node : ℕ) (by : By) → Consistent s → Begins s q kind node by t → Consistent t
begins_keeps s t q kind node by co row =
    let g = page s q in
    let rule = co.by_page q row.is_page in
    let change = row.change in
    let s1 : GuestState = record s { seconds = map (seconds_without_page q) s.seconds } in
    let kept : (v : ℕ) (e : Second) → Has (second_level s1 v) (Some e) → Has (second_level s v) (Some e) × (not (e.page == q) ≡ true) = λ v e has. Has-all_without q s.seconds v e has in
    let co1 : Consistent s1 = coherent_with_seconds s s1.seconds co (λ v e has. (kept v e has).0) in
    let asked = subst (λ (k : MoveKind). Asks s by (record { page = q; kind = k; node = node }) row.operation) (sym row.is_kind) row.asked in
    let fine = begun_change s q node by change row.operation row.rest co asked row.fits in
    let counts = begun_count s q node change row.operation row.rest co row.is_page row.rests fine row.fits in
    let s2 = with_operation q row.operation s1 in
    let noted : operation_of s2 q ≡ row.operation = get_or-set_same s.operations q row.operation None (rw co.as_many row.is_page) in
    let co2 : Consistent (with_page s2 q (begun change g)) = coherent_with_page s2 q (begun change g) row.is_page (coherent_with_operation s1 q row.operation co1 row.rests)
    (record { whole = rule.whole; equal = rule.equal; single = rule.single; moves = (refl, subst (λ (o : Option Operation). ChangeRule (sources s) o g.shared change) (sym noted) fine); sized = rule.sized })
    (λ p h has at old. record { backed = old.backed; is_mapped = old.is_mapped; alone = old.alone })
    (λ p h has at old. (refl, refl))
    (λ v e has at none. absurd (true≢false (sym (kept v e has).1 ∙ ap not (eq-eqb e.page q at))))
    counts.0 in
    subst Consistent (sym row.after) (coherent_with_spares (with_page s2 q (begun change g)) row.rest co2 counts.1)

pub begins_content : (s t : GuestState) (q : ℕ) (kind : MoveKind) (node : ℕ) (by : By) → Begins s q kind node by t → content t ≡ content s
begins_content s t q kind node by row = ap content row.after ∙ content-page s q (begun row.change (page s q)) refl
