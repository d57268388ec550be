-- Wherever a journal leads from a guest's start, the frames of each page lie on different nodes.
use Rattle.base_words.specs.declared.trap.DataAccess.{DataAccess}
use Rattle.std.proofs.Common.{◌≡◌, ℕ, zero, suc, ◌/◌, ◌<◌, Bool, true, false, ⊎_elim, Some, None, List, [], ◌∷◌, length, map, set, get_or, drop, refl, sym, subst, arith, length-set}
use Rattle.std.proofs.lemmas.List.{get_or-map, length-map}
use Rattle.base_words.specs.declared.regs.Regs.{Regs}
use Rattle.private_machine.specs.Reaching.{Reached}
use Rattle.private_machine.specs.Backing.{Copy, TakesShared, Move, Page, stored_through, with_first, no_page}
use Rattle.private_machine.specs.DirectAccess.{data_reached}
use Rattle.private_machine.specs.PageMove.{left_by, named_by, begun, finished, taken}
use Rattle.isolation_law.proofs.Stepping.{stored, stored_if, accessed, ticked, told, steps-after}
use Rattle.base_words.specs.declared.trap.DataAccess.TheVariants as at_data
use Rattle.isolation_law.specs.Coherence.{Consistent}
use Rattle.private_machine.specs.DeviceAct.{Act, StoresTo, ReadsDisk, WritesDisk, SendsPage, WritesEntry, NoAct}
use Rattle.isolation_law.specs.PageRules.{sources}
use Rattle.isolation_law.specs.Content.{content}
use Rattle.isolation_law.specs.DirectStep.{with_inputs, data_noted}
use Rattle.isolation_law.specs.EndRows.{LetsGo}
use Rattle.isolation_law.specs.GuestState.{GuestState, page, operation_of}
use Rattle.isolation_law.specs.MachineEvent.{Row}
use Rattle.isolation_law.specs.MoveRows.{Finishes}
use Rattle.isolation_law.specs.PacketRows.{ComesToHand, Receives, EndsDelivery}
use Rattle.isolation_law.specs.Run.{Silent, Run}
use Rattle.isolation_law.specs.Start.{Found, Boot, pages_at_start, start}
use Rattle.isolation_law.specs.StepAct.{at_hand}
use Rattle.isolation_law.specs.StepRows.{act_done, Emulates, EndsRead}
use Rattle.isolation_law.specs.Surroundings.{Surroundings}
use Rattle.base_words.specs.declared.effect.Request.{Request}
use Rattle.base_words.specs.declared.effect.Request.TheVariants as asks
use Rattle.base_words.specs.declared.events.Event.{Event}
use Rattle.base_words.specs.declared.events.Event.TheVariants.{Load, Unload, Direct, Refill, Emulate, Begin, Ack, Finish, PacketIn, Discard, Skip, CellFails, End as Ending}
use Rattle.base_words.specs.declared.moves.MoveKind.{MoveKind}
use Rattle.isolation_law.proofs.Parts.{at_place}
use Rattle.isolation_law.proofs.LawProofs.{Kept, step, silent, silent-mirrors, same_packets}
use Rattle.isolation_law.specs.Mirrors.{Mirrors}
use Rattle.isolation_law.proofs.MirrorProofs.{row-mirrors}
use Rattle.isolation_law.proofs.SpreadParts.{Spread, PlaceFits, left-spread, stored-spread, asks-place, begun-spread, taken-spread, finished-spread}

abbrev pub SpreadOver : Surroundings → List Page → Type 0
SpreadOver w pages = (q : ℕ) → q < length pages → Spread w (get_or pages q no_page)

abbrev pub Spreads : GuestState → Type 0
Spreads s = SpreadOver s.around s.pages

spread-page : (w : Surroundings) (pages : List Page) (q : ℕ) (new : Page) → SpreadOver w pages → (q < length pages → Spread w (get_or pages q no_page) → Spread w new) → SpreadOver w (set pages q new)
spread-page w pages q new old news r lt =
    let within : r < length pages = rw length-set at lt in
    at_place (λ (k : ℕ) (g : Page). k < length pages → Spread w g) pages q new no_page r (λ there again. news there (old q there)) (λ other again. old r again) within

stored-spreads : (s : GuestState) (v : ℕ) (h : Reached) (a word : ℕ) → Spreads s → Spreads (stored s v h a word)
stored-spreads s v h a word old = spread-page s.around s.pages h.page (stored_through (page s h.page) h.frame _ word) old (λ there was. stored-spread s.around (page s h.page) h.frame _ word was)

accessed-spreads : (s : GuestState) (v : ℕ) (h : Reached) (regs : Regs) (r : Request) → Spreads s → Spreads (accessed s v h regs r)
accessed-spreads s v h regs asks.Nothing old = old
accessed-spreads s v h regs (asks.Load kind address target) old = old
accessed-spreads s v h regs (asks.Store kind address value) old = stored-spreads s v h address _ old
accessed-spreads s v h regs (asks.LoadLinked address target) old = old
accessed-spreads s v h regs (asks.StoreConditional address value target) old = by _
  where
    by : (b : Bool) → Spreads (stored_if b s v h regs address value target)
    by true = stored-spreads s v h address value old
    by false = old
accessed-spreads s v h regs (asks.ReadCp0 number target) old = old
accessed-spreads s v h regs (asks.WriteCp0 number value) old = old
accessed-spreads s v h regs (asks.System op) old = old

noted-spreads : (p : ℕ) (a : DataAccess) (s : GuestState) → Spreads s → Spreads (data_noted p a s)
noted-spreads p at_data.NoData s old = old
noted-spreads p (at_data.Load page frame) s old = old
noted-spreads p (at_data.Store page frame) s old = old

act-spreads : (s : GuestState) (p v : ℕ) (a : Act) → Spreads s → Spreads (act_done s p v a)
act-spreads s p v (StoresTo q) old = old
act-spreads s p v (ReadsDisk b q) old = spread-page s.around s.pages q (with_first _ (page s q)) old (λ there was. was)
act-spreads s p v (WritesDisk b q) old = old
act-spreads s p v (SendsPage q length to) old = old
act-spreads s p v (WritesEntry index) old = old
act-spreads s p v NoAct old = old

taken-spreads : (s : GuestState) (q : ℕ) (target : Copy) → Spreads s → SpreadOver s.around (set s.pages q (taken target (page s q)))
taken-spreads s q target old = spread-page s.around s.pages q (taken target (page s q)) old (λ there was. taken-spread s.around (page s q) target)

finished-spreads : (s : GuestState) (q : ℕ) (m : Move) → Consistent s → (page s q).move ≡ Some m → Spreads s → SpreadOver s.around (set s.pages q (finished m.change (page s q)))
finished-spreads s q m co is old = spread-page s.around s.pages q (finished m.change (page s q)) old
    (λ there was. finished-spread s.around (sources s) (length s.processors) (operation_of s q) (page s q) m (co.by_page q there) is was)

unloads-spreads : (s : GuestState) (p : ℕ) → Spreads s → SpreadOver s.around (map (left_by p) s.pages)
unloads-spreads s p old q lt =
    let within : q < length s.pages = rw length-map at lt in
    subst (Spread s.around) (sym (get_or-map (left_by p) s.pages q no_page no_page within)) (left-spread s.around p (page s q) (old q within))

-- each row keeps it; coherence is used where a move is done
pub row-spreads : (s t : GuestState) (e : Event) → (s.end ≡ None → Consistent s) → Row s e t → Spreads s → Spreads t
row-spreads s t (Load p v) co row old = subst Spreads (sym row.after) old
row-spreads s t (Unload p) co row old = subst Spreads (sym row.after) (unloads-spreads s p.0 old)
row-spreads s t (Direct p v) co row old =
    let d = row.done in
    let done = accessed (with_inputs s v.0) v.0 (data_reached d) d.does.registers d.does.request in
    subst Spreads (sym (steps-after s t p.0 v.0 row)) (noted-spreads p.0 (told s v.0 d) (ticked done v.0) (accessed-spreads (with_inputs s v.0) v.0 (data_reached d) d.does.registers d.does.request old))
row-spreads s t (Refill p) co row old = subst Spreads (sym row.after) (spread-page s.around s.pages (row.offset / 4096) (named_by p.0 (page s (row.offset / 4096))) old (λ there was. was))
row-spreads s t (Emulate p v) co row old = ⊎_elim
    (λ (x : Emulates s p.0 v.0 t). subst Spreads (sym x.after) (act-spreads s p.0 v.0 (at_hand s v.0) old))
    (λ (x : EndsRead s p.0 v.0 t). subst Spreads (sym x.after) (taken-spreads s x.q x.target old))
    row
row-spreads s t (Begin q kind node by) co row old =
    let g = page s q.0 in
    subst Spreads (sym row.after) (spread-page s.around s.pages q.0 (begun row.change g) old
    (λ there was. begun-spread s g node.0 row.change row.operation row.rest was row.rests
    (subst (λ (k : MoveKind). PlaceFits s.around g k node.0) (sym row.is_kind) (asks-place s by (record { page = q.0; kind = kind; node = node.0 }) row.operation row.asked))
    row.fits))
row-spreads s t (Ack p q) co row old = subst Spreads (sym row.after) (spread-page s.around s.pages q.0 (left_by p.0 (page s q.0)) old (λ there was. left-spread s.around p.0 (page s q.0) was))
row-spreads s t (Finish q) co row old = ⊎_elim
    (λ (x : Finishes s q.0 t). subst Spreads (sym x.after) (finished-spreads s q.0 x.move (co x.goes_on.not_ended) x.open_move old))
    (λ (x : LetsGo s q.0 t). subst Spreads (sym x.after) (finished-spreads s q.0 (record { change = TakesShared x.target; waiting = x.waiting }) (co x.not_ended) x.open_move old))
    row
row-spreads s t (PacketIn k) co row old = ⊎_elim
    (λ (x : Receives s k t). subst Spreads (sym x.after) (spread-page s.around s.pages x.q (with_first x.packet.bytes (page s x.q)) old (λ there was. was)))
    (λ (x : EndsDelivery s k t). subst Spreads (sym x.after) (taken-spreads s x.q x.target old))
    row
row-spreads s t (Discard k) co row old = subst Spreads (sym row.after) old
row-spreads s t (Skip k) co row old = subst Spreads (sym row.after) old
row-spreads s t (CellFails c) co row old = subst Spreads (sym row.after) old
row-spreads s t (Ending end) co row old = subst Spreads (sym row.after) (λ q lt. absurd (below q lt))
  where
    below : (q : ℕ) → q < 0 → ⊥
    below q lt = omega arith

silent-spreads : (s t : GuestState) → Silent s t → Spreads s → Spreads t
silent-spreads s t step old = ⊎_elim (λ (e : t ≡ s). subst Spreads (sym e) old) (λ (x : ComesToHand s t). subst Spreads (sym x.after) old) step

-- coherence until the end, by the law
itself : (s : GuestState) → (s.end ≡ None → Consistent s) → Kept s (content s)
itself s co = record { coherent = co; same = λ _. refl; console = refl; sent = refl }

pub run-spreads : (s t : GuestState) (journal : List Event) → (s.end ≡ None → Consistent s) → Mirrors s → Spreads s → Run s journal t → Spreads t
run-spreads s t [] co mirrors old run = silent-spreads s t run old
run-spreads s t (e ∷ journal) co mirrors old run =
    let here = silent s run.0 (content s) (itself s co) run.2 in
    let before = silent-mirrors s run.0 mirrors run.2 in
    let next = step run.0 run.1 e run.1.received (content run.0) (same_packets run.1.received run.1.received refl) (itself run.0 here.coherent) before run.3 in
    run-spreads run.1 t journal next.coherent (row-mirrors run.0 run.1 e before run.3) (row-spreads run.0 run.1 e here.coherent run.3 (silent-spreads s run.0 run.2 old)) run.4

pub start-spreads : (b : Boot) → Spreads (start b)
start-spreads b = by b.frames b.image.memory
  where
    by : (fs : List Found) (memory : List ℕ) → SpreadOver b.around (pages_at_start fs memory)
    by [] memory q lt = absurd (omega arith)
    by (f ∷ fs) memory zero lt = ((λ h. h, tt), λ is. refl)
    by (f ∷ fs) memory (suc q) lt = by fs (drop 4096 memory) q (omega arith)
