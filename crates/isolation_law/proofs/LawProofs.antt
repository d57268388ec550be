-- The law over all journals, by induction on the journal.
use Rattle.isolation_law.specs.DirectStep.{data_noted}
use Rattle.base_words.specs.declared.trap.DataAccess.{DataAccess}
use Rattle.std.proofs.Common.{◌≡◌, ℕ, ◌<◌, Bool, true, false, ⊎_elim, Some, None, List, [], ◌∷◌, ◌++◌, length, get_or, refl, sym, ap, ◌∙◌, subst, arith}
use Rattle.std.proofs.lemmas.List.{append-nil, append_assoc, get_or_append_left, get_or_push, length_push}
use Rattle.base_words.specs.declared.regs.Regs.{Regs}
use Rattle.private_machine.specs.Reaching.{Reached}
use Rattle.private_machine.specs.Operation.{Packet}
use Rattle.private_machine.specs.OwnStep.{own_step}
use Rattle.private_machine.specs.PrivateMachine.{PrivateMachine}
use Rattle.private_machine.specs.PrivateRun.{own_event, private_run}
use Rattle.isolation_law.proofs.Stepping.{stored_if, accessed, told, steps-after}
use Rattle.base_words.specs.declared.trap.DataAccess.TheVariants as at_data
use Rattle.base_words.specs.declared.events.OwnEvent.{OwnEvent}
use Rattle.base_words.specs.declared.events.OwnEvent.TheVariants as seen_as
use Rattle.isolation_law.specs.OwnHistory.{arrives}
use Rattle.isolation_law.specs.Coherence.{Consistent, Coherent}
use Rattle.isolation_law.specs.Mirrors.{Mirrors}
use Rattle.isolation_law.proofs.MirrorProofs.{row-mirrors, hand-mirrors}
use Rattle.isolation_law.specs.Content.{content}
use Rattle.isolation_law.specs.EndRows.{LetsGo}
use Rattle.isolation_law.specs.GuestState.{GuestState}
use Rattle.isolation_law.specs.MachineEvent.{Row}
use Rattle.isolation_law.specs.MoveRows.{Finishes}
use Rattle.isolation_law.specs.OwnHistory.{no_packet, own}
use Rattle.isolation_law.specs.PacketRows.{ComesToHand, Receives, EndsDelivery}
use Rattle.isolation_law.specs.Run.{Silent, Run}
use Rattle.isolation_law.specs.StepAct.{at_hand}
use Rattle.private_machine.specs.DeviceAct.{Act, StoresTo, ReadsDisk, WritesDisk, SendsPage, WritesEntry, NoAct}
use Rattle.isolation_law.specs.StepRows.{act_done, Emulates, EndsRead}
use Rattle.base_words.specs.declared.effect.Request.{Request}
use Rattle.base_words.specs.declared.effect.Request.TheVariants as asks
use Rattle.base_words.specs.declared.events.Event.{Event}
use Rattle.base_words.specs.declared.events.Event.TheVariants.{Load, Unload, Direct, Refill, Emulate, Begin, Ack, Finish, PacketIn, Discard, Skip, CellFails, End as Ending}
use Rattle.isolation_law.proofs.LeaveProofs.{loads_keeps, loads_content, acks_keeps, acks_content}
use Rattle.isolation_law.proofs.UnloadProofs.{unloads_keeps, unloads_content}
use Rattle.isolation_law.proofs.StepKeeps.{steps_keeps}
use Rattle.isolation_law.proofs.StepContent.{steps-content}
use Rattle.isolation_law.proofs.RefillProofs.{refills_keeps, refills_content}
use Rattle.isolation_law.proofs.TrapProofs.{emulated-no-store}
use Rattle.isolation_law.proofs.EmulateProofs.{emulates_keeps, ends_read_keeps}
use Rattle.isolation_law.proofs.EmulateContent.{emulates_content, ends_read_content, receives_content, ends_delivery_content}
use Rattle.isolation_law.proofs.BeginProofs.{begins_keeps, begins_content}
use Rattle.isolation_law.proofs.FinishProofs.{finishes_keeps, finishes_content}
use Rattle.isolation_law.proofs.PacketProofs.{receives_keeps, ends_delivery_keeps}
use Rattle.isolation_law.proofs.SmallRows.{skips_keeps, skips_content, fails_keeps, fails_content, hand_keeps, hand_content, discards_keeps, discards_content, lets_go_keeps, lets_go_content}

-- what an entry does to the private machine
abbrev pub after : List Packet → PrivateMachine → Event → PrivateMachine
after packets m (Load p v) = m
after packets m (Unload p) = m
after packets m (Direct p v) = own_step m v.0
after packets m (Refill p) = m
after packets m (Emulate p v) = own_step m v.0
after packets m (Begin q kind node by) = m
after packets m (Ack p q) = m
after packets m (Finish q) = m
after packets m (PacketIn k) = own_event m (arrives (get_or packets k no_packet))
after packets m (Discard k) = m
after packets m (Skip k) = m
after packets m (CellFails c) = m
after packets m (Ending end) = m

own-cons : (packets : List Packet) (m : PrivateMachine) (e : Event) (j : List Event) → private_run m (own packets (e ∷ j)) ≡ private_run (after packets m e) (own packets j)
own-cons packets m (Load p v) j = refl
own-cons packets m (Unload p) j = refl
own-cons packets m (Direct p v) j = refl
own-cons packets m (Refill p) j = refl
own-cons packets m (Emulate p v) j = refl
own-cons packets m (Begin q kind node by) j = refl
own-cons packets m (Ack p q) j = refl
own-cons packets m (Finish q) j = refl
own-cons packets m (PacketIn k) j = refl
own-cons packets m (Discard k) j = refl
own-cons packets m (Skip k) j = refl
own-cons packets m (CellFails c) j = refl
own-cons packets m (Ending end) j = refl

-- the packets received are more and more
abbrev pub Extends : List Packet → List Packet → Type 0
Extends xs ys = (zs : List Packet) × (ys ≡ xs ++ zs)

pub same_packets : (xs ys : List Packet) → ys ≡ xs → Extends xs ys
same_packets xs ys e = ([], e ∙ sym (append-nil xs))

further : (xs ys zs : List Packet) → Extends xs ys → Extends ys zs → Extends xs zs
further xs ys zs a b = (a.0 ++ b.0, b.1 ∙ ap (λ (l : List Packet). l ++ b.0) a.1 ∙ append_assoc xs a.0 b.0)

act-received : (s : GuestState) (p v : ℕ) (a : Act) → (act_done s p v a).received ≡ s.received
act-received s p v (StoresTo q) = refl
act-received s p v (ReadsDisk b q) = refl
act-received s p v (WritesDisk b q) = refl
act-received s p v (SendsPage q length to) = refl
act-received s p v (WritesEntry index) = refl
act-received s p v NoAct = refl

accessed-received : (s : GuestState) (v : ℕ) (h : Reached) (regs : Regs) (r : Request) → (accessed s v h regs r).received ≡ s.received
accessed-received s v h regs asks.Nothing = refl
accessed-received s v h regs (asks.Load kind address target) = refl
accessed-received s v h regs (asks.Store kind address value) = refl
accessed-received s v h regs (asks.LoadLinked address target) = refl
accessed-received s v h regs (asks.StoreConditional address value target) = by _
  where
    by : (b : Bool) → (stored_if b s v h regs address value target).received ≡ s.received
    by true = refl
    by false = refl
accessed-received s v h regs (asks.ReadCp0 number target) = refl
accessed-received s v h regs (asks.WriteCp0 number value) = refl
accessed-received s v h regs (asks.System op) = refl

noted-received : (p : ℕ) (a : DataAccess) (s : GuestState) → (data_noted p a s).received ≡ s.received
noted-received p at_data.NoData s = refl
noted-received p (at_data.Load page frame) s = refl
noted-received p (at_data.Store page frame) s = refl

silent_packets : (s t : GuestState) → Silent s t → t.received ≡ s.received
silent_packets s t silent = ⊎_elim (λ (e : t ≡ s). ap (λ (x : GuestState). x.received) e) (λ (x : ComesToHand s t). ap (λ (y : GuestState). y.received) x.after) silent

row_packets : (s t : GuestState) (e : Event) → Row s e t → Extends s.received t.received
row_packets s t (Load p v) row = same_packets _ _ (ap (λ (x : GuestState). x.received) row.after)
row_packets s t (Unload p) row = same_packets _ _ (ap (λ (x : GuestState). x.received) row.after)
row_packets s t (Direct p v) row =
    let d = row.done in
    same_packets _ _ (ap (λ (x : GuestState). x.received) (steps-after s t p.0 v.0 row) ∙ noted-received p.0 (told s v.0 d) _ ∙ accessed-received _ v.0 _ d.does.registers d.does.request)
row_packets s t (Refill p) row = same_packets _ _ (ap (λ (x : GuestState). x.received) row.after)
row_packets s t (Emulate p v) row = ⊎_elim
    (λ (x : Emulates s p.0 v.0 t). same_packets _ _ (ap (λ (y : GuestState). y.received) x.after ∙ act-received s p.0 v.0 (at_hand s v.0)))
    (λ (x : EndsRead s p.0 v.0 t). same_packets _ _ (ap (λ (y : GuestState). y.received) x.after))
    row
row_packets s t (Begin q kind node by) row = same_packets _ _ (ap (λ (x : GuestState). x.received) row.after)
row_packets s t (Ack p q) row = same_packets _ _ (ap (λ (x : GuestState). x.received) row.after)
row_packets s t (Finish q) row = ⊎_elim
    (λ (x : Finishes s q.0 t). same_packets _ _ (ap (λ (y : GuestState). y.received) x.after))
    (λ (x : LetsGo s q.0 t). same_packets _ _ (ap (λ (y : GuestState). y.received) x.after))
    row
row_packets s t (PacketIn k) row = ⊎_elim
    (λ (x : Receives s k t). (x.packet ∷ [], ap (λ (y : GuestState). y.received) x.after))
    (λ (x : EndsDelivery s k t). (x.packet ∷ [], ap (λ (y : GuestState). y.received) x.after))
    row
row_packets s t (Discard k) row = same_packets _ _ (ap (λ (x : GuestState). x.received) row.after)
row_packets s t (Skip k) row = same_packets _ _ (ap (λ (x : GuestState). x.received) row.after)
row_packets s t (CellFails c) row = same_packets _ _ (ap (λ (x : GuestState). x.received) row.after)
row_packets s t (Ending end) row = same_packets _ _ (ap (λ (x : GuestState). x.received) row.after)

pub run_packets : (s t : GuestState) (j : List Event) → Run s j t → Extends s.received t.received
run_packets s t [] run = same_packets s.received t.received (silent_packets s t run)
run_packets s t (e ∷ j) run =
    further s.received run.1.received t.received
    (further s.received run.0.received run.1.received (same_packets s.received run.0.received (silent_packets s run.0 run.2)) (row_packets run.0 run.1 e run.3))
    (run_packets run.1 t j run.4)

-- coherent, with this content, until the guest ends; what it printed and sent for good
pub record Kept (s : GuestState) (m : PrivateMachine) : Type 0 where
  pub coherent : s.end ≡ None → Consistent s
  pub same : s.end ≡ None → content s ≡ m
  pub console : s.devices.console ≡ m.devices.console
  pub sent : s.devices.sent ≡ m.devices.sent

known : (t : GuestState) (m : PrivateMachine) → Consistent t → content t ≡ m → Kept t m
known t m co now = record {
  coherent = λ _. co;
  same = λ _. now;
  console = ap (λ (x : PrivateMachine). x.devices.console) now;
  sent = ap (λ (x : PrivateMachine). x.devices.sent) now;
}

-- an entry that is none of the guest's own
quiet : (s t : GuestState) (m : PrivateMachine) → Kept s m → s.end ≡ None → (Consistent s → Consistent t) → content t ≡ content s → Kept t m
quiet s t m kept on keeps same = known t m (keeps (kept.coherent on)) (same ∙ kept.same on)

-- an own event
owned : (s t : GuestState) (m : PrivateMachine) (e : OwnEvent) → Kept s m → s.end ≡ None → (Consistent s → Consistent t) → (Consistent s → content t ≡ own_event (content s) e) → Kept t (own_event m e)
owned s t m e kept on keeps does = known t (own_event m e) (keeps (kept.coherent on)) (does (kept.coherent on) ∙ ap (λ (x : PrivateMachine). own_event x e) (kept.same on))

-- an entry that may also come after the end
late : (s t : GuestState) (m : PrivateMachine) → Kept s m → t.end ≡ s.end → t.devices ≡ s.devices → (Consistent s → Consistent t) → content t ≡ content s → Kept t m
late s t m kept ended devices keeps same = record {
  coherent = λ on. keeps (kept.coherent (sym ended ∙ on));
  same = λ on. same ∙ kept.same (sym ended ∙ on);
  console = ap (λ d. d.console) devices ∙ kept.console;
  sent = ap (λ d. d.sent) devices ∙ kept.sent;
}

pub silent : (s t : GuestState) (m : PrivateMachine) → Kept s m → Silent s t → Kept t m
silent s t m kept step = ⊎_elim
    (λ (e : t ≡ s). subst (λ (x : GuestState). Kept x m) (sym e) kept)
    (λ (x : ComesToHand s t). quiet s t m kept x.goes_on.not_ended (λ co. hand_keeps s t co x) (hand_content s t x))
    step

-- the packet of an entry, in the list of all that were received in the end
seen : (s t : GuestState) (k : ℕ) (packet : Packet) (packets : List Packet) → k ≡ length s.received → t.received ≡ s.received ++ packet ∷ [] → Extends t.received packets → get_or packets k no_packet ≡ packet
seen s t k packet packets next now ext =
    let below : k < length (s.received ++ packet ∷ []) = omega (arith, length_push s.received packet) in
    ap (λ (l : List Packet). get_or l k no_packet) (ext.1 ∙ ap (λ (l : List Packet). l ++ ext.0) now)
    ∙ get_or_append_left (s.received ++ packet ∷ []) ext.0 no_packet k below
    ∙ get_or_push s.received packet no_packet k (sym next)

-- where the packets received in the end extend those received so far
pub step : (s t : GuestState) (e : Event) (packets : List Packet) (m : PrivateMachine) → Extends t.received packets → Kept s m → Mirrors s → Row s e t → Kept t (after packets m e)
step s t (Load p v) packets m ext kept mirrors row = quiet s t m kept row.goes_on.not_ended (λ co. loads_keeps s t p.0 v.0 co row) (loads_content s t p.0 v.0 row)
step s t (Unload p) packets m ext kept mirrors row = late s t m kept (ap (λ (x : GuestState). x.end) row.after) (ap (λ (x : GuestState). x.devices) row.after) (λ co. unloads_keeps s t p.0 co row) (unloads_content s t p.0 row)
step s t (Direct p v) packets m ext kept mirrors row = owned s t m (seen_as.Step v) kept row.goes_on.not_ended (λ co. steps_keeps s t p.0 v.0 co row) (λ co. steps-content s t p.0 v.0 co mirrors row)
step s t (Refill p) packets m ext kept mirrors row = quiet s t m kept row.goes_on.not_ended (λ co. refills_keeps s t p.0 co row) (refills_content s t p.0 row)
step s t (Emulate p v) packets m ext kept mirrors row = ⊎_elim
    (λ (x : Emulates s p.0 v.0 t). owned s t m (seen_as.Step v) kept x.traps.goes_on.not_ended
    (λ co. emulates_keeps s t p.0 v.0 co x (emulated-no-store s p.0 v.0 co x.traps))
    (λ co. emulates_content s t p.0 v.0 co x (emulated-no-store s p.0 v.0 co x.traps)))
    (λ (x : EndsRead s p.0 v.0 t). owned s t m (seen_as.Step v) kept x.traps.goes_on.not_ended (λ co. ends_read_keeps s t p.0 v.0 co x) (λ co. ends_read_content s t p.0 v.0 co x))
    row
step s t (Begin q kind node by) packets m ext kept mirrors row = quiet s t m kept row.goes_on.not_ended (λ co. begins_keeps s t q.0 kind node.0 by co row) (begins_content s t q.0 kind node.0 by row)
step s t (Ack p q) packets m ext kept mirrors row = quiet s t m kept row.goes_on.not_ended (λ co. acks_keeps s t p.0 q.0 co row) (acks_content s t p.0 q.0 row)
step s t (Finish q) packets m ext kept mirrors row = ⊎_elim
    (λ (x : Finishes s q.0 t). quiet s t m kept x.goes_on.not_ended (λ co. finishes_keeps s t q.0 co x) (finishes_content s t q.0 x))
    (λ (x : LetsGo s q.0 t). quiet s t m kept x.not_ended (λ co. lets_go_keeps s t q.0 co x) (lets_go_content s t q.0 x))
    row
step s t (PacketIn k) packets m ext kept mirrors row = ⊎_elim
    (λ (x : Receives s k t). subst (λ (y : Packet). Kept t (own_event m (arrives y))) (sym (seen s t k x.packet packets x.delivered.next (ap (λ (y : GuestState). y.received) x.after) ext))
    (owned s t m (arrives x.packet) kept x.delivered.goes_on.not_ended (λ co. receives_keeps s t k co x) (λ co. receives_content s t k co x)))
    (λ (x : EndsDelivery s k t). subst (λ (y : Packet). Kept t (own_event m (arrives y))) (sym (seen s t k x.packet packets x.delivered.next (ap (λ (y : GuestState). y.received) x.after) ext))
    (owned s t m (arrives x.packet) kept x.delivered.goes_on.not_ended (λ co. ends_delivery_keeps s t k co x) (λ co. ends_delivery_content s t k co x)))
    row
step s t (Discard k) packets m ext kept mirrors row = quiet s t m kept row.goes_on.not_ended (λ co. discards_keeps s t k co row) (discards_content s t k row)
step s t (Skip k) packets m ext kept mirrors row = late s t m kept (ap (λ (x : GuestState). x.end) row.after) (ap (λ (x : GuestState). x.devices) row.after) (λ co. skips_keeps s t k co row) (skips_content s t k row)
step s t (CellFails c) packets m ext kept mirrors row = late s t m kept (ap (λ (x : GuestState). x.end) row.after) (ap (λ (x : GuestState). x.devices) row.after) (λ co. fails_keeps s t c.0 co row) (fails_content s t c.0 row)
step s t (Ending end) packets m ext kept mirrors row =
    let over : t.end ≡ Some end = ap (λ (x : GuestState). x.end) row.after in
    record {
      coherent = λ on. absurd (some-none end (sym over ∙ on));
      same = λ on. absurd (some-none end (sym over ∙ on));
      console = ap (λ (x : GuestState). x.devices.console) row.after ∙ kept.console;
      sent = ap (λ (x : GuestState). x.devices.sent) row.after ∙ kept.sent;
    }
  where
    some-none : {A : Type 0} (x : A) → Some x ≡ None → ⊥
    some-none x e = cc

pub silent-mirrors : (s t : GuestState) → Mirrors s → Silent s t → Mirrors t
silent-mirrors s t mirrors step = ⊎_elim
    (λ (e : t ≡ s). subst Mirrors (sym e) mirrors)
    (λ (x : ComesToHand s t). hand-mirrors s t mirrors x)
    step

run_with : (s t : GuestState) (j : List Event) (packets : List Packet) (m : PrivateMachine) → Extends t.received packets → Kept s m → Mirrors s → Run s j t → Kept t (private_run m (own packets j))
run_with s t [] packets m ext kept mirrors run = silent s t m kept run
run_with s t (e ∷ j) packets m ext kept mirrors run =
    let rest : Extends run.1.received packets = further run.1.received t.received packets (run_packets run.1 t j run.4) ext in
    let before = silent-mirrors s run.0 mirrors run.2 in
    subst (Kept t) (sym (own-cons packets m e j)) (run_with run.1 t j packets (after packets m e) ext (step run.0 run.1 e packets m rest (silent s run.0 m kept run.2) before run.3) (row-mirrors run.0 run.1 e before run.3) run.4)

pub run-mirrors : (s t : GuestState) (j : List Event) → Mirrors s → Run s j t → Mirrors t
run-mirrors s t [] mirrors run = silent-mirrors s t mirrors run
run-mirrors s t (e ∷ j) mirrors run = run-mirrors run.1 t j (row-mirrors run.0 run.1 e (silent-mirrors s run.0 mirrors run.2) run.3) run.4

pub run_kept : (s t : GuestState) (j : List Event) (m : PrivateMachine) → Kept s m → Mirrors s → Run s j t → Kept t (private_run m (own t.received j))
run_kept s t j m kept mirrors run = run_with s t j t.received m (same_packets t.received t.received refl) kept mirrors run

pub start_kept : (s : GuestState) → Consistent s → Kept s (content s)
start_kept s co = known s (content s) co refl

-- the same with the register pages
pub run_coherent : (s t : GuestState) (j : List Event) → Coherent s → Run s j t → t.end ≡ None → Coherent t
run_coherent s t j co run on = record {
  consistent = (run_kept s t j (content s) (start_kept s co.consistent) co.mirrors run).coherent on;
  mirrors = run-mirrors s t j co.mirrors run;
}
