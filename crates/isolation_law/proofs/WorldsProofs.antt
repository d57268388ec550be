-- Two worlds, and one virtual processor.
use Rattle.std.proofs.Common.{◌≡◌, ℕ, zero, suc, ◌+◌, false, ⊎_elim, List, [], ◌∷◌, ◌++◌, length, get_or, replicate, refl, sym, ap, ◌∙◌, subst, arith}
use Rattle.std.proofs.lemmas.List.{length-append}
use Rattle.std.proofs.lemmas.List.{length-replicate}
use Rattle.base_words.specs.declared.events.Event.{Event}
use Rattle.base_words.specs.declared.events.Event.TheVariants.{Load, Unload, Direct, Refill, Emulate, Begin, Ack, Finish, PacketIn, Discard, Skip, CellFails, End as Ending}
use Rattle.base_words.specs.declared.events.OwnEvent.{OwnEvent}
use Rattle.base_words.specs.declared.events.OwnEvent.TheVariants as seen
use Rattle.base_words.specs.declared.ids.VcpuId.{VcpuId}
use Rattle.base_words.specs.declared.trap.DataAccess.{DataAccess}
use Rattle.base_words.specs.declared.trap.DataAccess.TheVariants as at_data
use Rattle.private_machine.specs.declared.vcpu.Vcpu.{Vcpu}
use Rattle.private_machine.specs.Vcpu.{no_vcpu, ticking}
use Rattle.private_machine.specs.Operation.{Packet}
use Rattle.private_machine.specs.DirectAccess.{data_reached}
use Rattle.private_machine.specs.PrivateMachine.{PrivateMachine}
use Rattle.private_machine.specs.PrivateRun.{booted, private_run}
use Rattle.isolation_law.specs.GuestState.{GuestState, vcpu_of}
use Rattle.isolation_law.specs.Content.{content}
use Rattle.isolation_law.specs.DirectStep.{with_inputs, data_noted}
use Rattle.isolation_law.specs.Isolation.{Isolated}
use Rattle.isolation_law.specs.MachineEvent.{Row}
use Rattle.isolation_law.specs.MoveRows.{Finishes}
use Rattle.isolation_law.specs.EndRows.{LetsGo}
use Rattle.isolation_law.specs.OwnHistory.{own, own_steps}
use Rattle.isolation_law.specs.PacketRows.{ComesToHand, Receives, EndsDelivery}
use Rattle.isolation_law.specs.Run.{Silent, Run}
use Rattle.isolation_law.specs.Start.{Boot, private_start, start}
use Rattle.isolation_law.specs.StepRows.{Emulates, EndsRead}
use Rattle.isolation_law.specs.Worlds.{SameGuest, SameOutput}
use Rattle.isolation_law.proofs.DirectContent.{tlbs-joined}
use Rattle.isolation_law.proofs.LawProofs.{Extends, run_packets}
use Rattle.isolation_law.proofs.PacketProofs.{packet-tlbs}
use Rattle.isolation_law.proofs.Stepping.{accessed, ticked, told, steps-after}
use Rattle.isolation_law.proofs.StepKeeps.{accessed-tlbs}
use Rattle.isolation_law.proofs.TlbEffects.{same-tlbs}
use Rattle.isolation_law.proofs.VcpuCounts.{by-tlbs, own-count}

same-start : (b c : Boot) → SameGuest b c → private_start b ≡ private_start c
same-start b c same = λ i. booted (same.image i) (same.vcpus i) (same.profile i) (same.disk i) (same.input i)

pub two-worlds : (b c : Boot) (j k : List Event) (t u : GuestState) → Isolated b j t → Isolated c k u → SameGuest b c → own t.received j ≡ own u.received k → SameOutput t u
two-worlds b c j k t u here there same equal =
    let machines : private_run (private_start b) (own t.received j) ≡ private_run (private_start c) (own u.received k) = λ i. private_run (same-start b c same i) (equal i) in
    record {
      console = here.console ∙ ap (λ (m : PrivateMachine). m.devices.console) machines ∙ sym there.console;
      sent = here.sent ∙ ap (λ (m : PrivateMachine). m.devices.sent) machines ∙ sym there.sent;
    }

noted-vcpus : (p : ℕ) (a : DataAccess) (s : GuestState) → (data_noted p a s).vcpus ≡ s.vcpus
noted-vcpus p at_data.NoData s = refl
noted-vcpus p (at_data.Load page frame) s = refl
noted-vcpus p (at_data.Store page frame) s = refl

pub row-count : (s t : GuestState) (e : Event) → Row s e t → length t.vcpus ≡ length s.vcpus
row-count s t (Load p v) row = ap (λ (x : GuestState). length x.vcpus) row.after
row-count s t (Unload p) row = ap (λ (x : GuestState). length x.vcpus) row.after
row-count s t (Direct p v) row =
    let d = row.done in
    let u = with_inputs s v.0 in
    let done = accessed u v.0 (data_reached d) d.does.registers d.does.request in
    ap (λ (x : GuestState). length x.vcpus) (steps-after s t p.0 v.0 row)
    ∙ ap length (noted-vcpus p.0 (told s v.0 d) (ticked done v.0))
    ∙ by-tlbs (ticked done v.0).vcpus s.vcpus (same-tlbs done.vcpus v.0 (ticking (vcpu_of done v.0)) refl ∙ accessed-tlbs u v.0 (data_reached d) d.does.registers d.does.request ∙ tlbs-joined (content s) v.0)
row-count s t (Refill p) row = ap (λ (x : GuestState). length x.vcpus) row.after
row-count s t (Emulate p v) row = ⊎_elim
    (λ (x : Emulates s p.0 v.0 t). ap (λ (y : GuestState). length y.vcpus) x.after ∙ own-count s v.0 x.traps.runs.running)
    (λ (x : EndsRead s p.0 v.0 t). ap (λ (y : GuestState). length y.vcpus) x.after ∙ own-count s v.0 x.traps.runs.running)
    row
row-count s t (Begin q kind node by) row = ap (λ (x : GuestState). length x.vcpus) row.after
row-count s t (Ack p q) row = ap (λ (x : GuestState). length x.vcpus) row.after
row-count s t (Finish q) row = ⊎_elim
    (λ (x : Finishes s q.0 t). ap (λ (y : GuestState). length y.vcpus) x.after)
    (λ (x : LetsGo s q.0 t). ap (λ (y : GuestState). length y.vcpus) x.after)
    row
row-count s t (PacketIn k) row = ⊎_elim
    (λ (x : Receives s k t). ap (λ (y : GuestState). length y.vcpus) x.after ∙ by-tlbs _ s.vcpus (packet-tlbs (content s) x.packet.from x.packet.bytes s.devices.armed))
    (λ (x : EndsDelivery s k t). ap (λ (y : GuestState). length y.vcpus) x.after ∙ by-tlbs _ s.vcpus (packet-tlbs (content s) x.packet.from x.packet.bytes s.devices.armed))
    row
row-count s t (Discard k) row = ap (λ (x : GuestState). length x.vcpus) row.after
row-count s t (Skip k) row = ap (λ (x : GuestState). length x.vcpus) row.after
row-count s t (CellFails c) row = ap (λ (x : GuestState). length x.vcpus) row.after
row-count s t (Ending end) row = ap (λ (x : GuestState). length x.vcpus) row.after

silent-count : (s t : GuestState) → Silent s t → length t.vcpus ≡ length s.vcpus
silent-count s t silent = ⊎_elim (λ (e : t ≡ s). ap (λ (x : GuestState). length x.vcpus) e) (λ (x : ComesToHand s t). ap (λ (y : GuestState). length y.vcpus) x.after) silent

-- the one that runs is the first
first : (cs : List Vcpu) (v : ℕ) → length cs ≡ 1 → (get_or cs v no_vcpu).halted ≡ false → v ≡ 0
first [] v one running = cc
first (c ∷ cs) zero one running = refl
first (c ∷ []) (suc v) one running = cc
first (c ∷ d ∷ cs) (suc v) one running = absurd (omega arith)

-- steps of the first alone
abbrev steps_alone : ℕ → List OwnEvent
steps_alone n = replicate n (seen.Step (record { 0 = 0 }))

received-none : (xs : List Packet) (x : Packet) (ys : List Packet) → Extends (xs ++ x ∷ []) ys → ys ≡ [] → ⊥
received-none xs x ys ext none =
    let a = length-append (xs ++ x ∷ []) ext.0 in
    let b = length-append xs (x ∷ []) in
    let c : length ((xs ++ x ∷ []) ++ ext.0) ≡ 0 = ap length (sym ext.1 ∙ none) in
    absurd (omega arith)

one-step : (s a : GuestState) (v : VcpuId) → length s.vcpus ≡ 1 → Silent s a → (vcpu_of a v.0).halted ≡ false → seen.Step v ≡ seen.Step (record { 0 = 0 })
one-step s a v one silent running = ap (λ (n : ℕ). seen.Step (record { 0 = n })) (first a.vcpus v.0 (silent-count s a silent ∙ one) running)

only-steps : (s t : GuestState) (j : List Event) → length s.vcpus ≡ 1 → t.received ≡ [] → Run s j t → own t.received j ≡ steps_alone (own_steps j)
only-steps s t [] one none run = refl
only-steps s t (e ∷ j) one none run = each e run.3 (only-steps run.1 t j (row-count run.0 run.1 e run.3 ∙ silent-count s run.0 run.2 ∙ one) none run.4)
  where
    step : (v : VcpuId) → seen.Step v ≡ seen.Step (record { 0 = 0 }) → own t.received j ≡ steps_alone (own_steps j) → seen.Step v ∷ own t.received j ≡ steps_alone (1 + own_steps j)
    step v is rest =
        let count : suc (own_steps j) ≡ 1 + own_steps j = omega arith in
        (λ i. is i ∷ rest i) ∙ ap steps_alone count

    none-more : own t.received j ≡ steps_alone (own_steps j) → own t.received j ≡ steps_alone (0 + own_steps j)
    none-more rest = let count : own_steps j ≡ 0 + own_steps j = omega arith in rest ∙ ap steps_alone count

    each : (e : Event) → Row run.0 e run.1 → own t.received j ≡ steps_alone (own_steps j) → own t.received (e ∷ j) ≡ steps_alone (own_steps (e ∷ j))
    each (Load p v) row rest = none-more rest
    each (Unload p) row rest = none-more rest
    each (Direct p v) row rest = step v (one-step s run.0 v one run.2 row.runs.running) rest
    each (Refill p) row rest = none-more rest
    each (Emulate p v) row rest = step v (one-step s run.0 v one run.2 (⊎_elim (λ (x : Emulates run.0 p.0 v.0 run.1). x.traps.runs.running) (λ (x : EndsRead run.0 p.0 v.0 run.1). x.traps.runs.running) row)) rest
    each (Begin q kind node by) row rest = none-more rest
    each (Ack p q) row rest = none-more rest
    each (Finish q) row rest = none-more rest
    each (PacketIn k) row rest = absurd (⊎_elim
        (λ (x : Receives run.0 k run.1). received-none run.0.received x.packet t.received (subst (λ (l : List Packet). Extends l t.received) (ap (λ (y : GuestState). y.received) x.after) (run_packets run.1 t j run.4)) none)
        (λ (x : EndsDelivery run.0 k run.1). received-none run.0.received x.packet t.received (subst (λ (l : List Packet). Extends l t.received) (ap (λ (y : GuestState). y.received) x.after) (run_packets run.1 t j run.4)) none)
        row)
    each (Discard k) row rest = none-more rest
    each (Skip k) row rest = none-more rest
    each (CellFails c) row rest = none-more rest
    each (Ending end) row rest = none-more rest

pub one-vcpu : (b c : Boot) (j k : List Event) (t u : GuestState) → SameGuest b c → b.vcpus ≡ 1 → Run (start b) j t → Run (start c) k u → t.received ≡ [] → u.received ≡ [] → own_steps j ≡ own_steps k → own t.received j ≡ own u.received k
one-vcpu b c j k t u same one run other none none_there count =
    only-steps (start b) t j (length-replicate b.vcpus _ ∙ one) none run
    ∙ ap steps_alone count
    ∙ sym (only-steps (start c) u k (length-replicate c.vcpus _ ∙ sym same.vcpus ∙ one) none_there other)
