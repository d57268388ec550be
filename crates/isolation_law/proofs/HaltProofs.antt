-- A virtual processor that has halted stays so, whatever entry comes, and no entry is a step of it.
use Rattle.std.proofs.Common.{◌≡◌, ℕ, zero, suc, true, false, ⊎_elim, Option, List, [], ◌∷◌, sym, subst}
use Rattle.base_words.specs.declared.events.Event.{Event}
use Rattle.base_words.specs.declared.events.Event.TheVariants.{Load, Unload, Direct, Refill, Emulate, Begin, Ack, Finish, PacketIn, Discard, Skip, CellFails, End as Ending}
use Rattle.base_words.specs.declared.ids.ProcId.{ProcId}
use Rattle.base_words.specs.declared.ids.VcpuId.{VcpuId}
use Rattle.base_words.specs.declared.trap.DataAccess.{DataAccess}
use Rattle.base_words.specs.declared.trap.DataAccess.TheVariants as at_data
use Rattle.private_machine.specs.DirectAccess.{data_reached, data_told, stepped_through}
use Rattle.private_machine.specs.HardwareStep.{Done}
use Rattle.private_machine.specs.Vcpu.{with_registers, ticking, with_cp0}
use Rattle.private_machine.specs.RegisterPage.{registers_after}
use Rattle.private_machine.specs.declared.vcpu.Vcpu.{Vcpu}
use Rattle.isolation_law.specs.Content.{content}
use Rattle.isolation_law.specs.DirectStep.{with_inputs, held_of, relinked, with_held, ticked_with, data_noted, direct}
use Rattle.isolation_law.specs.EndRows.{LetsGo}
use Rattle.isolation_law.specs.GuestState.{GuestState, vcpu_of, block_at}
use Rattle.isolation_law.specs.MachineEvent.{Row}
use Rattle.isolation_law.specs.MoveRows.{Finishes}
use Rattle.isolation_law.specs.PacketRows.{ComesToHand, Receives, EndsDelivery}
use Rattle.isolation_law.specs.Run.{Silent, Run}
use Rattle.isolation_law.specs.StepRows.{Emulates, EndsRead}
use Rattle.isolation_law.proofs.HaltEffects.{KeepHalts, set-keep, joined-keep, own-keep, packet-keep}

-- links that are put back
relinked-keep : (links : List (Option ℕ)) (cs : List Vcpu) → KeepHalts cs (relinked links cs)
relinked-keep [] cs v e = e
relinked-keep (link ∷ links) [] v e = e
relinked-keep (link ∷ links) (c ∷ cs) zero e = e
relinked-keep (link ∷ links) (c ∷ cs) (suc v) e = relinked-keep links cs v e

noted-keep : (p : ℕ) (a : DataAccess) (s : GuestState) → KeepHalts s.vcpus (data_noted p a s).vcpus
noted-keep p at_data.NoData s = λ v e. e
noted-keep p (at_data.Load page frame) s = λ v e. e
noted-keep p (at_data.Store page frame) s = λ v e. e

-- a step through the TLB
direct-keep : (s : GuestState) (p v : ℕ) (d : Done) → KeepHalts s.vcpus (direct s p v d).vcpus
direct-keep s p v d u e =
    let before = with_inputs s v in
    let after = stepped_through v (block_at before v) (held_of before) d in
    let held = with_held after.held before in
    let linked : (vcpu_of held u).halted ≡ true = relinked-keep after.held.links before.vcpus u (joined-keep (content s) v u e) in
    let done = ticked_with v after.registers d.does.request held in
    let left : (vcpu_of done u).halted ≡ true = set-keep held.vcpus v (ticking (with_cp0 (registers_after d.does.request (vcpu_of held v).cp0) (with_registers after.registers (vcpu_of held v)))) (λ own. own) u linked in
    noted-keep p (data_told v (data_reached d) d.does.request (held_of before)) done u left

-- what a row leaves
left-keep : (s t made : GuestState) → t ≡ made → KeepHalts s.vcpus made.vcpus → KeepHalts s.vcpus t.vcpus
left-keep s t made after keep = subst (λ (x : GuestState). KeepHalts s.vcpus x.vcpus) (sym after) keep

pub row-keep : (s t : GuestState) (e : Event) → Row s e t → KeepHalts s.vcpus t.vcpus
row-keep s t (Load p v) row = left-keep s t _ row.after (λ u e. e)
row-keep s t (Unload p) row = left-keep s t _ row.after (λ u e. e)
row-keep s t (Direct p v) row = left-keep s t _ row.after (direct-keep s p.0 v.0 row.done)
row-keep s t (Refill p) row = left-keep s t _ row.after (λ u e. e)
row-keep s t (Emulate p v) row = ⊎_elim
    (λ (x : Emulates s p.0 v.0 t). left-keep s t _ x.after (own-keep (content s) v.0))
    (λ (x : EndsRead s p.0 v.0 t). left-keep s t _ x.after (own-keep (content s) v.0))
    row
row-keep s t (Begin q kind node by) row = left-keep s t _ row.after (λ u e. e)
row-keep s t (Ack p q) row = left-keep s t _ row.after (λ u e. e)
row-keep s t (Finish q) row = ⊎_elim
    (λ (x : Finishes s q.0 t). left-keep s t _ x.after (λ u e. e))
    (λ (x : LetsGo s q.0 t). left-keep s t _ x.after (λ u e. e))
    row
row-keep s t (PacketIn k) row = ⊎_elim
    (λ (x : Receives s k t). left-keep s t _ x.after (packet-keep (content s) x.packet.from x.packet.bytes s.devices.armed))
    (λ (x : EndsDelivery s k t). left-keep s t _ x.after (packet-keep (content s) x.packet.from x.packet.bytes s.devices.armed))
    row
row-keep s t (Discard k) row = left-keep s t _ row.after (λ u e. e)
row-keep s t (Skip k) row = left-keep s t _ row.after (λ u e. e)
row-keep s t (CellFails c) row = left-keep s t _ row.after (λ u e. e)
row-keep s t (Ending end) row = left-keep s t _ row.after (λ u e. e)

silent-keep : (s t : GuestState) → Silent s t → KeepHalts s.vcpus t.vcpus
silent-keep s t silent = ⊎_elim (λ (e : t ≡ s). left-keep s t s e (λ u e. e)) (λ (x : ComesToHand s t). left-keep s t _ x.after (λ u e. e)) silent

pub run-keep : (s t : GuestState) (journal : List Event) → Run s journal t → KeepHalts s.vcpus t.vcpus
run-keep s t [] run = silent-keep s t run
run-keep s t (e ∷ journal) run = λ u halted. run-keep run.1 t journal run.4 u (row-keep run.0 run.1 e run.3 u (silent-keep s run.0 run.2 u halted))

-- who makes a step hasn't halted
pub direct-runs : (s t : GuestState) (p : ProcId) (v : VcpuId) → Row s (Direct p v) t → (vcpu_of s v.0).halted ≡ false
direct-runs s t p v row = row.runs.running

pub emulated-runs : (s t : GuestState) (p : ProcId) (v : VcpuId) → Row s (Emulate p v) t → (vcpu_of s v.0).halted ≡ false
emulated-runs s t p v row = ⊎_elim (λ (x : Emulates s p.0 v.0 t). x.traps.runs.running) (λ (x : EndsRead s p.0 v.0 t). x.traps.runs.running) row
