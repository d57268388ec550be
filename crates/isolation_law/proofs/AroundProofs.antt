-- What stands around a guest never changes.
use Rattle.isolation_law.specs.DirectStep.{data_noted}
use Rattle.base_words.specs.declared.trap.DataAccess.{DataAccess}
use Rattle.std.proofs.Common.{◌≡◌, ℕ, Bool, true, false, ⊎_elim, List, [], ◌∷◌, length, refl, ap, ◌∙◌}
use Rattle.base_words.specs.declared.regs.Regs.{Regs}
use Rattle.private_machine.specs.Reaching.{Reached}
use Rattle.isolation_law.proofs.Stepping.{stored_if, accessed, told, steps-after}
use Rattle.base_words.specs.declared.trap.DataAccess.TheVariants as at_data
use Rattle.isolation_law.specs.EndRows.{LetsGo}
use Rattle.isolation_law.specs.GuestState.{GuestState}
use Rattle.isolation_law.specs.MachineEvent.{Row}
use Rattle.isolation_law.specs.MoveRows.{Finishes}
use Rattle.isolation_law.specs.PacketRows.{ComesToHand, Receives, EndsDelivery}
use Rattle.isolation_law.specs.Run.{Silent, Run}
use Rattle.isolation_law.specs.StepAct.{at_hand}
use Rattle.private_machine.specs.DeviceAct.{Act, StoresTo, ReadsDisk, WritesDisk, SendsPage, WritesEntry, NoAct}
use Rattle.isolation_law.specs.StepRows.{act_done, Emulates, EndsRead}
use Rattle.base_words.specs.declared.effect.Request.{Request}
use Rattle.base_words.specs.declared.effect.Request.TheVariants as asks
use Rattle.base_words.specs.declared.events.Event.{Event}
use Rattle.base_words.specs.declared.events.Event.TheVariants.{Load, Unload, Direct, Refill, Emulate, Begin, Ack, Finish, PacketIn, Discard, Skip, CellFails, End as Ending}

act-around : (s : GuestState) (p v : ℕ) (a : Act) → (act_done s p v a).around ≡ s.around
act-around s p v (StoresTo q) = refl
act-around s p v (ReadsDisk b q) = refl
act-around s p v (WritesDisk b q) = refl
act-around s p v (SendsPage q length to) = refl
act-around s p v (WritesEntry index) = refl
act-around s p v NoAct = refl

accessed-around : (s : GuestState) (v : ℕ) (h : Reached) (regs : Regs) (r : Request) → (accessed s v h regs r).around ≡ s.around
accessed-around s v h regs asks.Nothing = refl
accessed-around s v h regs (asks.Load kind address target) = refl
accessed-around s v h regs (asks.Store kind address value) = refl
accessed-around s v h regs (asks.LoadLinked address target) = refl
accessed-around s v h regs (asks.StoreConditional address value target) = by _
  where
    by : (b : Bool) → (stored_if b s v h regs address value target).around ≡ s.around
    by true = refl
    by false = refl
accessed-around s v h regs (asks.ReadCp0 number target) = refl
accessed-around s v h regs (asks.WriteCp0 number value) = refl
accessed-around s v h regs (asks.System op) = refl

noted-around : (p : ℕ) (a : DataAccess) (s : GuestState) → (data_noted p a s).around ≡ s.around
noted-around p at_data.NoData s = refl
noted-around p (at_data.Load page frame) s = refl
noted-around p (at_data.Store page frame) s = refl

silent-around : (s t : GuestState) → Silent s t → t.around ≡ s.around
silent-around s t silent = ⊎_elim (λ (e : t ≡ s). ap (λ (x : GuestState). x.around) e) (λ (x : ComesToHand s t). ap (λ (y : GuestState). y.around) x.after) silent

pub row-around : (s t : GuestState) (e : Event) → Row s e t → t.around ≡ s.around
row-around s t (Load p v) row = (ap (λ (x : GuestState). x.around) row.after)
row-around s t (Unload p) row = (ap (λ (x : GuestState). x.around) row.after)
row-around s t (Direct p v) row =
    let d = row.done in
    (ap (λ (x : GuestState). x.around) (steps-after s t p.0 v.0 row) ∙ noted-around p.0 (told s v.0 d) _ ∙ accessed-around _ v.0 _ d.does.registers d.does.request)
row-around s t (Refill p) row = (ap (λ (x : GuestState). x.around) row.after)
row-around s t (Emulate p v) row = ⊎_elim
    (λ (x : Emulates s p.0 v.0 t). (ap (λ (y : GuestState). y.around) x.after ∙ act-around s p.0 v.0 (at_hand s v.0)))
    (λ (x : EndsRead s p.0 v.0 t). (ap (λ (y : GuestState). y.around) x.after))
    row
row-around s t (Begin q kind node by) row = (ap (λ (x : GuestState). x.around) row.after)
row-around s t (Ack p q) row = (ap (λ (x : GuestState). x.around) row.after)
row-around s t (Finish q) row = ⊎_elim
    (λ (x : Finishes s q.0 t). (ap (λ (y : GuestState). y.around) x.after))
    (λ (x : LetsGo s q.0 t). (ap (λ (y : GuestState). y.around) x.after))
    row
row-around s t (PacketIn k) row = ⊎_elim
    (λ (x : Receives s k t). ap (λ (y : GuestState). y.around) x.after)
    (λ (x : EndsDelivery s k t). ap (λ (y : GuestState). y.around) x.after)
    row
row-around s t (Discard k) row = (ap (λ (x : GuestState). x.around) row.after)
row-around s t (Skip k) row = (ap (λ (x : GuestState). x.around) row.after)
row-around s t (CellFails c) row = (ap (λ (x : GuestState). x.around) row.after)
row-around s t (Ending end) row = (ap (λ (x : GuestState). x.around) row.after)

pub run-around : (s t : GuestState) (journal : List Event) → Run s journal t → t.around ≡ s.around
run-around s t [] run = silent-around s t run
run-around s t (e ∷ journal) run = run-around run.1 t journal run.4 ∙ row-around run.0 run.1 e run.3 ∙ silent-around s run.0 run.2
