-- A guest has as many pages until its end, whatever entry comes.
use Rattle.std.proofs.Common.{◌≡◌, ℕ, Bool, true, false, ⊎_elim, Some, None, List, [], ◌∷◌, length, refl, sym, ap, ◌∙◌, length-set}
use Rattle.std.proofs.lemmas.List.{length-map}
use Rattle.base_words.specs.declared.effect.Request.{Request}
use Rattle.base_words.specs.declared.effect.Request.TheVariants as asks
use Rattle.base_words.specs.declared.events.Event.{Event}
use Rattle.base_words.specs.declared.events.Event.TheVariants.{Load, Unload, Direct, Refill, Emulate, Begin, Ack, Finish, PacketIn, Discard, Skip, CellFails, End as Ending}
use Rattle.base_words.specs.declared.regs.Regs.{Regs}
use Rattle.base_words.specs.declared.trap.DataAccess.{DataAccess}
use Rattle.base_words.specs.declared.trap.DataAccess.TheVariants as at_data
use Rattle.private_machine.specs.DeviceAct.{Act, StoresTo, ReadsDisk, WritesDisk, SendsPage, WritesEntry, NoAct}
use Rattle.private_machine.specs.DirectAccess.{data_reached}
use Rattle.private_machine.specs.PageMove.{left_by}
use Rattle.private_machine.specs.Reaching.{Reached}
use Rattle.isolation_law.specs.DirectStep.{with_inputs, data_noted}
use Rattle.isolation_law.specs.EndRows.{LetsGo}
use Rattle.isolation_law.specs.GuestState.{GuestState}
use Rattle.isolation_law.specs.MachineEvent.{Row}
use Rattle.isolation_law.specs.MoveRows.{Finishes}
use Rattle.isolation_law.specs.PacketRows.{ComesToHand, Receives, EndsDelivery}
use Rattle.isolation_law.specs.Run.{Silent, Run}
use Rattle.isolation_law.specs.Start.{Boot, IsBoot, start}
use Rattle.isolation_law.specs.StepAct.{at_hand}
use Rattle.isolation_law.specs.StepRows.{act_done, Steps, Emulates, EndsRead}
use Rattle.isolation_law.proofs.DueProofs.{row-going}
use Rattle.isolation_law.proofs.StartProofs.{count-pages}
use Rattle.isolation_law.proofs.Stepping.{stored, stored_if, accessed, ticked, told, steps-after}

-- what a row leaves
counted : (s t made : GuestState) → t ≡ made → length made.pages ≡ length s.pages → length t.pages ≡ length s.pages
counted s t made after same = ap (λ (x : GuestState). length x.pages) after ∙ same

-- ---- steps

act-count : (s : GuestState) (p v : ℕ) (a : Act) → length (act_done s p v a).pages ≡ length s.pages
act-count s p v (StoresTo q) = refl
act-count s p v (ReadsDisk b q) = length-set s.pages q _
act-count s p v (WritesDisk b q) = refl
act-count s p v (SendsPage q length to) = refl
act-count s p v (WritesEntry index) = refl
act-count s p v NoAct = refl

stored-count : (s : GuestState) (v : ℕ) (h : Reached) (a word : ℕ) → length (stored s v h a word).pages ≡ length s.pages
stored-count s v h a word = length-set s.pages h.page _

accessed-count : (s : GuestState) (v : ℕ) (h : Reached) (regs : Regs) (r : Request) → length (accessed s v h regs r).pages ≡ length s.pages
accessed-count s v h regs asks.Nothing = refl
accessed-count s v h regs (asks.Load kind address target) = refl
accessed-count s v h regs (asks.Store kind address value) = stored-count s v h address _
accessed-count s v h regs (asks.LoadLinked address target) = refl
accessed-count s v h regs (asks.StoreConditional address value target) = by _
  where
    by : (b : Bool) → length (stored_if b s v h regs address value target).pages ≡ length s.pages
    by true = stored-count s v h address value
    by false = refl
accessed-count s v h regs (asks.ReadCp0 number target) = refl
accessed-count s v h regs (asks.WriteCp0 number value) = refl
accessed-count s v h regs (asks.System op) = refl

pub noted-pages : (p : ℕ) (a : DataAccess) (s : GuestState) → (data_noted p a s).pages ≡ s.pages
noted-pages p at_data.NoData s = refl
noted-pages p (at_data.Load page frame) s = refl
noted-pages p (at_data.Store page frame) s = refl

steps-count : (s t : GuestState) (p v : ℕ) → Steps s p v t → length t.pages ≡ length s.pages
steps-count s t p v row =
    let d = row.done in
    let u = with_inputs s v in
    let left = accessed u v (data_reached d) d.does.registers d.does.request in
    let noted : (data_noted p (told s v d) (ticked left v)).pages ≡ left.pages = noted-pages p (told s v d) (ticked left v) in
    counted s t _ (steps-after s t p v row) (ap length noted ∙ accessed-count u v (data_reached d) d.does.registers d.does.request)

-- ---- row by row

pub row-count : (s t : GuestState) (e : Event) → Row s e t → t.end ≡ None → length t.pages ≡ length s.pages
row-count s t (Load p v) row on = counted s t _ row.after refl
row-count s t (Unload p) row on = counted s t _ row.after (length-map s.pages (left_by p.0))
row-count s t (Direct p v) row on = steps-count s t p.0 v.0 row
row-count s t (Refill p) row on = counted s t _ row.after (length-set s.pages _ _)
row-count s t (Emulate p v) row on = ⊎_elim
    (λ (x : Emulates s p.0 v.0 t). counted s t _ x.after (act-count s p.0 v.0 (at_hand s v.0)))
    (λ (x : EndsRead s p.0 v.0 t). counted s t _ x.after (length-set s.pages x.q _))
    row
row-count s t (Begin q kind node by) row on = counted s t _ row.after (length-set s.pages q.0 _)
row-count s t (Ack p q) row on = counted s t _ row.after (length-set s.pages q.0 _)
row-count s t (Finish q) row on = ⊎_elim
    (λ (x : Finishes s q.0 t). counted s t _ x.after (length-set s.pages q.0 _))
    (λ (x : LetsGo s q.0 t). counted s t _ x.after (length-set s.pages q.0 _))
    row
row-count s t (PacketIn k) row on = ⊎_elim
    (λ (x : Receives s k t). counted s t _ x.after (length-set s.pages x.q _))
    (λ (x : EndsDelivery s k t). counted s t _ x.after (length-set s.pages x.q _))
    row
row-count s t (Discard k) row on = counted s t _ row.after refl
row-count s t (Skip k) row on = counted s t _ row.after refl
row-count s t (CellFails c) row on = counted s t _ row.after refl
row-count s t (Ending end) row on = absurd (some-none (sym (ap (λ (x : GuestState). x.end) row.after) ∙ on))
  where
    some-none : Some end ≡ None → ⊥
    some-none e = cc

pub hand-count : (s t : GuestState) → ComesToHand s t → length t.pages ≡ length s.pages
hand-count s t row = counted s t _ row.after refl

-- ---- along a run

silent-count : (s t : GuestState) → Silent s t → length t.pages ≡ length s.pages
silent-count s t silent = ⊎_elim (λ (e : t ≡ s). counted s t s e refl) (hand-count s t) silent

silent-going : (s t : GuestState) → Silent s t → t.end ≡ None → s.end ≡ None
silent-going s t silent on = ⊎_elim (λ (e : t ≡ s). sym (ap (λ (x : GuestState). x.end) e) ∙ on) (λ (x : ComesToHand s t). x.goes_on.not_ended) silent

run-going : (s t : GuestState) (journal : List Event) → Run s journal t → t.end ≡ None → s.end ≡ None
run-going s t [] run on = silent-going s t run on
run-going s t (e ∷ journal) run on = silent-going s run.0 run.2 (row-going run.0 run.1 e run.3 (run-going run.1 t journal run.4 on))

run-count : (s t : GuestState) (journal : List Event) → Run s journal t → t.end ≡ None → length t.pages ≡ length s.pages
run-count s t [] run on = silent-count s t run
run-count s t (e ∷ journal) run on = run-count run.1 t journal run.4 on ∙ row-count run.0 run.1 e run.3 (run-going run.1 t journal run.4 on) ∙ silent-count s run.0 run.2

pub boot-count : (b : Boot) (journal : List Event) (t : GuestState) → IsBoot b → Run (start b) journal t → t.end ≡ None → length t.pages ≡ b.image.pages
boot-count b journal t is run on = run-count (start b) t journal run on ∙ count-pages b.frames b.image.memory ∙ is.backed
