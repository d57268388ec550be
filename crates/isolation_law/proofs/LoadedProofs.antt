-- What is loaded on the processors after an entry.
use Rattle.std.proofs.Common.{◌≡◌, ℕ, zero, suc, ◌==◌, true, false, if◌then◌else◌, ⊎_elim, Some, List, [], ◌∷◌, length, set, get_or, refl, sym, ap, ◌∙◌, subst, get_or-set_same, get_or-set_other, length-set}
use Rattle.std.proofs.lemmas.Bool.{eqb-true, eqb-false}
use Rattle.base_words.specs.Halves.{Half, without_pair, without_page}
use Rattle.base_words.specs.declared.events.Event.{Event}
use Rattle.base_words.specs.declared.events.Event.TheVariants.{Load, Unload, Direct, Refill, Emulate, Begin, Ack, Finish, PacketIn, Discard, Skip, CellFails, End as Ending}
use Rattle.base_words.specs.declared.ids.ProcId.{ProcId}
use Rattle.base_words.specs.declared.ids.VcpuId.{VcpuId}
use Rattle.base_words.specs.declared.trap.DataAccess.{DataAccess}
use Rattle.base_words.specs.declared.trap.DataAccess.TheVariants as at_data
use Rattle.private_machine.specs.DeviceAct.{Act, StoresTo, ReadsDisk, WritesDisk, SendsPage, WritesEntry, NoAct}
use Rattle.private_machine.specs.DirectAccess.{data_reached, data_told, stepped_through}
use Rattle.private_machine.specs.HardwareStep.{Done}
use Rattle.isolation_law.specs.DirectStep.{with_inputs, held_of, with_held, ticked_with, data_noted, direct}
use Rattle.isolation_law.specs.EndRows.{LetsGo}
use Rattle.isolation_law.specs.GuestState.{GuestState, idle, processor, block_at}
use Rattle.isolation_law.specs.LoadsIn.{loaded_after}
use Rattle.isolation_law.specs.MachineEvent.{Row}
use Rattle.isolation_law.specs.MoveRows.{Finishes}
use Rattle.isolation_law.specs.PacketRows.{Receives, EndsDelivery}
use Rattle.isolation_law.specs.Parts.{Processor}
use Rattle.isolation_law.specs.StepAct.{at_hand}
use Rattle.isolation_law.specs.StepRows.{pair_dropped, old_pair, new_pair, act_done, Emulates, EndsRead}

-- there are as many processors, and on each is loaded what the entry leaves
pub record Loading (e : Event) (ps qs : List Processor) : Type 0 where
  pub count : length qs ≡ length ps
  pub loaded : (r : ℕ) → (get_or qs r idle).loaded ≡ loaded_after e r (get_or ps r idle).loaded

-- one processor is replaced
set-loaded : (ps : List Processor) (p : ℕ) (new : Processor) (r : ℕ) → get_or (set ps p new) p idle ≡ new → (get_or (set ps p new) r idle).loaded ≡ (if r == p then new.loaded else (get_or ps r idle).loaded)
set-loaded ps p new r at_p = (elim (r == p) as (λ b. (r == p) ≡ b → (get_or (set ps p new) r idle).loaded ≡ (if b then new.loaded else (get_or ps r idle).loaded)) [
  | true ↦ λ same. ap (λ (k : ℕ). (get_or (set ps p new) k idle).loaded) (eqb-true r p same) ∙ ap (λ (x : Processor). x.loaded) at_p
  | false ↦ λ other. ap (λ (x : Processor). x.loaded) (get_or-set_other ps p r new idle (eqb-false r p other))
]) refl

set-idle : (ps : List Processor) (p : ℕ) → get_or (set ps p idle) p idle ≡ idle
set-idle [] p = refl
set-idle (x ∷ ps) zero = refl
set-idle (x ∷ ps) (suc p) = set-idle ps p

-- one processor has another TLB
tlb-loaded : (ps : List Processor) (p : ℕ) (tlb : List Half) (r : ℕ) → (get_or (set ps p (record (get_or ps p idle) { tlb = tlb })) r idle).loaded ≡ (get_or ps r idle).loaded
tlb-loaded [] p tlb r = refl
tlb-loaded (x ∷ ps) zero tlb zero = refl
tlb-loaded (x ∷ ps) zero tlb (suc r) = refl
tlb-loaded (x ∷ ps) (suc p) tlb zero = refl
tlb-loaded (x ∷ ps) (suc p) tlb (suc r) = tlb-loaded ps p tlb r

pair-loaded : (s : GuestState) (p v pair r : ℕ) → (processor (pair_dropped p v pair s) r).loaded ≡ (processor s r).loaded
pair-loaded s p v pair r = tlb-loaded s.processors p (without_pair pair (processor s p).tlb) r

pair-count : (s : GuestState) (p v pair : ℕ) → length (pair_dropped p v pair s).processors ≡ length s.processors
pair-count s p v pair = length-set s.processors p _

-- a step by the monitor's hand
act-loading : (s : GuestState) (p : ProcId) (v : VcpuId) (a : Act) → Loading (Emulate p v) s.processors (act_done s p.0 v.0 a).processors
act-loading s p v (StoresTo q) = record { count = refl; loaded = λ r. refl }
act-loading s p v (ReadsDisk b q) = record { count = refl; loaded = λ r. refl }
act-loading s p v (WritesDisk b q) = record { count = refl; loaded = λ r. refl }
act-loading s p v (SendsPage q length to) = record { count = refl; loaded = λ r. refl }
act-loading s p v (WritesEntry index) =
    let old = old_pair s v.0 index in
    let dropped = pair_dropped p.0 v.0 old s in
    record {
      count = pair-count dropped p.0 v.0 (new_pair s v.0) ∙ pair-count s p.0 v.0 old;
      loaded = λ r. pair-loaded dropped p.0 v.0 (new_pair s v.0) r ∙ pair-loaded s p.0 v.0 old r;
    }
act-loading s p v NoAct = record { count = refl; loaded = λ r. refl }

-- a step through the TLB
noted-processors : (p : ℕ) (a : DataAccess) (s : GuestState) → (data_noted p a s).processors ≡ s.processors
noted-processors p at_data.NoData s = refl
noted-processors p (at_data.Load page frame) s = refl
noted-processors p (at_data.Store page frame) s = refl

direct-processors : (s : GuestState) (p v : ℕ) (d : Done) → (direct s p v d).processors ≡ s.processors
direct-processors s p v d =
    let before = with_inputs s v in
    let after = stepped_through v (block_at before v) (held_of before) d in
    noted-processors p (data_told v (data_reached d) d.does.request (held_of before)) (ticked_with v after.registers d.does.request (with_held after.held before))

-- what a row leaves
left-loading : (e : Event) (s t made : GuestState) → t ≡ made → Loading e s.processors made.processors → Loading e s.processors t.processors
left-loading e s t made after loading = subst (λ (x : GuestState). Loading e s.processors x.processors) (sym after) loading

pub row-loading : (s t : GuestState) (e : Event) → Row s e t → Loading e s.processors t.processors
row-loading s t (Load p v) row = left-loading (Load p v) s t _ row.after (record {
  count = length-set s.processors p.0 _;
  loaded = λ r. set-loaded s.processors p.0 (record { loaded = Some v.0; tlb = [] }) r (get_or-set_same s.processors p.0 (record { loaded = Some v.0; tlb = [] }) idle row.is_processor);
})
row-loading s t (Unload p) row = left-loading (Unload p) s t _ row.after (record {
  count = length-set s.processors p.0 idle;
  loaded = λ r. set-loaded s.processors p.0 idle r (set-idle s.processors p.0);
})
row-loading s t (Direct p v) row =
    let same : t.processors ≡ s.processors = ap (λ (x : GuestState). x.processors) row.after ∙ direct-processors s p.0 v.0 row.done in
    record { count = ap (λ (ps : List Processor). length ps) same; loaded = λ r. ap (λ (ps : List Processor). (get_or ps r idle).loaded) same }
row-loading s t (Refill p) row = left-loading (Refill p) s t _ row.after (record { count = length-set s.processors p.0 _; loaded = λ r. tlb-loaded s.processors p.0 row.halves r })
row-loading s t (Emulate p v) row = ⊎_elim
    (λ (x : Emulates s p.0 v.0 t). left-loading (Emulate p v) s t _ x.after (act-loading s p v (at_hand s v.0)))
    (λ (x : EndsRead s p.0 v.0 t). left-loading (Emulate p v) s t _ x.after (record { count = refl; loaded = λ r. refl }))
    row
row-loading s t (Begin q kind node by) row = left-loading (Begin q kind node by) s t _ row.after (record { count = refl; loaded = λ r. refl })
row-loading s t (Ack p q) row = left-loading (Ack p q) s t _ row.after (record {
  count = length-set s.processors p.0 _;
  loaded = λ r. tlb-loaded s.processors p.0 (without_page q.0 (processor s p.0).tlb) r;
})
row-loading s t (Finish q) row = ⊎_elim
    (λ (x : Finishes s q.0 t). left-loading (Finish q) s t _ x.after (record { count = refl; loaded = λ r. refl }))
    (λ (x : LetsGo s q.0 t). left-loading (Finish q) s t _ x.after (record { count = refl; loaded = λ r. refl }))
    row
row-loading s t (PacketIn k) row = ⊎_elim
    (λ (x : Receives s k t). left-loading (PacketIn k) s t _ x.after (record { count = refl; loaded = λ r. refl }))
    (λ (x : EndsDelivery s k t). left-loading (PacketIn k) s t _ x.after (record { count = refl; loaded = λ r. refl }))
    row
row-loading s t (Discard k) row = left-loading (Discard k) s t _ row.after (record { count = refl; loaded = λ r. refl })
row-loading s t (Skip k) row = left-loading (Skip k) s t _ row.after (record { count = refl; loaded = λ r. refl })
row-loading s t (CellFails c) row = left-loading (CellFails c) s t _ row.after (record { count = refl; loaded = λ r. refl })
row-loading s t (Ending end) row = left-loading (Ending end) s t _ row.after (record { count = refl; loaded = λ r. refl })
