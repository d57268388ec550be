-- The failed cells, the moves that weren't begun and the end, entry by entry.
use Rattle.std.proofs.Common.{◌≡◌, ℕ, ◌+◌, Bool, true, false, cond, if◌then◌else◌, ⊎_elim, List, [], ◌∷◌, get_or, set, refl, sym, ap, ◌∙◌, subst, arith, true≢false, get_or-set_same, get_or-set_other, Option, Some}
use Rattle.std.proofs.lemmas.Bool.{eqb-true, eqb-false}
use Rattle.std.proofs.lemmas.List.Sums.{sum_by-cons}
use Rattle.std.specs.Prelude.{count_by}
use Rattle.base_words.specs.Limits.{most_cells}
use Rattle.base_words.specs.declared.events.End.{End}
use Rattle.base_words.specs.declared.events.Event.{Event}
use Rattle.base_words.specs.declared.events.Event.TheVariants.{Load, Unload, Direct, Refill, Emulate, Begin, Ack, Finish, PacketIn, Discard, Skip, CellFails, End as Ending}
use Rattle.base_words.specs.declared.trap.DataAccess.{DataAccess}
use Rattle.base_words.specs.declared.trap.DataAccess.TheVariants as at_data
use Rattle.private_machine.specs.DeviceAct.{Act, StoresTo, ReadsDisk, WritesDisk, SendsPage, WritesEntry, NoAct}
use Rattle.private_machine.specs.DirectAccess.{data_reached, data_told, stepped_through}
use Rattle.private_machine.specs.HardwareStep.{Done}
use Rattle.isolation_law.specs.CellFailure.{failure_of, is_failure}
use Rattle.isolation_law.specs.DirectStep.{with_inputs, held_of, with_held, ticked_with, data_noted, direct}
use Rattle.isolation_law.specs.EndRows.{CellFailsIn, LetsGo}
use Rattle.isolation_law.specs.GuestState.{GuestState, is_dead, block_at}
use Rattle.isolation_law.specs.MachineEvent.{Row}
use Rattle.isolation_law.specs.MoveRows.{Finishes}
use Rattle.isolation_law.specs.PacketRows.{ComesToHand, Receives, EndsDelivery}
use Rattle.isolation_law.specs.Run.{Silent, Run}
use Rattle.isolation_law.specs.SkipRow.{is_skip}
use Rattle.isolation_law.specs.StepAct.{at_hand}
use Rattle.isolation_law.specs.StepRows.{act_done, Emulates, EndsRead}
use Rattle.isolation_law.specs.Start.{Boot, start}
use Rattle.isolation_law.proofs.StartProofs.{all_same}

-- the failed cells after an entry
abbrev pub dead_after : Event → List Bool → List Bool
dead_after (Load p v) dead = dead
dead_after (Unload p) dead = dead
dead_after (Direct p v) dead = dead
dead_after (Refill p) dead = dead
dead_after (Emulate p v) dead = dead
dead_after (Begin q kind node by) dead = dead
dead_after (Ack p q) dead = dead
dead_after (Finish q) dead = dead
dead_after (PacketIn k) dead = dead
dead_after (Discard k) dead = dead
dead_after (Skip k) dead = dead
dead_after (CellFails c) dead = set dead c.0 true
dead_after (Ending end) dead = dead

-- the end after an entry
abbrev pub end_after : Event → Option End → Option End
end_after (Load p v) end = end
end_after (Unload p) end = end
end_after (Direct p v) end = end
end_after (Refill p) end = end
end_after (Emulate p v) end = end
end_after (Begin q kind node by) end = end
end_after (Ack p q) end = end
end_after (Finish q) end = end
end_after (PacketIn k) end = end
end_after (Discard k) end = end
end_after (Skip k) end = end
end_after (CellFails c) end = end
end_after (Ending new) end = Some new

-- what an entry leaves of these
pub record Left (e : Event) (s t : GuestState) : Type 0 where
  pub dead : t.dead ≡ dead_after e s.dead
  pub skips : is_skip e ≡ false → t.skips ≡ s.skips
  pub end : t.end ≡ end_after e s.end

left : (e : Event) (s t made : GuestState) → t ≡ made → Left e s made → Left e s t
left e s t made after made_left = subst (λ (x : GuestState). Left e s x) (sym after) made_left

act-left : (e : Event) (s : GuestState) (p v : ℕ) (a : Act) → dead_after e s.dead ≡ s.dead → end_after e s.end ≡ s.end → Left e s (act_done s p v a)
act-left e s p v (StoresTo q) same on = record { dead = sym same; skips = λ other. refl; end = sym on }
act-left e s p v (ReadsDisk b q) same on = record { dead = sym same; skips = λ other. refl; end = sym on }
act-left e s p v (WritesDisk b q) same on = record { dead = sym same; skips = λ other. refl; end = sym on }
act-left e s p v (SendsPage q length to) same on = record { dead = sym same; skips = λ other. refl; end = sym on }
act-left e s p v (WritesEntry index) same on = record { dead = sym same; skips = λ other. refl; end = sym on }
act-left e s p v NoAct same on = record { dead = sym same; skips = λ other. refl; end = sym on }

noted-dead : (p : ℕ) (a : DataAccess) (s : GuestState) → (data_noted p a s).dead ≡ s.dead
noted-dead p at_data.NoData s = refl
noted-dead p (at_data.Load page frame) s = refl
noted-dead p (at_data.Store page frame) s = refl

noted-skips : (p : ℕ) (a : DataAccess) (s : GuestState) → (data_noted p a s).skips ≡ s.skips
noted-skips p at_data.NoData s = refl
noted-skips p (at_data.Load page frame) s = refl
noted-skips p (at_data.Store page frame) s = refl

noted-end : (p : ℕ) (a : DataAccess) (s : GuestState) → (data_noted p a s).end ≡ s.end
noted-end p at_data.NoData s = refl
noted-end p (at_data.Load page frame) s = refl
noted-end p (at_data.Store page frame) s = refl

direct-left : (e : Event) (s : GuestState) (p v : ℕ) (d : Done) → dead_after e s.dead ≡ s.dead → end_after e s.end ≡ s.end → Left e s (direct s p v d)
direct-left e s p v d same on =
    let before = with_inputs s v in
    let after = stepped_through v (block_at before v) (held_of before) d in
    let a = data_told v (data_reached d) d.does.request (held_of before) in
    let done = ticked_with v after.registers d.does.request (with_held after.held before) in
    record { dead = noted-dead p a done ∙ sym same; skips = λ other. noted-skips p a done; end = noted-end p a done ∙ sym on }

pub row-left : (s t : GuestState) (e : Event) → Row s e t → Left e s t
row-left s t (Load p v) row = left (Load p v) s t _ row.after (record { dead = refl; skips = λ other. refl; end = refl })
row-left s t (Unload p) row = left (Unload p) s t _ row.after (record { dead = refl; skips = λ other. refl; end = refl })
row-left s t (Direct p v) row = left (Direct p v) s t _ row.after (direct-left (Direct p v) s p.0 v.0 row.done refl refl)
row-left s t (Refill p) row = left (Refill p) s t _ row.after (record { dead = refl; skips = λ other. refl; end = refl })
row-left s t (Emulate p v) row = ⊎_elim
    (λ (x : Emulates s p.0 v.0 t). left (Emulate p v) s t _ x.after (let act = act-left (Emulate p v) s p.0 v.0 (at_hand s v.0) refl refl in record { dead = act.dead; skips = act.skips; end = act.end }))
    (λ (x : EndsRead s p.0 v.0 t). left (Emulate p v) s t _ x.after (record { dead = refl; skips = λ other. refl; end = refl }))
    row
row-left s t (Begin q kind node by) row = left (Begin q kind node by) s t _ row.after (record { dead = refl; skips = λ other. refl; end = refl })
row-left s t (Ack p q) row = left (Ack p q) s t _ row.after (record { dead = refl; skips = λ other. refl; end = refl })
row-left s t (Finish q) row = ⊎_elim
    (λ (x : Finishes s q.0 t). left (Finish q) s t _ x.after (record { dead = refl; skips = λ other. refl; end = refl }))
    (λ (x : LetsGo s q.0 t). left (Finish q) s t _ x.after (record { dead = refl; skips = λ other. refl; end = refl }))
    row
row-left s t (PacketIn k) row = ⊎_elim
    (λ (x : Receives s k t). left (PacketIn k) s t _ x.after (record { dead = refl; skips = λ other. refl; end = refl }))
    (λ (x : EndsDelivery s k t). left (PacketIn k) s t _ x.after (record { dead = refl; skips = λ other. refl; end = refl }))
    row
row-left s t (Discard k) row = left (Discard k) s t _ row.after (record { dead = refl; skips = λ other. refl; end = refl })
row-left s t (Skip k) row = left (Skip k) s t _ row.after (record { dead = refl; skips = λ other. absurd (true≢false other); end = refl })
row-left s t (CellFails c) row = left (CellFails c) s t _ row.after (record { dead = refl; skips = λ other. refl; end = refl })
row-left s t (Ending end) row = left (Ending end) s t _ row.after (record { dead = refl; skips = λ other. refl; end = refl })

-- an entry that is the failure of this cell, and one that isn't
failing : (c : ℕ) (e : Event) → is_failure c e ≡ true → e ≡ failure_of c
failing c (Load p v) is = cc
failing c (Unload p) is = cc
failing c (Direct p v) is = cc
failing c (Refill p) is = cc
failing c (Emulate p v) is = cc
failing c (Begin q kind node by) is = cc
failing c (Ack p q) is = cc
failing c (Finish q) is = cc
failing c (PacketIn k) is = cc
failing c (Discard k) is = cc
failing c (Skip k) is = cc
failing c (CellFails d) is = ap failure_of (eqb-true d.0 c is)
failing c (Ending end) is = cc

others-stay : (c : ℕ) (e : Event) (dead : List Bool) → is_failure c e ≡ false → get_or (dead_after e dead) c false ≡ get_or dead c false
others-stay c (Load p v) dead other = refl
others-stay c (Unload p) dead other = refl
others-stay c (Direct p v) dead other = refl
others-stay c (Refill p) dead other = refl
others-stay c (Emulate p v) dead other = refl
others-stay c (Begin q kind node by) dead other = refl
others-stay c (Ack p q) dead other = refl
others-stay c (Finish q) dead other = refl
others-stay c (PacketIn k) dead other = refl
others-stay c (Discard k) dead other = refl
others-stay c (Skip k) dead other = refl
others-stay c (CellFails d) dead other = get_or-set_other dead d.0 c true false (λ same. eqb-false d.0 c other (sym same))
others-stay c (Ending end) dead other = refl

row-other : (s t : GuestState) (e : Event) (c : ℕ) → Row s e t → is_failure c e ≡ false → is_dead t c ≡ is_dead s c
row-other s t e c row other = ap (λ (l : List Bool). get_or l c false) (row-left s t e row).dead ∙ others-stay c e s.dead other

failed-now : (s t : GuestState) (c : ℕ) → CellFailsIn s c t → is_dead t c ≡ true
failed-now s t c row = ap (λ (x : GuestState). is_dead x c) row.after ∙ get_or-set_same s.dead c true false row.is_cell

the-row : (s t : GuestState) (e : Event) (c : ℕ) → Row s e t → is_failure c e ≡ true → CellFailsIn s c t
the-row s t e c row is = subst (λ (x : Event). Row s x t) (failing c e is) row

pub stays-dead : (s t : GuestState) (e : Event) (c : ℕ) → Row s e t → is_dead s c ≡ true → is_dead t c ≡ true
stays-dead s t e c row dead = by (is_failure c e) refl
  where
    by : (b : Bool) → is_failure c e ≡ b → is_dead t c ≡ true
    by true is = failed-now s t c (the-row s t e c row is)
    by false is = row-other s t e c row is ∙ dead

pub fails-once : (s t : GuestState) (e : Event) (c : ℕ) → Row s e t → is_failure c e ≡ true → (is_dead s c ≡ false) × (is_dead t c ≡ true)
fails-once s t e c row is = let fails = the-row s t e c row is in (fails.once, failed-now s t c fails)

pub dies-alone : (s t : GuestState) (e : Event) (c : ℕ) → Row s e t → is_dead s c ≡ false → is_dead t c ≡ true → e ≡ failure_of c
dies-alone s t e c row lives dead = by (is_failure c e) refl
  where
    by : (b : Bool) → is_failure c e ≡ b → e ≡ failure_of c
    by true is = failing c e is
    by false is = absurd (true≢false (sym dead ∙ row-other s t e c row is ∙ lives))

-- a cell counts once it has failed
abbrev as_count : Bool → ℕ
as_count dead = if dead then 1 else 0

row-count : (s t : GuestState) (e : Event) (c : ℕ) → Row s e t → cond {A = ℕ} (is_failure c e) 1 0 + as_count (is_dead s c) ≡ as_count (is_dead t c)
row-count s t e c row = by (is_failure c e) refl
  where
    by : (b : Bool) → is_failure c e ≡ b → cond {A = ℕ} b 1 0 + as_count (is_dead s c) ≡ as_count (is_dead t c)
    by true is =
        let fails = the-row s t e c row is in
        ap (λ (dead : Bool). 1 + as_count dead) fails.once ∙ sym (ap as_count (failed-now s t c fails))
    by false is = let same = ap as_count (row-other s t e c row is) in omega (arith, same)

silent-dead : (s t : GuestState) → Silent s t → t.dead ≡ s.dead
silent-dead s t silent = ⊎_elim (λ (e : t ≡ s). ap (λ (x : GuestState). x.dead) e) (λ (x : ComesToHand s t). ap (λ (y : GuestState). y.dead) x.after) silent

run-count : (s t : GuestState) (journal : List Event) (c : ℕ) → Run s journal t → count_by (is_failure c) journal + as_count (is_dead s c) ≡ as_count (is_dead t c)
run-count s t [] c run = let same = ap (λ (l : List Bool). as_count (get_or l c false)) (silent-dead s t run) in omega (arith, same)
run-count s t (e ∷ journal) c run =
    let before : as_count (is_dead run.0 c) ≡ as_count (is_dead s c) = ap (λ (l : List Bool). as_count (get_or l c false)) (silent-dead s run.0 run.2) in
    let here = row-count run.0 run.1 e c run.3 in
    let later = run-count run.1 t journal c run.4 in
    let sum : count_by (is_failure c) (e ∷ journal) ≡ cond (is_failure c e) 1 0 + count_by (is_failure c) journal = sum_by-cons (λ (x : Event). cond {A = ℕ} (is_failure c x) 1 0) e journal in
    omega (arith, before, here, later, sum)

pub failures-counted : (b : Boot) (t : GuestState) (journal : List Event) (c : ℕ) → Run (start b) journal t → count_by (is_failure c) journal ≡ as_count (is_dead t c)
failures-counted b t journal c run =
    let none : as_count (is_dead (start b) c) ≡ 0 = ap as_count (all_same most_cells c false) in
    let all = run-count (start b) t journal c run in
    omega (arith, none, all)
