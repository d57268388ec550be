-- An end by a cell comes, in a run, exactly where the cell's failure found it in use.
use Rattle.std.proofs.Common.{◌≡◌, ◌≢◌, ℕ, Bool, true, false, if◌then◌else◌, ◌⊎◌, inl, inr, ⊎_elim, Option, Some, None, List, [], ◌∷◌, refl, sym, ap, ◌∙◌, subst}
use Rattle.std.proofs.lemmas.Bool.{cases_eq}
use Rattle.std.specs.Prelude.{unwrap_or}
use Rattle.base_words.specs.declared.effect.Request.{Request}
use Rattle.base_words.specs.declared.effect.Request.TheVariants as asks
use Rattle.base_words.specs.declared.events.End.{End}
use Rattle.base_words.specs.declared.events.End.TheVariants.{Halted, Budget, CellFailed}
use Rattle.base_words.specs.declared.events.Event.{Event}
use Rattle.base_words.specs.declared.events.Event.TheVariants.{Load, Unload, Direct, Refill, Emulate, Begin, Ack, Finish, PacketIn, Discard, Skip, CellFails, End as Ending}
use Rattle.base_words.specs.declared.regs.Regs.{Regs}
use Rattle.base_words.specs.declared.trap.DataAccess.{DataAccess}
use Rattle.base_words.specs.declared.trap.DataAccess.TheVariants as at_data
use Rattle.private_machine.specs.Reaching.{Reached}
use Rattle.isolation_law.specs.GuestState.{GuestState}
use Rattle.isolation_law.specs.CellUse.{uses}
use Rattle.isolation_law.specs.DirectStep.{data_noted}
use Rattle.isolation_law.specs.Phases.{all_halted, owed, lingers, GoesOn, GoesOnOrLingers}
use Rattle.isolation_law.specs.StepAct.{at_hand}
use Rattle.private_machine.specs.DeviceAct.{Act, StoresTo, ReadsDisk, WritesDisk, SendsPage, WritesEntry, NoAct}
use Rattle.isolation_law.specs.StepRows.{act_done, Emulates, EndsRead}
use Rattle.isolation_law.specs.MoveRows.{Finishes}
use Rattle.isolation_law.specs.PacketRows.{ComesToHand, Receives, EndsDelivery}
use Rattle.isolation_law.specs.EndRows.{CellFailsIn, LetsGo, MayEnd}
use Rattle.isolation_law.specs.MachineEvent.{Row}
use Rattle.isolation_law.specs.Run.{Silent, Run}
use Rattle.isolation_law.specs.CellFailure.{end_by, failure_of, EndsAs, FoundInUse}
use Rattle.isolation_law.specs.Start.{Boot, start}
use Rattle.isolation_law.proofs.ClosingProofs.{stays-owed}
use Rattle.isolation_law.proofs.LiveCellProofs.{failed-same, owes-by-use}
use Rattle.isolation_law.proofs.Stepping.{accessed, stored_if, told, steps-after}

-- what is noted to follow stays, but where a cell fails or a page is let go
act-closing : (s : GuestState) (p v : ℕ) (a : Act) → (act_done s p v a).closing ≡ s.closing
act-closing s p v (StoresTo q) = refl
act-closing s p v (ReadsDisk b q) = refl
act-closing s p v (WritesDisk b q) = refl
act-closing s p v (SendsPage q length to) = refl
act-closing s p v (WritesEntry index) = refl
act-closing s p v NoAct = refl

accessed-closing : (s : GuestState) (v : ℕ) (h : Reached) (regs : Regs) (r : Request) → (accessed s v h regs r).closing ≡ s.closing
accessed-closing s v h regs asks.Nothing = refl
accessed-closing s v h regs (asks.Load kind address target) = refl
accessed-closing s v h regs (asks.Store kind address value) = refl
accessed-closing s v h regs (asks.LoadLinked address target) = refl
accessed-closing s v h regs (asks.StoreConditional address value target) = by _
  where
    by : (b : Bool) → (stored_if b s v h regs address value target).closing ≡ s.closing
    by true = refl
    by false = refl
accessed-closing s v h regs (asks.ReadCp0 number target) = refl
accessed-closing s v h regs (asks.WriteCp0 number value) = refl
accessed-closing s v h regs (asks.System op) = refl

noted-closing : (p : ℕ) (a : DataAccess) (s : GuestState) → (data_noted p a s).closing ≡ s.closing
noted-closing p at_data.NoData s = refl
noted-closing p (at_data.Load page frame) s = refl
noted-closing p (at_data.Store page frame) s = refl

-- neither do steps end the guest
act-end : (s : GuestState) (p v : ℕ) (a : Act) → (act_done s p v a).end ≡ s.end
act-end s p v (StoresTo q) = refl
act-end s p v (ReadsDisk b q) = refl
act-end s p v (WritesDisk b q) = refl
act-end s p v (SendsPage q length to) = refl
act-end s p v (WritesEntry index) = refl
act-end s p v NoAct = refl

accessed-end : (s : GuestState) (v : ℕ) (h : Reached) (regs : Regs) (r : Request) → (accessed s v h regs r).end ≡ s.end
accessed-end s v h regs asks.Nothing = refl
accessed-end s v h regs (asks.Load kind address target) = refl
accessed-end s v h regs (asks.Store kind address value) = refl
accessed-end s v h regs (asks.LoadLinked address target) = refl
accessed-end s v h regs (asks.StoreConditional address value target) = by _
  where
    by : (b : Bool) → (stored_if b s v h regs address value target).end ≡ s.end
    by true = refl
    by false = refl
accessed-end s v h regs (asks.ReadCp0 number target) = refl
accessed-end s v h regs (asks.WriteCp0 number value) = refl
accessed-end s v h regs (asks.System op) = refl

noted-end : (p : ℕ) (a : DataAccess) (s : GuestState) → (data_noted p a s).end ≡ s.end
noted-end p at_data.NoData s = refl
noted-end p (at_data.Load page frame) s = refl
noted-end p (at_data.Store page frame) s = refl

-- the end by a cell is due only where it is noted
is-noted : (t : GuestState) (c : ℕ) → owed t ≡ Some (end_by c) → t.closing ≡ Some (end_by c)
is-noted t c e = by (all_halted t.vcpus) e
  where
    by : (b : Bool) → (if b then Some Halted else t.closing) ≡ Some (end_by c) → t.closing ≡ Some (end_by c)
    by true e = cc
    by false e = e

nothing-noted : (s : GuestState) → GoesOn s → s.closing ≡ None
nothing-noted s on = by (all_halted s.vcpus) on.owes_no_end
  where
    by : (b : Bool) → (if b then Some Halted else s.closing) ≡ None → s.closing ≡ None
    by true e = cc
    by false e = e

none-some : (end : End) → None ≡ Some end → ⊥
none-some end e = cc

same-closing : (s t : GuestState) (c : ℕ) → GoesOn s → t.closing ≡ s.closing → owed t ≡ Some (end_by c) → ⊥
same-closing s t c on same due = none-some (end_by c) (sym (nothing-noted s on) ∙ sym same ∙ is-noted t c due)

lets-go-other : (s t : GuestState) (q c : ℕ) → GoesOn s → LetsGo s q t → owed t ≡ Some (end_by c) → ⊥
lets-go-other s t q c on row due =
    budget (sym (ap (λ (o : Option End). Some (unwrap_or o Budget)) on.owes_no_end) ∙ sym (ap (λ (x : GuestState). x.closing) row.after) ∙ is-noted t c due)
  where
    budget : Some Budget ≡ Some (end_by c) → ⊥
    budget e = cc

fails-used : (s t : GuestState) (c d : ℕ) → GoesOn s → CellFailsIn s c t → owed t ≡ Some (end_by d) → (c ≡ d) × (uses s d ≡ true)
fails-used s t c d on row due = by (uses s c) refl (sym (owes-by-use s t c on row) ∙ due)
  where
    by : (b : Bool) → uses s c ≡ b → (if b then Some (end_by c) else None) ≡ Some (end_by d) → (c ≡ d) × (uses s d ≡ true)
    by true used e = let same = failed-same c d e in (same, subst (λ (k : ℕ). uses s k ≡ true) same used)
    by false used e = cc

pub by-failure-alone : (s t : GuestState) (e : Event) (c : ℕ) → GoesOn s → Row s e t → owed t ≡ Some (end_by c) → (e ≡ failure_of c) × (uses s c ≡ true)
by-failure-alone s t (Load p v) c on row due = absurd (same-closing s t c on (ap (λ (x : GuestState). x.closing) row.after) due)
by-failure-alone s t (Unload p) c on row due = absurd (same-closing s t c on (ap (λ (x : GuestState). x.closing) row.after) due)
by-failure-alone s t (Direct p v) c on row due =
    let d = row.done in
    absurd (same-closing s t c on (ap (λ (x : GuestState). x.closing) (steps-after s t p.0 v.0 row) ∙ noted-closing p.0 (told s v.0 d) _ ∙ accessed-closing _ v.0 _ d.does.registers d.does.request) due)
by-failure-alone s t (Refill p) c on row due = absurd (same-closing s t c on (ap (λ (x : GuestState). x.closing) row.after) due)
by-failure-alone s t (Emulate p v) c on row due = absurd (same-closing s t c on (⊎_elim
    (λ (x : Emulates s p.0 v.0 t). ap (λ (y : GuestState). y.closing) x.after ∙ act-closing s p.0 v.0 (at_hand s v.0))
    (λ (x : EndsRead s p.0 v.0 t). ap (λ (y : GuestState). y.closing) x.after)
    row) due)
by-failure-alone s t (Begin q kind node by) c on row due = absurd (same-closing s t c on (ap (λ (x : GuestState). x.closing) row.after) due)
by-failure-alone s t (Ack p q) c on row due = absurd (same-closing s t c on (ap (λ (x : GuestState). x.closing) row.after) due)
by-failure-alone s t (Finish q) c on row due = absurd (⊎_elim
    (λ (x : Finishes s q.0 t). same-closing s t c on (ap (λ (y : GuestState). y.closing) x.after) due)
    (λ (x : LetsGo s q.0 t). lets-go-other s t q.0 c on x due)
    row)
by-failure-alone s t (PacketIn k) c on row due = absurd (same-closing s t c on (⊎_elim
    (λ (x : Receives s k t). ap (λ (y : GuestState). y.closing) x.after)
    (λ (x : EndsDelivery s k t). ap (λ (y : GuestState). y.closing) x.after)
    row) due)
by-failure-alone s t (Discard k) c on row due = absurd (same-closing s t c on (ap (λ (x : GuestState). x.closing) row.after) due)
by-failure-alone s t (Skip k) c on row due = absurd (same-closing s t c on (ap (λ (x : GuestState). x.closing) row.after) due)
by-failure-alone s t (CellFails d) c on row due = let r = fails-used s t d.0 c on row due in (ap (λ (k : ℕ). failure_of k) r.0, r.1)
by-failure-alone s t (Ending end) c on row due = absurd (none-some (end_by c) (sym (ap (λ (x : GuestState). x.closing) row.after) ∙ is-noted t c due))

-- an end that has come, or is due
not-on : (s : GuestState) (end : End) → EndsAs s end → GoesOn s → ⊥
not-on s end so on = ⊎_elim
    (λ (is : s.end ≡ Some end). none-some end (sym on.not_ended ∙ is))
    (λ (x : (s.end ≡ None) × (owed s ≡ Some end)). none-some end (sym on.owes_no_end ∙ x.1))
    so

late-as : (s t : GuestState) (end : End) → EndsAs s end → GoesOnOrLingers s → t.end ≡ s.end → EndsAs t end
late-as s t end so phase same = ⊎_elim
    (λ (on : GoesOn s). absurd (not-on s end so on))
    (λ (late : lingers s.end ≡ true). ⊎_elim
    (λ (is : s.end ≡ Some end). inl (same ∙ is))
    (λ (x : (s.end ≡ None) × (owed s ≡ Some end)). absurd (no-end (sym (ap lingers x.0) ∙ late)))
    so)
    phase
  where
    no-end : false ≡ true → ⊥
    no-end e = cc

may-be : (s : GuestState) (end other : End) → owed s ≡ Some end → MayEnd s other → (s.end ≡ None) × (other ≡ end)
may-be s end Halted due may = (may.0, same Halted (sym may.1 ∙ due))
  where
    same : (x : End) → Some x ≡ Some end → x ≡ end
    same x e = cc
may-be s end Budget due may = (may.not_ended, ⊎_elim (λ (none : owed s ≡ None). absurd (none-some end (sym none ∙ due))) (λ (is : owed s ≡ Some Budget). same Budget (sym is ∙ due)) may.no_other)
  where
    same : (x : End) → Some x ≡ Some end → x ≡ end
    same x e = cc
may-be s end (CellFailed c) due may = (may.0, same (CellFailed c) (sym may.1 ∙ due))
  where
    same : (x : End) → Some x ≡ Some end → x ≡ end
    same x e = cc

may-on : (s : GuestState) (end : End) → MayEnd s end → s.end ≡ None
may-on s Halted may = may.0
may-on s Budget may = may.not_ended
may-on s (CellFailed c) may = may.0

pub row-as : (s t : GuestState) (e : Event) (end : End) → EndsAs s end → Row s e t → EndsAs t end
row-as s t (Load p v) end so row = absurd (not-on s end so row.goes_on)
row-as s t (Unload p) end so row = late-as s t end so row.phase (ap (λ (x : GuestState). x.end) row.after)
row-as s t (Direct p v) end so row = absurd (not-on s end so row.goes_on)
row-as s t (Refill p) end so row = absurd (not-on s end so row.goes_on)
row-as s t (Emulate p v) end so row = absurd (not-on s end so (⊎_elim (λ (x : Emulates s p.0 v.0 t). x.traps.goes_on) (λ (x : EndsRead s p.0 v.0 t). x.traps.goes_on) row))
row-as s t (Begin q kind node by) end so row = absurd (not-on s end so row.goes_on)
row-as s t (Ack p q) end so row = absurd (not-on s end so row.goes_on)
row-as s t (Finish q) end so row = ⊎_elim
    (λ (x : Finishes s q.0 t). absurd (not-on s end so x.goes_on))
    (λ (x : LetsGo s q.0 t). ⊎_elim
    (λ (is : s.end ≡ Some end). absurd (none-some end (sym x.not_ended ∙ is)))
    (λ (y : (s.end ≡ None) × (owed s ≡ Some end)). inr (ap (λ (z : GuestState). z.end) x.after ∙ y.0, stays-owed s t q.0 end x y.1))
    so)
    row
row-as s t (PacketIn k) end so row = absurd (not-on s end so (⊎_elim (λ (x : Receives s k t). x.delivered.goes_on) (λ (x : EndsDelivery s k t). x.delivered.goes_on) row))
row-as s t (Discard k) end so row = absurd (not-on s end so row.goes_on)
row-as s t (Skip k) end so row = late-as s t end so row.phase (ap (λ (x : GuestState). x.end) row.after)
row-as s t (CellFails c) end so row = late-as s t end so row.phase (ap (λ (x : GuestState). x.end) row.after)
row-as s t (Ending other) end so row = ⊎_elim
    (λ (is : s.end ≡ Some end). absurd (none-some end (sym (may-on s other row.may) ∙ is)))
    (λ (x : (s.end ≡ None) × (owed s ≡ Some end)). inl (ap (λ (z : GuestState). z.end) row.after ∙ ap (λ (y : End). Some y) (may-be s end other x.1 row.may).1))
    so

silent-as : (s t : GuestState) (end : End) → EndsAs s end → Silent s t → EndsAs t end
silent-as s t end so silent = ⊎_elim (λ (e : t ≡ s). subst (λ (x : GuestState). EndsAs x end) (sym e) so) (λ (x : ComesToHand s t). absurd (not-on s end so x.goes_on)) silent

pub run-as : (s t : GuestState) (journal : List Event) (end : End) → EndsAs s end → Run s journal t → EndsAs t end
run-as s t [] end so run = silent-as s t end so run
run-as s t (e ∷ journal) end so run = run-as run.1 t journal end (row-as run.0 run.1 e end (silent-as s run.0 end so run.2) run.3) run.4

pub then-ends : (s m t : GuestState) (rest : List Event) (c : ℕ) → GoesOn s → uses s c ≡ true → CellFailsIn s c m → Run m rest t → EndsAs t (end_by c)
then-ends s m t rest c on used row run = run-as m t rest (end_by c)
    (inr (ap (λ (x : GuestState). x.end) row.after ∙ on.not_ended, owes-by-use s m c on row ∙ ap (λ (b : Bool). if b then Some (end_by c) else None) used)) run

-- backwards: it ends so only where the failure found the cell in use
is-by : (t : GuestState) (c : ℕ) → EndsAs t (end_by c) ⊎ (EndsAs t (end_by c) → ⊥)
is-by t c = ended t.end refl
  where
    some-other : (c : ℕ) (x : End) → (x ≡ end_by c) ⊎ (x ≡ end_by c → ⊥)
    some-other c Halted = inr (λ e. cc)
    some-other c Budget = inr (λ e. cc)
    some-other c (CellFailed d) = ⊎_elim (λ (is : d.0 ≡ c). inl (ap end_by is)) (λ (ne : d.0 ≢ c). inr (λ e. ne (failed-same d.0 c (ap (λ (y : End). Some y) e)))) (cases_eq d.0 c)

    the : (x y : End) → Some x ≡ Some y → x ≡ y
    the x y e = cc

    due : (o : Option End) → owed t ≡ o → t.end ≡ None → EndsAs t (end_by c) ⊎ (EndsAs t (end_by c) → ⊥)
    due None is on = inr (λ so. ⊎_elim (λ (e : t.end ≡ Some (end_by c)). none-some (end_by c) (sym on ∙ e)) (λ (x : (t.end ≡ None) × (owed t ≡ Some (end_by c))). none-some (end_by c) (sym is ∙ x.1)) so)
    due (Some x) is on = ⊎_elim
        (λ (e : x ≡ end_by c). inl (inr (on, is ∙ ap (λ (y : End). Some y) e)))
        (λ (ne : x ≡ end_by c → ⊥). inr (λ so. ⊎_elim (λ (e : t.end ≡ Some (end_by c)). none-some (end_by c) (sym on ∙ e)) (λ (z : (t.end ≡ None) × (owed t ≡ Some (end_by c))). ne (the x (end_by c) (sym is ∙ z.1))) so))
        (some-other c x)

    ended : (o : Option End) → t.end ≡ o → EndsAs t (end_by c) ⊎ (EndsAs t (end_by c) → ⊥)
    ended None is = due (owed t) refl is
    ended (Some x) is = ⊎_elim
        (λ (e : x ≡ end_by c). inl (inl (is ∙ ap (λ (y : End). Some y) e)))
        (λ (ne : x ≡ end_by c → ⊥). inr (λ so. ⊎_elim (λ (e : t.end ≡ Some (end_by c)). ne (the x (end_by c) (sym is ∙ e))) (λ (z : (t.end ≡ None) × (owed t ≡ Some (end_by c))). none-some x (sym z.0 ∙ is)) so))
        (some-other c x)

-- a guest that goes on doesn't end by a cell at once
ended-by : (s t : GuestState) (e : Event) (c : ℕ) → GoesOn s → Row s e t → t.end ≡ Some (end_by c) → ⊥
ended-by s t e c on row is = goes e row
  where
    same : t.end ≡ s.end → ⊥
    same at = none-some (end_by c) (sym on.not_ended ∙ sym at ∙ is)

    goes : (e : Event) → Row s e t → ⊥
    goes (Load p v) row = same (ap (λ (x : GuestState). x.end) row.after)
    goes (Unload p) row = same (ap (λ (x : GuestState). x.end) row.after)
    goes (Direct p v) row = let d = row.done in same (ap (λ (x : GuestState). x.end) (steps-after s t p.0 v.0 row) ∙ noted-end p.0 (told s v.0 d) _ ∙ accessed-end _ v.0 _ d.does.registers d.does.request)
    goes (Refill p) row = same (ap (λ (x : GuestState). x.end) row.after)
    goes (Emulate p v) row = same (⊎_elim
        (λ (x : Emulates s p.0 v.0 t). ap (λ (y : GuestState). y.end) x.after ∙ act-end s p.0 v.0 (at_hand s v.0))
        (λ (x : EndsRead s p.0 v.0 t). ap (λ (y : GuestState). y.end) x.after)
        row)
    goes (Begin q kind node by) row = same (ap (λ (x : GuestState). x.end) row.after)
    goes (Ack p q) row = same (ap (λ (x : GuestState). x.end) row.after)
    goes (Finish q) row = same (⊎_elim (λ (x : Finishes s q.0 t). ap (λ (y : GuestState). y.end) x.after) (λ (x : LetsGo s q.0 t). ap (λ (y : GuestState). y.end) x.after) row)
    goes (PacketIn k) row = same (⊎_elim (λ (x : Receives s k t). ap (λ (y : GuestState). y.end) x.after) (λ (x : EndsDelivery s k t). ap (λ (y : GuestState). y.end) x.after) row)
    goes (Discard k) row = same (ap (λ (x : GuestState). x.end) row.after)
    goes (Skip k) row = same (ap (λ (x : GuestState). x.end) row.after)
    goes (CellFails d) row = same (ap (λ (x : GuestState). x.end) row.after)
    goes (Ending end) row = none-some (end_by c) (sym on.owes_no_end ∙ owes end row.may (ap (λ (x : GuestState). x.end) row.after))
      where
        the : (x y : End) → Some x ≡ Some y → x ≡ y
        the x y e = cc

        owes : (end : End) → MayEnd s end → t.end ≡ Some end → owed s ≡ Some (end_by c)
        owes Halted may at = may.1 ∙ (sym at ∙ is)
        owes Budget may at = absurd (budget (sym at ∙ is))
          where
            budget : Some Budget ≡ Some (end_by c) → ⊥
            budget e = cc
        owes (CellFailed d) may at = may.1 ∙ (sym at ∙ is)

-- a row after which it is due, and before which it wasn't, is the failure
pub the-failure : (s t : GuestState) (e : Event) (c : ℕ) → (EndsAs s (end_by c) → ⊥) → Row s e t → EndsAs t (end_by c) → GoesOn s × (e ≡ failure_of c) × (uses s c ≡ true)
the-failure s t e c not_yet row so = goes s.end refl
  where
    the : (x y : End) → Some x ≡ Some y → x ≡ y
    the x y e = cc

    other : (x : End) → EndsAs t x → (x ≡ end_by c → ⊥) → ⊥
    other x as_x ne = ⊎_elim
        (λ (is : t.end ≡ Some (end_by c)). ⊎_elim (λ (at : t.end ≡ Some x). ne (the x (end_by c) (sym at ∙ is))) (λ (y : (t.end ≡ None) × (owed t ≡ Some x)). none-some (end_by c) (sym y.0 ∙ is)) as_x)
        (λ (z : (t.end ≡ None) × (owed t ≡ Some (end_by c))). ⊎_elim (λ (at : t.end ≡ Some x). none-some x (sym z.0 ∙ at)) (λ (y : (t.end ≡ None) × (owed t ≡ Some x)). ne (the x (end_by c) (sym y.1 ∙ z.1))) as_x)
        so

    going : GoesOn s → GoesOn s × (e ≡ failure_of c) × (uses s c ≡ true)
    going on =
        ⊎_elim
        (λ (is : t.end ≡ Some (end_by c)). absurd (not-ended e row is))
        (λ (x : (t.end ≡ None) × (owed t ≡ Some (end_by c))). let r = by-failure-alone s t e c on row x.1 in (on, r.0, r.1))
        so
      where
        not-ended : (e : Event) → Row s e t → t.end ≡ Some (end_by c) → ⊥
        not-ended e row is = ended-by s t e c on row is

    goes : (o : Option End) → s.end ≡ o → GoesOn s × (e ≡ failure_of c) × (uses s c ≡ true)
    goes None is = owes (owed s) refl
      where
        owes : (o : Option End) → owed s ≡ o → GoesOn s × (e ≡ failure_of c) × (uses s c ≡ true)
        owes None due = going (record { not_ended = is; owes_no_end = due })
        owes (Some x) due = absurd (other x (row-as s t e x (inr (is, due)) row) (λ same. not_yet (inr (is, due ∙ ap (λ (y : End). Some y) same))))
    goes (Some x) is = absurd (other x (row-as s t e x (inl is) row) (λ same. not_yet (inl (is ∙ ap (λ (y : End). Some y) same))))

silent-back : (s t : GuestState) (c : ℕ) → (EndsAs s (end_by c) → ⊥) → Silent s t → EndsAs t (end_by c) → ⊥
silent-back s t c not_yet silent so = ⊎_elim
    (λ (e : t ≡ s). not_yet (subst (λ (x : GuestState). EndsAs x (end_by c)) e so))
    (λ (x : ComesToHand s t). not_yet (back x))
    silent
  where
    back : ComesToHand s t → EndsAs s (end_by c)
    back x = ⊎_elim (λ (is : t.end ≡ Some (end_by c)). inl (sym (ap (λ (y : GuestState). y.end) x.after) ∙ is)) (λ (z : (t.end ≡ None) × (owed t ≡ Some (end_by c))). inr (sym (ap (λ (y : GuestState). y.end) x.after) ∙ z.0, sym (ap owed x.after) ∙ z.1)) so

pub found-in-use : (s t : GuestState) (journal : List Event) (c : ℕ) → (EndsAs s (end_by c) → ⊥) → Run s journal t → EndsAs t (end_by c) → FoundInUse s journal c
found-in-use s t [] c not_yet run so = absurd (silent-back s t c not_yet run so)
found-in-use s t (e ∷ journal) c not_yet run so =
    let later : EndsAs run.0 (end_by c) → ⊥ = λ x. silent-back s run.0 c not_yet run.2 x in
    ⊎_elim
    (λ (now : EndsAs run.1 (end_by c)). let r = the-failure run.0 run.1 e c later run.3 now in
    record { before = []; found = run.0; until = run.2; going_on = r.0; used = r.2; rest = journal; stands = ap (λ (x : Event). x ∷ journal) r.1 })
    (λ (not_now : EndsAs run.1 (end_by c) → ⊥). let r = found-in-use run.1 t journal c not_now run.4 so in
    record { before = e ∷ r.before; found = r.found; until = (run.0, run.1, run.2, run.3, r.until); going_on = r.going_on; used = r.used; rest = r.rest; stands = ap (λ (l : List Event). e ∷ l) r.stands })
    (is-by run.1 c)

pub starts-otherwise : (b : Boot) (c : ℕ) → EndsAs (start b) (end_by c) → ⊥
starts-otherwise b c so = ⊎_elim
    (λ (is : (start b).end ≡ Some (end_by c)). none-some (end_by c) is)
    (λ (x : ((start b).end ≡ None) × (owed (start b) ≡ Some (end_by c))). none-some (end_by c) (is-noted (start b) c x.1))
    so
