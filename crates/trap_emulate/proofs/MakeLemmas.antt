-- A deed that is the one at hand makes the step whole.
use Rattle.std.proofs.Common.{◌≡◌, ◌⊎◌, inl, inr, ℕ, nat_lt, Bool, true, false, if◌then◌else◌, length, Option, Some, None, Result, Ok, Err, is_ok, refl, sym, ap, ◌∙◌, subst}
use Rattle.base_words.specs.declared.exception.Exception.{Exception}
use Rattle.base_words.specs.declared.exception.Exception.TheVariants.{Interrupt}
use Rattle.base_words.specs.declared.instr.Cp0Op.TheVariants.{TlbRead, TlbWriteIndexed, TlbWriteRandom, TlbProbe, ExceptionReturn}
use Rattle.base_words.specs.Coprocessor.{interrupts}
use Rattle.base_words.specs.Tlb.{page_pair, entry_read}
use Rattle.guest_devs.specs.declared.act.DevAct.{DevAct}
use Rattle.guest_devs.specs.declared.act.DevAct.TheVariants as acts
use Rattle.private_machine.specs.DeviceAct.{Act, WritesEntry, NoAct}
use Rattle.private_machine.specs.OwnStep.{attempted, settled, acted, joined, made, own_step}
use Rattle.private_machine.specs.PrivateMachine.{PrivateMachine, vcpu, on_vcpu}
use Rattle.private_machine.specs.StepAct.{act_next}
use Rattle.private_machine.specs.Vcpu.{held_entry, raising, ticking}
use Rattle.trap_emulate.specs.declared.decision.Deed.{Deed}
use Rattle.trap_emulate.specs.declared.decision.Deed.TheVariants as deeds
use Rattle.trap_emulate.specs.declared.emulated.EntryWrite.{EntryWrite}
use Rattle.trap_emulate.specs.Decisions.{Makes}
use Rattle.trap_emulate.specs.Deeds.{done_by, act_by, writes_by, Tells}
use Rattle.trap_emulate.specs.Emulation.{tried, Leaves, Defers}

-- where the step at hand leads is where the machine goes
acted-tried : (m : PrivateMachine) (v : ℕ) → acted m v ≡ settled m v (tried m v)
acted-tried m v = elim (interrupts (vcpu m v).cp0) as (λ (b : Bool). (if b then on_vcpu m v (raising Interrupt) else settled m v (attempted m v)) ≡ settled m v (if b then Err Interrupt else attempted m v)) [ true ↦ refl | false ↦ refl ]

step-tried : (m : PrivateMachine) (v : ℕ) → (vcpu m v).halted ≡ false → own_step m v ≡ on_vcpu (settled (joined m v) v (tried (joined m v) v)) v ticking
step-tried m v running =
    ap (λ (b : Bool). if b then m else made (joined m v) v) running
    ∙ ap (λ (n : PrivateMachine). on_vcpu n v ticking) (acted-tried (joined m v) v)

-- where it leads to a machine, that is where the instruction leads
pub tried-instruction : (m : PrivateMachine) (v : ℕ) (after : PrivateMachine) → tried m v ≡ Ok after → (interrupts (vcpu m v).cp0 ≡ false) × (attempted m v ≡ Ok after)
tried-instruction m v after e = by (interrupts (vcpu m v).cp0) refl e
  where
    by : (b : Bool) → interrupts (vcpu m v).cp0 ≡ b → (if b then Err Interrupt else attempted m v) ≡ Ok after → (interrupts (vcpu m v).cp0 ≡ false) × (attempted m v ≡ Ok after)
    by true is e = cc
    by false is e = (is, e)

-- where it raises an exception, that is an interrupt, or the instruction raises it
pub tried-raises : (m : PrivateMachine) (v : ℕ) (x : Exception) → tried m v ≡ Err x
    → ((interrupts (vcpu m v).cp0 ≡ true) × (x ≡ Interrupt)) ⊎ ((interrupts (vcpu m v).cp0 ≡ false) × (attempted m v ≡ Err x))
tried-raises m v x e = by (interrupts (vcpu m v).cp0) refl e
  where
    by : (b : Bool) → interrupts (vcpu m v).cp0 ≡ b → (if b then Err Interrupt else attempted m v) ≡ Err x
        → ((interrupts (vcpu m v).cp0 ≡ true) × (x ≡ Interrupt)) ⊎ ((interrupts (vcpu m v).cp0 ≡ false) × (attempted m v ≡ Err x))
    by true is e = inl (is, cc)
    by false is e = inr (is, e)

-- a step of an instruction is that and the tick
pub step-ticks : (m : PrivateMachine) (v : ℕ) (after : PrivateMachine) → (vcpu m v).halted ≡ false → interrupts (vcpu (joined m v) v).cp0 ≡ false → attempted (joined m v) v ≡ Ok after → own_step m v ≡ on_vcpu after v ticking
step-ticks m v after running off leads =
    let j = joined m v in
    ap (λ (b : Bool). if b then m else made j v) running
    ∙ ap (λ (b : Bool). on_vcpu (if b then on_vcpu j v (raising Interrupt) else settled j v (attempted j v)) v ticking) off
    ∙ ap (λ (r : Result PrivateMachine Exception). on_vcpu (settled j v r) v ticking) leads

-- what the step at hand leaves to the caller, its instruction does
pub defers : (m : PrivateMachine) (v : ℕ) (act : DevAct) → Leaves m v (tried m v) (act_next m v) act → Defers m v act
defers m v acts.Done left = absurd left
defers m v acts.DiskRead left = let it = tried-instruction m v _ left.leads in record { off = it.0; leaves = record { leads = it.1; does = left.does } }
defers m v acts.DiskWrite left = let it = tried-instruction m v _ left.leads in record { off = it.0; leaves = record { leads = it.1; does = left.does } }
defers m v (acts.Send to) left = let it = tried-instruction m v _ left.leads in record { off = it.0; leaves = record { leads = it.1; does = left.does } }

-- the entry that a deed writes
abbrev Writes : PrivateMachine → ℕ → Act → Option EntryWrite → Type 0
Writes m v act None = act ≡ NoAct
Writes m v act (Some w) = (act ≡ WritesEntry w.index) × (w.old_pair ≡ page_pair (entry_read (vcpu m v).tlb w.index).hi) × (w.new_pair ≡ page_pair (held_entry (vcpu m v).cp0).hi)

entry-writes : (m : PrivateMachine) (v index : ℕ) (b : Bool)
    → Writes m v (if b then WritesEntry index else NoAct) (if b then Some (record { index = index; old_pair = page_pair (entry_read (vcpu m v).tlb index).hi; new_pair = page_pair (held_entry (vcpu m v).cp0).hi }) else None)
entry-writes m v index true = (refl, refl, refl)
entry-writes m v index false = refl

deed-writes : (m : PrivateMachine) (v : ℕ) (deed : Deed) → Writes m v (act_by m v deed) (writes_by deed (vcpu m v))
deed-writes m v (deeds.Raise x) = refl
deed-writes m v (deeds.ReadCp0 number target) = refl
deed-writes m v (deeds.WriteCp0 number value) = refl
deed-writes m v (deeds.System TlbRead) = refl
deed-writes m v (deeds.System TlbWriteIndexed) = let index = (vcpu m v).cp0.index.entry in entry-writes m v index (nat_lt index (length (vcpu m v).tlb))
deed-writes m v (deeds.System TlbWriteRandom) = let index = (vcpu m v).cp0.random in entry-writes m v index (nat_lt index (length (vcpu m v).tlb))
deed-writes m v (deeds.System TlbProbe) = refl
deed-writes m v (deeds.System ExceptionReturn) = refl
deed-writes m v (deeds.LoadDevice offset target) = refl
deed-writes m v (deeds.StoreDevice offset value) = refl

-- an exception does nothing with a page
raised-act : (m : PrivateMachine) (v : ℕ) (deed : Deed) (x : Exception) → done_by m v deed ≡ Err x → act_by m v deed ≡ NoAct
raised-act m v (deeds.Raise y) x e = refl
raised-act m v (deeds.ReadCp0 number target) x e = refl
raised-act m v (deeds.WriteCp0 number value) x e = refl
raised-act m v (deeds.System op) x e = cc
raised-act m v (deeds.LoadDevice offset target) x e = refl
raised-act m v (deeds.StoreDevice offset value) x e = refl

pub makes : (m mid new : PrivateMachine) (v : ℕ) (deed : Deed) (outcome : Result (Option EntryWrite) Exception)
    → (vcpu m v).halted ≡ false → Tells (joined m v) v deed mid outcome → new ≡ on_vcpu mid v ticking → Makes m v deed new outcome
makes m mid new v deed (Ok None) running tells ticked goes does needs cause =
    let j = joined m v in
    let writes = subst (Writes j v (act_by j v deed)) (sym tells.1) (deed-writes j v deed) in
    let it = tried-instruction j v mid (goes ∙ tells.0) in
    record {
      whole = step-tried m v running ∙ ap (λ (r : Result PrivateMachine Exception). on_vcpu (settled j v r) v ticking) (goes ∙ tells.0) ∙ sym ticked;
      does = does ∙ writes;
      off = it.0;
      succeeds = ap (λ (r : Result PrivateMachine Exception). is_ok r) it.1;
    }
makes m mid new v deed (Ok (Some w)) running tells ticked goes does needs cause =
    let j = joined m v in
    let writes = subst (Writes j v (act_by j v deed)) (sym tells.1) (deed-writes j v deed) in
    let it = tried-instruction j v mid (goes ∙ tells.0) in
    record {
      made = record {
        whole = step-tried m v running ∙ ap (λ (r : Result PrivateMachine Exception). on_vcpu (settled j v r) v ticking) (goes ∙ tells.0) ∙ sym ticked;
        does = does ∙ writes.0;
        off = it.0;
        succeeds = ap (λ (r : Result PrivateMachine Exception). is_ok r) it.1;
      };
      old_pair = writes.1;
      new_pair = writes.2;
    }
makes m mid new v deed (Err x) running tells ticked goes does needs cause =
    let j = joined m v in
    record {
      whole = step-tried m v running
          ∙ ap (λ (r : Result PrivateMachine Exception). on_vcpu (settled j v r) v ticking) (goes ∙ tells.0)
          ∙ ap (λ (n : PrivateMachine). on_vcpu n v ticking) (sym tells.1) ∙ sym ticked;
      does = does ∙ raised-act j v deed x tells.0;
      raises = goes ∙ tells.0;
    }
