-- One item: what its token is told from the load to the unload.
use Rattle.std.proofs.Common.{◌≡◌, ℕ, List, [], ◌∷◌, ◌++◌, refl, ap, ◌∙◌, subst, Some, unwrap_or, false, true, ◌==◌, if◌then◌else◌, arith, Bool, ◌<◌}
use Rattle.base_words.specs.declared.ids.ProcId.{ProcId}
use Rattle.base_words.specs.declared.ids.VcpuId.{VcpuId}
use Rattle.base_words.specs.declared.events.End.{End}
use Rattle.base_words.specs.declared.events.Event.TheVariants.{Load, Unload}
use Rattle.shootdown.specs.declared.notes.Note.{Note}
use Rattle.shootdown.specs.declared.notes.Note.TheVariants.{Made}
use Rattle.shootdown.specs.Notes.{Token}
use Rattle.guest_core.specs.Noting.{loaded_by}
use Rattle.guest_core.specs.GuestCalls.{processor_of}
use Rattle.guest_core.specs.declared.records.Cut.{Cut}
use Rattle.guest_lock.specs.declared.burst.Burst.{Burst}
use Rattle.guest_lock.specs.declared.burst.Stop.{Stop}
use Rattle.guest_lock.specs.declared.burst.Stop.TheVariants as stop
use Rattle.guest_lock.specs.Counted.{goes_on}
use Rattle.guest_lock.specs.Told.{with_told, shown, vcpu_shown, told_of_stop, AreSteps, Bursts}
use Rattle.plan_due.specs.Slices.{IsCause, framed}
use Rattle.plan_due.specs.Stops as at_end
use Rattle.plan_due.specs.Stops.{Stop as PlanStop, told_of_stop as told_at_end}
use Rattle.run_workers.specs.Working.{as_told, Serves}
use Rattle.base_words.specs.declared.ids.CellId.{CellId}
use Rattle.guest_core.specs.declared.records.Cut.TheVariants.{Whole, GuestEnded, CellFailed}

-- the laws of guest_lock
abbrev pub Grows : Type 0
Grows = (token : Token) (g : ℕ) (first next : List Note) → with_told (with_told token g first) g next ≡ with_told token g (first ++ next)

abbrev pub Shows : Type 0
Shows = (token : Token) (g : ℕ) (told : List Note) → shown g (with_told token g told) ≡ loaded_by (shown g token) told

pub loaded-shown : Shows → (old new : Token) (g : ℕ) (p : ProcId) (v : VcpuId) → new ≡ with_told old g (Made (Load p v) ∷ []) → shown g new ≡ Some v.0
loaded-shown shows old new g p v e = ap (shown g) e ∙ shows old g (Made (Load p v) ∷ [])

same-told : (v : VcpuId) (s : Stop) → told_of_stop v s ≡ told_at_end v (as_told s)
same-told v stop.Paused = refl
same-told v (stop.Waits page) = refl
same-told v stop.VcpuHalted = refl
same-told v (stop.GuestEnded end) = refl
same-told v stop.Memory = refl

-- who goes on goes on
pub goes_on-twice : (s : Stop) → goes_on (goes_on s) ≡ goes_on s
goes_on-twice stop.Paused = refl
goes_on-twice (stop.Waits page) = refl
goes_on-twice stop.VcpuHalted = refl
goes_on-twice (stop.GuestEnded end) = refl
goes_on-twice stop.Memory = refl

pub served-done : Grows → Shows → (g : ℕ) (cell item planned : ℕ) (v : VcpuId) (old loaded turned new : Token) (burst : Burst) (cut : Cut) →
    loaded ≡ with_told old g (Made (Load (processor_of old) v) ∷ []) → Bursts loaded g burst turned →
    new ≡ with_told turned g (Made (Unload (processor_of turned)) ∷ []) → IsCause cell planned burst.steps (as_told burst.stop) cut →
    Serves cell item v planned old g (record { item = item; steps = burst.steps; cause = cut }) new
served-done grows shows g cell item planned v old loaded turned new burst cut load bursts unload cause =
    let p = processor_of old in
    let processor : processor_of loaded ≡ p = ap processor_of load in
    let vcpu : vcpu_shown g loaded ≡ v = ap (λ s. record { 0 = unwrap_or s 0 }) (loaded-shown shows old loaded g p v load) in
    let body = bursts.made ++ told_of_stop v burst.stop in
    let turns : turned ≡ with_told loaded g body = bursts.token ∙ ap (λ u. with_told loaded g (bursts.made ++ told_of_stop u burst.stop)) vcpu in
    let all : turned ≡ with_told old g (Made (Load p v) ∷ body) = turns ∙ ap (λ (t : Token). with_told t g body) load ∙ grows old g (Made (Load p v) ∷ []) body in
    let told = framed true p v body in
    let token : new ≡ with_told old g told = unload ∙ ap (λ (t : Token). with_told t g (Made (Unload (processor_of t)) ∷ [])) all ∙ grows old g (Made (Load p v) ∷ body) (Made (Unload p) ∷ []) in
    record {
      told = told;
      is = record {
        number = refl;
        loaded = true;
        made = bursts.made;
        by = as_told burst.stop;
        steps = subst (λ u. AreSteps p u burst.steps bursts.made) vcpu (subst (λ q. AreSteps q (vcpu_shown g loaded) burst.steps bursts.made) processor bursts.steps);
        notes = ap (λ (l : List Note). framed true p v (bursts.made ++ l)) (same-told v burst.stop);
        cause = cause;
      };
      token = token;
    }

-- nothing was loaded
pub served-none : (g cell item planned : ℕ) (v : VcpuId) (old new : Token) (by : PlanStop) (cut : Cut) → new ≡ with_told old g (told_at_end v by) → IsCause cell planned 0 by cut → Serves cell item v planned old g (record { item = item; steps = 0; cause = cut }) new
served-none g cell item planned v old new by cut token cause = record {
  told = told_at_end v by;
  is = record { number = refl; loaded = false; made = []; by = by; steps = tt; notes = refl; cause = cause };
  token = token;
}

-- the guest has ended, or the cell of its processor has failed
no-steps : (planned : ℕ) → (planned == 0) ≡ true → 0 ≡ planned
no-steps planned e = grind arith

some-steps : (planned : ℕ) → (planned == 0) ≡ false → 0 < planned
some-steps planned e = grind arith

pub cause-ended : (cell planned : ℕ) (end : End) → IsCause cell planned 0 (at_end.GuestEnded end) (if planned == 0 then Whole else GuestEnded end)
cause-ended cell planned end = by (planned == 0) refl
  where
    by : (b : Bool) → (planned == 0) ≡ b → IsCause cell planned 0 (at_end.GuestEnded end) (if b then Whole else GuestEnded end)
    by true is = no-steps planned is
    by false is = (some-steps planned is, refl)

pub cause-dead : (cell planned : ℕ) (dead : CellId) → dead.0 ≡ cell → IsCause cell planned 0 (at_end.CellDead dead) (if planned == 0 then Whole else CellFailed dead)
cause-dead cell planned dead own = by (planned == 0) refl
  where
    by : (b : Bool) → (planned == 0) ≡ b → IsCause cell planned 0 (at_end.CellDead dead) (if b then Whole else CellFailed dead)
    by true is = no-steps planned is
    by false is = (some-steps planned is, refl, refl, own)
