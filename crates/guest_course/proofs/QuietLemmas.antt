-- Steps before which nothing comes, and what a step leaves of that.
use Rattle.std.proofs.Common.{◌≡◌, ℕ, zero, suc, ◌<◌, ◌≤◌, ◌+◌, ◌-◌, Bool, true, false, Option, None, List, [], ◌∷◌, length, get_or, refl, sym, ap, ◌∙◌, subst, arith}
use Rattle.base_words.specs.declared.coprocessor.Cp0Registers.{Cp0Registers}
use Rattle.base_words.specs.Coprocessor.{interrupts, line_set, in_user_mode, ticked}
use Rattle.base_words.specs.Halves.{Half}
use Rattle.mips_cp0.specs.Quiet.{IsQuiet, ticked_often}
use Rattle.private_machine.specs.declared.register_page.RegBlock.{RegBlock}
use Rattle.private_machine.specs.declared.vcpu.Vcpu.{Vcpu}
use Rattle.private_machine.specs.Vcpu.{no_vcpu, with_line_on, ticking}
use Rattle.private_machine.specs.Signals.{changed}
use Rattle.private_machine.specs.DevicePage.{DevicePage}
use Rattle.private_machine.specs.PrivateMachine.{input_waits}
use Rattle.private_machine.specs.DirectAccess.{Outcome}
use Rattle.guest_devs.specs.Arrivals.{NoneJoins}
use Rattle.isolation_law.specs.DirectStep.{relinked}
use Rattle.guest_course.specs.HardwareView.{after_step, stepped, sight_at}
use Rattle.guest_course.specs.Joining.{waits_for, joined_if, joined_page, lined_if, lined, is_due_if, is_due}
use Rattle.guest_devs.specs.Quiet.{InputRests, AreQuiet}
use Rattle.guest_course.proofs.JoinLemmas.{by-first}
use Rattle.guest_course.proofs.PagingLemmas.{but_page, taken-rest}

-- ---- what the hardware's step leaves of a virtual processor

-- but for what may be written on a register page
pub record SameTimes (new old : Vcpu) : Type 0 where
  pub cp0 : but_page new.cp0 ≡ but_page old.cp0
  pub steps : new.steps ≡ old.steps

same-times : (c : Vcpu) → SameTimes c c
same-times c = record { cp0 = refl; steps = refl }

relinked-times : (ls : List (Option ℕ)) (cs : List Vcpu) (i : ℕ) → SameTimes (get_or (relinked ls cs) i no_vcpu) (get_or cs i no_vcpu)
relinked-times [] cs i = same-times (get_or cs i no_vcpu)
relinked-times (l ∷ ls) [] i = same-times no_vcpu
relinked-times (l ∷ ls) (c ∷ cs) zero = record { cp0 = refl; steps = refl }
relinked-times (l ∷ ls) (c ∷ cs) (suc i) = relinked-times ls cs i

registers-times : (block : Option RegBlock) (o : Outcome) (v : ℕ) (cs : List Vcpu) (i : ℕ) → SameTimes (get_or (changed v (after_step block o) cs) i no_vcpu) (get_or cs i no_vcpu)
registers-times block o v [] i = same-times no_vcpu
registers-times block o zero (c ∷ cs) zero = record { cp0 = taken-rest block o.after.block c.cp0; steps = refl }
registers-times block o zero (c ∷ cs) (suc i) = same-times (get_or cs i no_vcpu)
registers-times block o (suc v) (c ∷ cs) zero = same-times c
registers-times block o (suc v) (c ∷ cs) (suc i) = registers-times block o v cs i

pub stepped-times : (v : ℕ) (block : Option RegBlock) (o : Outcome) (cs : List Vcpu) (i : ℕ) → SameTimes (get_or (stepped v block o cs) i no_vcpu) (get_or cs i no_vcpu)
stepped-times v block o cs i =
    let first = relinked-times o.after.held.links cs i in
    let then = registers-times block o v (relinked o.after.held.links cs) i in
    record { cp0 = then.cp0 ∙ first.cp0; steps = then.steps ∙ first.steps }

-- ---- before a quiet step

waits-as-shown : (n : ℕ) (cs : List Vcpu) (page : DevicePage) → 0 < n → InputRests n (get_or cs 0 no_vcpu) page → waits_for cs page ≡ (get_or cs 0 no_vcpu).cp0.cause.pending.input
waits-as-shown n cs page some rests =
    let steps = (get_or cs 0 no_vcpu).steps in
    ap input_waits (rests.none steps (omega arith)) ∙ sym rests.line

pub quiet-due : (v : ℕ) (cs : List Vcpu) (page : DevicePage) → AreQuiet 1 v cs page → is_due v (waits_for cs page) (get_or cs v no_vcpu) ≡ false
quiet-due v cs page = by-first (λ n b. AreQuiet 1 n cs page → is_due_if b (waits_for cs page) (get_or cs n no_vcpu) ≡ false) v first other
  where
    first : AreQuiet 1 0 cs page → is_due_if true (waits_for cs page) (get_or cs 0 no_vcpu) ≡ false
    first q = ap (λ w. interrupts (line_set (get_or cs 0 no_vcpu).cp0 2 w)) (waits-as-shown 1 cs page (omega arith) (q.input refl (omega arith))) ∙ q.interrupts 0 (omega arith)

    other : AreQuiet 1 v cs page → is_due_if false (waits_for cs page) (get_or cs v no_vcpu) ≡ false
    other q = q.interrupts 0 (omega arith)

pub quiet-joined : (v : ℕ) (cs : List Vcpu) (page : DevicePage) → AreQuiet 1 v cs page → joined_page v cs page ≡ page
quiet-joined v cs page = by-first (λ n b. AreQuiet 1 n cs page → joined_if b cs page ≡ page) v (λ q. (q.input refl (omega arith)).none (get_or cs 0 no_vcpu).steps (omega arith)) (λ q. refl)

pub quiet-lined : (v : ℕ) (cs : List Vcpu) (page : DevicePage) → AreQuiet 1 v cs page → lined v (waits_for cs page) cs ≡ cs
quiet-lined v cs page = by-first (λ n b. AreQuiet 1 n cs page → lined_if b (waits_for cs page) cs ≡ cs) v (first cs) (λ q. refl)
  where
    first : (l : List Vcpu) → AreQuiet 1 0 l page → lined_if true (waits_for l page) l ≡ l
    first [] q = refl
    first (c ∷ l) q = ap (λ w. with_line_on 2 w c ∷ l) (waits-as-shown 1 (c ∷ l) page (omega arith) (q.input refl (omega arith)))

-- ---- after it

pub quiet-less : (n m v : ℕ) (cs : List Vcpu) (page : DevicePage) → m ≤ n → AreQuiet n v cs page → AreQuiet m v cs page
quiet-less n m v cs page few q = record {
  interrupts = λ k lt. q.interrupts k (omega arith);
  input = λ first some. let rests = q.input first (omega arith) in record { none = λ steps lt. rests.none steps (omega arith); line = rests.line };
}

-- coprocessor 0 and the count of the steps decide
rest-often : (k : ℕ) (c : Cp0Registers) → but_page (ticked_often k c) ≡ ticked_often k (but_page c)
rest-often zero c = refl
rest-often (suc k) c = rest-often k (ticked c)

-- what is written on a register page interrupts nothing
quiet-rest : (n : ℕ) (c d : Cp0Registers) → but_page c ≡ but_page d → IsQuiet n d → IsQuiet n c
quiet-rest n c d e q k lt =
    ap interrupts (rest-often k c) ∙ ap (λ (x : Cp0Registers). interrupts (ticked_often k x)) e ∙ sym (ap interrupts (rest-often k d)) ∙ q k lt

pub quiet-same : (n v : ℕ) (new old : List Vcpu) (page : DevicePage) → ((i : ℕ) → SameTimes (get_or new i no_vcpu) (get_or old i no_vcpu)) → AreQuiet n v old page → AreQuiet n v new page
quiet-same n v new old page same q = record {
  interrupts = quiet-rest n (get_or new v no_vcpu).cp0 (get_or old v no_vcpu).cp0 (same v).cp0 q.interrupts;
  input = λ first some. let rests = q.input first some in record {
    none = subst (λ (s : ℕ). NoneJoins (s + n) page) (sym (same 0).steps) rests.none;
    line = ap (λ (c : Cp0Registers). c.cause.pending.input) (same 0).cp0 ∙ rests.line;
  };
}

-- the law of guest_devs
abbrev pub QuietPass : Type 0
QuietPass = (n v : ℕ) (cs : List Vcpu) (page : DevicePage) → v < length cs → AreQuiet n v cs page → AreQuiet (n - 1) v (changed v ticking cs) page

-- the step of the hardware, the input that was to join, and the tick
pub quiet-after : QuietPass → (n v : ℕ) (cs between new : List Vcpu) (page after : DevicePage) → v < length between → ((i : ℕ) → SameTimes (get_or between i no_vcpu) (get_or cs i no_vcpu))
    → new ≡ changed v ticking (lined v (waits_for between page) between) → after ≡ joined_page v between page → AreQuiet n v cs page → AreQuiet (n - 1) v new after
quiet-after pass zero v cs between new page after there same vcpus joins q = record { interrupts = λ k lt. absurd (omega arith); input = λ first some. absurd (omega arith) }
quiet-after pass (suc n) v cs between new page after there same vcpus joins q =
    let here = quiet-same (suc n) v between cs page same q in
    let one = quiet-less (suc n) 1 v between page (omega arith) here in
    subst (λ (d : DevicePage). AreQuiet (suc n - 1) v new d) (sym (joins ∙ quiet-joined v between page one))
    (subst (λ (l : List Vcpu). AreQuiet (suc n - 1) v l page) (sym (vcpus ∙ ap (changed v ticking) (quiet-lined v between page one))) (pass (suc n) v between page there here))

-- ---- what steps go by

pub record SameSpace (new old : Vcpu) : Type 0 where
  pub status : new.cp0.status ≡ old.cp0.status
  pub hi : new.cp0.entry_hi ≡ old.cp0.entry_hi

pub sight-same : (lost : ℕ → Bool) (new old : Vcpu) (tlb : List Half) → SameSpace new old → sight_at lost new false tlb ≡ sight_at lost old false tlb
sight-same lost new old tlb same = λ i. record { block = None; user = in_user_mode (same.status i); asid = (same.hi i).asid; line = false; tlb = tlb; lost = lost }
