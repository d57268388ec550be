-- What an instruction and a tick leave of a window.
use Rattle.std.proofs.Common.{◌≡◌, ℕ, zero, suc, ◌<◌, ◌≤◌, ◌+◌, ◌-◌, ◌==◌, if◌then◌else◌, Bool, true, false, List, [], ◌∷◌, length, get_or, set, replicate, None, refl, sym, ap, ◌∙◌, subst, get_or-set_same, arith}
use Rattle.std.proofs.lemmas.Bool.{eqb-true}
use Rattle.base_words.specs.declared.regs.Regs.{Regs}
use Rattle.base_words.specs.declared.coprocessor.Cp0Registers.{Cp0Registers}
use Rattle.base_words.specs.Coprocessor.{interrupts, in_user_mode}
use Rattle.base_words.specs.Place.{AddressSpace}
use Rattle.mips_cp0.specs.Quiet.{IsQuiet}
use Rattle.private_machine.specs.declared.vcpu.Vcpu.{Vcpu}
use Rattle.private_machine.specs.Vcpu.{no_vcpu, space_of, with_line_on, ticking}
use Rattle.private_machine.specs.Signals.{changed}
use Rattle.private_machine.specs.DevicePage.{DevicePage}
use Rattle.private_machine.specs.PrivateMachine.{PrivateMachine, vcpu, on_vcpu, left, input_waits, with_devices, with_input_line}
use Rattle.private_machine.specs.OwnStep.{joined, input_joined}
use Rattle.private_machine.specs.PrivateRun.{own_event, private_run}
use Rattle.base_words.specs.declared.events.OwnEvent.{OwnEvent}
use Rattle.guest_devs.specs.Arrivals.{NoneJoins}
use Rattle.guest_devs.specs.Quiet.{AreQuiet}
use Rattle.flat_machine.specs.declared.window.KeptPages.{KeptPages}
use Rattle.flat_machine.specs.Windows.{AreKept, IsWindow, Keeps}

-- ---- before a quiet step

pub quiet-none : (v : ℕ) (m : PrivateMachine) → AreQuiet 1 v m.vcpus m.devices → interrupts (vcpu m v).cp0 ≡ false
quiet-none v m q = q.interrupts 0 (omega arith)

pub quiet-less : (n k v : ℕ) (cs : List Vcpu) (page : DevicePage) → k ≤ n → AreQuiet n v cs page → AreQuiet k v cs page
quiet-less n k v cs page few q = record {
  interrupts = λ i lt. q.interrupts i (omega arith);
  input = λ first some. let rests = q.input first (omega arith) in record { none = λ steps lt. rests.none steps (omega arith); line = rests.line };
}

same-line : (cs : List Vcpu) (page : DevicePage) → (get_or cs 0 no_vcpu).cp0.cause.pending.input ≡ input_waits page → set cs 0 (with_line_on 2 (input_waits page) (get_or cs 0 no_vcpu)) ≡ cs
same-line [] page line = refl
same-line (c ∷ cs) page line = ap (λ w. with_line_on 2 w c ∷ cs) (sym line)

pub quiet-joined : (v : ℕ) (m : PrivateMachine) → AreQuiet 1 v m.vcpus m.devices → joined m v ≡ m
quiet-joined v m q = by (v == 0) refl
  where
    by : (b : Bool) → (v == 0) ≡ b → (if b then input_joined m else m) ≡ m
    by false is = refl
    by true is =
        let rests = q.input (eqb-true v 0 is) (omega arith) in
        ap (λ d. with_input_line (with_devices m d)) (rests.none (vcpu m 0).steps (omega arith))
        ∙ ap (λ cs. record m { vcpus = cs }) (same-line m.vcpus m.devices rests.line)

-- ---- after an instruction that keeps them

pub keeps-all : (m : PrivateMachine) (v : ℕ) → Keeps m v m
keeps-all m v = record { cp0 = refl; tlb = refl; steps = refl; halted = refl; devices = refl; pages = refl }

-- registers change nothing of it
pub keeps-left : (m : PrivateMachine) (v : ℕ) (regs : Regs) → v < length m.vcpus → Keeps m v (left m v regs)
keeps-left m v regs there =
    let at = get_or-set_same m.vcpus v (record (vcpu m v) { registers = regs }) no_vcpu there in
    record {
      cp0 = ap (λ (c : Vcpu). c.cp0) at;
      tlb = ap (λ (c : Vcpu). c.tlb) at;
      steps = ap (λ (c : Vcpu). c.steps) at;
      halted = ap (λ (c : Vcpu). c.halted) at;
      devices = refl;
      pages = refl;
    }

pub keeps-then : (m n k : PrivateMachine) (v : ℕ) → Keeps m v n → Keeps n v k → Keeps m v k
keeps-then m n k v first next = record {
  cp0 = next.cp0 ∙ first.cp0;
  tlb = next.tlb ∙ first.tlb;
  steps = next.steps ∙ first.steps;
  halted = next.halted ∙ first.halted;
  devices = next.devices ∙ first.devices;
  pages = next.pages ∙ first.pages;
}

-- ---- what is left of the window

-- the law of guest_devs
abbrev pub QuietPass : Type 0
QuietPass = (n v : ℕ) (cs : List Vcpu) (page : DevicePage) → v < length cs → AreQuiet n v cs page → AreQuiet (n - 1) v (changed v ticking cs) page

quiet-kept : (n v : ℕ) (m k : PrivateMachine) → Keeps m v k → AreQuiet n v m.vcpus m.devices → AreQuiet n v k.vcpus k.devices
quiet-kept n v m k keeps q = record {
  interrupts = subst (IsQuiet n) (sym keeps.cp0) q.interrupts;
  input = λ first some.
      let rests = q.input first some in
      let cp0 : (vcpu k 0).cp0 ≡ (vcpu m 0).cp0 = subst (λ (i : ℕ). (vcpu k i).cp0 ≡ (vcpu m i).cp0) first keeps.cp0 in
      let steps : (vcpu k 0).steps ≡ (vcpu m 0).steps = subst (λ (i : ℕ). (vcpu k i).steps ≡ (vcpu m i).steps) first keeps.steps in
      record {
        none = subst (λ (d : DevicePage). NoneJoins ((vcpu k 0).steps + n) d) (sym keeps.devices) (subst (λ (s : ℕ). NoneJoins (s + n) m.devices) (sym steps) rests.none);
        line = ap (λ (c : Cp0Registers). c.cause.pending.input) cp0 ∙ rests.line ∙ ap input_waits (sym keeps.devices);
      };
}

space-ticked : (k : PrivateMachine) (v : ℕ) → v < length k.vcpus → space_of (vcpu (on_vcpu k v ticking) v) ≡ space_of (vcpu k v)
space-ticked k v there = ap space_of (get_or-set_same k.vcpus v (ticking (vcpu k v)) no_vcpu there)

space-kept : (m k : PrivateMachine) (v : ℕ) → Keeps m v k → space_of (vcpu k v) ≡ space_of (vcpu m v)
space-kept m k v keeps = λ i. record { user = in_user_mode (keeps.cp0 i).status; asid = (keeps.cp0 i).entry_hi.asid; entries = keeps.tlb i }

pub kept-after : (m k : PrivateMachine) (v : ℕ) (kept : KeptPages) → v < length k.vcpus → Keeps m v k → AreKept (space_of (vcpu m v)) m.pages kept → AreKept (space_of (vcpu (on_vcpu k v ticking) v)) k.pages kept
kept-after m k v kept there keeps f =
    subst (λ (n : ℕ). AreKept (space_of (vcpu (on_vcpu k v ticking) v)) n kept) (sym keeps.pages)
    (subst (λ (s : AddressSpace). AreKept s m.pages kept) (sym (space-ticked k v there ∙ space-kept m k v keeps)) f)

pub quiet-after : QuietPass → (n v : ℕ) (m k : PrivateMachine) → v < length k.vcpus → Keeps m v k → AreQuiet n v m.vcpus m.devices → AreQuiet (n - 1) v (on_vcpu k v ticking).vcpus (on_vcpu k v ticking).devices
quiet-after pass n v m k there keeps q = pass n v k.vcpus k.devices there (quiet-kept n v m k keeps q)

-- one that goes on goes on
pub running-after : (m k : PrivateMachine) (v : ℕ) → v < length k.vcpus → Keeps m v k → (vcpu m v).halted ≡ false → (vcpu (on_vcpu k v ticking) v).halted ≡ false
running-after m k v there keeps goes_on = ap (λ (c : Vcpu). c.halted) (get_or-set_same k.vcpus v (ticking (vcpu k v)) no_vcpu there) ∙ keeps.halted ∙ goes_on

-- none are quiet, and no page is known
pub none-known : (m : PrivateMachine) (v : ℕ) → IsWindow m v (record { quiet = 0; pages = record { fetched = None; loaded = None; stored = None } })
none-known m v = record {
  quiet = record { interrupts = λ k lt. absurd (omega arith); input = λ first some. absurd (omega arith) };
  running = λ some. absurd (omega arith);
  kept = record { fetched = tt; loaded = tt; stored = tt };
}

-- the line of the input changes nothing of the space
pub space-joined : (m : PrivateMachine) (v : ℕ) → space_of (vcpu (joined m v) v) ≡ space_of (vcpu m v)
space-joined m v = by (v == 0) refl
  where
    first : (cs : List Vcpu) (waits : Bool) → space_of (get_or (set cs 0 (with_line_on 2 waits (get_or cs 0 no_vcpu))) 0 no_vcpu) ≡ space_of (get_or cs 0 no_vcpu)
    first [] waits = refl
    first (c ∷ cs) waits = refl

    by : (b : Bool) → (v == 0) ≡ b → space_of (vcpu (if b then input_joined m else m) v) ≡ space_of (vcpu m v)
    by false is = refl
    by true is = subst (λ (k : ℕ). space_of (vcpu (input_joined m) k) ≡ space_of (vcpu m k)) (sym (eqb-true v 0 is)) (first m.vcpus (input_waits (input_joined m).devices))

pub pages-joined : (m : PrivateMachine) (v : ℕ) → (joined m v).pages ≡ m.pages
pages-joined m v = elim (v == 0) as (λ b. (if b then input_joined m else m).pages ≡ m.pages) [ true ↦ refl | false ↦ refl ]

pub window-joined : (m : PrivateMachine) (v : ℕ) (kept : KeptPages) → AreKept (space_of (vcpu m v)) m.pages kept → IsWindow (joined m v) v (record { quiet = 0; pages = kept })
window-joined m v kept f = record {
  quiet = (none-known (joined m v) v).quiet;
  running = (none-known (joined m v) v).running;
  kept = subst (λ (n : ℕ). AreKept (space_of (vcpu (joined m v) v)) n kept) (sym (pages-joined m v)) (subst (λ (s : AddressSpace). AreKept s m.pages kept) (sym (space-joined m v)) f);
}

-- one event more
pub run-again : (m : PrivateMachine) (n : ℕ) (e : OwnEvent) → private_run m (replicate (n + 1) e) ≡ own_event (private_run m (replicate n e)) e
run-again m n e = subst (λ (k : ℕ). private_run m (replicate k e) ≡ own_event (private_run m (replicate n e)) e) (let next : suc n ≡ n + 1 = omega arith in next) (again m n)
  where
    again : (m : PrivateMachine) (n : ℕ) → private_run m (replicate (suc n) e) ≡ own_event (private_run m (replicate n e)) e
    again m zero = refl
    again m (suc n) = again (own_event m e) n
