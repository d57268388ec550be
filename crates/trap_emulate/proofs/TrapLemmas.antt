-- Why the hardware trapped hangs on the virtual processor and the number of pages alone.
use Rattle.std.proofs.Common.{◌≡◌, ℕ, ◌==◌, Bool, true, false, if◌then◌else◌, Option, Some, Err, List, refl, sym, ap, ◌∙◌, subst}
use Rattle.base_words.specs.declared.moves.MoveKind.{MoveKind}
use Rattle.base_words.specs.declared.trap.TrapCause.{TrapCause}
use Rattle.base_words.specs.declared.trap.TrapCause.TheVariants as causes
use Rattle.base_words.specs.Coprocessor.{in_user_mode, interrupts}
use Rattle.base_words.specs.Place.{place}
use Rattle.private_machine.specs.declared.vcpu.Vcpu.{Vcpu}
use Rattle.private_machine.specs.DevicePage.{DevicePage}
use Rattle.private_machine.specs.HardwareStep.{Trap, Line, FetchMiss, DataMiss, ReadOnly, Address, Privileged, Raised, Dead, hardware_step}
use Rattle.private_machine.specs.OwnStep.{input_joined, joined}
use Rattle.private_machine.specs.PrivateMachine.{PrivateMachine, vcpu}
use Rattle.private_machine.specs.Reaching.{Wanted}
use Rattle.private_machine.specs.TrapAccess.{is_memory, grants}
use Rattle.private_machine.specs.Vcpu.{space_of}
use Rattle.trap_emulate.specs.AtHand.{needed_for}
use Rattle.trap_emulate.specs.GuestView.{machine_of}
use Rattle.trap_emulate.specs.Trapped.{IsDenied, IsTrap}

grants-same : (m n : PrivateMachine) (v : ℕ) (w : Wanted) → vcpu m v ≡ vcpu n v → m.pages ≡ n.pages → grants n v (Some w) ≡ grants m v (Some w)
grants-same m n v w here pages =
    ap (λ (c : Vcpu). is_memory (place (space_of c) n.pages w.unit w.purpose w.address)) (sym here)
    ∙ ap (λ (k : ℕ). is_memory (place (space_of (vcpu m v)) k w.unit w.purpose w.address)) (sym pages)

denied-same : (m n : PrivateMachine) (v : ℕ) (needs : Option MoveKind) (trap : Trap) → vcpu m v ≡ vcpu n v → m.pages ≡ n.pages → IsDenied m v needs trap → IsDenied n v needs trap
denied-same m n v needs Line here pages denied = tt
denied-same m n v needs (FetchMiss w) here pages denied = grants-same m n v w here pages ∙ denied
denied-same m n v needs (DataMiss word w) here pages denied = grants-same m n v w here pages ∙ denied
denied-same m n v needs (ReadOnly word w) here pages denied = λ granted. denied (sym (grants-same m n v w here pages) ∙ granted)
denied-same m n v needs (Address word) here pages denied = tt
denied-same m n v needs (Privileged word) here pages denied = tt
denied-same m n v needs (Raised x) here pages denied = tt
denied-same m n v needs (Dead there w) here pages denied = denied

trap-same : (m n : PrivateMachine) (v : ℕ) (needs : Option MoveKind) (cause : TrapCause) → vcpu m v ≡ vcpu n v → m.pages ≡ n.pages → IsTrap m v needs cause → IsTrap n v needs cause
trap-same m n v needs cause here pages it = record {
  sight = it.sight;
  backing = it.backing;
  trap = it.trap;
  user = it.user ∙ ap (λ (c : Vcpu). in_user_mode c.cp0.status) here;
  asid = it.asid ∙ ap (λ (c : Vcpu). c.cp0.entry_hi.asid) here;
  line = it.line ∙ ap (λ (c : Vcpu). interrupts c.cp0) here;
  traps = subst (λ (c : Vcpu). hardware_step it.sight it.backing c.registers ≡ Err it.trap) here it.traps;
  told = it.told;
  denied = denied-same m n v needs it.trap here pages it.denied;
}

vcpu-joined : (pages : ℕ) (vcpus : List Vcpu) (page : DevicePage) (memory other : List ℕ) (disk blocks : List (List ℕ)) (v : ℕ)
    → vcpu (joined (machine_of pages vcpus page memory disk) v) v ≡ vcpu (joined (machine_of pages vcpus page other blocks) v) v
vcpu-joined pages vcpus page memory other disk blocks v =
    let m = machine_of pages vcpus page memory disk in
    let n = machine_of pages vcpus page other blocks in
    elim (v == 0) as (λ (b : Bool). vcpu (if b then input_joined m else m) v ≡ vcpu (if b then input_joined n else n) v) [ true ↦ refl | false ↦ refl ]

pub pages-joined : (m : PrivateMachine) (v : ℕ) → (joined m v).pages ≡ m.pages
pages-joined m v = elim (v == 0) as (λ (b : Bool). (if b then input_joined m else m).pages ≡ m.pages) [ true ↦ refl | false ↦ refl ]

-- whatever memory and disk hold
pub trap-anywhere : (pages : ℕ) (vcpus : List Vcpu) (page : DevicePage) (memory other : List ℕ) (disk blocks : List (List ℕ)) (v : ℕ) (needs : Option MoveKind) (cause : TrapCause)
    → IsTrap (joined (machine_of pages vcpus page memory disk) v) v needs cause → IsTrap (joined (machine_of pages vcpus page other blocks) v) v needs cause
trap-anywhere pages vcpus page memory other disk blocks v needs cause it =
    let m = machine_of pages vcpus page memory disk in
    let n = machine_of pages vcpus page other blocks in
    trap-same (joined m v) (joined n v) v needs cause (vcpu-joined pages vcpus page memory other disk blocks v) (pages-joined m v ∙ sym (pages-joined n v)) it

-- only a store through a half that isn't writable needs a move
pub needed-told : (needs : Option MoveKind) (cause : TrapCause) (kind : MoveKind) → needed_for needs cause ≡ Some kind → (needs ≡ Some kind) × ((word : ℕ) × (cause ≡ causes.ReadOnly word))
needed-told needs causes.Line kind e = cc
needed-told needs causes.FetchMiss kind e = cc
needed-told needs (causes.DataMiss word) kind e = cc
needed-told needs (causes.ReadOnly word) kind e = (e, (word, refl))
needed-told needs (causes.Address word) kind e = cc
needed-told needs (causes.Privileged word) kind e = cc
needed-told needs (causes.Raised x) kind e = cc
needed-told needs (causes.Dead frame) kind e = cc
