-- A step that the monitor makes, with the register page and without it.
use Rattle.std.proofs.Common.{◌≡◌, ℕ, ◌==◌, if◌then◌else◌, Bool, true, false, Some, None, Ok, refl, sym, ap, ◌∙◌, subst}
use Rattle.base_words.specs.declared.device.DeviceRegister.{DeviceRegister}
use Rattle.base_words.specs.declared.device.DeviceRegister.TheVariants.{DiskCommand, Send}
use Rattle.base_words.specs.declared.trap.TrapCause.{TrapCause}
use Rattle.base_words.specs.declared.trap.TrapCause.TheVariants as causes
use Rattle.base_words.specs.Coprocessor.{interrupts}
use Rattle.base_words.specs.Instruction.{advanced}
use Rattle.guest_devs.specs.declared.act.DevAct.{DevAct}
use Rattle.guest_devs.specs.declared.act.DevAct.TheVariants as acts
use Rattle.private_machine.specs.DeviceAct.{at_register}
use Rattle.private_machine.specs.DevicePage.{transfer_of}
use Rattle.private_machine.specs.Devices.{device_done}
use Rattle.private_machine.specs.OwnStep.{attempted, input_joined, joined, own_step}
use Rattle.private_machine.specs.PrivateMachine.{PrivateMachine, vcpu, left}
use Rattle.private_machine.specs.RegisterPage.{has_page}
use Rattle.private_machine.specs.StepAct.{act_next}
use Rattle.private_machine.specs.TrapAccess.{HoldsWord}
use Rattle.isolation_law.specs.Content.{content}
use Rattle.isolation_law.specs.GuestState.{GuestState}
use Rattle.isolation_law.specs.PageAlike.{paged, paged_to}
use Rattle.isolation_law.specs.StepAct.{at_hand}
use Rattle.trap_emulate.specs.Emulation.{Stores, Leaves, Defers}

-- what the law says of the step at hand, which the monitor makes
pub record IsAlike (s : GuestState) (v : ℕ) : Type 0 where
  pub step : own_step (paged false (content s)) v ≡ paged false (own_step (content s) v)
  pub hand : act_next (joined (paged false (content s)) v) v ≡ at_hand s v
  pub tried : interrupts (vcpu (joined (content s) v) v).cp0 ≡ false → attempted (joined (content s) v) v ≡ paged_to (has_page s.around.profile) (attempted (joined (paged false (content s)) v) v)
  pub stored : (has : Bool) (m : PrivateMachine) (u value : ℕ) (register : DeviceRegister) → device_done (paged has m) u value register ≡ paged has (device_done m u value register)

-- input joins alike
pub joined-paged : (m : PrivateMachine) (v : ℕ) → joined (paged false m) v ≡ paged false (joined m v)
joined-paged m v = elim (v == 0) as (λ z. (if z then input_joined (paged false m) else paged false m) ≡ paged false (if z then input_joined m else m)) [ true ↦ refl | false ↦ refl ]

joined-page : (m : PrivateMachine) (v : ℕ) → (joined m v).register_page ≡ m.register_page
joined-page m v = elim (v == 0) as (λ z. (if z then input_joined m else m).register_page ≡ m.register_page) [ true ↦ refl | false ↦ refl ]

-- a store at a register of the device page
stores-paged : (s : GuestState) (v value : ℕ) (r : DeviceRegister) → IsAlike s v → interrupts (vcpu (joined (content s) v) v).cp0 ≡ false
    → at_register (paged false (joined (content s) v)) (transfer_of (joined (content s) v).devices v) value r ≡ at_register (joined (content s) v) (transfer_of (joined (content s) v).devices v) value r
    → Stores (joined (paged false (content s)) v) v (attempted (joined (paged false (content s)) v) v) (act_next (joined (paged false (content s)) v) v) value r
    → Stores (joined (content s) v) v (attempted (joined (content s) v) v) (at_hand s v) value r
stores-paged s v value r alike off same stores =
    let j = joined (content s) v in
    let without = joined (paged false (content s)) v in
    let has = has_page s.around.profile in
    let back : j ≡ paged has j = λ i. record j { register_page = joined-page (content s) v i } in
    let goes : PrivateMachine → PrivateMachine = λ (m : PrivateMachine). device_done (left m v (advanced (vcpu m v).registers)) v value r in
    let done : paged has (goes without) ≡ goes j =
    ap (λ (m : PrivateMachine). paged has (goes m)) (joined-paged (content s) v)
    ∙ sym (alike.stored has (left (paged false j) v (advanced (vcpu j v).registers)) v value r)
    ∙ ap goes (sym back) in
    record {
      leads = alike.tried off ∙ ap (paged_to has) stores.leads ∙ ap (λ (m : PrivateMachine). Ok m) done;
      does = sym alike.hand ∙ stores.does ∙ ap (λ (m : PrivateMachine). at_register m (transfer_of m.devices v) value r) (joined-paged (content s) v) ∙ same;
    }

-- what is left of such a step is left of it with the page, too
pub defers-paged : (s : GuestState) (v : ℕ) (act : DevAct) → IsAlike s v → Defers (joined (paged false (content s)) v) v act → Defers (joined (content s) v) v act
defers-paged s v act alike d = by act off d.leaves
  where
    j : PrivateMachine
    j = joined (content s) v

    without : PrivateMachine
    without = joined (paged false (content s)) v

    off : interrupts (vcpu j v).cp0 ≡ false
    off = ap (λ (m : PrivateMachine). interrupts (vcpu m v).cp0) (sym (joined-paged (content s) v)) ∙ d.off

    by : (act : DevAct) → interrupts (vcpu j v).cp0 ≡ false → Leaves without v (attempted without v) (act_next without v) act → Defers j v act
    by acts.Done off leaves = absurd leaves
    by acts.DiskRead off leaves = record { off = off; leaves = stores-paged s v 1 DiskCommand alike off refl leaves }
    by acts.DiskWrite off leaves = record { off = off; leaves = stores-paged s v 2 DiskCommand alike off refl leaves }
    by (acts.Send to) off leaves = record { off = off; leaves = stores-paged s v to Send alike off refl leaves }

-- and the word at the program counter is the same
holds-without : (m : PrivateMachine) (v : ℕ) (cause : TrapCause) → HoldsWord m v cause → HoldsWord (paged false m) v cause
holds-without m v causes.Line holds = tt
holds-without m v causes.FetchMiss holds = tt
holds-without m v (causes.DataMiss word) holds = holds
holds-without m v (causes.ReadOnly word) holds = holds
holds-without m v (causes.Address None) holds = tt
holds-without m v (causes.Address (Some word)) holds = holds
holds-without m v (causes.Privileged word) holds = holds
holds-without m v (causes.Raised x) holds = record { word = holds.word; is_there = holds.is_there; unprivileged = holds.unprivileged; raises = holds.raises }
holds-without m v (causes.Dead frame) holds = tt

pub holds-paged : (m : PrivateMachine) (v : ℕ) (cause : TrapCause) → HoldsWord (joined m v) v cause → HoldsWord (joined (paged false m) v) v cause
holds-paged m v cause holds = subst (λ (n : PrivateMachine). HoldsWord n v cause) (sym (joined-paged m v)) (holds-without (joined m v) v cause holds)
