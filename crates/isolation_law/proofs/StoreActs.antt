-- A store for which a processor trapped at a half that isn't writable is what the step at hand does with its page.
use Rattle.std.proofs.Common.{◌≡◌, ℕ, ◌/◌, if◌then◌else◌, Bool, true, false, not, ◌&&◌, Option, Some, Ok, Err, sym, ap, ◌∙◌, true≢false}
use Rattle.base_words.specs.declared.effect.Request.{Request}
use Rattle.base_words.specs.declared.effect.Request.TheVariants as asks
use Rattle.base_words.specs.declared.place.Place.TheVariants.{Memory}
use Rattle.base_words.specs.Coprocessor.{interrupts, in_user_mode}
use Rattle.base_words.specs.Instruction.{effect}
use Rattle.base_words.specs.OpcodeMap.{decoded}
use Rattle.base_words.specs.Place.{is_store}
use Rattle.private_machine.specs.DeviceAct.{StoresTo, NoAct}
use Rattle.private_machine.specs.DevicePage.{transfer_of}
use Rattle.private_machine.specs.HardwareStep.{ReadOnly}
use Rattle.private_machine.specs.OwnStep.{led, fetched, usable, joined}
use Rattle.private_machine.specs.PrivateMachine.{PrivateMachine, vcpu, is_open}
use Rattle.private_machine.specs.RegisterPage.{redirected}
use Rattle.private_machine.specs.Reaching.{Wanted, wanted, is_open_to}
use Rattle.private_machine.specs.StepAct.{act_decided, act_executed, act_of, stores_at, stores_linked}
use Rattle.isolation_law.specs.Coherence.{Consistent}
use Rattle.isolation_law.specs.Content.{content}
use Rattle.isolation_law.specs.DirectStep.{with_inputs, sight}
use Rattle.isolation_law.specs.GuestState.{GuestState}
use Rattle.isolation_law.specs.Mirrors.{Mirrors}
use Rattle.isolation_law.specs.Phases.{Runs}
use Rattle.isolation_law.specs.StepAct.{at_hand}
use Rattle.isolation_law.specs.Traps.{step_on}
use Rattle.isolation_law.proofs.ReadOnlyProofs.{reached-closed, stored}
use Rattle.isolation_law.proofs.DirectContent.{content-inputs}
use Rattle.isolation_law.proofs.StepContent.{opens-alike}
use Rattle.isolation_law.proofs.TrapProofs.{led-joined}
use Rattle.isolation_law.proofs.TrapWords.{holds-word}

some-same : (a b : Wanted) → ◌≡◌ {A = Option Wanted} (Some a) (Some b) → a ≡ b
some-same a b e = cc

-- the request of a store, and where it leads
by-request : (m : PrivateMachine) (v offset : ℕ) (w : Wanted) (r : Request) → wanted r ≡ Some w → is_store w.purpose ≡ true → led m v w.unit w.purpose w.address ≡ Ok (Memory offset) → act_of m v r ≡ StoresTo (offset / 4096)
by-request m v offset w asks.Nothing e is leads = cc
by-request m v offset w (asks.Load kind address target) e is leads = absurd (true≢false (sym is ∙ ap (λ (z : Wanted). is_store z.purpose) (sym (some-same _ w e))))
by-request m v offset w (asks.Store kind address value) e is leads =
    ap (stores_at m (transfer_of m.devices v) kind value) (ap (λ (z : Wanted). led m v z.unit z.purpose z.address) (some-same _ w e) ∙ leads)
by-request m v offset w (asks.LoadLinked address target) e is leads = absurd (true≢false (sym is ∙ ap (λ (z : Wanted). is_store z.purpose) (sym (some-same _ w e))))
by-request m v offset w (asks.StoreConditional address value target) e is leads =
    ap stores_linked (ap (λ (z : Wanted). led m v z.unit z.purpose z.address) (some-same _ w e) ∙ leads)
by-request m v offset w (asks.ReadCp0 number target) e is leads = cc
by-request m v offset w (asks.WriteCp0 number value) e is leads = cc
by-request m v offset w (asks.System op) e is leads = cc

pub stores-at-hand : (s : GuestState) (p v word : ℕ) (w : Wanted) (offset : ℕ) → Consistent s → Mirrors s → Runs s p v → step_on s p v ≡ Err (ReadOnly word w)
    → led (content s) v w.unit w.purpose w.address ≡ Ok (Memory offset) → at_hand s v ≡ StoresTo (offset / 4096)
stores-at-hand s p v word w offset co mirrors runs traps leads =
    let m = joined (content s) v in
    let u = with_inputs s v in
    let x = sight u p v in
    let t = stored x u.pages (vcpu m v).registers word w traps in
    let off : interrupts (vcpu m v).cp0 ≡ false = t.line in
    let user = in_user_mode (vcpu m v).cp0.status in
    let opens : is_open m v ≡ is_open_to x = ap (λ (z : PrivateMachine). is_open z v) (sym (content-inputs s v)) ∙ opens-alike s p v mirrors runs.running in
    let is = (reached-closed x w t.reach).1.stores in
    ap (λ (b : Bool). if b then NoAct else act_decided m v (fetched m v)) off
    ∙ ap (act_decided m v) (holds-word s p v (ReadOnly word w) co runs.loaded traps)
    ∙ ap (λ (b : Bool). act_executed m v (usable (not (b && user)) (effect (decoded word) (vcpu m v).registers))) t.unprivileged
    ∙ ap (act_executed m v) t.effects
    ∙ ap (λ (b : Bool). act_of m v (redirected b t.does.request)) opens
    ∙ by-request m v offset w (redirected (is_open_to x) t.does.request) t.wants is (led-joined (content s) v w.unit w.purpose w.address ∙ leads)
