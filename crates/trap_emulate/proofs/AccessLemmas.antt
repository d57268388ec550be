-- Where an access leads, by the machine and by the virtual processor at its step at hand.
use Rattle.std.proofs.Common.{◌≡◌, ℕ, Some, Option, Result, ap, sym, subst, ◌∙◌, refl}
use Rattle.base_words.specs.declared.effect.Request.{Request}
use Rattle.base_words.specs.declared.effect.Request.TheVariants as asks
use Rattle.base_words.specs.declared.exception.Exception.{Exception}
use Rattle.base_words.specs.declared.moves.MoveKind.{MoveKind}
use Rattle.base_words.specs.declared.place.Place.{Place}
use Rattle.base_words.specs.declared.regs.Regs.{Regs}
use Rattle.base_words.specs.Place.{AddressSpace, place}
use Rattle.private_machine.specs.declared.vcpu.Vcpu.{Vcpu}
use Rattle.private_machine.specs.Access.{loaded, stored, linked_load, conditional_store}
use Rattle.private_machine.specs.DeviceAct.{Act}
use Rattle.private_machine.specs.DevicePage.{transfer_of}
use Rattle.private_machine.specs.OwnStep.{led, answered}
use Rattle.private_machine.specs.PrivateMachine.{PrivateMachine}
use Rattle.private_machine.specs.Reaching.{Wanted, wanted}
use Rattle.private_machine.specs.StepAct.{act_of, stores_at, stores_linked}
use Rattle.private_machine.specs.Vcpu.{space_of}
use Rattle.trap_emulate.specs.AtHand.{leads, AtHand}
use Rattle.trap_emulate.specs.Decisions.{answered_at, acts_at, Means}
use Rattle.trap_emulate.specs.declared.decision.Decision.{Decision}

-- where it leads
pub led-at : (m : PrivateMachine) (v : ℕ) (c : Vcpu) (pages : ℕ) (w : Wanted) → AtHand m v c pages → led m v w.unit w.purpose w.address ≡ leads c pages w
led-at m v c pages w at =
    ap (λ (s : AddressSpace). place s m.pages w.unit w.purpose w.address) at.space
    ∙ ap (λ (n : ℕ). place (space_of c) n w.unit w.purpose w.address) at.of_pages

same-access : (a w : Wanted) → Some a ≡ Some w → a ≡ w
same-access a w e = cc

-- what it leaves, and does with a page
answered-led : (m : PrivateMachine) (v : ℕ) (regs : Regs) (request : Request) (w : Wanted) → wanted request ≡ Some w → answered m v regs request ≡ answered_at m v regs request (led m v w.unit w.purpose w.address)
answered-led m v regs asks.Nothing w is = cc
answered-led m v regs (asks.Load kind address target) w is = ap (λ (a : Wanted). loaded m v regs kind target (led m v a.unit a.purpose a.address)) (same-access _ w is)
answered-led m v regs (asks.Store kind address value) w is = ap (λ (a : Wanted). stored m v regs kind value (led m v a.unit a.purpose a.address)) (same-access _ w is)
answered-led m v regs (asks.LoadLinked address target) w is = ap (λ (a : Wanted). linked_load m v regs target (led m v a.unit a.purpose a.address)) (same-access _ w is)
answered-led m v regs (asks.StoreConditional address value target) w is = ap (λ (a : Wanted). conditional_store m v regs target value (led m v a.unit a.purpose a.address)) (same-access _ w is)
answered-led m v regs (asks.ReadCp0 number target) w is = cc
answered-led m v regs (asks.WriteCp0 number value) w is = cc
answered-led m v regs (asks.System op) w is = cc

acts-led : (m : PrivateMachine) (v : ℕ) (request : Request) (w : Wanted) → wanted request ≡ Some w → act_of m v request ≡ acts_at m v request (led m v w.unit w.purpose w.address)
acts-led m v asks.Nothing w is = cc
acts-led m v (asks.Load kind address target) w is = refl
acts-led m v (asks.Store kind address value) w is = ap (λ (a : Wanted). stores_at m (transfer_of m.devices v) kind value (led m v a.unit a.purpose a.address)) (same-access _ w is)
acts-led m v (asks.LoadLinked address target) w is = refl
acts-led m v (asks.StoreConditional address value target) w is = ap (λ (a : Wanted). stores_linked (led m v a.unit a.purpose a.address)) (same-access _ w is)
acts-led m v (asks.ReadCp0 number target) w is = cc
acts-led m v (asks.WriteCp0 number value) w is = cc
acts-led m v (asks.System op) w is = cc

-- a decision that is right for the place is right for the access
pub Means-at : (m : PrivateMachine) (v : ℕ) (c : Vcpu) (pages : ℕ) (needs : Option MoveKind) (regs : Regs) (request : Request) (w : Wanted) (place : Result Place Exception) (decision : Decision)
    → AtHand m v c pages → wanted request ≡ Some w → leads c pages w ≡ place → Means m v needs (answered_at m v regs request place) (acts_at m v request place) decision
    → Means m v needs (answered m v regs request) (act_of m v request) decision
Means-at m v c pages needs regs request w place decision at asked is means =
    let there : led m v w.unit w.purpose w.address ≡ place = led-at m v c pages w at ∙ is in
    let goes = answered-led m v regs request w asked ∙ ap (answered_at m v regs request) there in
    let acts = acts-led m v request w asked ∙ ap (acts_at m v request) there in
    subst (λ (r : Result PrivateMachine Exception). Means m v needs r (act_of m v request) decision) (sym goes)
    (subst (λ (a : Act). Means m v needs (answered_at m v regs request place) a decision) (sym acts) means)
