-- The register page, where the hardware trapped, and of a machine without it.
use Rattle.std.proofs.Common.{◌≡◌, ℕ, if◌then◌else◌, Bool, true, false, not, ◌&&◌, Some, refl, sym, ap, ◌∙◌}
use Rattle.base_words.specs.declared.effect.Request.{Request}
use Rattle.base_words.specs.declared.effect.Request.TheVariants as asks
use Rattle.base_words.specs.declared.instr.LoadKind.{LoadKind}
use Rattle.base_words.specs.declared.instr.LoadKind.TheVariants as loads
use Rattle.base_words.specs.declared.instr.StoreKind.{StoreKind}
use Rattle.base_words.specs.declared.instr.StoreKind.TheVariants as stores
use Rattle.base_words.specs.Coprocessor.{in_user_mode}
use Rattle.private_machine.specs.declared.vcpu.Vcpu.{Vcpu}
use Rattle.private_machine.specs.PrivateMachine.{PrivateMachine, vcpu, is_open}
use Rattle.private_machine.specs.Reaching.{Wanted, wanted}
use Rattle.private_machine.specs.RegisterPage.{is_on_page, number_at, is_loaded, is_stored, load_of, store_of, of_register, redirected}
use Rattle.trap_emulate.specs.AtHand.{AtHand}

-- an access that is wanted isn't asked of a register
load-plain : (b : Bool) (address target : ℕ) (w : Wanted) → wanted (if b then asks.ReadCp0 (number_at address) target else asks.Load loads.Word address target) ≡ Some w
    → (if b then asks.ReadCp0 (number_at address) target else asks.Load loads.Word address target) ≡ asks.Load loads.Word address target
load-plain true address target w e = cc
load-plain false address target w e = refl

store-plain : (b : Bool) (address value : ℕ) (w : Wanted) → wanted (if b then asks.WriteCp0 (number_at address) value else asks.Store stores.Word address value) ≡ Some w
    → (if b then asks.WriteCp0 (number_at address) value else asks.Store stores.Word address value) ≡ asks.Store stores.Word address value
store-plain true address value w e = cc
store-plain false address value w e = refl

load-of-plain : (kind : LoadKind) (address target : ℕ) (w : Wanted) → wanted (load_of kind address target) ≡ Some w → load_of kind address target ≡ asks.Load kind address target
load-of-plain loads.Byte address target w e = refl
load-of-plain loads.ByteUnsigned address target w e = refl
load-of-plain loads.HalfWord address target w e = refl
load-of-plain loads.HalfWordUnsigned address target w e = refl
load-of-plain loads.Word address target w e = load-plain (is_on_page address && is_loaded (number_at address)) address target w e
load-of-plain loads.WordLeft address target w e = refl
load-of-plain loads.WordRight address target w e = refl

store-of-plain : (kind : StoreKind) (address value : ℕ) (w : Wanted) → wanted (store_of kind address value) ≡ Some w → store_of kind address value ≡ asks.Store kind address value
store-of-plain stores.Byte address value w e = refl
store-of-plain stores.HalfWord address value w e = refl
store-of-plain stores.Word address value w e = store-plain (is_on_page address && is_stored (number_at address)) address value w e
store-of-plain stores.WordLeft address value w e = refl
store-of-plain stores.WordRight address value w e = refl

of-plain : (r : Request) (w : Wanted) → wanted (of_register r) ≡ Some w → of_register r ≡ r
of-plain asks.Nothing w e = refl
of-plain (asks.Load kind address target) w e = load-of-plain kind address target w e
of-plain (asks.Store kind address value) w e = store-of-plain kind address value w e
of-plain (asks.LoadLinked address target) w e = refl
of-plain (asks.StoreConditional address value target) w e = refl
of-plain (asks.ReadCp0 number target) w e = refl
of-plain (asks.WriteCp0 number value) w e = refl
of-plain (asks.System op) w e = refl

pub plain : (b : Bool) (r : Request) (w : Wanted) → wanted (redirected b r) ≡ Some w → redirected b r ≡ r
plain true r w e = of-plain r w e
plain false r w e = refl

pub plain-wanted : (b : Bool) (r : Request) (w : Wanted) → wanted (redirected b r) ≡ Some w → wanted r ≡ Some w
plain-wanted b r w e = ap wanted (sym (plain b r w e)) ∙ e

-- a machine without the page asks what is asked
pub closed_request : (m : PrivateMachine) (v : ℕ) (c : Vcpu) (pages : ℕ) → AtHand m v c pages → (r : Request) → redirected (is_open m v) r ≡ r
closed_request m v c pages at r = ap (λ (b : Bool). redirected (b && not (in_user_mode (vcpu m v).cp0.status)) r) at.closed
