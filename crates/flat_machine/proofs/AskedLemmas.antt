-- An instruction that is asked of a register on the register page is passed as it is.
use Rattle.std.proofs.Common.{◌≡◌, ℕ, ◌<◌, if◌then◌else◌, Bool, true, false, ◌&&◌, List, length, set, Result, Ok, Err, refl, sym, ap, ◌∙◌}
use Rattle.std.proofs.lemmas.List.{get_or-set_same, set-set, set-get_or}
use Rattle.base_words.specs.declared.effect.Request.{Request}
use Rattle.base_words.specs.declared.effect.Request.TheVariants as asks
use Rattle.base_words.specs.declared.exception.Exception.{Exception}
use Rattle.base_words.specs.declared.instr.LoadKind.TheVariants as loads
use Rattle.base_words.specs.declared.instr.StoreKind.TheVariants as stores
use Rattle.base_words.specs.declared.regs.Regs.{Regs}
use Rattle.base_words.specs.Instruction.{Effect}
use Rattle.mips_alu.specs.Execution.{passed, Waits, Executes}
use Rattle.private_machine.specs.OwnStep.{answered, executed}
use Rattle.private_machine.specs.PrivateMachine.{PrivateMachine, vcpu, is_open, left}
use Rattle.private_machine.specs.declared.vcpu.Vcpu.{Vcpu}
use Rattle.private_machine.specs.Vcpu.{no_vcpu, with_registers}
use Rattle.flat_machine.specs.Attempts.{Begins, requested}
use Rattle.private_machine.specs.RegisterPage.{is_on_page, is_loaded, is_stored, number_at, of_register, redirected, opened}

-- it is passed as it would be, and the registers wait for its answer as they would
record Alike (r s : Request) : Type 0 where
  pub passes : (regs : Regs) → passed r regs ≡ passed s regs
  pub waits : (old new : Regs) → Waits r old new → Waits s old new

same : (r : Request) → Alike r r
same r = record { passes = λ regs. refl; waits = λ old new w. w }

load-alike : (b : Bool) (address target : ℕ) → Alike (asks.Load loads.Word address target) (if b then asks.ReadCp0 (number_at address) target else asks.Load loads.Word address target)
load-alike true address target = record { passes = λ regs. refl; waits = λ old new w. w }
load-alike false address target = same (asks.Load loads.Word address target)

store-alike : (b : Bool) (address value : ℕ) → Alike (asks.Store stores.Word address value) (if b then asks.WriteCp0 (number_at address) value else asks.Store stores.Word address value)
store-alike true address value = record { passes = λ regs. refl; waits = λ old new w. w }
store-alike false address value = same (asks.Store stores.Word address value)

of-alike : (r : Request) → Alike r (of_register r)
of-alike asks.Nothing = same asks.Nothing
of-alike (asks.Load loads.Byte address target) = same (asks.Load loads.Byte address target)
of-alike (asks.Load loads.ByteUnsigned address target) = same (asks.Load loads.ByteUnsigned address target)
of-alike (asks.Load loads.HalfWord address target) = same (asks.Load loads.HalfWord address target)
of-alike (asks.Load loads.HalfWordUnsigned address target) = same (asks.Load loads.HalfWordUnsigned address target)
of-alike (asks.Load loads.Word address target) = load-alike (is_on_page address && is_loaded (number_at address)) address target
of-alike (asks.Load loads.WordLeft address target) = same (asks.Load loads.WordLeft address target)
of-alike (asks.Load loads.WordRight address target) = same (asks.Load loads.WordRight address target)
of-alike (asks.Store stores.Byte address value) = same (asks.Store stores.Byte address value)
of-alike (asks.Store stores.HalfWord address value) = same (asks.Store stores.HalfWord address value)
of-alike (asks.Store stores.Word address value) = store-alike (is_on_page address && is_stored (number_at address)) address value
of-alike (asks.Store stores.WordLeft address value) = same (asks.Store stores.WordLeft address value)
of-alike (asks.Store stores.WordRight address value) = same (asks.Store stores.WordRight address value)
of-alike (asks.LoadLinked address target) = same (asks.LoadLinked address target)
of-alike (asks.StoreConditional address value target) = same (asks.StoreConditional address value target)
of-alike (asks.ReadCp0 number target) = same (asks.ReadCp0 number target)
of-alike (asks.WriteCp0 number value) = same (asks.WriteCp0 number value)
of-alike (asks.System op) = same (asks.System op)

alike : (b : Bool) (r : Request) → Alike r (redirected b r)
alike true r = of-alike r
alike false r = same r

pub passes-alike : (b : Bool) (r : Request) (regs : Regs) → passed r regs ≡ passed (redirected b r) regs
passes-alike b r regs = let a = alike b r in a.passes regs

pub executes_opened : (b : Bool) (does : Result Effect Exception) (old new : Regs) (r : Request) → Executes does old new (Ok r) → Executes (opened b does) old new (Ok (redirected b r))
executes_opened b does old new r e =
    let a = alike b r in
    (ap (opened b) e.0 ∙ ap (λ (regs : Regs). Ok (record { registers = regs; request = redirected b r })) (a.passes new), a.waits old new e.1)

-- where the instruction is asked so, the machine does that
pub executed_opened : (m : PrivateMachine) (v : ℕ) (does : Result Effect Exception) (e : Effect) → opened (is_open m v) does ≡ Ok e → executed m v does ≡ answered m v e.registers e.request
executed_opened m v (Err x) e is = cc
executed_opened m v (Ok does) e is = let same : record does { request = redirected (is_open m v) does.request } ≡ e = cc in ap (λ (z : Effect). answered m v z.registers z.request) same

pub raised_opened : (b : Bool) (does : Result Effect Exception) (x : Exception) → opened b does ≡ Err x → does ≡ Err x
raised_opened b (Err y) x is = is
raised_opened b (Ok does) x is = cc

-- ---- what is begun, where registers are as the instruction leaves them

left-at : (m : PrivateMachine) (v : ℕ) (regs : Regs) → v < length m.vcpus → (vcpu (left m v regs) v).registers ≡ regs
left-at m v regs lt = ap (λ (c : Vcpu). c.registers) (get_or-set_same m.vcpus v (with_registers regs (vcpu m v)) no_vcpu lt)

left-twice : (m : PrivateMachine) (v : ℕ) (regs new : Regs) → v < length m.vcpus → left (left m v regs) v new ≡ left m v new
left-twice m v regs new lt =
    ap (λ (c : Vcpu). record m { vcpus = set (set m.vcpus v (with_registers regs (vcpu m v))) v (with_registers new c) }) (get_or-set_same m.vcpus v (with_registers regs (vcpu m v)) no_vcpu lt)
    ∙ ap (λ (l : List Vcpu). record m { vcpus = l }) (set-set m.vcpus v (with_registers regs (vcpu m v)) (with_registers new (vcpu m v)))

left-same : (m : PrivateMachine) (v : ℕ) → left m v (vcpu m v).registers ≡ m
left-same m v = ap (λ (l : List Vcpu). record m { vcpus = l }) (set-get_or m.vcpus v no_vcpu)

-- the request leads where it would have led before
pub record Asks (m : PrivateMachine) (v : ℕ) (new : Regs) (r : Request) : Type 0 where
  pub leads : answered m v (passed r new) r ≡ answered (left m v new) v (passed r new) r
  pub stays : (x : Exception) → requested (left m v new) v r ≡ Err x → left m v new ≡ m

waits-asks : (m : PrivateMachine) (v : ℕ) (new : Regs) (r : Request) → new ≡ (vcpu m v).registers → Asks m v new r
waits-asks m v new r same =
    let here : left m v new ≡ m = ap (left m v) same ∙ left-same m v in
    record { leads = ap (λ (z : PrivateMachine). answered z v (passed r new) r) (sym here); stays = λ x e. here }

asks-by : (m : PrivateMachine) (v : ℕ) (new : Regs) (r : Request) → v < length m.vcpus → Waits r (vcpu m v).registers new → Asks m v new r
asks-by m v new asks.Nothing lt w = record { leads = ap (λ (z : PrivateMachine). Ok z) (sym (left-twice m v new new lt)); stays = λ x e. cc }
asks-by m v new (asks.Load kind address target) lt w = waits-asks m v new (asks.Load kind address target) w
asks-by m v new (asks.Store kind address value) lt w = waits-asks m v new (asks.Store kind address value) w
asks-by m v new (asks.LoadLinked address target) lt w = waits-asks m v new (asks.LoadLinked address target) w
asks-by m v new (asks.StoreConditional address value target) lt w = waits-asks m v new (asks.StoreConditional address value target) w
asks-by m v new (asks.ReadCp0 number target) lt w = waits-asks m v new (asks.ReadCp0 number target) w
asks-by m v new (asks.WriteCp0 number value) lt w = waits-asks m v new (asks.WriteCp0 number value) w
asks-by m v new (asks.System op) lt w = waits-asks m v new (asks.System op) w

pub begins-opened : (m : PrivateMachine) (v : ℕ) (does : Result Effect Exception) (new : Regs) (result : Result Request Exception) → v < length m.vcpus
    → Executes (opened (is_open m v) does) (vcpu m v).registers new result → Begins m v does (left m v new) result
begins-opened m v does new (Ok request) lt e =
    let a = asks-by m v new request lt e.1 in (
      executed_opened m v does (record { registers = passed request new; request = request }) e.0 ∙ a.leads
          ∙ ap (λ (regs : Regs). answered (left m v new) v (passed request regs) request) (sym (left-at m v new lt)),
      a.stays,
    )
begins-opened m v does new (Err x) lt e = (raised_opened (is_open m v) does x e.0, ap (left m v) e.1 ∙ left-same m v)
