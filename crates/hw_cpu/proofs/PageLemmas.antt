-- An instruction that is asked of a register on the register page is passed as it is.
use Rattle.std.proofs.Common.{◌≡◌, ℕ, if◌then◌else◌, Bool, true, false, ◌&&◌, Result, Ok, Err, refl, sym, ap, ◌∙◌, subst}
use Rattle.base_words.specs.declared.effect.Request.{Request}
use Rattle.base_words.specs.declared.effect.Request.TheVariants as asks
use Rattle.base_words.specs.declared.exception.Exception.{Exception}
use Rattle.base_words.specs.declared.instr.LoadKind.TheVariants as loads
use Rattle.base_words.specs.declared.instr.StoreKind.TheVariants as stores
use Rattle.base_words.specs.declared.regs.Regs.{Regs}
use Rattle.base_words.specs.Instruction.{Effect}
use Rattle.mips_alu.specs.Execution.{passed, Waits, Executes}
use Rattle.private_machine.specs.RegisterPage.{is_on_page, is_loaded, is_stored, number_at, of_register, redirected, opened}

-- it is passed as it would be, and the registers wait for its answer as they would
record Alike (r s : Request) : Type 0 where
  pub passes : (regs : Regs) → passed r regs ≡ passed s regs
  pub waits : (old new : Regs) → Waits r old new → Waits s old new

same : (r : Request) → Alike r r
same r = record { passes = λ regs. refl; waits = λ old new w. w }

load-alike : (b : Bool) (address target : ℕ) → Alike (asks.Load loads.Word address target) (if b then asks.ReadCp0 (number_at address) target else asks.Load loads.Word address target)
load-alike true address target = record { passes = λ regs. refl; waits = λ old new w. w }
load-alike false address target = same (asks.Load loads.Word address target)

store-alike : (b : Bool) (address value : ℕ) → Alike (asks.Store stores.Word address value) (if b then asks.WriteCp0 (number_at address) value else asks.Store stores.Word address value)
store-alike true address value = record { passes = λ regs. refl; waits = λ old new w. w }
store-alike false address value = same (asks.Store stores.Word address value)

of-alike : (r : Request) → Alike r (of_register r)
of-alike asks.Nothing = same asks.Nothing
of-alike (asks.Load loads.Byte address target) = same (asks.Load loads.Byte address target)
of-alike (asks.Load loads.ByteUnsigned address target) = same (asks.Load loads.ByteUnsigned address target)
of-alike (asks.Load loads.HalfWord address target) = same (asks.Load loads.HalfWord address target)
of-alike (asks.Load loads.HalfWordUnsigned address target) = same (asks.Load loads.HalfWordUnsigned address target)
of-alike (asks.Load loads.Word address target) = load-alike (is_on_page address && is_loaded (number_at address)) address target
of-alike (asks.Load loads.WordLeft address target) = same (asks.Load loads.WordLeft address target)
of-alike (asks.Load loads.WordRight address target) = same (asks.Load loads.WordRight address target)
of-alike (asks.Store stores.Byte address value) = same (asks.Store stores.Byte address value)
of-alike (asks.Store stores.HalfWord address value) = same (asks.Store stores.HalfWord address value)
of-alike (asks.Store stores.Word address value) = store-alike (is_on_page address && is_stored (number_at address)) address value
of-alike (asks.Store stores.WordLeft address value) = same (asks.Store stores.WordLeft address value)
of-alike (asks.Store stores.WordRight address value) = same (asks.Store stores.WordRight address value)
of-alike (asks.LoadLinked address target) = same (asks.LoadLinked address target)
of-alike (asks.StoreConditional address value target) = same (asks.StoreConditional address value target)
of-alike (asks.ReadCp0 number target) = same (asks.ReadCp0 number target)
of-alike (asks.WriteCp0 number value) = same (asks.WriteCp0 number value)
of-alike (asks.System op) = same (asks.System op)

alike : (b : Bool) (r : Request) → Alike r (redirected b r)
alike true r = of-alike r
alike false r = same r

pub executes_opened : (b : Bool) (does : Result Effect Exception) (old new : Regs) (r : Request) → Executes does old new (Ok r) → Executes (opened b does) old new (Ok (redirected b r))
executes_opened b does old new r e =
    let a = alike b r in
    (ap (opened b) e.0 ∙ ap (λ (regs : Regs). Ok (record { registers = regs; request = redirected b r })) (a.passes new), a.waits old new e.1)

-- where the page is closed all is as it was
closed-same : (does : Result Effect Exception) → opened false does ≡ does
closed-same (Err x) = refl
closed-same (Ok does) = refl

pub executes-closed : (does : Result Effect Exception) (old new : Regs) (result : Result Request Exception) → Executes does old new result → Executes (opened false does) old new result
executes-closed does old new result e = subst (λ (d : Result Effect Exception). Executes d old new result) (sym (closed-same does)) e
