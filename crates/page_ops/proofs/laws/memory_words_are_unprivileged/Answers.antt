-- What an instruction of coprocessor 0 asks is asked of coprocessor 0.
use Rattle.std.proofs.Common.{◌≡◌, ℕ, ◌%◌, ◌==◌, if◌then◌else◌, Bool, true, false, Option, Some, None, Result, Ok, Err, refl, sym, ap, ◌∙◌}
use Rattle.std.specs.Prelude.{◌^◌, slice_index_or}
use Rattle.std.proofs.lemmas.Bool.{eqb-true, true≢false}
use Rattle.base_words.specs.declared.regs.Regs.{Regs}
use Rattle.base_words.specs.declared.exception.Exception.{Exception}
use Rattle.base_words.specs.declared.effect.Request.{Request}
use Rattle.base_words.specs.declared.effect.Request.TheVariants as asks
use Rattle.base_words.specs.declared.instr.Instr.{Instr}
use Rattle.base_words.specs.declared.instr.Instr.TheVariants.{MoveFromCp0, MoveToCp0, Cp0, Reserved}
use Rattle.base_words.specs.declared.instr.Cp0Op.TheVariants.{TlbRead, TlbWriteIndexed, TlbWriteRandom, TlbProbe, ExceptionReturn}
use Rattle.base_words.specs.declared.instr.Primary.TheVariants as primary
use Rattle.base_words.specs.Fields.{opcode, rs, rt, rd}
use Rattle.base_words.specs.OpcodeMap.{decoded, instruction_at, primary_map, cp0_instruction, where_zero}
use Rattle.base_words.specs.Instruction.{Effect, effect, returns as returns_to}
use Rattle.page_ops.specs.Pages.{leaves_cp0}
use Rattle.page_ops.proofs.laws.memory_words_are_unprivileged.Goals as goal

abbrev asks-else : Result Effect Exception → Bool
asks-else (Ok e) = leaves_cp0 e.request
asks-else (Err x) = false

eret-asks : (o : Option ℕ) (r : Regs) → asks-else (returns_to o r) ≡ false
eret-asks None r = refl
eret-asks (Some target) r = refl

cp0-asks : (w : ℕ) (r : Regs) → asks-else (effect (cp0_instruction w) r) ≡ false
cp0-asks w r = by (rs w == 0) (rs w == 4) (w % 2 ^ 11 == 0) (w == 0x4200_0001) (w == 0x4200_0002) (w == 0x4200_0006) (w == 0x4200_0008) (w == 0x4200_0018)
  where
    by : (a b z c d e f g : Bool) → asks-else (effect (if a then where_zero z w (MoveFromCp0 (rt w) (rd w)) else if b then where_zero z w (MoveToCp0 (rt w) (rd w)) else if c then Cp0 TlbRead else if d then Cp0 TlbWriteIndexed else if e then Cp0 TlbWriteRandom else if f then Cp0 TlbProbe else if g then Cp0 ExceptionReturn else Reserved w) r) ≡ false
    by true b true c d e f g = refl
    by true b false c d e f g = refl
    by false true true c d e f g = refl
    by false true false c d e f g = refl
    by false false z true d e f g = refl
    by false false z false true e f g = refl
    by false false z false false true f g = refl
    by false false z false false false true g = refl
    by false false z false false false false true = eret-asks r.slot r
    by false false z false false false false false = refl

asks-some : (w : ℕ) (r : Regs) (e : Effect) → (opcode w == 16) ≡ true → effect (decoded w) r ≡ Ok e → leaves_cp0 e.request ≡ true → ⊥
asks-some w r e is does leaves =
    let at : ℕ → Instr = λ o. instruction_at (slice_index_or primary_map o primary.Reserved) w in
    let cp0 : decoded w ≡ cp0_instruction w = ap at (eqb-true (opcode w) 16 is) in
    let some : true ≡ false = sym leaves ∙ sym (ap asks-else does) ∙ ap (λ i. asks-else (effect i r)) cp0 ∙ cp0-asks w r in
    true≢false some

pub returns : goal.returns
returns c w r e does leaves = by (opcode w == 16) refl
  where
    by : (b : Bool) → (opcode w == 16) ≡ b → b ≡ false
    by false is = refl
    by true is = absurd (asks-some w r e is does leaves)
