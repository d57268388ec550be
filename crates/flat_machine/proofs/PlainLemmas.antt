-- One plain instruction is an own step, and so is a load or a store of memory before which nothing comes.
use Rattle.std.proofs.Common.{◌≡◌, ℕ, ◌<◌, ◌-◌, ◌%◌, ◌==◌, if◌then◌else◌, Bool, true, false, not, ◌&&◌, List, length, Option, Some, Result, Ok, Err, None, refl, sym, ap, ◌∙◌, arith}
use Rattle.std.specs.Prelude.{◌^◌, slice_index_or}
use Rattle.std.proofs.lemmas.Bool.{eqb-true, true≢false}
use Rattle.base_words.specs.declared.regs.Regs.{Regs}
use Rattle.base_words.specs.declared.exception.Exception.{Exception}
use Rattle.base_words.specs.declared.exception.Use.TheVariants.{Fetch}
use Rattle.base_words.specs.declared.effect.Request.TheVariants as asks
use Rattle.base_words.specs.Fields.{opcode, rs, rt, rd}
use Rattle.base_words.specs.OpcodeMap.{decoded, instruction_at, primary_map, cp0_instruction, where_zero}
use Rattle.base_words.specs.Instruction.{Effect, effect, returns}
use Rattle.base_words.specs.declared.effect.Request.{Request}
use Rattle.base_words.specs.declared.instr.Instr.{Instr}
use Rattle.base_words.specs.declared.instr.Instr.TheVariants.{MoveFromCp0, MoveToCp0, Cp0, Reserved}
use Rattle.base_words.specs.declared.instr.Cp0Op.TheVariants.{TlbRead, TlbWriteIndexed, TlbWriteRandom, TlbProbe, ExceptionReturn}
use Rattle.base_words.specs.declared.instr.Primary.TheVariants as primary
use Rattle.base_words.specs.declared.exception.Exception.TheVariants.{Interrupt}
use Rattle.base_words.specs.Coprocessor.{in_user_mode}
use Rattle.private_machine.specs.Vcpu.{space_of, ticking, raising}
use Rattle.private_machine.specs.PrivateMachine.{PrivateMachine, vcpu, on_vcpu, left}
use Rattle.private_machine.specs.OwnStep.{is_privileged, is_usable, usable, answered, executed, decided, word_of, fetched, attempted, settled, joined, made, own_step}
use Rattle.guest_devs.specs.Quiet.{AreQuiet}
use Rattle.flat_machine.specs.declared.window.KeptPage.{KeptPage}
use Rattle.flat_machine.specs.Windows.{IsPageOf}
use Rattle.flat_machine.proofs.WindowLemmas.{quiet-none, quiet-joined}
use Rattle.private_machine.specs.PrivateMachine.{is_open}
use Rattle.private_machine.specs.RegisterPage.{redirected}
use Rattle.page_ops.specs.Pages.{IsInPage, IsPlain, word_in}
use Rattle.mips_alu.specs.Execution.{passed}
use Rattle.flat_machine.specs.Attempts.{requested}
use Rattle.flat_machine.proofs.AskedLemmas.{passes-alike}
use Rattle.flat_machine.specs.Stretches.{ShowsPage, Asks, IsOfMemory}

-- ---- what an instruction of coprocessor 0 asks is neither nothing nor of memory

abbrev leaves-cp0 : Request → Bool
leaves-cp0 asks.Nothing = true
leaves-cp0 (asks.Load kind address target) = true
leaves-cp0 (asks.Store kind address value) = true
leaves-cp0 (asks.LoadLinked address target) = true
leaves-cp0 (asks.StoreConditional address value target) = true
leaves-cp0 (asks.ReadCp0 number target) = false
leaves-cp0 (asks.WriteCp0 number value) = false
leaves-cp0 (asks.System op) = false

abbrev asks-else : Result Effect Exception → Bool
asks-else (Ok e) = leaves-cp0 e.request
asks-else (Err x) = false

eret-asks : (o : Option ℕ) (r : Regs) → asks-else (returns o r) ≡ false
eret-asks None r = refl
eret-asks (Some target) r = refl

cp0-asks : (w : ℕ) (r : Regs) → asks-else (effect (cp0_instruction w) r) ≡ false
cp0-asks w r = by (rs w == 0) (rs w == 4) (w % 2 ^ 11 == 0) (w == 0x4200_0001) (w == 0x4200_0002) (w == 0x4200_0006) (w == 0x4200_0008) (w == 0x4200_0018)
  where
    by : (a b z c d e f g : Bool) → asks-else (effect (if a then where_zero z w (MoveFromCp0 (rt w) (rd w)) else if b then where_zero z w (MoveToCp0 (rt w) (rd w)) else if c then Cp0 TlbRead else if d then Cp0 TlbWriteIndexed else if e then Cp0 TlbWriteRandom else if f then Cp0 TlbProbe else if g then Cp0 ExceptionReturn else Reserved w) r) ≡ false
    by true b true c d e f g = refl
    by true b false c d e f g = refl
    by false true true c d e f g = refl
    by false true false c d e f g = refl
    by false false z true d e f g = refl
    by false false z false true e f g = refl
    by false false z false false true f g = refl
    by false false z false false false true g = refl
    by false false z false false false false true = eret-asks r.slot r
    by false false z false false false false false = refl

asks-some : (w : ℕ) (r : Regs) (e : Effect) → is_privileged w ≡ true → effect (decoded w) r ≡ Ok e → leaves-cp0 e.request ≡ true → ⊥
asks-some w r e is does leaves =
    let at : ℕ → Instr = λ o. instruction_at (slice_index_or primary_map o primary.Reserved) w in
    let cp0 : decoded w ≡ cp0_instruction w = ap at (eqb-true (opcode w) 16 is) in
    let some : true ≡ false = sym leaves ∙ sym (ap asks-else does) ∙ ap (λ i. asks-else (effect i r)) cp0 ∙ cp0-asks w r in
    true≢false some

-- so such a one may be used in every mode
may-use : (w : ℕ) (r : Regs) (e : Effect) (user : Bool) → effect (decoded w) r ≡ Ok e → leaves-cp0 e.request ≡ true → is_usable w user ≡ true
may-use w r e user does leaves = by (is_privileged w) refl
  where
    by : (b : Bool) → is_privileged w ≡ b → not (b && user) ≡ true
    by false is = refl
    by true is = absurd (asks-some w r e is does leaves)

-- what asks nothing isn't asked of a register
nothing-redirected : (b : Bool) → redirected b asks.Nothing ≡ asks.Nothing
nothing-redirected true = refl
nothing-redirected false = refl

-- the word at the program counter
pub plain-fetched : (m : PrivateMachine) (v : ℕ) (page : KeptPage) (bytes : List ℕ) → IsPageOf Fetch (space_of (vcpu m v)) m.pages page → ShowsPage m page bytes → IsInPage page.number (vcpu m v).registers → fetched m v ≡ Ok (word_in bytes (vcpu m v).registers)
plain-fetched m v page bytes of shows there =
    let pc = (vcpu m v).registers.pc in
    ap (word_of m) (of.leads 4 pc there.page there.aligned)
    ∙ ap Ok (sym (shows (pc % 4096) (omega arith) (let aligned = there.aligned in omega (arith, aligned))))

-- one is an own step
pub plain-step : (m : PrivateMachine) (v : ℕ) (page : KeptPage) (bytes : List ℕ) (s : Regs) → v < length m.vcpus → (vcpu m v).halted ≡ false → AreQuiet 1 v m.vcpus m.devices → IsPageOf Fetch (space_of (vcpu m v)) m.pages page → ShowsPage m page bytes → IsPlain bytes page.number (vcpu m v).registers s → own_step m v ≡ on_vcpu (left m v s) v ticking
plain-step m v page bytes s there running quiet of shows plain =
    let r = (vcpu m v).registers in
    let w = word_in bytes r in
    let user = in_user_mode (vcpu m v).cp0.status in
    let attempt : attempted m v ≡ Ok (left m v s) =
    ap (decided m v) (plain-fetched m v page bytes of shows plain.there)
    ∙ ap (λ b. executed m v (usable b (effect (decoded w) r))) (may-use w r (record { registers = s; request = asks.Nothing }) user plain.done refl)
    ∙ ap (executed m v) plain.done
    ∙ ap (answered m v s) (nothing-redirected (is_open m v)) in
    ap (λ b. if b then m else made (joined m v) v) running
    ∙ ap (λ k. made k v) (quiet-joined v m quiet)
    ∙ ap (λ b. on_vcpu (if b then on_vcpu m v (raising Interrupt) else settled m v (attempted m v)) v ticking) (quiet-none v m quiet)
    ∙ ap (λ a. on_vcpu (settled m v a) v ticking) attempt

-- ---- a load or a store of memory

of-memory : (b : Bool) (q : Request) → IsOfMemory (redirected b q) → leaves-cp0 q ≡ true
of-memory b asks.Nothing is = refl
of-memory b (asks.Load kind address target) is = refl
of-memory b (asks.Store kind address value) is = refl
of-memory b (asks.LoadLinked address target) is = refl
of-memory b (asks.StoreConditional address value target) is = refl
of-memory true (asks.ReadCp0 number target) is = is
of-memory false (asks.ReadCp0 number target) is = is
of-memory true (asks.WriteCp0 number value) is = is
of-memory false (asks.WriteCp0 number value) is = is
of-memory true (asks.System op) is = is
of-memory false (asks.System op) is = is

pub memory-step : (m : PrivateMachine) (v word : ℕ) (request : Request) (n : PrivateMachine) → (vcpu m v).halted ≡ false → AreQuiet 1 v m.vcpus m.devices → Asks m v word request → IsOfMemory (redirected (is_open m v) request) → requested m v (redirected (is_open m v) request) ≡ Ok n
    → own_step m v ≡ on_vcpu n v ticking
memory-step m v word request n running quiet asking memory done =
    let r = (vcpu m v).registers in
    let b = is_open m v in
    let user = in_user_mode (vcpu m v).cp0.status in
    let does : effect (decoded word) r ≡ Ok (record { registers = passed request r; request = request }) = asking.waits.0 in
    let attempt : attempted m v ≡ Ok n =
    ap (decided m v) asking.fetched
    ∙ ap (λ k. executed m v (usable k (effect (decoded word) r))) (may-use word r (record { registers = passed request r; request = request }) user does (of-memory b request memory))
    ∙ ap (executed m v) does
    ∙ ap (λ (regs : Regs). answered m v regs (redirected b request)) (passes-alike b request r)
    ∙ done in
    ap (λ k. if k then m else made (joined m v) v) running
    ∙ ap (λ k. made k v) (quiet-joined v m quiet)
    ∙ ap (λ k. on_vcpu (if k then on_vcpu m v (raising Interrupt) else settled m v (attempted m v)) v ticking) (quiet-none v m quiet)
    ∙ ap (λ a. on_vcpu (settled m v a) v ticking) attempt
