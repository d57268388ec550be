-- The word of the instruction that a word is, is that word.
use Rattle.std.proofs.Common.{◌≡◌, ℕ, ◌+◌, ◌*◌, ◌/◌, ◌%◌, ◌<◌, Bool, true, false, ◌&&◌, ◌==◌, refl, sym, ap, arith, if◌then◌else◌, ◌∙◌, slice_index_or}
use Rattle.std.proofs.lemmas.Bool.{eqb-true}
use Rattle.base_words.specs.declared.instr.Cond.{Cond}
use Rattle.base_words.specs.declared.instr.Cond.TheVariants.{Equal, NotEqual, Less, LessUnsigned, LessOrEqual, Greater, GreaterOrEqual, GreaterOrEqualUnsigned}
use Rattle.base_words.specs.declared.instr.Untaken.{Untaken}
use Rattle.base_words.specs.declared.instr.Untaken.TheVariants.{Slot, PastSlot}
use Rattle.base_words.specs.declared.instr.Primary.{Primary}
use Rattle.base_words.specs.declared.instr.Primary.TheVariants as primary
use Rattle.base_words.specs.declared.instr.Special.{Special}
use Rattle.base_words.specs.declared.instr.Special.TheVariants as special
use Rattle.base_words.specs.declared.instr.RegisterImmediate.{RegisterImmediate}
use Rattle.base_words.specs.declared.instr.RegisterImmediate.TheVariants as immediates
use Rattle.base_words.specs.declared.instr.Instr.{Instr}
use Rattle.base_words.specs.declared.instr.Instr.TheVariants.{Shift, ShiftVariable, JumpRegister, JumpAndLinkRegister, Sync, MoveFrom, MoveTo, MulDiv, Alu, BranchZero, LoadUpper, MoveFromCp0, MoveToCp0, Cp0, Reserved}
use Rattle.base_words.specs.declared.instr.Cp0Op.TheVariants.{TlbRead, TlbWriteIndexed, TlbWriteRandom, TlbProbe, ExceptionReturn}
use Rattle.base_words.specs.Fields.{opcode, function, rs, rt, rd, sa, immediate, jump_index, system_code, trap_code}
use Rattle.base_words.specs.OpcodeMap.{where_zero, special_map, register_immediate_map, primary_map, special_instruction, register_immediate_instruction, cp0_instruction, instruction_at, decoded}
use Rattle.mips_isa.specs.PlaceCodes.{primary_code, special_code, register_immediate_code}
use Rattle.mips_isa.specs.Encoding.{immediate_form, jump_form, register_form, code_form, one_form, branch_zero_word, encoded}
use Rattle.mips_isa.proofs.Places.{primary_free, special_free, immediate_free, primary-at, special-at, immediate-at, and-left, and-right}
use Rattle.mips_isa.proofs.Sums.{opcode-range, function-range, rt-range, jump-sum, immediate-sum, register-sum, code-sum, trap-sum}

-- an instruction whose other fields are 0
where-round : (b : Bool) (w : ℕ) (i : Instr) → (b ≡ true → encoded i ≡ w) → encoded (where_zero b w i) ≡ w
where-round true w i is = is refl
where-round false w i is = refl

immediate-round : (p : Primary) (w a b : ℕ) → w < 4294967296 → primary_code p ≡ opcode w → a ≡ rs w → b ≡ rt w → immediate_form p a b (immediate w) ≡ w
immediate-round p w a b fits code is-a is-b =
    let s = immediate-sum w in
    let sum : primary_code p * 67108864 + a * 2097152 + b * 65536 + immediate w ≡ w = rw (code, is-a, is-b) s in
    rw sum (omega arith)

jump-round : (p : Primary) (w : ℕ) → w < 4294967296 → primary_code p ≡ opcode w → jump_form p (jump_index w) ≡ w
jump-round p w fits code =
    let sum : primary_code p * 67108864 + jump_index w ≡ w = rw code (jump-sum w) in
    rw sum (omega arith)

register-round : (p : Special) (w a b c d : ℕ) → opcode w ≡ 0 → special_code p ≡ function w → a ≡ rs w → b ≡ rt w → c ≡ rd w → d ≡ sa w → register_form p a b c d ≡ w
register-round p w a b c d none code is-a is-b is-c is-d =
    rw (is-a, is-b, is-c, is-d, code) (let s = register-sum w in omega arith)

code-round : (p : Special) (w : ℕ) → opcode w ≡ 0 → special_code p ≡ function w → code_form p (system_code w) ≡ w
code-round p w none code = rw code (let s = code-sum w in omega arith)

trap-round : (p : Special) (w : ℕ) → opcode w ≡ 0 → special_code p ≡ function w → rs w * 2097152 + rt w * 65536 + code_form p (trap_code w) ≡ w
trap-round p w none code = rw code (let s = trap-sum w in omega arith)

one-round : (p : RegisterImmediate) (w : ℕ) → opcode w ≡ 1 → register_immediate_code p ≡ rt w → one_form p (rs w) (immediate w) ≡ w
one-round p w one code = rw code (let s = immediate-sum w in omega arith)

-- fields that lie within a field of zeros
low-rt : (w : ℕ) → w / 64 % 32768 ≡ 0 → 0 ≡ rt w
low-rt w z = omega arith

low-rd : (w : ℕ) → w / 64 % 32768 ≡ 0 → 0 ≡ rd w
low-rd w z = omega arith

low-sa : (w : ℕ) → w / 64 % 32768 ≡ 0 → 0 ≡ sa w
low-sa w z = omega arith

high-rs : (w : ℕ) → w / 65536 % 1024 ≡ 0 → 0 ≡ rs w
high-rs w z = omega arith

high-rt : (w : ℕ) → w / 65536 % 1024 ≡ 0 → 0 ≡ rt w
high-rt w z = omega arith

code-rd : (w : ℕ) → trap_code w ≡ 0 → 0 ≡ rd w
code-rd w z = omega arith

code-sa : (w : ℕ) → trap_code w ≡ 0 → 0 ≡ sa w
code-sa w z = omega arith

special-round : (p : Special) (w : ℕ) → opcode w ≡ 0 → (special_free p ≡ false → special_code p ≡ function w) → encoded (special_instruction p w) ≡ w
special-round (special.Shift op) w none at =
    where-round (rs w == 0) w (Shift op (rt w) (rd w) (sa w))
    (λ e. register-round (special.Shift op) w 0 (rt w) (rd w) (sa w) none (at refl) (sym (eqb-true (rs w) 0 e)) refl refl refl)
special-round (special.ShiftVariable op) w none at =
    where-round (sa w == 0) w (ShiftVariable op (rs w) (rt w) (rd w))
    (λ e. register-round (special.ShiftVariable op) w (rs w) (rt w) (rd w) 0 none (at refl) refl refl refl (sym (eqb-true (sa w) 0 e)))
special-round special.JumpRegister w none at =
    where-round (w / 64 % 32768 == 0) w (JumpRegister (rs w))
    (λ e. let z = eqb-true (w / 64 % 32768) 0 e in
    register-round special.JumpRegister w (rs w) 0 0 0 none (at refl) refl (low-rt w z) (low-rd w z) (low-sa w z))
special-round special.JumpAndLinkRegister w none at =
    where-round ((rt w == 0) && (sa w == 0)) w (JumpAndLinkRegister (rs w) (rd w))
    (λ e. register-round special.JumpAndLinkRegister w (rs w) 0 (rd w) 0 none (at refl) refl
    (sym (eqb-true (rt w) 0 (and-left (rt w == 0) (sa w == 0) e))) refl (sym (eqb-true (sa w) 0 (and-right (rt w == 0) (sa w == 0) e))))
special-round special.SystemCall w none at = code-round special.SystemCall w none (at refl)
special-round special.Break w none at = code-round special.Break w none (at refl)
special-round special.Sync w none at =
    where-round (system_code w == 0) w Sync
    (λ e. ap (λ c. code_form special.Sync c) (sym (eqb-true (system_code w) 0 e)) ∙ code-round special.Sync w none (at refl))
special-round (special.MoveFrom half) w none at =
    where-round ((w / 65536 % 1024 == 0) && (sa w == 0)) w (MoveFrom half (rd w))
    (λ e. let z = eqb-true (w / 65536 % 1024) 0 (and-left (w / 65536 % 1024 == 0) (sa w == 0) e) in
    register-round (special.MoveFrom half) w 0 0 (rd w) 0 none (at refl) (high-rs w z) (high-rt w z) refl
    (sym (eqb-true (sa w) 0 (and-right (w / 65536 % 1024 == 0) (sa w == 0) e))))
special-round (special.MoveTo half) w none at =
    where-round (w / 64 % 32768 == 0) w (MoveTo half (rs w))
    (λ e. let z = eqb-true (w / 64 % 32768) 0 e in
    register-round (special.MoveTo half) w (rs w) 0 0 0 none (at refl) refl (low-rt w z) (low-rd w z) (low-sa w z))
special-round (special.MulDiv op) w none at =
    where-round (trap_code w == 0) w (MulDiv op (rs w) (rt w))
    (λ e. let z = eqb-true (trap_code w) 0 e in
    register-round (special.MulDiv op) w (rs w) (rt w) 0 0 none (at refl) refl refl (code-rd w z) (code-sa w z))
special-round (special.Alu op) w none at =
    where-round (sa w == 0) w (Alu op (rs w) (rt w) (rd w))
    (λ e. register-round (special.Alu op) w (rs w) (rt w) (rd w) 0 none (at refl) refl refl refl (sym (eqb-true (sa w) 0 e)))
special-round (special.Trap cond) w none at = trap-round (special.Trap cond) w none (at refl)
special-round special.Reserved w none at = refl

-- a branch of opcode 1: its condition has no opcode of its own
branch-round : (cond : Cond) (untaken : Untaken) (w : ℕ) → opcode w ≡ 1 → register_immediate_code (immediates.Branch cond untaken) ≡ rt w → branch_zero_word cond untaken (rs w) (immediate w) ≡ w
branch-round Less untaken w one code = one-round (immediates.Branch Less untaken) w one code
branch-round GreaterOrEqual untaken w one code = one-round (immediates.Branch GreaterOrEqual untaken) w one code
branch-round Equal untaken w one code = one-round (immediates.Branch Equal untaken) w one code
branch-round NotEqual untaken w one code = one-round (immediates.Branch NotEqual untaken) w one code
branch-round LessUnsigned untaken w one code = one-round (immediates.Branch LessUnsigned untaken) w one code
branch-round GreaterOrEqualUnsigned untaken w one code = one-round (immediates.Branch GreaterOrEqualUnsigned untaken) w one code
branch-round LessOrEqual Slot w one code = absurd (let r = rt-range w in let c : 32 ≡ rt w = code in omega arith)
branch-round LessOrEqual PastSlot w one code = absurd (let r = rt-range w in let c : 32 ≡ rt w = code in omega arith)
branch-round Greater Slot w one code = absurd (let r = rt-range w in let c : 32 ≡ rt w = code in omega arith)
branch-round Greater PastSlot w one code = absurd (let r = rt-range w in let c : 32 ≡ rt w = code in omega arith)

opcode1-round : (p : RegisterImmediate) (w : ℕ) → opcode w ≡ 1 → (immediate_free p ≡ false → register_immediate_code p ≡ rt w) → encoded (register_immediate_instruction p w) ≡ w
opcode1-round (immediates.Branch cond untaken) w one at = branch-round cond untaken w one (at refl)
opcode1-round (immediates.BranchAndLink cond untaken) w one at = one-round (immediates.BranchAndLink cond untaken) w one (at refl)
opcode1-round (immediates.Trap cond) w one at = one-round (immediates.Trap cond) w one (at refl)
opcode1-round immediates.Reserved w one at = refl

-- a branch against 0 with an opcode of its own
zero-round : (cond : Cond) (untaken : Untaken) (w : ℕ) → w < 4294967296 → primary_code (primary.BranchZero cond untaken) ≡ opcode w → 0 ≡ rt w → branch_zero_word cond untaken (rs w) (immediate w) ≡ w
zero-round LessOrEqual untaken w fits code z = immediate-round (primary.BranchZero LessOrEqual untaken) w (rs w) 0 fits code refl z
zero-round Greater untaken w fits code z = immediate-round (primary.BranchZero Greater untaken) w (rs w) 0 fits code refl z
zero-round Less untaken w fits code z = absurd (let r = opcode-range w fits in let c : 64 ≡ opcode w = code in omega arith)
zero-round GreaterOrEqual untaken w fits code z = absurd (let r = opcode-range w fits in let c : 64 ≡ opcode w = code in omega arith)
zero-round Equal untaken w fits code z = absurd (let r = opcode-range w fits in let c : 64 ≡ opcode w = code in omega arith)
zero-round NotEqual untaken w fits code z = absurd (let r = opcode-range w fits in let c : 64 ≡ opcode w = code in omega arith)
zero-round LessUnsigned untaken w fits code z = absurd (let r = opcode-range w fits in let c : 64 ≡ opcode w = code in omega arith)
zero-round GreaterOrEqualUnsigned untaken w fits code z = absurd (let r = opcode-range w fits in let c : 64 ≡ opcode w = code in omega arith)

if-round : (b : Bool) (w : ℕ) (x y : Instr) → (b ≡ true → encoded x ≡ w) → encoded y ≡ w → encoded (if b then x else y) ≡ w
if-round true w x y is other = is refl
if-round false w x y is other = other

-- where only registers are free, the immediate has register rd alone
move-immediate : (w : ℕ) → w % 2048 ≡ 0 → rd w * 2048 ≡ immediate w
move-immediate w z = omega arith

move-round : (w a : ℕ) → w < 4294967296 → opcode w ≡ 16 → a ≡ rs w → w % 2048 ≡ 0 → immediate_form primary.Coprocessor0 a (rt w) (rd w * 2048) ≡ w
move-round w a fits code is z =
    ap (λ i. immediate_form primary.Coprocessor0 a (rt w) i) (move-immediate w z)
    ∙ immediate-round primary.Coprocessor0 w a (rt w) fits (sym code) is refl

abbrev five_words : ℕ → Instr
five_words w =
    if w == 0x4200_0001 then Cp0 TlbRead
    else if w == 0x4200_0002 then Cp0 TlbWriteIndexed
    else if w == 0x4200_0006 then Cp0 TlbWriteRandom
    else if w == 0x4200_0008 then Cp0 TlbProbe
    else if w == 0x4200_0018 then Cp0 ExceptionReturn
    else Reserved w

five-round : (w : ℕ) → encoded (five_words w) ≡ w
five-round w =
    if-round (w == 0x4200_0001) w (Cp0 TlbRead) _ (λ e. sym (eqb-true w 0x4200_0001 e))
    (if-round (w == 0x4200_0002) w (Cp0 TlbWriteIndexed) _ (λ e. sym (eqb-true w 0x4200_0002 e))
    (if-round (w == 0x4200_0006) w (Cp0 TlbWriteRandom) _ (λ e. sym (eqb-true w 0x4200_0006 e))
    (if-round (w == 0x4200_0008) w (Cp0 TlbProbe) _ (λ e. sym (eqb-true w 0x4200_0008 e))
    (if-round (w == 0x4200_0018) w (Cp0 ExceptionReturn) (Reserved w) (λ e. sym (eqb-true w 0x4200_0018 e)) refl))))

cp0-round : (w : ℕ) → w < 4294967296 → opcode w ≡ 16 → encoded (cp0_instruction w) ≡ w
cp0-round w fits code =
    if-round (rs w == 0) w (where_zero (w % 2048 == 0) w (MoveFromCp0 (rt w) (rd w))) _
    (λ e. where-round (w % 2048 == 0) w (MoveFromCp0 (rt w) (rd w)) (λ z. move-round w 0 fits code (sym (eqb-true (rs w) 0 e)) (eqb-true (w % 2048) 0 z)))
    (if-round (rs w == 4) w (where_zero (w % 2048 == 0) w (MoveToCp0 (rt w) (rd w))) (five_words w)
    (λ e. where-round (w % 2048 == 0) w (MoveToCp0 (rt w) (rd w)) (λ z. move-round w 4 fits code (sym (eqb-true (rs w) 4 e)) (eqb-true (w % 2048) 0 z)))
    (five-round w))

instruction-round : (p : Primary) (w : ℕ) → w < 4294967296 → (primary_free p ≡ false → primary_code p ≡ opcode w) → encoded (instruction_at p w) ≡ w
instruction-round primary.Special w fits at =
    special-round (slice_index_or special_map (function w) special.Reserved) w (sym (at refl)) (special-at (function w) (function-range w))
instruction-round primary.RegisterImmediate w fits at =
    opcode1-round (slice_index_or register_immediate_map (rt w) immediates.Reserved) w (sym (at refl)) (immediate-at (rt w) (rt-range w))
instruction-round primary.Jump w fits at = jump-round primary.Jump w fits (at refl)
instruction-round primary.JumpAndLink w fits at = jump-round primary.JumpAndLink w fits (at refl)
instruction-round (primary.Branch cond untaken) w fits at = immediate-round (primary.Branch cond untaken) w (rs w) (rt w) fits (at refl) refl refl
instruction-round (primary.BranchZero cond untaken) w fits at =
    where-round (rt w == 0) w (BranchZero cond untaken (rs w) (immediate w)) (λ e. zero-round cond untaken w fits (at refl) (sym (eqb-true (rt w) 0 e)))
instruction-round (primary.AluImmediate op) w fits at = immediate-round (primary.AluImmediate op) w (rs w) (rt w) fits (at refl) refl refl
instruction-round primary.LoadUpper w fits at =
    where-round (rs w == 0) w (LoadUpper (rt w) (immediate w)) (λ e. immediate-round primary.LoadUpper w 0 (rt w) fits (at refl) (sym (eqb-true (rs w) 0 e)) refl)
instruction-round primary.Coprocessor0 w fits at = cp0-round w fits (sym (at refl))
instruction-round (primary.Coprocessor unit) w fits at = refl
instruction-round (primary.Load kind) w fits at = immediate-round (primary.Load kind) w (rs w) (rt w) fits (at refl) refl refl
instruction-round (primary.Store kind) w fits at = immediate-round (primary.Store kind) w (rs w) (rt w) fits (at refl) refl refl
instruction-round primary.LoadLinked w fits at = immediate-round primary.LoadLinked w (rs w) (rt w) fits (at refl) refl refl
instruction-round primary.StoreConditional w fits at = immediate-round primary.StoreConditional w (rs w) (rt w) fits (at refl) refl refl
instruction-round primary.Reserved w fits at = refl

pub round_trip : (w : ℕ) → w < 4294967296 → encoded (decoded w) ≡ w
round_trip w fits = instruction-round (slice_index_or primary_map (opcode w) primary.Reserved) w fits (primary-at (opcode w) (opcode-range w fits))
