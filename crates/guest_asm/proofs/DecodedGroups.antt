-- What the words of each group of instructions are decoded as.
use Rattle.std.proofs.Common.{◌≡◌, ◌∙◌, ℕ, ◌+◌, ◌*◌, ◌/◌, ◌%◌, ◌<◌, ◌&&◌, eqb, refl, ap, arith, lit<, slice_index_or}
use Rattle.base_words.specs.declared.instr.AluOp.{AluOp}
use Rattle.base_words.specs.declared.instr.ShiftOp.{ShiftOp}
use Rattle.base_words.specs.declared.instr.MulOp.{MulOp}
use Rattle.base_words.specs.declared.instr.Cond.{Cond}
use Rattle.base_words.specs.declared.instr.Cond.TheVariants.{Less, LessOrEqual, Greater, GreaterOrEqual}
use Rattle.base_words.specs.declared.instr.Half.{Half}
use Rattle.base_words.specs.declared.instr.LoadKind.{LoadKind}
use Rattle.base_words.specs.declared.instr.StoreKind.{StoreKind}
use Rattle.base_words.specs.declared.instr.Untaken.{Untaken}
use Rattle.base_words.specs.declared.instr.Primary.{Primary}
use Rattle.base_words.specs.declared.instr.Primary.TheVariants as primary
use Rattle.base_words.specs.declared.instr.Special.{Special}
use Rattle.base_words.specs.declared.instr.Special.TheVariants as special
use Rattle.base_words.specs.declared.instr.RegisterImmediate.{RegisterImmediate}
use Rattle.base_words.specs.declared.instr.RegisterImmediate.TheVariants as immediates
use Rattle.base_words.specs.declared.instr.Instr.{Instr}
use Rattle.base_words.specs.declared.instr.Instr.TheVariants as instr
use Rattle.base_words.specs.Fields.{opcode, function, rs, rt, rd, sa, trap_code, immediate, jump_index}
use Rattle.base_words.specs.OpcodeMap.{where_zero, primary_map, special_map, register_immediate_map, special_instruction, register_immediate_instruction, instruction_at, decoded}
use Rattle.mips_isa.specs.PlaceCodes.{primary_code, special_code, register_immediate_code}
use Rattle.mips_isa.specs.Encoding.{register_form, immediate_form, jump_form, one_form, encoded}
use Rattle.guest_asm.specs.declared.mnemonics.Operation.TheVariants as operation
use Rattle.guest_asm.specs.Decoding.{IsDecoded}

-- by the opcode, by the function of opcode 0, and by the field of opcode 1
primary-at : (p : Primary) (w c : ℕ) → opcode w ≡ c → slice_index_or primary_map c primary.Reserved ≡ p → decoded w ≡ instruction_at p w
primary-at p w c code entry =
    ap (λ (o : ℕ). instruction_at (slice_index_or primary_map o primary.Reserved) w) code ∙ ap (λ (q : Primary). instruction_at q w) entry

special-at : (p : Special) (w c : ℕ) → opcode w ≡ 0 → function w ≡ c → slice_index_or special_map c special.Reserved ≡ p → decoded w ≡ special_instruction p w
special-at p w c none code entry =
    primary-at primary.Special w 0 none refl
    ∙ ap (λ (f : ℕ). special_instruction (slice_index_or special_map f special.Reserved) w) code
    ∙ ap (λ (q : Special). special_instruction q w) entry

one-at : (p : RegisterImmediate) (w c : ℕ) → opcode w ≡ 1 → rt w ≡ c → slice_index_or register_immediate_map c immediates.Reserved ≡ p → decoded w ≡ register_immediate_instruction p w
one-at p w c one code entry =
    primary-at primary.RegisterImmediate w 1 one refl
    ∙ ap (λ (f : ℕ). register_immediate_instruction (slice_index_or register_immediate_map f immediates.Reserved) w) code
    ∙ ap (λ (q : RegisterImmediate). register_immediate_instruction q w) entry

-- fields that are 0
zero-is : (z w : ℕ) (i j : Instr) → z ≡ 0 → i ≡ j → where_zero (eqb z 0) w i ≡ j
zero-is z w i j none is = ap (λ (x : ℕ). where_zero (eqb x 0) w i) none ∙ is

zeros-are : (y z w : ℕ) (i j : Instr) → y ≡ 0 → z ≡ 0 → i ≡ j → where_zero (eqb y 0 && eqb z 0) w i ≡ j
zeros-are y z w i j first none is = ap (λ (x : ℕ). where_zero (eqb x 0 && eqb z 0) w i) first ∙ zero-is z w i j none is

-- the fields of a word of opcode 0
record Split (w a b d s c : ℕ) : Type 0 where
  opcode-is : opcode w ≡ 0
  function-is : function w ≡ c
  rs-is : rs w ≡ a
  rt-is : rt w ≡ b
  rd-is : rd w ≡ d
  sa-is : sa w ≡ s
  low-is : w / 64 ≡ a * 32768 + b * 1024 + d * 32 + s

split : (p : Special) (a b d s c : ℕ) → special_code p ≡ c → c < 64 → a < 32 → b < 32 → d < 32 → s < 32 → Split (register_form p a b d s) a b d s c
split p a b d s c code small la lb ld ls = rw code (record {
  opcode-is = omega arith;
  function-is = omega arith;
  rs-is = omega arith;
  rt-is = omega arith;
  rd-is = omega arith;
  sa-is = omega arith;
  low-is = omega arith;
})

-- those of a word with an immediate, and with an index
record SplitImmediate (w a b i c : ℕ) : Type 0 where
  opcode-is : opcode w ≡ c
  rs-is : rs w ≡ a
  rt-is : rt w ≡ b
  immediate-is : immediate w ≡ i

split-immediate : (p : Primary) (a b i c : ℕ) → primary_code p ≡ c → c < 64 → a < 32 → b < 32 → i < 65536 → SplitImmediate (immediate_form p a b i) a b i c
split-immediate p a b i c code small la lb li = rw code (record {
  opcode-is = omega arith;
  rs-is = omega arith;
  rt-is = omega arith;
  immediate-is = omega arith;
})

split-one : (p : RegisterImmediate) (a i c : ℕ) → register_immediate_code p ≡ c → c < 32 → a < 32 → i < 65536 → SplitImmediate (one_form p a i) a c i 1
split-one p a i c code small la li = rw code (record {
  opcode-is = omega arith;
  rs-is = omega arith;
  rt-is = omega arith;
  immediate-is = omega arith;
})

pub shift : (op : ShiftOp) (c : ℕ) → c < 64 → special_code (special.Shift op) ≡ c → slice_index_or special_map c special.Reserved ≡ (special.Shift op) → IsDecoded (operation.Shift op)
shift op c small code entry = λ f n r.
    let w : ℕ = register_form (special.Shift op) 0 f.rt f.rd (n % 32) in
    let zero : 0 < 32 = lit< tt in
    let amount : n % 32 < 32 = omega arith in
    let k : Split w 0 f.rt f.rd (n % 32) c = split (special.Shift op) 0 f.rt f.rd (n % 32) c code small zero r.1 r.2 amount in
    special-at (special.Shift op) w c k.opcode-is k.function-is entry ∙ zero-is (rs w) w (instr.Shift op (rt w) (rd w) (sa w)) (instr.Shift op f.rt f.rd (n % 32)) k.rs-is (cc)

pub shift-variable : (op : ShiftOp) (c : ℕ) → c < 64 → special_code (special.ShiftVariable op) ≡ c → slice_index_or special_map c special.Reserved ≡ (special.ShiftVariable op) → IsDecoded (operation.ShiftVariable op)
shift-variable op c small code entry = λ f n r.
    let w : ℕ = register_form (special.ShiftVariable op) f.rs f.rt f.rd 0 in
    let zero : 0 < 32 = lit< tt in
    let amount : n % 32 < 32 = omega arith in
    let k : Split w f.rs f.rt f.rd 0 c = split (special.ShiftVariable op) f.rs f.rt f.rd 0 c code small r.0 r.1 r.2 zero in
    special-at (special.ShiftVariable op) w c k.opcode-is k.function-is entry ∙ zero-is (sa w) w (instr.ShiftVariable op (rs w) (rt w) (rd w)) (instr.ShiftVariable op f.rs f.rt f.rd) k.sa-is (cc)

pub jump-register : (c : ℕ) → c < 64 → special_code special.JumpRegister ≡ c → slice_index_or special_map c special.Reserved ≡ special.JumpRegister → IsDecoded operation.JumpRegister
jump-register c small code entry = λ f n r.
    let w : ℕ = register_form special.JumpRegister f.rs 0 0 0 in
    let zero : 0 < 32 = lit< tt in
    let amount : n % 32 < 32 = omega arith in
    let k : Split w f.rs 0 0 0 c = split special.JumpRegister f.rs 0 0 0 c code small r.0 zero zero zero in
    special-at special.JumpRegister w c k.opcode-is k.function-is entry ∙ zero-is (w / 64 % 32768) w (instr.JumpRegister (rs w)) (instr.JumpRegister f.rs) (let low : w / 64 ≡ f.rs * 32768 + 0 * 1024 + 0 * 32 + 0 = k.low-is in omega arith) (cc)

pub jump-and-link-register : (c : ℕ) → c < 64 → special_code special.JumpAndLinkRegister ≡ c → slice_index_or special_map c special.Reserved ≡ special.JumpAndLinkRegister → IsDecoded operation.JumpAndLinkRegister
jump-and-link-register c small code entry = λ f n r.
    let w : ℕ = register_form special.JumpAndLinkRegister f.rs 0 f.rd 0 in
    let zero : 0 < 32 = lit< tt in
    let amount : n % 32 < 32 = omega arith in
    let k : Split w f.rs 0 f.rd 0 c = split special.JumpAndLinkRegister f.rs 0 f.rd 0 c code small r.0 zero r.2 zero in
    special-at special.JumpAndLinkRegister w c k.opcode-is k.function-is entry ∙ zeros-are (rt w) (sa w) w (instr.JumpAndLinkRegister (rs w) (rd w)) (instr.JumpAndLinkRegister f.rs f.rd) k.rt-is k.sa-is (cc)

pub move-from : (op : Half) (c : ℕ) → c < 64 → special_code (special.MoveFrom op) ≡ c → slice_index_or special_map c special.Reserved ≡ (special.MoveFrom op) → IsDecoded (operation.MoveFrom op)
move-from op c small code entry = λ f n r.
    let w : ℕ = register_form (special.MoveFrom op) 0 0 f.rd 0 in
    let zero : 0 < 32 = lit< tt in
    let amount : n % 32 < 32 = omega arith in
    let k : Split w 0 0 f.rd 0 c = split (special.MoveFrom op) 0 0 f.rd 0 c code small zero zero r.2 zero in
    special-at (special.MoveFrom op) w c k.opcode-is k.function-is entry ∙ zeros-are (w / 65536 % 1024) (sa w) w (instr.MoveFrom op (rd w)) (instr.MoveFrom op f.rd) (let low : w / 64 ≡ 0 * 32768 + 0 * 1024 + f.rd * 32 + 0 = k.low-is in let small-rd : f.rd < 32 = r.2 in omega arith) k.sa-is (cc)

pub move-to : (op : Half) (c : ℕ) → c < 64 → special_code (special.MoveTo op) ≡ c → slice_index_or special_map c special.Reserved ≡ (special.MoveTo op) → IsDecoded (operation.MoveTo op)
move-to op c small code entry = λ f n r.
    let w : ℕ = register_form (special.MoveTo op) f.rs 0 0 0 in
    let zero : 0 < 32 = lit< tt in
    let amount : n % 32 < 32 = omega arith in
    let k : Split w f.rs 0 0 0 c = split (special.MoveTo op) f.rs 0 0 0 c code small r.0 zero zero zero in
    special-at (special.MoveTo op) w c k.opcode-is k.function-is entry ∙ zero-is (w / 64 % 32768) w (instr.MoveTo op (rs w)) (instr.MoveTo op f.rs) (let low : w / 64 ≡ f.rs * 32768 + 0 * 1024 + 0 * 32 + 0 = k.low-is in omega arith) (cc)

pub mul-div : (op : MulOp) (c : ℕ) → c < 64 → special_code (special.MulDiv op) ≡ c → slice_index_or special_map c special.Reserved ≡ (special.MulDiv op) → IsDecoded (operation.MulDiv op)
mul-div op c small code entry = λ f n r.
    let w : ℕ = register_form (special.MulDiv op) f.rs f.rt 0 0 in
    let zero : 0 < 32 = lit< tt in
    let amount : n % 32 < 32 = omega arith in
    let k : Split w f.rs f.rt 0 0 c = split (special.MulDiv op) f.rs f.rt 0 0 c code small r.0 r.1 zero zero in
    special-at (special.MulDiv op) w c k.opcode-is k.function-is entry ∙ zero-is (trap_code w) w (instr.MulDiv op (rs w) (rt w)) (instr.MulDiv op f.rs f.rt) (let low : w / 64 ≡ f.rs * 32768 + f.rt * 1024 + 0 * 32 + 0 = k.low-is in omega arith) (cc)

pub alu : (op : AluOp) (c : ℕ) → c < 64 → special_code (special.Alu op) ≡ c → slice_index_or special_map c special.Reserved ≡ (special.Alu op) → IsDecoded (operation.Alu op)
alu op c small code entry = λ f n r.
    let w : ℕ = register_form (special.Alu op) f.rs f.rt f.rd 0 in
    let zero : 0 < 32 = lit< tt in
    let amount : n % 32 < 32 = omega arith in
    let k : Split w f.rs f.rt f.rd 0 c = split (special.Alu op) f.rs f.rt f.rd 0 c code small r.0 r.1 r.2 zero in
    special-at (special.Alu op) w c k.opcode-is k.function-is entry ∙ zero-is (sa w) w (instr.Alu op (rs w) (rt w) (rd w)) (instr.Alu op f.rs f.rt f.rd) k.sa-is (cc)

pub trap : (op : Cond) (c : ℕ) → c < 64 → special_code (special.Trap op) ≡ c → slice_index_or special_map c special.Reserved ≡ special.Trap op → IsDecoded (operation.Trap op)
trap op c small code entry = λ f n r.
    let w : ℕ = register_form (special.Trap op) f.rs f.rt 0 0 in
    let zero : 0 < 32 = lit< tt in
    let k : Split w f.rs f.rt 0 0 c = split (special.Trap op) f.rs f.rt 0 0 c code small r.0 r.1 zero zero in
    let low : w / 64 ≡ f.rs * 32768 + f.rt * 1024 + 0 * 32 + 0 = k.low-is in
    let none : trap_code w ≡ 0 = omega arith in
    let same : encoded (instr.Trap op f.rs f.rt 0) ≡ w = omega arith in
    let there : decoded w ≡ instr.Trap op f.rs f.rt 0 = special-at (special.Trap op) w c k.opcode-is k.function-is entry ∙ cc in
    ap decoded same ∙ there

pub branch : (op : Cond) (u : Untaken) (c : ℕ) → c < 64 → primary_code (primary.Branch op u) ≡ c → slice_index_or primary_map c primary.Reserved ≡ (primary.Branch op u) → IsDecoded (operation.Branch op u)
branch op u c small code entry = λ f n r.
    let w : ℕ = immediate_form (primary.Branch op u) f.rs f.rt (n % 65536) in
    let zero : 0 < 32 = lit< tt in
    let half : n % 65536 < 65536 = omega arith in
    let k : SplitImmediate w f.rs f.rt (n % 65536) c = split-immediate (primary.Branch op u) f.rs f.rt (n % 65536) c code small r.0 r.1 half in
    primary-at (primary.Branch op u) w c k.opcode-is entry ∙ cc

pub alu-immediate : (op : AluOp) (c : ℕ) → c < 64 → primary_code (primary.AluImmediate op) ≡ c → slice_index_or primary_map c primary.Reserved ≡ (primary.AluImmediate op) → IsDecoded (operation.AluImmediate op)
alu-immediate op c small code entry = λ f n r.
    let w : ℕ = immediate_form (primary.AluImmediate op) f.rs f.rt (n % 65536) in
    let zero : 0 < 32 = lit< tt in
    let half : n % 65536 < 65536 = omega arith in
    let k : SplitImmediate w f.rs f.rt (n % 65536) c = split-immediate (primary.AluImmediate op) f.rs f.rt (n % 65536) c code small r.0 r.1 half in
    primary-at (primary.AluImmediate op) w c k.opcode-is entry ∙ cc

pub load-upper : (c : ℕ) → c < 64 → primary_code primary.LoadUpper ≡ c → slice_index_or primary_map c primary.Reserved ≡ primary.LoadUpper → IsDecoded operation.LoadUpper
load-upper c small code entry = λ f n r.
    let w : ℕ = immediate_form primary.LoadUpper 0 f.rt (n % 65536) in
    let zero : 0 < 32 = lit< tt in
    let half : n % 65536 < 65536 = omega arith in
    let k : SplitImmediate w 0 f.rt (n % 65536) c = split-immediate primary.LoadUpper 0 f.rt (n % 65536) c code small zero r.1 half in
    primary-at primary.LoadUpper w c k.opcode-is entry ∙ zero-is (rs w) w (instr.LoadUpper (rt w) (immediate w)) (instr.LoadUpper f.rt (n % 65536)) k.rs-is (cc)

pub load : (kind : LoadKind) (c : ℕ) → c < 64 → primary_code (primary.Load kind) ≡ c → slice_index_or primary_map c primary.Reserved ≡ (primary.Load kind) → IsDecoded (operation.Load kind)
load kind c small code entry = λ f n r.
    let w : ℕ = immediate_form (primary.Load kind) f.rs f.rt (n % 65536) in
    let zero : 0 < 32 = lit< tt in
    let half : n % 65536 < 65536 = omega arith in
    let k : SplitImmediate w f.rs f.rt (n % 65536) c = split-immediate (primary.Load kind) f.rs f.rt (n % 65536) c code small r.0 r.1 half in
    primary-at (primary.Load kind) w c k.opcode-is entry ∙ cc

pub store : (kind : StoreKind) (c : ℕ) → c < 64 → primary_code (primary.Store kind) ≡ c → slice_index_or primary_map c primary.Reserved ≡ (primary.Store kind) → IsDecoded (operation.Store kind)
store kind c small code entry = λ f n r.
    let w : ℕ = immediate_form (primary.Store kind) f.rs f.rt (n % 65536) in
    let zero : 0 < 32 = lit< tt in
    let half : n % 65536 < 65536 = omega arith in
    let k : SplitImmediate w f.rs f.rt (n % 65536) c = split-immediate (primary.Store kind) f.rs f.rt (n % 65536) c code small r.0 r.1 half in
    primary-at (primary.Store kind) w c k.opcode-is entry ∙ cc

pub load-linked : (c : ℕ) → c < 64 → primary_code primary.LoadLinked ≡ c → slice_index_or primary_map c primary.Reserved ≡ primary.LoadLinked → IsDecoded operation.LoadLinked
load-linked c small code entry = λ f n r.
    let w : ℕ = immediate_form primary.LoadLinked f.rs f.rt (n % 65536) in
    let zero : 0 < 32 = lit< tt in
    let half : n % 65536 < 65536 = omega arith in
    let k : SplitImmediate w f.rs f.rt (n % 65536) c = split-immediate primary.LoadLinked f.rs f.rt (n % 65536) c code small r.0 r.1 half in
    primary-at primary.LoadLinked w c k.opcode-is entry ∙ cc

pub store-conditional : (c : ℕ) → c < 64 → primary_code primary.StoreConditional ≡ c → slice_index_or primary_map c primary.Reserved ≡ primary.StoreConditional → IsDecoded operation.StoreConditional
store-conditional c small code entry = λ f n r.
    let w : ℕ = immediate_form primary.StoreConditional f.rs f.rt (n % 65536) in
    let zero : 0 < 32 = lit< tt in
    let half : n % 65536 < 65536 = omega arith in
    let k : SplitImmediate w f.rs f.rt (n % 65536) c = split-immediate primary.StoreConditional f.rs f.rt (n % 65536) c code small r.0 r.1 half in
    primary-at primary.StoreConditional w c k.opcode-is entry ∙ cc

pub blez : (u : Untaken) (c : ℕ) → c < 64 → primary_code (primary.BranchZero LessOrEqual u) ≡ c → slice_index_or primary_map c primary.Reserved ≡ (primary.BranchZero LessOrEqual u) → IsDecoded (operation.BranchZero LessOrEqual u)
blez u c small code entry = λ f n r.
    let w : ℕ = immediate_form (primary.BranchZero LessOrEqual u) f.rs 0 (n % 65536) in
    let zero : 0 < 32 = lit< tt in
    let half : n % 65536 < 65536 = omega arith in
    let k : SplitImmediate w f.rs 0 (n % 65536) c = split-immediate (primary.BranchZero LessOrEqual u) f.rs 0 (n % 65536) c code small r.0 zero half in
    primary-at (primary.BranchZero LessOrEqual u) w c k.opcode-is entry ∙ zero-is (rt w) w (instr.BranchZero LessOrEqual u (rs w) (immediate w)) (instr.BranchZero LessOrEqual u f.rs (n % 65536)) k.rt-is (cc)

pub bgtz : (u : Untaken) (c : ℕ) → c < 64 → primary_code (primary.BranchZero Greater u) ≡ c → slice_index_or primary_map c primary.Reserved ≡ (primary.BranchZero Greater u) → IsDecoded (operation.BranchZero Greater u)
bgtz u c small code entry = λ f n r.
    let w : ℕ = immediate_form (primary.BranchZero Greater u) f.rs 0 (n % 65536) in
    let zero : 0 < 32 = lit< tt in
    let half : n % 65536 < 65536 = omega arith in
    let k : SplitImmediate w f.rs 0 (n % 65536) c = split-immediate (primary.BranchZero Greater u) f.rs 0 (n % 65536) c code small r.0 zero half in
    primary-at (primary.BranchZero Greater u) w c k.opcode-is entry ∙ zero-is (rt w) w (instr.BranchZero Greater u (rs w) (immediate w)) (instr.BranchZero Greater u f.rs (n % 65536)) k.rt-is (cc)

pub bltz : (u : Untaken) (c : ℕ) → c < 32 → register_immediate_code (immediates.Branch Less u) ≡ c → slice_index_or register_immediate_map c immediates.Reserved ≡ (immediates.Branch Less u) → IsDecoded (operation.BranchZero Less u)
bltz u c small code entry = λ f n r.
    let w : ℕ = one_form (immediates.Branch Less u) f.rs (n % 65536) in
    let half : n % 65536 < 65536 = omega arith in
    let k : SplitImmediate w f.rs c (n % 65536) 1 = split-one (immediates.Branch Less u) f.rs (n % 65536) c code small r.0 half in
    one-at (immediates.Branch Less u) w c k.opcode-is k.rt-is entry ∙ cc

pub bgez : (u : Untaken) (c : ℕ) → c < 32 → register_immediate_code (immediates.Branch GreaterOrEqual u) ≡ c → slice_index_or register_immediate_map c immediates.Reserved ≡ (immediates.Branch GreaterOrEqual u) → IsDecoded (operation.BranchZero GreaterOrEqual u)
bgez u c small code entry = λ f n r.
    let w : ℕ = one_form (immediates.Branch GreaterOrEqual u) f.rs (n % 65536) in
    let half : n % 65536 < 65536 = omega arith in
    let k : SplitImmediate w f.rs c (n % 65536) 1 = split-one (immediates.Branch GreaterOrEqual u) f.rs (n % 65536) c code small r.0 half in
    one-at (immediates.Branch GreaterOrEqual u) w c k.opcode-is k.rt-is entry ∙ cc

pub branch-and-link : (op : Cond) (u : Untaken) (c : ℕ) → c < 32 → register_immediate_code (immediates.BranchAndLink op u) ≡ c → slice_index_or register_immediate_map c immediates.Reserved ≡ (immediates.BranchAndLink op u) → IsDecoded (operation.BranchZeroAndLink op u)
branch-and-link op u c small code entry = λ f n r.
    let w : ℕ = one_form (immediates.BranchAndLink op u) f.rs (n % 65536) in
    let half : n % 65536 < 65536 = omega arith in
    let k : SplitImmediate w f.rs c (n % 65536) 1 = split-one (immediates.BranchAndLink op u) f.rs (n % 65536) c code small r.0 half in
    one-at (immediates.BranchAndLink op u) w c k.opcode-is k.rt-is entry ∙ cc

pub trap-immediate : (op : Cond) (c : ℕ) → c < 32 → register_immediate_code (immediates.Trap op) ≡ c → slice_index_or register_immediate_map c immediates.Reserved ≡ (immediates.Trap op) → IsDecoded (operation.TrapImmediate op)
trap-immediate op c small code entry = λ f n r.
    let w : ℕ = one_form (immediates.Trap op) f.rs (n % 65536) in
    let half : n % 65536 < 65536 = omega arith in
    let k : SplitImmediate w f.rs c (n % 65536) 1 = split-one (immediates.Trap op) f.rs (n % 65536) c code small r.0 half in
    one-at (immediates.Trap op) w c k.opcode-is k.rt-is entry ∙ cc

pub jump-to : IsDecoded operation.Jump
jump-to = λ f n r.
    let w : ℕ = jump_form primary.Jump (n % 67108864) in
    let small : n % 67108864 < 67108864 = omega arith in
    let opcode-is : opcode w ≡ 2 = omega arith in
    let index-is : jump_index w ≡ n % 67108864 = omega arith in
    primary-at primary.Jump w 2 opcode-is refl ∙ ap instr.Jump index-is

pub jump-and-link : IsDecoded operation.JumpAndLink
jump-and-link = λ f n r.
    let w : ℕ = jump_form primary.JumpAndLink (n % 67108864) in
    let small : n % 67108864 < 67108864 = omega arith in
    let opcode-is : opcode w ≡ 3 = omega arith in
    let index-is : jump_index w ≡ n % 67108864 = omega arith in
    primary-at primary.JumpAndLink w 3 opcode-is refl ∙ ap instr.JumpAndLink index-is

pub move-from-cp0 : IsDecoded operation.MoveFromCp0
move-from-cp0 = λ f n r.
    let w : ℕ = immediate_form primary.Coprocessor0 0 f.rt (f.rd * 2048) in
    let small-rt : f.rt < 32 = r.1 in
    let small-rd : f.rd < 32 = r.2 in
    let opcode-is : opcode w ≡ 16 = omega arith in
    let rs-is : rs w ≡ 0 = omega arith in
    let rt-is : rt w ≡ f.rt = omega arith in
    let rd-is : rd w ≡ f.rd = omega arith in
    let rest : w % 2048 ≡ 0 = omega arith in
    primary-at primary.Coprocessor0 w 16 opcode-is refl
    ∙ rw rs-is (zero-is (w % 2048) w (instr.MoveFromCp0 (rt w) (rd w)) (instr.MoveFromCp0 f.rt f.rd) rest (cc))

pub move-to-cp0 : IsDecoded operation.MoveToCp0
move-to-cp0 = λ f n r.
    let w : ℕ = immediate_form primary.Coprocessor0 4 f.rt (f.rd * 2048) in
    let small-rt : f.rt < 32 = r.1 in
    let small-rd : f.rd < 32 = r.2 in
    let opcode-is : opcode w ≡ 16 = omega arith in
    let rs-is : rs w ≡ 4 = omega arith in
    let rt-is : rt w ≡ f.rt = omega arith in
    let rd-is : rd w ≡ f.rd = omega arith in
    let rest : w % 2048 ≡ 0 = omega arith in
    primary-at primary.Coprocessor0 w 16 opcode-is refl
    ∙ rw rs-is (zero-is (w % 2048) w (instr.MoveToCp0 (rt w) (rd w)) (instr.MoveToCp0 f.rt f.rd) rest (cc))
