-- A word is the sum of its fields.
use Rattle.std.proofs.Common.{◌≡◌, ℕ, ◌+◌, ◌*◌, ◌<◌, arith}
use Rattle.base_words.specs.Fields.{opcode, function, rs, rt, rd, sa, immediate, jump_index, system_code, trap_code}

pub opcode-range : (w : ℕ) → w < 4294967296 → opcode w < 64
opcode-range w fits = omega arith

pub function-range : (w : ℕ) → function w < 64
function-range w = omega arith

pub rt-range : (w : ℕ) → rt w < 32
rt-range w = omega arith

pub jump-sum : (w : ℕ) → opcode w * 67108864 + jump_index w ≡ w
jump-sum w = omega arith

pub immediate-sum : (w : ℕ) → opcode w * 67108864 + rs w * 2097152 + rt w * 65536 + immediate w ≡ w
immediate-sum w = omega arith

pub register-sum : (w : ℕ) → opcode w * 67108864 + rs w * 2097152 + rt w * 65536 + rd w * 2048 + sa w * 64 + function w ≡ w
register-sum w = omega arith

pub code-sum : (w : ℕ) → opcode w * 67108864 + system_code w * 64 + function w ≡ w
code-sum w = omega arith

pub trap-sum : (w : ℕ) → opcode w * 67108864 + rs w * 2097152 + rt w * 65536 + trap_code w * 64 + function w ≡ w
trap-sum w = omega arith
