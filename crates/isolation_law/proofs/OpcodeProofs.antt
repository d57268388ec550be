-- A word that isn't of coprocessor 0 asks for memory, or for nothing.
use Rattle.std.proofs.Common.{◌≡◌, ℕ, zero, suc, Bool, true, false, not, ◌&&◌, Ok, List, [], ◌∷◌, get_or, refl, sym, ap, ◌∙◌, arith, true≢false}
use Rattle.std.proofs.lemmas.Bool.{and_parts, eq-eqb}
use Rattle.base_words.specs.declared.regs.Regs.{Regs}
use Rattle.base_words.specs.declared.instr.Primary.{Primary}
use Rattle.base_words.specs.declared.instr.Primary.TheVariants as primary
use Rattle.base_words.specs.declared.instr.Special.{Special}
use Rattle.base_words.specs.declared.instr.RegisterImmediate.{RegisterImmediate}
use Rattle.base_words.specs.declared.instr.Special.TheVariants as special
use Rattle.base_words.specs.declared.instr.RegisterImmediate.TheVariants as immediates
use Rattle.base_words.specs.declared.instr.Instr.{Instr}
use Rattle.base_words.specs.declared.instr.Instr.TheVariants.{MoveFromCp0, MoveToCp0, Cp0}
use Rattle.base_words.specs.Fields.{opcode, function, rt}
use Rattle.base_words.specs.OpcodeMap.{primary_map, special_map, register_immediate_map, special_instruction, register_immediate_instruction, instruction_at, decoded}
use Rattle.base_words.specs.Instruction.{Effect, effect}
use Rattle.private_machine.specs.OwnStep.{is_privileged}
use Rattle.isolation_law.proofs.PageProofs.{OfMemory}

abbrev is_cp0 : Primary → Bool
is_cp0 primary.Special = false
is_cp0 primary.RegisterImmediate = false
is_cp0 primary.Jump = false
is_cp0 primary.JumpAndLink = false
is_cp0 (primary.Branch cond untaken) = false
is_cp0 (primary.BranchZero cond untaken) = false
is_cp0 (primary.AluImmediate op) = false
is_cp0 primary.LoadUpper = false
is_cp0 primary.Coprocessor0 = true
is_cp0 (primary.Coprocessor unit) = false
is_cp0 (primary.Load kind) = false
is_cp0 (primary.Store kind) = false
is_cp0 primary.LoadLinked = false
is_cp0 primary.StoreConditional = false
is_cp0 primary.Reserved = false

-- none, and none but at a place
abbrev none_cp0 : List Primary → Bool
none_cp0 [] = true
none_cp0 (x ∷ xs) = not (is_cp0 x) && none_cp0 xs

abbrev only_at : List Primary → ℕ → Bool
only_at [] i = true
only_at (x ∷ xs) zero = none_cp0 xs
only_at (x ∷ xs) (suc i) = not (is_cp0 x) && only_at xs i

none-nowhere : (xs : List Primary) (n : ℕ) → none_cp0 xs ≡ true → get_or xs n primary.Reserved ≡ primary.Coprocessor0 → ⊥
none-nowhere [] n none e = cc
none-nowhere (x ∷ xs) zero none e = true≢false (sym (and_parts (not (is_cp0 x)) (none_cp0 xs) none).0 ∙ ap (λ (y : Primary). not (is_cp0 y)) e)
none-nowhere (x ∷ xs) (suc n) none e = none-nowhere xs n (and_parts (not (is_cp0 x)) (none_cp0 xs) none).1 e

only-there : (xs : List Primary) (i n : ℕ) → only_at xs i ≡ true → get_or xs n primary.Reserved ≡ primary.Coprocessor0 → n ≡ i
only-there [] i n only e = cc
only-there (x ∷ xs) zero zero only e = refl
only-there (x ∷ xs) zero (suc n) only e = absurd (none-nowhere xs n only e)
only-there (x ∷ xs) (suc i) zero only e = absurd (true≢false (sym (and_parts (not (is_cp0 x)) (only_at xs i) only).0 ∙ ap (λ (y : Primary). not (is_cp0 y)) e))
only-there (x ∷ xs) (suc i) (suc n) only e = ap suc (only-there xs i n (and_parts (not (is_cp0 x)) (only_at xs i) only).1 e)

abbrev Safe : Instr → Type 0
Safe (MoveFromCp0 a b) = ⊥
Safe (MoveToCp0 a b) = ⊥
Safe (Cp0 op) = ⊥
Safe i = Unit {0}

effect-safe : (i : Instr) (regs : Regs) (does : Effect) → Safe i → effect i regs ≡ Ok does → OfMemory does.request
effect-safe i regs does safe e = grind arith

special-safe : (x : Special) (w : ℕ) → Safe (special_instruction x w)
special-safe x w = grind arith

immediate-safe : (x : RegisterImmediate) (w : ℕ) → Safe (register_immediate_instruction x w)
immediate-safe x w = grind arith

primary-safe : (x : Primary) (w : ℕ) → (x ≡ primary.Coprocessor0 → ⊥) → Safe (instruction_at x w)
primary-safe primary.Special w other = special-safe (get_or special_map (function w) special.Reserved) w
primary-safe primary.RegisterImmediate w other = immediate-safe (get_or register_immediate_map (rt w) immediates.Reserved) w
primary-safe primary.Jump w other = tt
primary-safe primary.JumpAndLink w other = tt
primary-safe (primary.Branch cond untaken) w other = tt
primary-safe (primary.BranchZero cond untaken) w other = grind arith
primary-safe (primary.AluImmediate op) w other = tt
primary-safe primary.LoadUpper w other = grind arith
primary-safe primary.Coprocessor0 w other = absurd (other refl)
primary-safe (primary.Coprocessor unit) w other = tt
primary-safe (primary.Load kind) w other = tt
primary-safe (primary.Store kind) w other = tt
primary-safe primary.LoadLinked w other = tt
primary-safe primary.StoreConditional w other = tt
primary-safe primary.Reserved w other = tt

pub unprivileged : (w : ℕ) (regs : Regs) (does : Effect) → is_privileged w ≡ false → effect (decoded w) regs ≡ Ok does → OfMemory does.request
unprivileged w regs does no_one e =
    effect-safe (decoded w) regs does
    (primary-safe (get_or primary_map (opcode w) primary.Reserved) w (λ is. true≢false (sym (eq-eqb (opcode w) 16 (only-there primary_map 16 (opcode w) refl is)) ∙ no_one)))
    e
