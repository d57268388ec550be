-- Each entry of a map stands at its code, but for those that are free of one.
use Rattle.std.proofs.Common.{◌≡◌, ℕ, zero, suc, ◌+◌, ◌<◌, List, [], ◌∷◌, length, Bool, true, false, ◌||◌, ◌&&◌, ◌==◌, refl, sym, arith, slice_index_or}
use Rattle.std.proofs.lemmas.Bool.{eqb-true}
use Rattle.base_words.specs.declared.instr.Primary.{Primary}
use Rattle.base_words.specs.declared.instr.Primary.TheVariants as primary
use Rattle.base_words.specs.declared.instr.Special.{Special}
use Rattle.base_words.specs.declared.instr.Special.TheVariants as special
use Rattle.base_words.specs.declared.instr.RegisterImmediate.{RegisterImmediate}
use Rattle.base_words.specs.declared.instr.RegisterImmediate.TheVariants as immediates
use Rattle.base_words.specs.OpcodeMap.{primary_map, special_map, register_immediate_map}
use Rattle.mips_isa.specs.PlaceCodes.{primary_code, special_code, register_immediate_code}

-- each entry from this place on is free, or stands at its code
abbrev agree : {A : Type 0} → (A → Bool) → (A → ℕ) → ℕ → List A → Bool
agree free code i [] = true
agree free code i (x ∷ xs) = (free x || (code x == i)) && agree free code (suc i) xs

pub and-left : (a b : Bool) → (a && b) ≡ true → a ≡ true
and-left true b is = refl
and-left false b is = is

pub and-right : (a b : Bool) → (a && b) ≡ true → b ≡ true
and-right true b is = is
and-right false true is = refl
and-right false false is = is

or-right : (a b : Bool) → (a || b) ≡ true → a ≡ false → b ≡ true
or-right true true is not = refl
or-right true false is not = sym not
or-right false b is not = is

-- the entry at a place
entry-at : {A : Type 0} (free : A → Bool) (code : A → ℕ) (i k : ℕ) (xs : List A) (d : A) → agree free code i xs ≡ true → k < length xs → free (slice_index_or xs k d) ≡ false → code (slice_index_or xs k d) ≡ i + k
entry-at free code i zero [] d all lt not = elim lt [ ]
entry-at free code i zero (x ∷ xs) d all lt not =
    let is = eqb-true (code x) i (or-right (free x) (code x == i) (and-left (free x || (code x == i)) (agree free code (suc i) xs) all) not) in omega arith
entry-at free code i (suc k) [] d all lt not = elim lt [ ]
entry-at free code i (suc k) (x ∷ xs) d all lt not =
    let is = entry-at free code (suc i) k xs d (and-right (free x || (code x == i)) (agree free code (suc i) xs) all) (omega arith) not in omega arith

abbrev pub primary_free : Primary → Bool
primary_free (primary.Coprocessor unit) = true
primary_free primary.Reserved = true
primary_free _ = false

abbrev pub special_free : Special → Bool
special_free special.Reserved = true
special_free _ = false

abbrev pub immediate_free : RegisterImmediate → Bool
immediate_free immediates.Reserved = true
immediate_free _ = false

pub primary-at : (k : ℕ) → k < 64 → primary_free (slice_index_or primary_map k primary.Reserved) ≡ false → primary_code (slice_index_or primary_map k primary.Reserved) ≡ k
primary-at k lt not = let at = entry-at primary_free primary_code 0 k primary_map primary.Reserved refl lt not in omega arith

pub special-at : (k : ℕ) → k < 64 → special_free (slice_index_or special_map k special.Reserved) ≡ false → special_code (slice_index_or special_map k special.Reserved) ≡ k
special-at k lt not = let at = entry-at special_free special_code 0 k special_map special.Reserved refl lt not in omega arith

pub immediate-at : (k : ℕ) → k < 32 → immediate_free (slice_index_or register_immediate_map k immediates.Reserved) ≡ false → register_immediate_code (slice_index_or register_immediate_map k immediates.Reserved) ≡ k
immediate-at k lt not = let at = entry-at immediate_free register_immediate_code 0 k register_immediate_map immediates.Reserved refl lt not in omega arith
