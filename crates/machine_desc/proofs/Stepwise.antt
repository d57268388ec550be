-- What is read one after the other.
use Rattle.std.proofs.Common.{◌≡◌, ℕ, zero, suc, ◌+◌, ◌<◌, ◌≤◌, List, [], ◌∷◌, length, get_or, Bool, true, false, ◌&&◌, ◌||◌, nat_le, if◌then◌else◌, Ok, Err, refl, ap, ◌∙◌, subst, arith}
use Rattle.std.specs.Prelude.{All}
use Rattle.std.proofs.lemmas.List.Elements.{All-nil, All-cons, All-same}
use Rattle.std.proofs.lemmas.Bool.Decides.{nat_tests}
use Rattle.machine_desc.specs.declared.fault.DescFault.{DescFault}
use Rattle.machine_desc.specs.Reads.{Read, ◌>>=◌, each}

-- a value that is read, and then what is read from it
pub bound : {A B : Type 0} (first : Read A) (next : A → Read B) (y : B) → (first >>= next) ≡ Ok y → (x : A) × (first ≡ Ok x) × (next x ≡ Ok y)
bound (Ok x) next y is = (x, refl, is)
bound (Err fault) next y is = absurd (cc)

pub same_value : {A : Type 0} (x y : A) → (let r : Read A = Ok x in r ≡ Ok y) → x ≡ y
same_value x y is = cc

-- what follows from a value that is read, and what is read from it
pub reading : {A B : Type 0} {P : Type 0} (first : Read A) (next : A → Read B) (y : B) → (first >>= next) ≡ Ok y → ((x : A) → first ≡ Ok x → next x ≡ Ok y → P) → P
reading (Ok x) next y is gives = gives x refl is
reading (Err fault) next y is gives = absurd (cc)

-- the items of a list that are each read are as many
pub length-each : {A B : Type 0} (f : ℕ → A → Read B) (i : ℕ) (xs : List A) (ys : List B) → each f i xs ≡ Ok ys → length ys ≡ length xs
length-each f i [] ys is = let e : ys ≡ [] = cc in ap length e
length-each f i (x ∷ xs) ys is =
    let one = bound (f i x) (λ y. each f (suc i) xs >>= λ zs. Ok (y ∷ zs)) ys is in
    let rest = bound (each f (suc i) xs) (λ zs. Ok (one.0 ∷ zs)) ys one.2 in
    let e : ys ≡ one.0 ∷ rest.0 = let s = rest.2 in cc in
    ap length e ∙ ap suc (length-each f (suc i) xs rest.0 rest.1)

-- how one of them is read
pub each-at : {A B : Type 0} (f : ℕ → A → Read B) (i k n : ℕ) (xs : List A) (ys : List B) (d : A) (e : B) → each f i xs ≡ Ok ys → k < length xs → i + k ≡ n → f n (get_or xs k d) ≡ Ok (get_or ys k e)
each-at f i k n [] ys d e is lt at = absurd (omega arith)
each-at {B = B} f i zero n (x ∷ xs) ys d e is lt at =
    reading (f i x) (λ y. each f (suc i) xs >>= λ zs. Ok (y ∷ zs)) ys is λ y here is.
    reading (each f (suc i) xs) (λ zs. Ok (y ∷ zs)) ys is λ zs rest is.
    let all : y ∷ zs ≡ ys = same_value (y ∷ zs) ys is in
    subst (λ (j : ℕ). f j x ≡ Ok (get_or ys 0 e)) (omega arith) (here ∙ ap (λ (l : List B). Ok (get_or l 0 e)) all)
each-at {B = B} f i (suc k) n (x ∷ xs) ys d e is lt at =
    reading (f i x) (λ y. each f (suc i) xs >>= λ zs. Ok (y ∷ zs)) ys is λ y here is.
    reading (each f (suc i) xs) (λ zs. Ok (y ∷ zs)) ys is λ zs rest is.
    let all : y ∷ zs ≡ ys = same_value (y ∷ zs) ys is in
    each-at f (suc i) k n xs zs d e rest (omega arith) (omega arith) ∙ ap (λ (l : List B). Ok (get_or l (suc k) e)) all

-- what holds of each that is read holds of all
pub each-all : {A B : Type 0} (P : B → Type 0) (f : ℕ → A → Read B) → ((i : ℕ) (x : A) (y : B) → f i x ≡ Ok y → P y) → (i : ℕ) (xs : List A) (ys : List B) → each f i xs ≡ Ok ys → All P ys
each-all P f holds i [] ys is = let e : ys ≡ [] = cc in All-same P ys [] e (All-nil P)
each-all P f holds i (x ∷ xs) ys is =
    let one = bound (f i x) (λ y. each f (suc i) xs >>= λ zs. Ok (y ∷ zs)) ys is in
    let rest = bound (each f (suc i) xs) (λ zs. Ok (one.0 ∷ zs)) ys one.2 in
    let e : ys ≡ one.0 ∷ rest.0 = let s = rest.2 in cc in
    All-same P ys (one.0 ∷ rest.0) e (All-cons P one.0 rest.0 (holds i x one.0 one.1) (each-all P f holds (suc i) xs rest.0 rest.1))

-- a value that is given where a test holds
pub tested : {A : Type 0} (b : Bool) (x y : A) (fault : DescFault) → (let r : Read A = if b then Ok x else Err fault in r ≡ Ok y) → (b ≡ true) × (x ≡ y)
tested true x y fault is = (refl, cc)
tested false x y fault is = absurd (cc)

-- a check that refuses where a test holds
pub refuted : (b : Bool) (fault : DescFault) → (let r : Read (Unit {0}) = if b then Err fault else Ok tt in r ≡ Ok tt) → b ≡ false
refuted true fault is = absurd (cc)
refuted false fault is = refl

-- two tests
pub two_tests : (a b : Bool) → (a && b) ≡ true → (a ≡ true) × (b ≡ true)
two_tests true b is = (refl, is)
two_tests false b is = absurd (cc)

pub within : (low n high : ℕ) → (nat_le low n && nat_le n high) ≡ true → (low ≤ n) × (n ≤ high)
within low n high is =
    let both = two_tests (nat_le low n) (nat_le n high) is in
    (grind (arith, nat_tests, both.0), grind (arith, nat_tests, both.1))

-- two tests, neither of which holds
pub neither : (a b : Bool) → (a || b) ≡ false → (a ≡ false) × (b ≡ false)
neither true b is = absurd (cc)
neither false b is = (refl, is)
