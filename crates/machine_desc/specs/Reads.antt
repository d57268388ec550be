-- A part of a description is read as its value, or as its first fault.
use Rattle.std.specs.Prelude.{◌≡◌, ◌≢◌, ℕ, suc, List, [], ◌∷◌, Result, Ok, Err}
use Rattle.machine_desc.specs.declared.fault.DescFault.{DescFault}
use Rattle.machine_desc.specs.declared.fault.DescFault.TheVariants.{Memory}

-- a value, or a fault
abbrev pub Read : Type 0 → Type 0
Read A = Result A DescFault

-- one part after the other: the fault of the first comes first
infixl 10 ◌>>=◌
abbrev pub ◌>>=◌ : {A B : Type 0} → Read A → (A → Read B) → Read B
(Ok x) >>= f = f x
(Err fault) >>= f = Err fault

-- the items of a list, each read by its number and itself, from this number on
abbrev pub each : {A B : Type 0} → (ℕ → A → Read B) → ℕ → List A → Read (List B)
each f i [] = Ok []
each f i (x ∷ xs) = f i x >>= λ y. each f (suc i) xs >>= λ ys. Ok (y ∷ ys)

-- the items of a list are each as they have to be, from this number on
abbrev pub all : {A : Type 0} → (ℕ → A → Read (Unit {0})) → ℕ → List A → Read (Unit {0})
all f i [] = Ok tt
all f i (x ∷ xs) = f i x >>= λ _. all f (suc i) xs

-- what a function answered, seen by `view`, is what is read; want of memory answers for nothing
abbrev pub Gives : {X Y : Type 0} → (X → Y) → Read X → Read Y → Type 0
Gives view (Ok x) read = read ≡ Ok (view x)
Gives view (Err fault) read = fault ≢ Memory → read ≡ Err fault

-- the answer is this fault, or want of memory
abbrev pub Tells : DescFault → DescFault → Type 0
Tells fault answer = answer ≢ Memory → answer ≡ fault
