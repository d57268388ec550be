-- Lists by their places, and results.
use Rattle.std.proofs.Common.{◌≡◌, ℕ, zero, suc, ◌<◌, List, [], ◌∷◌, map, length, All, refl, ap, subst, arith, Some, Result, Ok, Err, IfOk}
use Rattle.std.specs.Prelude.{slice_get, slice_index_or}
use Rattle.std.specs.declared.alloc.AllocError.{AllocError}
use Rattle.shootdown.specs.Making.{numbered}

pub get-index : {A : Type 0} (xs : List A) (i : ℕ) (x d : A) → slice_get xs i ≡ Some x → (i < length xs) × (slice_index_or xs i d ≡ x)
get-index [] i x d e = absurd cc
get-index (y ∷ ys) zero x d e = (omega arith, cc)
get-index (y ∷ ys) (suc i) x d e = let r = get-index ys i x d e in (omega (arith, r.0), r.1)

pub all-get : {A : Type 0} (P : A → Type 0) (xs : List A) (i : ℕ) (x : A) → All P xs → slice_get xs i ≡ Some x → P x
all-get P xs i x all e = let at = get-index xs i x x e in subst P at.1 (all i x at.0)

pub get-there : {A : Type 0} (xs : List A) (i : ℕ) → i < length xs → (x : A) × (slice_get xs i ≡ Some x)
get-there [] i l = absurd (let m : i < 0 = l in omega arith)
get-there (x ∷ xs) zero l = (x, refl)
get-there (x ∷ xs) (suc i) l = get-there xs i (omega arith)

pub map-get : {A B : Type 0} (f : A → B) (xs : List A) (i : ℕ) (x : A) → slice_get xs i ≡ Some x → slice_get (map f xs) i ≡ Some (f x)
map-get f [] i x e = absurd cc
map-get f (y ∷ ys) zero x e = let same : y ≡ x = cc in ap (λ z. Some (f z)) same
map-get f (y ∷ ys) (suc i) x e = map-get f ys i x e

pub numbered-length : {A : Type 0} (f : ℕ → A) (k n : ℕ) → length (numbered f k n) ≡ n
numbered-length f k zero = refl
numbered-length f k (suc n) = ap suc (numbered-length f (suc k) n)

pub on-ok : {A : Type 0} (P Q : A → Type 0) (r : Result A AllocError) → ((x : A) → P x → Q x) → IfOk r P → IfOk r Q
on-ok P Q (Ok x) then holds = then x holds
on-ok P Q (Err e) then holds = tt
