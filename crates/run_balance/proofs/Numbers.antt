-- Numbers below others, and what was written into a list.
use Rattle.std.proofs.Common.{◌≡◌, ◌≢◌, ◌⊎◌, ℕ, zero, suc, ◌+◌, ◌<◌, ◌≤◌, ◌==◌, Bool, true, false, List, [], ◌∷◌, length, map, set, Option, Some, None, slice_get, slice_index_or, refl, sym, ap, ◌∙◌, subst, arith, inl, inr, ⊎_elim, eq-eqb, eqb-true, true≢false, get_or-set_same, get_or-set_other}
use Rattle.run_balance.specs.Sides.{one_below}

pub past_or : (d n : ℕ) → (d < n) ⊎ (n ≤ d)
past_or d zero = inr (omega arith)
past_or zero (suc n) = inl (omega arith)
past_or (suc d) (suc n) = ⊎_elim (λ (z : d < n). inl (let y : suc d < suc n = omega arith in y)) (λ (z : n ≤ d). inr (let y : suc n ≤ suc d = omega arith in y)) (past_or d n)

pub below_is : (d r : ℕ) → d < r → one_below d r ≡ 1
below_is d zero less = absurd (omega arith)
below_is zero (suc r) less = refl
below_is (suc d) (suc r) less = below_is d r (omega arith)

pub below_not : (d r : ℕ) → r ≤ d → one_below d r ≡ 0
below_not d zero less = refl
below_not zero (suc r) less = absurd (omega arith)
below_not (suc d) (suc r) less = below_not d r (omega arith)

-- one number more makes no difference to others
pub below_other : (d e r s : ℕ) → e ≢ d → r ≡ d + 1 → s ≡ d → one_below e r ≡ one_below e s
below_other d e r s apart more is =
    ⊎_elim (λ (z : e < d). below_is e r (omega arith) ∙ sym (below_is e s (omega arith)))
    (λ (z : d ≤ e). below_not e r (omega arith) ∙ sym (below_not e s (omega arith))) (past_or e d)

-- of all, by one of them and the others
cases : (P : ℕ → Type 0) (k d : ℕ) (b : Bool) → (d == k) ≡ b → P k → ((e : ℕ) → e ≢ k → P e) → P d
cases P k d true is here others = subst P (sym (eqb-true d k is)) here
cases P k d false is here others = others d (λ e. true≢false (sym (eq-eqb d k e) ∙ is))

pub by_one : (P : ℕ → Type 0) (k : ℕ) → P k → ((e : ℕ) → e ≢ k → P e) → (d : ℕ) → P d
by_one P k here others d = cases P k d (d == k) refl here others

-- ---- places of a list

pub set_here : {A : Type 0} → (old new : List A) (k : ℕ) (a d : A) → new ≡ set old k a → k < length old → slice_index_or new k d ≡ a
set_here old new k a d e less = ap (λ l. slice_index_or l k d) e ∙ get_or-set_same old k a d less

pub set_else : {A : Type 0} → (old new : List A) (k j : ℕ) (a d : A) → new ≡ set old k a → j ≢ k → slice_index_or new j d ≡ slice_index_or old j d
set_else old new k j a d e apart = ap (λ l. slice_index_or l j d) e ∙ get_or-set_other old k j a d apart

pub any_default : {A : Type 0} → (xs : List A) (i : ℕ) (d e : A) → i < length xs → slice_index_or xs i d ≡ slice_index_or xs i e
any_default [] i d e less = absurd (omega arith)
any_default (x ∷ xs) zero d e less = refl
any_default (x ∷ xs) (suc i) d e less = any_default xs i d e (omega arith)

pub map_there : {A B : Type 0} → (f : A → B) (xs : List A) (i : ℕ) (x : A) → i < length xs → x ≡ slice_index_or xs i x → slice_get (map f xs) i ≡ Some (f x)
map_there f [] i x less e = absurd (omega arith)
map_there f (y ∷ ys) zero x less e = ap (λ z. Some (f z)) (sym e)
map_there f (y ∷ ys) (suc i) x less e = map_there f ys i x (omega arith) e

-- what stands at a place that is there
pub some_there : {A : Type 0} → (xs : List A) (i : ℕ) → i < length xs → (x : A) × (slice_get xs i ≡ Some x)
some_there [] i less = absurd (omega arith)
some_there (x ∷ xs) zero less = (x, refl)
some_there (x ∷ xs) (suc i) less = some_there xs i (omega arith)

abbrev or_this : {A : Type 0} → A → Option A → A
or_this d None = d
or_this d (Some x) = x

pub one_there : {A : Type 0} → (xs : List A) (i : ℕ) (x y : A) → slice_get xs i ≡ Some x → slice_get xs i ≡ Some y → y ≡ x
one_there xs i x y at at' = ap (λ o. or_this x o) (sym at' ∙ at)

pub none_there : {A : Type 0} → (i : ℕ) (x : A) → slice_get {X = A} [] i ≡ Some x → ⊥
none_there i x at = cc

-- what stands in a list of which one place was written
pub get_set : {A : Type 0} → (l : List A) (i : ℕ) (a : A) (j : ℕ) (q : A) → slice_get (set l i a) j ≡ Some q → ((j ≡ i) × (a ≡ q)) ⊎ ((j ≢ i) × (slice_get l j ≡ Some q))
get_set {A} [] i a j q at = absurd (none_there {A = A} j q at)
get_set (x ∷ l) zero a zero q at = inl (refl, ap (λ o. or_this a o) at)
get_set (x ∷ l) zero a (suc j) q at = inr ((λ e. absurd (omega arith)), at)
get_set (x ∷ l) (suc i) a zero q at = inr ((λ e. absurd (omega arith)), at)
get_set (x ∷ l) (suc i) a (suc j) q at =
    ⊎_elim (λ (s : (j ≡ i) × (a ≡ q)). inl (ap suc s.0, s.1)) (λ (s : (j ≢ i) × (slice_get l j ≡ Some q)). inr ((λ (e : suc j ≡ suc i). s.0 (let z : j ≡ i = omega arith in z)), s.1)) (get_set l i a j q at)

pub below_next : (e n : ℕ) → e < n + 1 → (e < n) ⊎ (e ≡ n)
below_next e n less = ⊎_elim (λ (z : e < n). inl z) (λ (z : n ≤ e). inr (let y : e ≡ n = omega arith in y)) (past_or e n)
