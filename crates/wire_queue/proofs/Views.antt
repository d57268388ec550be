-- What holds of each pass, after one pass's view changes and after a pass is new.
use Rattle.std.proofs.Common.{◌≡◌, ◌≢◌, ℕ, zero, suc, ◌⊎◌, List, [], ◌∷◌, ◌++◌, length, set, refl, sym, ap, subst, inl, inr, ⊎_elim}
use mathlib.Core.Option.{some, some-injective, some-ne-none}
use lib.ListN.{get_elem?}
use Rattle.crossbeam_queue.proofs.Lists.{at_set}
use Rattle.wire_queue.specs.Logs.{Logged}

abbrev pub Each : (ℕ → Logged → Type 0) → List Logged → Type 0
Each F views = (pass : ℕ) (v : Logged) → get_elem? views pass ≡ some v → F pass v

pub each_one : (F : ℕ → Logged → Type 0) (w : Logged) → F 0 w → Each F (w ∷ [])
each_one F w here zero v at = subst (λ (u : Logged). F 0 u) (some-injective w v at) here
each_one F w here (suc pass) v at = absurd (some-ne-none v (sym at))

pub each_set : (F : ℕ → Logged → Type 0) (views : List Logged) (pass : ℕ) (w : Logged) → F pass w → ((j : ℕ) (u : Logged) → j ≢ pass → get_elem? views j ≡ some u → F j u) → Each F (set views pass w)
each_set F views pass w here others j u at =
    ⊎_elim (λ (x : (j ≡ pass) × (w ≡ u)). subst (λ (y : ℕ × Logged). F y.0 y.1) (λ i. (sym x.0 i, x.1 i)) here)
    (λ (x : (j ≢ pass) × (get_elem? views j ≡ some u)). others j u x.0 x.1) (at_set views pass j w u at)

at_push : (views : List Logged) (w u : Logged) (j : ℕ) → get_elem? (views ++ w ∷ []) j ≡ some u → (get_elem? views j ≡ some u) ⊎ ((j ≡ length views) × (w ≡ u))
at_push [] w u zero at = inr (refl, some-injective w u at)
at_push [] w u (suc j) at = absurd (some-ne-none u (sym at))
at_push (x ∷ xs) w u zero at = inl at
at_push (x ∷ xs) w u (suc j) at = ⊎_elim (λ (x : get_elem? xs j ≡ some u). inl x) (λ (x : (j ≡ length xs) × (w ≡ u)). inr (ap suc x.0, x.1)) (at_push xs w u j at)

pub each_push : (F : ℕ → Logged → Type 0) (views : List Logged) (w : Logged) → F (length views) w → Each F views → Each F (views ++ w ∷ [])
each_push F views w here others j u at =
    ⊎_elim (λ (x : get_elem? views j ≡ some u). others j u x) (λ (x : (j ≡ length views) × (w ≡ u)). subst (λ (y : ℕ × Logged). F y.0 y.1) (λ i. (sym x.0 i, x.1 i)) here)
    (at_push views w u j at)
