-- How many runs a list has: what one entry more makes of it, and that it is one number.
use Rattle.std.proofs.Common.{◌≡◌, ◌≢◌, ℕ, zero, suc, ◌+◌, ◌-◌, ◌<◌, List, [], ◌∷◌, ◌++◌, replicate, refl, sym, ◌∙◌, subst, inl, inr, arith}
use Rattle.base_words.specs.declared.events.Event.{Event}
use Rattle.event_journal.specs.RunCount.{HasChanges, HasRuns}

-- the last of an entry and those behind it
abbrev pub last_after : Event → List Event → Event
last_after e [] = e
last_after e (f ∷ rest) = last_after f rest

-- a list ends with an entry
abbrev pub EndsWith : Event → List Event → Type 0
EndsWith e [] = ⊥
EndsWith e (f ∷ rest) = last_after f rest ≡ e

last_after-replicate : (d e : Event) (k : ℕ) → last_after d (replicate (suc k) e) ≡ e
last_after-replicate d e zero = refl
last_after-replicate d e (suc k) = last_after-replicate e e k

last_after-append : (d e : Event) (xs : List Event) (k : ℕ) → last_after d (xs ++ replicate (suc k) e) ≡ e
last_after-append d e [] k = last_after-replicate d e k
last_after-append d e (x ∷ xs) k = last_after-append x e xs k

ends_after : (e : Event) (xs : List Event) (k : ℕ) → EndsWith e (xs ++ replicate (suc k) e)
ends_after e [] zero = refl
ends_after e [] (suc k) = last_after-replicate e e k
ends_after e (x ∷ xs) k = last_after-append x e xs k

pub ends_with_run : (e : Event) (xs : List Event) (n : ℕ) → 0 < n → EndsWith e (xs ++ replicate n e)
ends_with_run e xs zero h = absurd (omega arith)
ends_with_run e xs (suc k) h = ends_after e xs k

pub ends_with_last_one : (e : Event) (xs : List Event) → EndsWith e (xs ++ e ∷ [])
ends_with_last_one e xs = ends_after e xs 0

-- a list ends with one entry
pub EndsWith-one : (d e : Event) (xs : List Event) → EndsWith d xs → EndsWith e xs → d ≡ e
EndsWith-one d e [] is other = absurd is
EndsWith-one d e (f ∷ xs) is other = sym is ∙ other

HasChanges-push_same : (e : Event) (es : List Event) (n : ℕ) → HasChanges e es n
    → HasChanges e (es ++ last_after e es ∷ []) n
HasChanges-push_same e [] n h = inl (refl, h)
HasChanges-push_same e (f ∷ es) n (inl h) = inl (h.0, HasChanges-push_same f es n h.1)
HasChanges-push_same e (f ∷ es) n (inr h) = inr (h.0, h.1, HasChanges-push_same f es (n - 1) h.2)

HasChanges-push_other : (e g : Event) (es : List Event) (n : ℕ) → g ≢ last_after e es → HasChanges e es n
    → HasChanges e (es ++ g ∷ []) (n + 1)
HasChanges-push_other e g [] n ne h = inr (ne, omega arith, omega arith)
HasChanges-push_other e g (f ∷ es) n ne (inl h) = inl (h.0, HasChanges-push_other f g es n ne h.1)
HasChanges-push_other e g (f ∷ es) n ne (inr h) =
    let is : n - 1 + 1 ≡ n + 1 - 1 = omega arith in
    let rest = HasChanges-push_other f g es (n - 1) ne h.2 in
    inr (h.0, omega arith, subst (HasChanges f (es ++ g ∷ [])) is rest)

-- the last entry once more
pub HasRuns-push_same : (e : Event) (es : List Event) (n : ℕ) → EndsWith e es → HasRuns es n → HasRuns (es ++ e ∷ []) n
HasRuns-push_same e [] n is h = absurd is
HasRuns-push_same e (f ∷ es) n is h =
    (h.0, subst (λ g. HasChanges f (es ++ g ∷ []) (n - 1)) is (HasChanges-push_same f es (n - 1) h.1))

-- another entry than the last
pub HasRuns-push_other : (d e : Event) (es : List Event) (n : ℕ) → EndsWith d es → e ≢ d → HasRuns es n
    → HasRuns (es ++ e ∷ []) (n + 1)
HasRuns-push_other d e [] n is ne h = absurd is
HasRuns-push_other d e (f ∷ es) n is ne h =
    let other : e ≢ last_after f es = λ same. ne (same ∙ is) in
    let last : n - 1 + 1 ≡ n + 1 - 1 = omega arith in
    (omega arith, subst (HasChanges f (es ++ e ∷ [])) last (HasChanges-push_other f e es (n - 1) other h.1))

HasChanges-one : (e : Event) (es : List Event) (m n : ℕ) → HasChanges e es m → HasChanges e es n → m ≡ n
HasChanges-one e [] m n h k = h ∙ sym k
HasChanges-one e (f ∷ es) m n (inl h) (inl k) = HasChanges-one f es m n h.1 k.1
HasChanges-one e (f ∷ es) m n (inl h) (inr k) = absurd (k.0 h.0)
HasChanges-one e (f ∷ es) m n (inr h) (inl k) = absurd (h.0 k.0)
HasChanges-one e (f ∷ es) m n (inr h) (inr k) =
    let one = HasChanges-one f es (m - 1) (n - 1) h.2 k.2 in omega (arith, h.1, k.1)

-- a list has one number of runs
pub HasRuns-one : (es : List Event) (m n : ℕ) → HasRuns es m → HasRuns es n → m ≡ n
HasRuns-one [] m n h k = h ∙ sym k
HasRuns-one (e ∷ es) m n h k =
    let one = HasChanges-one e es (m - 1) (n - 1) h.1 k.1 in omega (arith, h.0, k.0)
