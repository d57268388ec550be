-- Random after so many steps, in closed form.
use Rattle.std.proofs.Common.{◌≡◌, ℕ, zero, suc, ◌<◌, ◌≤◌, ◌+◌, ◌-◌, ◌*◌, ◌/◌, ◌%◌, sym, ap, ◌∙◌, subst, ◌⊎◌, inl, inr, eq-or-lt_of_le, mod-lt, mod-eq_of_lt, div-add-mod', arith}
use Rattle.std.proofs.lemmas.Nat.{mod-mul-add}
use Rattle.base_words.specs.Coprocessor.{next_random}
use Rattle.mips_cp0.specs.Behind.{random_after}

-- above Wired it counts down
down : (random wired : ℕ) → wired < random → next_random random wired ≡ random - 1
down random wired above = grind arith

-- at Wired, or below, it begins again
again : (random wired : ℕ) → random ≤ wired → next_random random wired ≡ 47
again random wired low = grind arith

pub random-down : (steps random wired : ℕ) → steps ≤ random - wired → random_after steps random wired ≡ random - steps
random-down zero random wired few = let e : random ≡ random - 0 = omega arith in e
random-down (suc steps) random wired few =
    ap (λ r. next_random r wired) (random-down steps random wired (omega arith))
    ∙ down (random - steps) wired (omega arith)
    ∙ (let e : random - steps - 1 ≡ random - suc steps = omega arith in e)

-- the step after it came down to Wired
pub random-turned : (random wired : ℕ) → random_after (suc (random - wired)) random wired ≡ 47
random-turned random wired =
    ap (λ r. next_random r wired) (random-down (random - wired) random wired (omega arith))
    ∙ again (random - (random - wired)) wired (omega arith)

-- after that Wired past 47 keeps it there
pub random-kept : (more random wired : ℕ) → 47 ≤ wired → random_after (more + suc (random - wired)) random wired ≡ 47
random-kept zero random wired high = subst (λ n. random_after n random wired ≡ 47) (let e : suc (random - wired) ≡ zero + suc (random - wired) = omega arith in e) (random-turned random wired)
random-kept (suc more) random wired high =
    subst (λ n. random_after n random wired ≡ 47) (let e : suc (more + suc (random - wired)) ≡ suc more + suc (random - wired) = omega arith in e)
    (ap (λ r. next_random r wired) (random-kept more random wired high) ∙ again 47 wired (omega arith))

-- one more, counted in turns
turn-more : (n turn : ℕ) → 0 < turn → (suc (n % turn) < turn → suc n % turn ≡ suc (n % turn)) × (suc (n % turn) ≡ turn → suc n % turn ≡ 0)
turn-more n turn some =
    let is = div-add-mod' n turn in (
      (λ less. ap (λ m. m % turn) (let e : suc n ≡ n / turn * turn + suc (n % turn) = omega arith in e) ∙ mod-mul-add (n / turn) turn (suc (n % turn)) less),
      (λ last. ap (λ m. m % turn) (let e : suc n ≡ n / turn * turn + suc (n % turn) = omega arith in e) ∙ ap (λ m. (n / turn * turn + m) % turn) last ∙ over (n / turn) turn some),
    )
  where
    over : (q t : ℕ) → 0 < t → (q * t + t) % t ≡ 0
    over q t some = ap (λ m. m % t) (let e : q * t + t ≡ suc q * t + 0 = grind arith in e) ∙ mod-mul-add (suc q) t 0 some

-- else it counts down from 47 to Wired in turns
pub random-turns : (more random wired : ℕ) → wired < 47 → random_after (more + suc (random - wired)) random wired ≡ 47 - more % (48 - wired)
random-turns zero random wired low =
    subst (λ n. random_after n random wired ≡ 47) (let e : suc (random - wired) ≡ zero + suc (random - wired) = omega arith in e) (random-turned random wired)
    ∙ (let e : 47 ≡ 47 - 0 = omega arith in e)
    ∙ ap (λ m. 47 - m) (sym (mod-eq_of_lt (let some : 0 < 48 - wired = omega arith in some)))
random-turns (suc more) random wired low =
    let turn = 48 - wired in
    let some : 0 < 48 - wired = omega arith in
    let within : more % (48 - wired) < 48 - wired = mod-lt more some in
    let before = random-turns more random wired low in
    let next = turn-more more (48 - wired) some in
    subst (λ n. random_after n random wired ≡ 47 - suc more % (48 - wired)) (let e : suc (more + suc (random - wired)) ≡ suc more + suc (random - wired) = omega arith in e)
    (ap (λ r. next_random r wired) before ∙ by (more % (48 - wired)) within next)
  where
    by : (m : ℕ) → m < 48 - wired → (suc m < 48 - wired → suc more % (48 - wired) ≡ suc m) × (suc m ≡ 48 - wired → suc more % (48 - wired) ≡ 0) → next_random (47 - m) wired ≡ 47 - suc more % (48 - wired)
    by m within next = or (eq-or-lt_of_le within)
      where
        or : (suc m ≡ 48 - wired) ⊎ (suc m < 48 - wired) → next_random (47 - m) wired ≡ 47 - suc more % (48 - wired)
        or (inl last) = again (47 - m) wired (omega arith) ∙ (let e : 47 ≡ 47 - 0 = omega arith in e) ∙ ap (λ k. 47 - k) (sym (next.1 last))
        or (inr less) = down (47 - m) wired (omega arith) ∙ (let e : 47 - m - 1 ≡ 47 - suc m = omega arith in e) ∙ ap (λ k. 47 - k) (sym (next.0 less))
