-- In closed form.
use Rattle.std.proofs.Common.{rules, ◌≡◌, ◌≤◌, ◌<◌, ◌+◌, ◌-◌, ◌%◌, ℕ, suc, ap, sym, ◌∙◌, subst, arith}
use Rattle.mips_cp0.specs.Behind.{random_after}
use Rattle.mips_cp0.proofs.RandomLemmas.{random-down, random-kept, random-turns}
use Rattle.mips_cp0.proofs.coprocessor.random_after.Goals as goal

pub returns-then-steps-down : goal.returns-then-steps-down
returns-then-steps-down c =
    let random = c.args.random in
    let wired = c.args.wired in
    let down : c.from-down.result ≡ random - wired = search rules in
    let is : c.new.result ≡ random - c.args.steps = search rules in
    is ∙ sym (random-down c.args.steps random wired (subst (λ (n : ℕ). c.args.steps ≤ n) down c.if-steps-down.true))

pub returns-then-value-ge-LAST_ENTRY : goal.returns-then-value-ge-LAST_ENTRY
returns-then-value-ge-LAST_ENTRY c =
    let random = c.args.random in
    let wired = c.args.wired in
    let down : c.from-down.result ≡ random - wired = search rules in
    let past : random - wired < c.args.steps = subst (λ (n : ℕ). n < c.args.steps) down c.if-steps-down.false in
    let high : 47 ≤ wired = subst (λ (n : ℕ). 47 ≤ n) c.value-3.ensures.value c.if-value-ge-LAST_ENTRY.true in
    let kept = random-kept (c.args.steps - (random - wired) - 1) random wired high in
    c.new-then-value-ge-LAST_ENTRY.ensures ∙ sym (subst (λ (n : ℕ). random_after n random wired ≡ 47) (let e : c.args.steps - (random - wired) - 1 + suc (random - wired) ≡ c.args.steps = omega arith in e) kept)

pub returns : goal.returns
returns c =
    let random = c.args.random in
    let wired = c.args.wired in
    let down : c.from-down.result ≡ random - wired = search rules in
    let past : random - wired < c.args.steps = subst (λ (n : ℕ). n < c.args.steps) down c.if-steps-down.false in
    let low : wired < 47 = subst (λ (n : ℕ). n < 47) c.value-3.ensures.value c.if-value-ge-LAST_ENTRY.false in
    let turn : c.from-turn.result ≡ 48 - wired = c.from-turn.ensures ∙ ap (λ (n : ℕ). 48 - n) c.value-4.ensures.value in
    let turns = random-turns (c.args.steps - (random - wired) - 1) random wired low in
    c.new-2.ensures
    ∙ ap (λ (n : ℕ). 47 - (c.args.steps - n - 1) % c.from-turn.result) down
    ∙ ap (λ (n : ℕ). 47 - (c.args.steps - (random - wired) - 1) % n) turn
    ∙ sym (subst (λ (n : ℕ). random_after n random wired ≡ 47 - (c.args.steps - (random - wired) - 1) % (48 - wired)) (let e : c.args.steps - (random - wired) - 1 + suc (random - wired) ≡ c.args.steps = omega arith in e) turns)
