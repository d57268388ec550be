-- Steps between two comings of the timer.
use Rattle.std.proofs.Common.{◌≡◌, ◌≢◌, ℕ, zero, suc, ◌<◌, ◌-◌, if◌then◌else◌, true, false, refl, sym, ap, ◌∙◌, ne_eqb, arith}
use Rattle.base_words.specs.declared.coprocessor.Cp0Registers.{Cp0Registers}
use Rattle.base_words.specs.declared.coprocessor.Cause.{Cause as CauseFields}
use Rattle.base_words.specs.declared.coprocessor.Status.{Status as StatusFields}
use Rattle.base_words.specs.Fields.{sum}
use Rattle.base_words.specs.Coprocessor.{ticked, with_timer, interrupts}
use Rattle.mips_cp0.specs.Behind.{random_after, later, Meets}
use Rattle.mips_cp0.specs.Quiet.{ticked_often, IsQuiet}

-- before the timer comes a step changes Random and Count alone
not-yet : (count compare left ticks : ℕ) → Meets count compare left → suc ticks < left → sum (sum count ticks) 1 ≢ compare
not-yet count compare left ticks meets before e =
    let at = meets.at in
    let few = meets.few in
    omega arith

sum-one : (count ticks : ℕ) → sum (sum count ticks) 1 ≡ sum count (suc ticks)
sum-one count ticks = omega arith

pub tick-before : (c : Cp0Registers) (left ticks : ℕ) → Meets c.count c.compare left → suc ticks < left → later (suc ticks) c ≡ ticked (later ticks c)
tick-before c left ticks meets before =
    ap (λ n. record c { random = random_after (suc ticks) c.random c.wired; count = n }) (sym (sum-one c.count ticks))
    ∙ ap (λ b. record c { random = random_after (suc ticks) c.random c.wired; count = sum (sum c.count ticks) 1; cause = if b then with_timer true c.cause else c.cause })
    (sym (ne_eqb (sum (sum c.count ticks) 1) c.compare (not-yet c.count c.compare left ticks meets before)))

-- the last step before it
pub at-last : (count compare left ticks : ℕ) → Meets count compare left → suc ticks ≡ left → sum (sum count ticks) 1 ≡ compare
at-last count compare left ticks meets last = sum-one count ticks ∙ ap (sum count) last ∙ meets.at

-- as far as it is away, seen from now
pub meets-later : (count compare left ticks : ℕ) → Meets count compare left → ticks < left → Meets (sum count ticks) compare (left - ticks)
meets-later count compare left ticks meets before =
    let some = meets.some in
    let few = meets.few in
    let at = meets.at in
    record { some = omega arith; few = omega arith; at = (let e : sum (sum count ticks) (left - ticks) ≡ sum count left = omega arith in e) ∙ at }

-- until then no interrupt becomes pending
record Same (c t : Cp0Registers) : Type 0 where
  pub status : t.status ≡ c.status
  pub cause : t.cause ≡ c.cause

still : (k : ℕ) (c : Cp0Registers) (left : ℕ) → Meets c.count c.compare left → k < left → Same c (ticked_often k c)
still zero c left meets before = record { status = refl; cause = refl }
still (suc k) c left meets before =
    let at = meets.at in
    let few = meets.few in
    let other : sum c.count 1 ≢ c.compare = λ e. not-yet c.count c.compare left 0 meets (omega arith) ((let z : sum (sum c.count 0) 1 ≡ sum c.count 1 = omega arith in z) ∙ e) in
    let more = still k (ticked c) (left - 1) (meets-later c.count c.compare left 1 meets (omega arith)) (omega arith) in
    record {
      status = more.status;
      cause = more.cause ∙ ap (λ b. if b then with_timer true c.cause else c.cause) (ne_eqb (sum c.count 1) c.compare other);
    }

pub quiet-before : (c : Cp0Registers) (left : ℕ) → Meets c.count c.compare left → interrupts c ≡ false → IsQuiet left c
quiet-before c left meets none k before =
    let same = still k c left meets before in
    let t = ticked_often k c in
    let as_status : interrupts t ≡ interrupts (record t { status = c.status }) = ap (λ (s : StatusFields). interrupts (record t { status = s })) same.status in
    let as_cause : interrupts (record t { status = c.status }) ≡ interrupts (record t { status = c.status; cause = c.cause }) = ap (λ (e : CauseFields). interrupts (record t { status = c.status; cause = e })) same.cause in
    as_status ∙ as_cause ∙ none
