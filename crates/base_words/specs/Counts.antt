-- Counts of 64 bits.
use Rattle.std.specs.Prelude.{ℕ, ◌+◌, ◌-◌, ◌^◌, ◌≤◌, min}

-- a count after one more; it stands still at its type's end
abbrev pub counted : ℕ → ℕ
counted count = min (count + 1) (2 ^ 64 - 1)

-- a count went up, or stands at its end
abbrev pub Rose : ℕ → ℕ → Type 0
Rose before now = counted before ≤ now
