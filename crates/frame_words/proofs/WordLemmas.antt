-- A count and a generation in one word.
use Rattle.std.proofs.Common.{◌≡◌, ℕ, ◌+◌, ◌-◌, ◌*◌, ◌%◌, ◌<◌, arith}
use Rattle.frame_words.specs.FrameWords.{count, generation}

-- one hold more
pub count-more : (n : ℕ) → count n < 4294967295 → count (n + 1) ≡ count n + 1
count-more n room = omega arith

pub generation-more : (n : ℕ) → count n < 4294967295 → generation (n + 1) ≡ generation n
generation-more n room = omega arith

-- the next generation, with one hold
pub count-next : (n : ℕ) → count n ≡ 0 → count (n + 4294967297) ≡ 1
count-next n unheld = omega arith

pub generation-next : (n : ℕ) → count n ≡ 0 → generation (n + 4294967297) ≡ generation n + 1
generation-next n unheld = omega arith

-- one hold less, as a subtraction modulo 2 ^ 64 makes it
pub less : (n : ℕ) → 0 < count n → n < 18446744073709551616 → (n + 18446744073709551615) % 18446744073709551616 ≡ n - 1
less n some fits = omega arith

pub count-less : (n : ℕ) → 0 < count n → count (n - 1) + 1 ≡ count n
count-less n some = omega arith

pub generation-less : (n : ℕ) → 0 < count n → generation (n - 1) ≡ generation n
generation-less n some = omega arith

-- a number of loans is its own count, under generation 0
pub count-small : (n : ℕ) → n < 4294967296 → count n ≡ n
count-small n small = omega arith

pub generation-small : (n : ℕ) → count n ≡ n → generation n ≡ 0
generation-small n own = omega arith

pub count-at : (g : ℕ) → count (g * 4294967296) ≡ 0
count-at g = omega arith

pub generation-at : (g : ℕ) → generation (g * 4294967296) ≡ g
generation-at g = omega arith
