-- One turn of the loop that sets the lines of a call.
use Rattle.std.proofs.Common.{◌≡◌, ℕ, zero, suc, ◌+◌, ◌/◌, ◌<◌, List, [], ◌∷◌, ◌++◌, Bool, false, ◌||◌, length, take, drop, set, get_or, ap, arith}
use Rattle.base_words.specs.Bits.{flag}
use Rattle.guest_devs.specs.DeviceCalls.{called_by}

next_line : (lines : List Bool) (k bits : ℕ) (x : Bool) → k < length lines → x ≡ (flag 0 bits || get_or lines k false)
    → take (suc k) (set lines k x) ++ called_by (bits / 2) (drop (suc k) (set lines k x)) ≡ take k lines ++ called_by bits (drop k lines)
next_line [] k bits x there is = absurd (omega arith)
next_line (y ∷ ys) zero bits x there is = ap (λ z. z ∷ called_by (bits / 2) ys) is
next_line (y ∷ ys) (suc k) bits x there is = ap (λ zs. y ∷ zs) (next_line ys k bits x (omega arith) is)

pub called_by-next : (lines : List Bool) (k bits : ℕ) (x : Bool) → k < length lines → x ≡ (flag 0 bits || get_or lines k false)
    → take (k + 1) (set lines k x) ++ called_by (bits / 2) (drop (k + 1) (set lines k x)) ≡ take k lines ++ called_by bits (drop k lines)
called_by-next lines k bits x there is = let one : k + 1 ≡ suc k = omega arith in rw one (next_line lines k bits x there is)
