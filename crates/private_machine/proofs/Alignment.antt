-- Offsets that are multiples, within a page and as a whole.
use Rattle.std.proofs.Common.{◌≡◌, ℕ, ◌%◌, Result, Ok, Err, IfOk, ap, ◌∙◌, arith}
use Rattle.std.proofs.lemmas.Nat.Gcd.{dvd_of_mod-eq-zero}
use Rattle.std.proofs.Math.Nat.{mod-mod_of_dvd}
use Rattle.base_words.specs.declared.place.Place.{Place}
use Rattle.base_words.specs.declared.place.Place.TheVariants.{Memory, Device}
use Rattle.base_words.specs.declared.exception.Exception.{Exception}
use Rattle.private_machine.specs.Translation.{IsAt, IsAligned}

-- what divides a word divides a number as it divides its place in a word
word_rest : (unit a b : ℕ) → 4 % unit ≡ 0 → b % unit ≡ 0 → a % 4 ≡ b % 4 → a % 4 % unit ≡ 0
word_rest unit a b divides aligned same = ap (λ n. n % unit) same ∙ mod-mod_of_dvd unit b (dvd_of_mod-eq-zero unit divides) ∙ aligned

place_aligned : (unit a : ℕ) (p : Place) → 4 % unit ≡ 0 → a % unit ≡ 0 → IsAt (a % 4096) p → IsAligned unit p
place_aligned unit a (Memory offset) divides aligned at = word_rest unit offset a divides aligned (omega (arith, at))
place_aligned unit a (Device offset) divides aligned at = word_rest unit offset a divides aligned (omega (arith, at))

-- a place in a page as an aligned address has it is aligned
pub IsAligned-at : (unit a : ℕ) (r : Result Place Exception) → 4 % unit ≡ 0 → a % unit ≡ 0 → IfOk r (IsAt (a % 4096)) → IfOk r (IsAligned unit)
IsAligned-at unit a (Ok p) divides aligned at = place_aligned unit a p divides aligned at
IsAligned-at unit a (Err x) divides aligned at = tt
