-- The bits of a set of pages.
use Rattle.std.proofs.Common.{◌≡◌, ℕ, zero, suc, ◌+◌, ◌*◌, ◌/◌, ◌%◌, ◌<◌, ◌==◌, if◌then◌else◌, false, List, get_or, replicate, inl, inr, sym, ap, ◌∙◌, refl, arith}
use Rattle.std.specs.Int.{bit_at}
use Rattle.std.proofs.lemmas.Bool.{cases_eq, cases_lt}
use Rattle.std.proofs.lemmas.List.{get_or_past}
use Rattle.std.proofs.lemmas.Bool.Decides.{nat_tests}
use Rattle.std.proofs.lemmas.Nat.Bits.{bit_at-zero}
use Rattle.pmap_table.specs.PageSets.{has_page, IsLowestIn, IsFilled}

-- words that are all 0
zeros-at : (n w : ℕ) → get_or {A = ℕ} (replicate n 0) w 0 ≡ 0
zeros-at zero w = refl
zeros-at (suc n) zero = refl
zeros-at (suc n) (suc w) = zeros-at n w

pub none-has : (n q : ℕ) → has_page (replicate n 0) q ≡ false
none-has n q = ap (λ k. k == 1) (ap (λ k. bit_at k (q % 64)) (zeros-at n (q / 64)) ∙ bit_at-zero (q % 64))

pub none-filled : IsFilled (replicate 32 0) 0
none-filled = record {
  many = refl;
  bits = λ w lt. bit_at-zero w ∙ ap (λ n. if n == 0 then 0 else 1) (sym (zeros-at 32 w));
}

-- a bit of a word
bit-of-zero : (q : ℕ) (word : ℕ) → word ≡ 0 → (bit_at word q == 1) ≡ false
bit-of-zero q word is = ap (λ n. n == 1) (ap (λ n. bit_at n q) is ∙ bit_at-zero q)

-- a word that has its bit isn't 0, and one that hasn't is
filled-one : (n : ℕ) → (let k : ℕ = if n == 0 then 0 else 1 in k ≡ 1) → 0 < n
filled-one zero is = absurd (omega arith)
filled-one (suc n) is = omega arith

filled-none : (n : ℕ) → (let k : ℕ = if n == 0 then 0 else 1 in k ≡ 0) → n ≡ 0
filled-none n is = grind (arith, nat_tests)

pub some-word : (words : List ℕ) (filled place : ℕ) → IsFilled words filled → place < 64 → bit_at filled place ≡ 1 → (place < 32) × (0 < get_or words place 0)
some-word words filled place is lt bit =
    let some : 0 < get_or words place 0 = filled-one (get_or words place 0) (sym (is.bits place lt) ∙ bit) in (
      elim (cases_lt place 32) [
        | inl within ↦ within
        | inr past ↦ absurd (omega (arith, get_or_past words place 0 (omega (arith, is.many))))
      ],
      some,
    )

no-word : (words : List ℕ) (filled place : ℕ) → IsFilled words filled → place < 64 → bit_at filled place ≡ 0 → get_or words place 0 ≡ 0
no-word words filled place is lt bit = filled-none (get_or words place 0) (sym (is.bits place lt) ∙ bit)

pub is-lowest : (words : List ℕ) (filled place bit : ℕ) → IsFilled words filled → place < 64 → bit < 64 → bit_at filled place ≡ 1 → ((w : ℕ) → w < place → bit_at filled w ≡ 0)
    → bit_at (get_or words place 0) bit ≡ 1 → ((i : ℕ) → i < bit → bit_at (get_or words place 0) i ≡ 0) → IsLowestIn words (64 * place + bit)
is-lowest words filled place bit is lt within set_word lower set_bit lower_bits =
    let some = some-word words filled place is lt set_word in
    let at : (64 * place + bit) / 64 ≡ place = omega arith in
    let rest : (64 * place + bit) % 64 ≡ bit = omega arith in
    record {
      belongs = ap (λ n. n == 1) (ap (λ k. bit_at (get_or words k 0) ((64 * place + bit) % 64)) at ∙ ap (bit_at (get_or words place 0)) rest ∙ set_bit);
      below = omega (arith, some.0);
      lowest = λ r below.
          elim (cases_eq (r / 64) place) [
            | inl same ↦ ap (λ n. n == 1) (ap (λ k. bit_at (get_or words k 0) (r % 64)) same ∙ lower_bits (r % 64) (omega arith))
            | inr apart ↦ bit-of-zero (r % 64) (get_or words (r / 64) 0) (no-word words filled (r / 64) is (omega arith) (lower (r / 64) (omega arith)))
          ];
    }

-- a set without a bit for a word has no page
pub is-none : (words : List ℕ) → IsFilled words 0 → (q : ℕ) → has_page words q ≡ false
is-none words is q = elim (cases_lt (q / 64) 64) [
  | inl within ↦ bit-of-zero (q % 64) (get_or words (q / 64) 0) (no-word words 0 (q / 64) is within (bit_at-zero (q / 64)))
  | inr past ↦ bit-of-zero (q % 64) (get_or words (q / 64) 0) (get_or_past words (q / 64) 0 (omega (arith, is.many)))
]
