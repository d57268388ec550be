-- One more digit of a number that a word may hold.
use Rattle.std.proofs.Common.{◌≡◌, ℕ, ◌+◌, ◌*◌, ◌^◌, ◌<◌, ◌≤◌, List, [], ◌∷◌, Bool, true, false, ◌&&◌, length, take, get_or, Option, Some, None, sym, ap, ◌∙◌, arith, inl, inr, refl}
use Rattle.std.specs.List.{list_all}
use Rattle.std.specs.Char.{is_ascii_digit, is_ascii_hexdigit}
use Rattle.std.proofs.lemmas.Bool.{cases_lt, lt-ltb, le-ltb}
use Rattle.std.proofs.lemmas.List.Sums.{fold_more}
use Rattle.std.proofs.Math.Nat.{le-mul_of_pos_right}
use Rattle.guest_asm.specs.Numbers.{held, more, digit_value, digits_value}

held-fits : (n : ℕ) → n < 2 ^ 32 → held n ≡ Some n
held-fits n fits = rw (lt-ltb n (2 ^ 32) fits) refl

held-not : (n : ℕ) → 2 ^ 32 ≤ n → held n ≡ None
held-not n above = rw (le-ltb n (2 ^ 32) above) refl

-- a number that no word holds has no digit behind it that makes it smaller
pub more_held : (n radix digit : ℕ) → 0 < radix → more (held n) radix digit ≡ held (radix * n + digit)
more_held n radix digit some =
    elim (cases_lt n (2 ^ 32)) [
      | inl fits ↦ ap (λ (o : Option ℕ). more o radix digit) (held-fits n fits)
      | inr above ↦
          let grows : n ≤ n * radix = le-mul_of_pos_right n some in
          let same : radix * n ≡ n * radix = omega arith in
          ap (λ (o : Option ℕ). more o radix digit) (held-not n above) ∙ sym (held-not (radix * n + digit) (omega arith))
    ]

-- the next digit
pub next_digit : (radix : ℕ) (digits : List ℕ) (place : ℕ) (number : Option ℕ) → 0 < radix → place < length digits
    → number ≡ held (digits_value radix (take place digits))
    → more number radix (digit_value (get_or digits place 0)) ≡ held (digits_value radix (take (place + 1) digits))
next_digit radix digits place number some there so_far =
    ap (λ (o : Option ℕ). more o radix (digit_value (get_or digits place 0))) so_far
    ∙ more_held (digits_value radix (take place digits)) radix (digit_value (get_or digits place 0)) some
    ∙ ap held (sym (fold_more (λ number byte. radix * number + digit_value byte) 0 digits place 0 there))

both : (a b c d : Bool) → (a ≡ true → c ≡ true) → (b ≡ true → d ≡ true) → (a && b) ≡ true → (c && d) ≡ true
both true b c d f g e = rw (f refl) (g e)
both false b c d f g e = absurd (cc)

-- decimal digits are hexadecimal ones
pub hexadecimal_too : (digits : List ℕ) → list_all is_ascii_digit digits ≡ true → list_all is_ascii_hexdigit digits ≡ true
hexadecimal_too [] e = refl
hexadecimal_too (digit ∷ digits) e =
    both (is_ascii_digit digit) (list_all is_ascii_digit digits) (is_ascii_hexdigit digit) (list_all is_ascii_hexdigit digits)
    (λ (one : is_ascii_digit digit ≡ true). rw one refl) (hexadecimal_too digits) e
