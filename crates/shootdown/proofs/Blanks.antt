-- The lists of a new board, and what is left of them after each that is handed out.
use Rattle.std.proofs.Common.{◌≡◌, ℕ, zero, suc, ◌+◌, ◌-◌, ◌<◌, ◌≤◌, List, [], ◌∷◌, ◌++◌, refl, sym, ap, ◌∙◌, subst, arith, zero-add}
use Rattle.std.specs.Prelude.{slice_get, Some}
use mathlib.Core.Logic.{dite}
use mathlib.Core.Option.{some-injective, some-ne-none}
use native.Mathlib.Decide.{ℕ_discrete}
use Rattle.atomic_table.specs.Table.{opening}
use Rattle.atomic_table.specs.Seated.{TableId}
use Rattle.shootdown.specs.Notes.{Token, Seat}
use Rattle.shootdown.specs.Board.{AreOf, times, IsView, AllAgree}
use Rattle.shootdown.specs.Steps.{Own, first, others, other_tokens, other_seats}
use Rattle.shootdown.specs.Making.{numbered, blank, rest_of, all_of, fresh_token, fresh_seat, AreFresh}
use Rattle.shootdown.specs.declared.view.View.{View}
use Rattle.shootdown.proofs.ListLemmas.{times-own, times-else}

-- one more behind so many, and the first of them apart
pub numbered-more : {A : Type 0} (of : ℕ → A) (a n : ℕ) → numbered of a (n + 1) ≡ numbered of a n ++ of (a + n) ∷ []
numbered-more of a zero = let same : a ≡ a + 0 = omega arith in ap (λ k. of k ∷ []) same
numbered-more of a (suc n) =
    let same : suc a + n ≡ a + suc n = omega arith in
    let long : suc n + 1 ≡ suc (n + 1) = omega arith in
    ap (numbered of a) long ∙ ap (λ l. of a ∷ l) (numbered-more of (suc a) n ∙ ap (λ k. numbered of (suc a) n ++ of k ∷ []) same)

-- one of the next number comes behind them
pub one_more : {A : Type 0} (of : ℕ → A) (was now : List A) (x : A) (n : ℕ) → was ≡ numbered of 0 n → x ≡ of n → now ≡ was ++ x ∷ [] → now ≡ numbered of 0 (n + 1)
one_more of was now x n so_far one is =
    let same : n ≡ 0 + n = omega arith in
    is ∙ (λ i. so_far i ++ one i ∷ []) ∙ ap (λ k. numbered of 0 n ++ of k ∷ []) same ∙ sym (numbered-more of 0 n)

pub numbered-first : {A : Type 0} (of : ℕ → A) (a n : ℕ) → a < n → numbered of a (n - a) ≡ of a ∷ numbered of (a + 1) (n - (a + 1))
numbered-first of a n less =
    let one : n - a ≡ suc (n - (a + 1)) = omega arith in
    let next : suc a ≡ a + 1 = omega arith in
    ap (numbered of a) one ∙ ap (λ k. of a ∷ numbered of k (n - (a + 1))) next

pub numbered_at : {A : Type 0} (of : ℕ → A) (a n k : ℕ) → k < n → slice_get (numbered of a n) k ≡ Some (of (a + k))
numbered_at of a zero k less = absurd (omega arith)
numbered_at of a (suc n) zero less = let same : a ≡ a + 0 = omega arith in ap (λ j. Some (of j)) same
numbered_at of a (suc n) (suc k) less = let same : suc a + k ≡ a + suc k = omega arith in numbered_at of (suc a) n k (omega arith) ∙ ap (λ j. Some (of j)) same

times-below : (k a n : ℕ) → k < a → times k (numbered blank a n) ≡ 0
times-below k a zero less = refl
times-below k a (suc n) less = times-else k (blank a) (numbered blank (suc a) n) (λ e. omega arith) ∙ times-below k (suc a) n (omega arith)

times-numbered : (k a n : ℕ) → times k (numbered blank a n) ≤ 1
times-numbered k a zero = omega arith
times-numbered k a (suc n) = dite (ℕ_discrete a k)
    (λ e. let one = times-own k (blank a) (numbered blank (suc a) n) e in let rest = times-below k (suc a) n (omega arith) in omega arith)
    (λ apart. let same = times-else k (blank a) (numbered blank (suc a) n) apart in let rest = times-numbered k (suc a) n in omega arith)

are-numbered : (a n : ℕ) → AreOf (λ _. []) (numbered blank a n)
are-numbered a zero = tt
are-numbered a (suc n) = (refl, are-numbered (suc a) n)

only_view : (v w : View) (j : ℕ) → IsView (v ∷ []) j w → v ≡ w
only_view v w zero e = some-injective v w e
only_view v w (suc j) e = absurd (some-ne-none w (sym e))

-- the first state keeps the rule
pub begins : (tokens seats : ℕ) (words : List ℕ) → AllAgree (opening words [] (all_of tokens seats))
begins tokens seats words = record {
  of_tokens = λ _. [];
  of_seats = λ _. [];
  tokens = record {
    once = λ k. let one = times-numbered k 0 tokens in omega arith;
    each = λ j v there. subst (λ (u : View). AreOf (λ _. []) u.tokens) (only_view (all_of tokens seats) v j there) (are-numbered 0 tokens);
  };
  seats = record {
    once = λ k. let one = times-numbered k 0 seats in omega arith;
    each = λ j v there. subst (λ (u : View). AreOf (λ _. []) u.seats) (only_view (all_of tokens seats) v j there) (are-numbered 0 seats);
  };
  agree = λ p g. refl;
}

-- the first list of a number and more, and what is left without it
pub first_is : (a n : ℕ) → a < n → first (numbered blank a (n - a)) ≡ blank a ∷ []
first_is a n less = ap first (numbered-first blank a n less)

pub rest-tokens : (a n seats : ℕ) (me me' : Own) → a < n → me ≡ (rest_of a (n - a) 0 seats, []) → me' ≡ (other_tokens me.0, me.1) → me' ≡ (rest_of (a + 1) (n - (a + 1)) 0 seats, [])
rest-tokens a n seats me me' less was is =
    is ∙ ap (λ (m : Own). (other_tokens m.0, m.1)) was ∙ ap (λ ls. (record { tokens = others ls; seats = numbered blank 0 seats }, [])) (numbered-first blank a n less)

pub rest-seats : (a n : ℕ) (me me' : Own) → a < n → me ≡ (rest_of 0 0 a (n - a), []) → me' ≡ (other_seats me.0, me.1) → me' ≡ (rest_of 0 0 (a + 1) (n - (a + 1)), [])
rest-seats a n me me' less was is =
    is ∙ ap (λ (m : Own). (other_seats m.0, m.1)) was ∙ ap (λ ls. (record { tokens = []; seats = others ls }, [])) (numbered-first blank a n less)

at_place : {A : Type 0} (of : ℕ → A) (n : ℕ) (xs : List A) → xs ≡ numbered of 0 n → (k : ℕ) → k < n → slice_get xs k ≡ Some (of k)
at_place of n xs is k within = ap (λ l. slice_get l k) is ∙ numbered_at of 0 n k within ∙ ap (λ j. Some (of j)) (zero-add k)

-- what is handed out in all
pub fresh : (count guests : ℕ) (board : TableId) (tokens : List Token) (seats : List Seat) → tokens ≡ numbered (fresh_token board) 0 count → seats ≡ numbered (fresh_seat board) 0 guests
    → AreFresh count guests tokens seats
fresh count guests board tokens seats all_tokens all_seats = record {
  board = board;
  all_tokens = all_tokens;
  all_seats = all_seats;
  token_at = at_place (fresh_token board) count tokens all_tokens;
  seat_at = at_place (fresh_seat board) guests seats all_seats;
}
