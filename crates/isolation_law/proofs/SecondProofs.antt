-- Second-level entries that stay when some are dropped.
use Rattle.std.proofs.Common.{◌≡◌, ℕ, zero, suc, ◌/◌, ◌==◌, true, false, not, if◌then◌else◌, inl, inr, Option, Some, None, List, [], ◌∷◌, map, get_or, refl, sym, ap, ◌∙◌}
use Rattle.base_words.specs.Membership.{Has}
use Rattle.private_machine.specs.SecondLevel.{Second, unless_of_page, seconds_without_page, unless_of_pair, seconds_without_pair}

of_page : (q : ℕ) (o : Option Second) (e : Second) → unless_of_page q o ≡ Some e → (o ≡ Some e) × (not (e.page == q) ≡ true)
of_page q None e is = cc
of_page q (Some x) e is = (elim (x.page == q) as (λ b. (x.page == q) ≡ b → (if b then None else Some x) ≡ Some e → (Some x ≡ Some e) × (not (e.page == q) ≡ true)) [
  | true ↦ λ at is. cc
  | false ↦ λ at is. let same : x ≡ e = cc in (is, ap (λ (y : Second). not (y.page == q)) (sym same) ∙ ap not at)
]) refl is

of_pair : (pair : ℕ) (o : Option Second) (e : Second) → unless_of_pair pair o ≡ Some e → (o ≡ Some e) × (not (e.number / 2 == pair) ≡ true)
of_pair pair None e is = cc
of_pair pair (Some x) e is = (elim (x.number / 2 == pair) as (λ b. (x.number / 2 == pair) ≡ b → (if b then None else Some x) ≡ Some e → (Some x ≡ Some e) × (not (e.number / 2 == pair) ≡ true)) [
  | true ↦ λ at is. cc
  | false ↦ λ at is. let same : x ≡ e = cc in (is, ap (λ (y : Second). not (y.number / 2 == pair)) (sym same) ∙ ap not at)
]) refl is

pub Has-without_page : (q : ℕ) (os : List (Option Second)) (e : Second) → Has (seconds_without_page q os) (Some e) → Has os (Some e) × (not (e.page == q) ≡ true)
Has-without_page q [] e has = absurd has
Has-without_page q (o ∷ os) e has = elim has [
  | inl is ↦ let r = of_page q o e is in (inl r.0, r.1)
  | inr later ↦ let r = Has-without_page q os e later in (inr r.0, r.1)
]

pub Has-without_pair : (pair : ℕ) (os : List (Option Second)) (e : Second) → Has (seconds_without_pair pair os) (Some e) → Has os (Some e) × (not (e.number / 2 == pair) ≡ true)
Has-without_pair pair [] e has = absurd has
Has-without_pair pair (o ∷ os) e has = elim has [
  | inl is ↦ let r = of_pair pair o e is in (inl r.0, r.1)
  | inr later ↦ let r = Has-without_pair pair os e later in (inr r.0, r.1)
]

-- of each virtual processor
pub Has-all_without : (q : ℕ) (all : List (List (Option Second))) (v : ℕ) (e : Second) → Has (get_or (map (seconds_without_page q) all) v []) (Some e) → Has (get_or all v []) (Some e) × (not (e.page == q) ≡ true)
Has-all_without q [] v e has = absurd has
Has-all_without q (os ∷ all) zero e has = Has-without_page q os e has
Has-all_without q (os ∷ all) (suc v) e has = Has-all_without q all v e has
