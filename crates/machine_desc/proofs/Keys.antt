-- The first unknown key of a map in order is the least one.
use Rattle.std.proofs.Common.{◌≡◌, subst, inl, inr, ℕ, Bool, true, false, List, [], ◌∷◌, map, Option, Some, None, String, Global, string_bytes, nat_cmp, Less, Greater, refl, sym, ap, ◌∙◌}
use Rattle.std.specs.Prelude.{IfSome}
use Rattle.std.specs.List.{list_any, AllByRecursion}
use Rattle.std.specs.List.Sorted.{IsStrictlySortedBy}
use Rattle.std.specs.Map.{keys_of}
use Rattle.std.specs.Ordering.{is_lt, ordering_reverse}
use Rattle.std.specs.Cmp.Lexicographic.{slice_cmp}
use Rattle.std.specs.String.{string_cmp}
use Rattle.std.proofs.lemmas.Bool.{cases_Bool}
use Rattle.std.proofs.lemmas.Cmp.{nat_list_cmp_total}
use Rattle.toml.specs.declared.value.Value.{Value}
use Rattle.toml.specs.View.{members_view}
use Rattle.machine_desc.specs.Unknown.{keys_in, is_among, lesser, least_unknown}

pub keys_in-members_view : (es : List (String Global × Value)) → keys_in (members_view es) ≡ map string_bytes (keys_of es)
keys_in-members_view [] = refl
keys_in-members_view (e ∷ es) = ap (λ ks. string_bytes e.0 ∷ ks) (keys_in-members_view es)

pub list_any-map : {A B : Type 0} (p : B → Bool) (f : A → B) (xs : List A) → list_any p (map f xs) ≡ list_any (λ x. p (f x)) xs
list_any-map p f [] = refl
list_any-map p f (x ∷ xs) = rw (list_any-map p f xs) refl

-- the key that was found, if any, comes after this one
abbrev IsAfter : List ℕ → Option (List ℕ) → Type 0
IsAfter key found = IfSome found (λ other. slice_cmp nat_cmp key other ≡ Less)

lesser-after : (key other : List ℕ) (found : Option (List ℕ)) → slice_cmp nat_cmp key other ≡ Less → IsAfter key found → slice_cmp nat_cmp key (lesser other found) ≡ Less
lesser-after key other None before after = before
lesser-after key other (Some third) before after =
    elim (cases_Bool (is_lt (slice_cmp nat_cmp third other))) [ inl lt ↦ rw lt after | inr ge ↦ rw ge before ]

lesser-first : (key : List ℕ) (found : Option (List ℕ)) → IsAfter key found → lesser key found ≡ key
lesser-first key None after = refl
lesser-first key (Some other) after =
    let turned : slice_cmp nat_cmp other key ≡ Greater = nat_list_cmp_total.antisymm other key ∙ ap ordering_reverse after in
    rw turned

least_unknown-after : (known : List (List ℕ)) (k : String Global) (ks : List (String Global)) → AllByRecursion (λ y. string_cmp k y ≡ Less) ks → IsAfter (string_bytes k) (least_unknown known (map string_bytes ks))
least_unknown-after known k [] before = tt
least_unknown-after known k (l ∷ ls) before =
    elim (cases_Bool (is_among known (string_bytes l))) [
      | inl known_too ↦ rw known_too (least_unknown-after known k ls before.1)
      | inr other ↦ rw other (lesser-after (string_bytes k) (string_bytes l) (least_unknown known (map string_bytes ls)) before.0 (least_unknown-after known k ls before.1))
    ]

-- what is left of a map's keys in order, and has the least unknown key of all
pub record IsLeftOf (known : List (List ℕ)) (rest all : List (String Global)) : Type 0 where
  pub same : least_unknown known (map string_bytes rest) ≡ least_unknown known (map string_bytes all)
  pub in_order : IsStrictlySortedBy string_cmp rest

pub all_left : (known : List (List ℕ)) (all : List (String Global)) → IsStrictlySortedBy string_cmp all → IsLeftOf known all all
all_left known all in_order = record { same = refl; in_order = in_order }

pub one_less : (known : List (List ℕ)) (s t all : List (String Global)) (k : String Global) → IsLeftOf known s all → s ≡ k ∷ t → is_among known (string_bytes k) ≡ true → IsLeftOf known t all
unfolding IsStrictlySortedBy
one_less known s t all k left is yes_known =
    let cut : IsLeftOf known (k ∷ t) all = subst (λ (l : List (String Global)). IsLeftOf known l all) is left in
    let skips : least_unknown known (map string_bytes (k ∷ t)) ≡ least_unknown known (map string_bytes t) = rw yes_known refl in
    record { same = sym skips ∙ cut.same; in_order = cut.in_order.1 }

pub least_here : (known : List (List ℕ)) (s t all : List (String Global)) (k : String Global) → IsLeftOf known s all → s ≡ k ∷ t → is_among known (string_bytes k) ≡ false → least_unknown known (map string_bytes all) ≡ Some (string_bytes k)
unfolding IsStrictlySortedBy
least_here known s t all k left is other =
    let cut : IsLeftOf known (k ∷ t) all = subst (λ (l : List (String Global)). IsLeftOf known l all) is left in
    let first : lesser (string_bytes k) (least_unknown known (map string_bytes t)) ≡ string_bytes k = lesser-first (string_bytes k) (least_unknown known (map string_bytes t)) (least_unknown-after known k t cut.in_order.0) in
    let here : least_unknown known (map string_bytes (k ∷ t)) ≡ Some (string_bytes k) = rw other (ap Some first) in
    sym cut.same ∙ here

pub none_left : (known : List (List ℕ)) (s all : List (String Global)) → IsLeftOf known s all → s ≡ [] → least_unknown known (map string_bytes all) ≡ None
none_left known s all left is = sym left.same ∙ ap (λ (l : List (String Global)). least_unknown known (map string_bytes l)) is

pub ruleset among = (list_any-map)
