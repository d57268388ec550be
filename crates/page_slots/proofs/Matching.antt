-- A caller's list and a page's history: the caller's entries are its accesses to the page.
use Rattle.std.proofs.Common.{◌≡◌, ◌≢◌, ℕ, suc, ◌+◌, ◌-◌, ◌<◌, ◌≤◌, ◌==◌, ◌&&◌, if◌then◌else◌, true, false, List, [], ◌∷◌, refl, sym, ap, ◌∙◌, subst, arith}
use mathlib.Core.Logic.{dite}
use mathlib.Core.Option.{some, some-injective, some-ne-none}
use native.Mathlib.Decide.{ℕ_discrete}
use lib.ListN.{get_elem?}
use Rattle.page_slots.specs.Histories.{of_caller, on_page, entry_of}
use Rattle.page_slots.specs.Inside.{accesses_in}
use Rattle.page_slots.specs.PageRule.{ByPage, Each, IsBefore, IsEntry, Rises}
use Rattle.page_slots.specs.Views.{one_if, times_at}
use Rattle.page_slots.specs.declared.access.Entry.{Entry}
use Rattle.page_slots.specs.declared.view.ListedAccess.{ListedAccess}
use Rattle.page_slots.proofs.Counting.{by_number, one_else, each-map}

-- the accesses to one page, with their places
abbrev places_on : ℕ → List ListedAccess → List ListedAccess
places_on p [] = []
places_on p (x ∷ xs) = if x.access.page.0 == p then x ∷ places_on p xs else places_on p xs

-- how often a place is among them
abbrev times_place : ℕ → List ListedAccess → ℕ
times_place i [] = 0
times_place i (x ∷ xs) = one_if (x.place == i) + times_place i xs

-- places rise
abbrev Climbs : List ListedAccess → Type 0
Climbs [] = Unit {0}
Climbs (x ∷ xs) = Each (λ y. x.place < y.place) xs × Climbs xs

on-places : (p : ℕ) (xs : List ListedAccess) → accesses_in (places_on p xs) ≡ on_page p (accesses_in xs)
on-places p [] = refl
on-places p (x ∷ xs) =
    let rest = on-places p xs in
    elim (x.access.page.0 == p) as (λ b. accesses_in (if b then x ∷ places_on p xs else places_on p xs) ≡ (if b then x.access ∷ on_page p (accesses_in xs) else on_page p (accesses_in xs)))
    [ true ↦ ap (λ l. x.access ∷ l) rest | false ↦ rest ]

each-places : (p : ℕ) (P Q : ListedAccess → Type 0) (xs : List ListedAccess) → ((x : ListedAccess) → x.access.page.0 ≡ p → P x → Q x) → Each P xs → Each Q (places_on p xs)
each-places p P Q [] f a = tt
each-places p P Q (x ∷ xs) f a =
    let rest = each-places p P Q xs f a.1 in
    by_number (λ b. Each Q (if b then x ∷ places_on p xs else places_on p xs)) x.access.page.0 p (λ e. (f x e a.0, rest)) (λ _. rest)

times-places : (p i : ℕ) (xs : List ListedAccess) → times_place i (places_on p xs) ≡ times_at p i xs
times-places p i [] = refl
times-places p i (x ∷ xs) =
    let rest = times-places p i xs in
    elim (x.access.page.0 == p) as (λ b. times_place i (if b then x ∷ places_on p xs else places_on p xs) ≡ one_if (b && (x.place == i)) + times_at p i xs)
    [ true ↦ ap (λ n. one_if (x.place == i) + n) rest | false ↦ omega arith ]

climbs-places : (p : ℕ) (xs : List ListedAccess) → Rises xs → Climbs (places_on p xs)
climbs-places p [] r = tt
climbs-places p (x ∷ xs) r =
    let rest = climbs-places p xs r.1 in
    by_number (λ b. Climbs (if b then x ∷ places_on p xs else places_on p xs)) x.access.page.0 p
    (λ e. (each-places p (IsBefore x) (λ y. x.place < y.place) xs (λ y on before. before (e ∙ sym on)) r.0, rest))
    (λ _. rest)

-- an access is the entry at its place, counted from k on
abbrev StandsIn : ℕ → ℕ → List Entry → ListedAccess → Type 0
StandsIn c k h x = (k ≤ x.place) × (get_elem? h (x.place - k) ≡ some (entry_of c x.access))

-- no place is below those that all are above
none-below : (i : ℕ) (xs : List ListedAccess) → Each (λ y. i < y.place) xs → times_place i xs ≡ 0
none-below i [] a = refl
none-below i (x ∷ xs) a = let less = a.0 in let one = one_else x.place i (λ e. omega arith) in let rest = none-below i xs a.1 in omega arith

-- behind the first entry
moved : (c k : ℕ) (e : Entry) (es : List Entry) (x : ListedAccess) → k < x.place → StandsIn c k (e ∷ es) x → StandsIn c (k + 1) es x
moved c k e es x less s = (
  omega arith,
  (let there : x.place - k ≡ suc (x.place - (k + 1)) = omega arith in ap (get_elem? (e ∷ es)) (sym there) ∙ s.1),
)

next-place : (k i : ℕ) → k + suc i ≡ (k + 1) + i
next-place k i = omega arith

-- an access that stands at the first place is the first entry's
first_is : (c k : ℕ) (e : Entry) (es : List Entry) (x : ListedAccess) → StandsIn c k (e ∷ es) x → x.place ≡ k → e ≡ entry_of c x.access
first_is c k e es x s same = let none : x.place - k ≡ 0 = omega arith in some-injective e (entry_of c x.access) (ap (get_elem? (e ∷ es)) (sym none) ∙ s.1)

-- where the first entry is another caller's, all accesses stand behind it
passed : (c k : ℕ) (e : Entry) (es : List Entry) (x : ListedAccess) → e.caller ≢ c → StandsIn c k (e ∷ es) x → k < x.place
passed c k e es x other s = dite (ℕ_discrete x.place k)
    (λ same. absurd (other (ap (λ (d : Entry). d.caller) (first_is c k e es x s same))))
    (λ apart. let le = s.0 in let ne : x.place ≢ k = apart in omega arith)

-- where the first place is among accesses that climb, the first has it
first_place : (c k : ℕ) (e : Entry) (es : List Entry) (x : ListedAccess) (xs : List ListedAccess) → Climbs (x ∷ xs) → StandsIn c k (e ∷ es) x → 0 < times_place (k + 0) (x ∷ xs) → x.place ≡ k
first_place c k e es x xs climb s some_there = dite (ℕ_discrete x.place k)
    (λ same. same)
    (λ apart. absurd (
    let le = s.0 in
    let ne : x.place ≢ k = apart in
    let lt : k + 0 < x.place = omega arith in
    let first = one_else x.place (k + 0) (λ e'. omega arith) in
    let later = none-below (k + 0) xs (each-map (λ y. x.place < y.place) (λ y. k + 0 < y.place) xs (λ y less. omega arith) climb.0) in
    omega arith
    ))

-- the accesses behind the first stand in what is behind the first entry
all-moved : (c k : ℕ) (e : Entry) (es : List Entry) (ys : List ListedAccess) → Each (λ y. k < y.place) ys → Each (StandsIn c k (e ∷ es)) ys → Each (StandsIn c (k + 1) es) ys
all-moved c k e es [] a b = tt
all-moved c k e es (y ∷ ys) a b = (moved c k e es y a.0 b.0, all-moved c k e es ys a.1 b.1)

-- all that a caller made from a place on is among these
abbrev HasAll : ℕ → ℕ → List Entry → List ListedAccess → Type 0
HasAll c k h xs = (i : ℕ) (e : Entry) → get_elem? h i ≡ some e → e.caller ≡ c → 0 < times_place (k + i) xs

past_other : (c k : ℕ) (e : Entry) (es : List Entry) (xs : List ListedAccess) → HasAll c k (e ∷ es) xs → HasAll c (k + 1) es xs
past_other c k e es xs all i d at is = subst (λ n. 0 < times_place n xs) (next-place k i) (all (suc i) d at is)

past_own : (c k : ℕ) (e : Entry) (es : List Entry) (x : ListedAccess) (xs : List ListedAccess) → x.place ≡ k → HasAll c k (e ∷ es) (x ∷ xs) → HasAll c (k + 1) es xs
past_own c k e es x xs here all i d at is =
    let more = all (suc i) d at is in
    let past = one_else x.place (k + suc i) (λ e'. omega arith) in
    let later : 0 < times_place (k + suc i) xs = omega arith in
    subst (λ n. 0 < times_place n xs) (next-place k i) later

-- the entries of a caller are these, where all that it made are among them
matches : (c k : ℕ) (h : List Entry) (xs : List ListedAccess) → Climbs xs → Each (StandsIn c k h) xs → HasAll c k h xs → of_caller c h ≡ accesses_in xs
matches c k [] [] climb stand all = refl
matches c k [] (x ∷ xs) climb stand all = absurd (some-ne-none (entry_of c x.access) (sym stand.0.1))
matches c k (e ∷ es) [] climb stand all = by_number (λ b. (if b then e.access ∷ of_caller c es else of_caller c es) ≡ []) e.caller c
    (λ mine. absurd (let none = all 0 e refl mine in omega arith))
    (λ other. matches c (k + 1) es [] climb tt (past_other c k e es [] all))
matches c k (e ∷ es) (x ∷ xs) climb stand all = by_number (λ b. (if b then e.access ∷ of_caller c es else of_caller c es) ≡ x.access ∷ accesses_in xs) e.caller c
    (λ mine.
    let here = first_place c k e es x xs climb stand.0 (all 0 e refl mine) in
    let is = ap (λ (d : Entry). d.access) (first_is c k e es x stand.0 here) in
    let above : Each (λ y. k < y.place) xs = each-map (λ y. x.place < y.place) (λ y. k < y.place) xs (λ y less. omega arith) climb.0 in
    let rest = matches c (k + 1) es xs climb.1 (all-moved c k e es xs above stand.1) (past_own c k e es x xs here all) in
    λ i. is i ∷ rest i)
    (λ other. matches c (k + 1) es (x ∷ xs) climb
    (all-moved c k e es (x ∷ xs) (each-map (StandsIn c k (e ∷ es)) (λ y. k < y.place) (x ∷ xs) (λ y s. passed c k e es y other s) stand) stand)
    (past_other c k e es (x ∷ xs) all))

-- a caller's entries in a page's history are its accesses to the page
pub own_entries : (histories : ByPage) (p c : ℕ) (xs : List ListedAccess) → Rises xs → Each (IsEntry histories c) xs → ((i : ℕ) (e : Entry) → get_elem? (histories p) i ≡ some e → e.caller ≡ c → 0 < times_at p i xs)
    → of_caller c (histories p) ≡ on_page p (accesses_in xs)
own_entries histories p c xs rise entries all =
    matches c 0 (histories p) (places_on p xs) (climbs-places p xs rise)
    (each-places p (IsEntry histories c) (StandsIn c 0 (histories p)) xs (λ x on is. (omega arith, (let same : x.place - 0 ≡ x.place = omega arith in ap (get_elem? (histories p)) same ∙ ap (λ q. get_elem? (histories q) x.place) (sym on) ∙ is))) entries)
    (λ i e at mine. let more = all i e at mine in let same = times-places p i xs in let k : 0 + i ≡ i = omega arith in subst (λ n. 0 < times_place n (places_on p xs)) (sym k) (omega arith))
    ∙ on-places p xs
