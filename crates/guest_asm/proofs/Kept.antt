-- The labels that are kept: each with the first line that has it.
use Rattle.std.proofs.Common.{◌≡◌, ℕ, ◌+◌, ◌<◌, ◌≤◌, Bool, true, false, cond, ltb, eqb, List, [], ◌∷◌, ◌++◌, length, take, get_or, Option, Some, None, ap, sym, refl, ◌∙◌, arith}
use Rattle.std.specs.Option.{option_or, option_map}
use Rattle.std.specs.List.{position, position_or_len}
use Rattle.std.specs.Map.{update}
use Rattle.std.specs.Str.{bytes_eq}
use Rattle.std.proofs.lemmas.Slice.Eq.{bytes_eq-Decides}
use Rattle.std.proofs.lemmas.List.{take_more, take_all}
use Rattle.std.proofs.lemmas.List.Folds.{position_or_len_push}
use Rattle.std.proofs.lemmas.List.Sums.{prefix_len-le-length, fold_more}
use Rattle.std.proofs.lemmas.Grind.{common_steps}
use Rattle.guest_asm.specs.declared.labels.Site.{Site}
use Rattle.guest_asm.specs.Addresses.{address_of, has_name, behind, start}
use Rattle.guest_asm.specs.Lines.{label_of}
use Rattle.guest_asm.specs.Sites.{site_under, site_of}

or-none : {X : Type 0} (o : Option X) → option_or o None ≡ o
or-none None = refl
or-none (Some x) = refl

new-by : (same : Bool) (old : Option Site) (site : Site) → (same ≡ true → old ≡ None) → cond same (Some site) old ≡ option_or old (cond same (Some site) None)
new-by true old site none = rw (none refl) refl
new-by false None site none = refl
new-by false (Some other) site none = refl

-- a label that is not there yet
pub kept_new : (sites : List ℕ → Option Site) (name other : List ℕ) (site : Site) → sites name ≡ None
    → update bytes_eq sites name (Some site) other ≡ option_or (sites other) (site_under other (Some name) site)
kept_new sites name other site none =
    new-by (bytes_eq name other) (sites other) site (λ same. ap sites (sym ((bytes_eq-Decides name other).0 same)) ∙ none)

old-by : (same : Bool) (old : Option Site) (site there : Site) → (same ≡ true → old ≡ Some there) → old ≡ option_or old (cond same (Some site) None)
old-by true old site there is = rw (is refl) refl
old-by false None site there is = refl
old-by false (Some other) site there is = refl

-- a label that is there
pub kept_old : (sites : List ℕ → Option Site) (name other : List ℕ) (site there : Site) → sites name ≡ Some there
    → sites other ≡ option_or (sites other) (site_under other (Some name) site)
kept_old sites name other site there is =
    old-by (bytes_eq name other) (sites other) site there (λ same. ap sites (sym ((bytes_eq-Decides name other).0 same)) ∙ is)

-- a line without a label
pub kept_none : (sites : List ℕ → Option Site) (other : List ℕ) (site : Site) → sites other ≡ option_or (sites other) (site_under other None site)
kept_none sites other site = sym (or-none (sites other))

-- the first place, among more
first-by : (m n : ℕ) (test : Bool) → m ≤ n
    → cond (ltb (cond (eqb m n) (n + cond test 0 1) m) (n + 1)) (Some (cond (eqb m n) (n + cond test 0 1) m)) None ≡ option_or (cond (ltb m n) (Some m) None) (cond test (Some n) None)
first-by m n true le = grind (arith, common_steps)
first-by m n false le = grind (arith, common_steps)

pub position_push : {X : Type 0} (p : X → Bool) (xs : List X) (y : X) → position p (xs ++ y ∷ []) ≡ option_or (position p xs) (cond (p y) (Some (length xs)) None)
position_push p xs y =
    let within : position_or_len p xs ≤ length xs = prefix_len-le-length _ xs in
    rw (position_or_len_push p xs y) (let long : length (xs ++ y ∷ []) ≡ length xs + 1 = grind (arith, common_steps) in rw long (first-by (position_or_len p xs) (length xs) (p y) within))

-- the first of so many lines that has a label
abbrev pub site_below : List (List ℕ) → ℕ → List ℕ → Option Site
site_below lines count name = option_map (λ i. record { line = i; address = address_of lines i }) (position (has_name name) (take count lines))

map-or : (f : ℕ → Site) (o p : Option ℕ) → option_map f (option_or o p) ≡ option_or (option_map f o) (option_map f p)
map-or f None p = refl
map-or f (Some n) p = refl

map-cond : (f : ℕ → Site) (b : Bool) (n : ℕ) → option_map f (cond b (Some n) None) ≡ cond b (Some (f n)) None
map-cond f true n = refl
map-cond f false n = refl

-- one more line
pub site_more : (lines : List (List ℕ)) (n : ℕ) (name : List ℕ) → n < length lines
    → site_below lines (n + 1) name ≡ option_or (site_below lines n name) (cond (has_name name (get_or lines n [])) (Some (record { line = n; address = address_of lines n })) None)
site_more lines n name there =
    let site : ℕ → Site = λ i. record { line = i; address = address_of lines i } in
    let more : take (n + 1) lines ≡ take n lines ++ (get_or lines n [] ∷ []) = take_more lines n [] there in
    let long : length (take n lines) ≡ n = grind (arith, common_steps) in
    ap (λ (xs : List (List ℕ)). option_map site (position (has_name name) xs)) more
    ∙ ap (option_map site) (position_push (has_name name) (take n lines) (get_or lines n []))
    ∙ map-or site (position (has_name name) (take n lines)) (cond (has_name name (get_or lines n [])) (Some (length (take n lines))) None)
    ∙ ap (option_or (site_below lines n name)) (map-cond site (has_name name (get_or lines n [])) (length (take n lines)) ∙ ap (λ (k : ℕ). cond (has_name name (get_or lines n [])) (Some (site k)) None) long)

-- the next address
pub address_more : (lines : List (List ℕ)) (n : ℕ) → n < length lines → address_of lines (n + 1) ≡ behind (address_of lines n) (get_or lines n [])
address_more lines n there = fold_more behind start lines n [] there

-- the labels with one more line
pub kept_more : (lines : List (List ℕ)) (n address : ℕ) (line : List ℕ) (label : Option (List ℕ)) (old new : List ℕ → Option Site)
    → n < length lines → address ≡ address_of lines n → line ≡ get_or lines n [] → label ≡ label_of line
    → ((name : List ℕ) → old name ≡ site_below lines n name)
    → ((name : List ℕ) → new name ≡ option_or (old name) (site_under name label (record { line = n; address = address })))
    → (name : List ℕ) → new name ≡ site_below lines (n + 1) name
kept_more lines n address line label old new there at is has kept keeps name =
    keeps name
    ∙ ap (λ (o : Option Site). option_or o (site_under name label (record { line = n; address = address }))) (kept name)
    ∙ ap (λ (l : Option (List ℕ)). option_or (site_below lines n name) (site_under name l (record { line = n; address = address }))) (has ∙ ap label_of is)
    ∙ ap (λ (a : ℕ). option_or (site_below lines n name) (site_under name (label_of (get_or lines n [])) (record { line = n; address = a }))) at
    ∙ sym (site_more lines n name there)

-- all lines
pub kept_all : (lines : List (List ℕ)) (n : ℕ) (name : List ℕ) → length lines ≤ n → site_below lines n name ≡ site_of lines name
kept_all lines n name whole = ap (λ (xs : List (List ℕ)). option_map (λ i. record { line = i; address = address_of lines i }) (position (has_name name) xs)) (take_all n lines whole)
