-- The pages' misses after their counters or marks were written.
use Rattle.std.proofs.Common.{◌≡◌, ℕ, zero, suc, ◌+◌, ◌-◌, ◌*◌, ◌<◌, ◌≤◌, Bool, false, List, [], ◌∷◌, ◌++◌, length, take, drop, get_or, set, map, replicate, refl, sym, ap, ◌∙◌, inl, inr, arith}
use Rattle.std.proofs.lemmas.List.{length-take, length-drop, length-set, drop-drop, take-set-le, drop-set-add, drop-set-lt, take_at, drop_at, take-append-le, take-take, drop-append-le, drop-take, take-replicate, drop-replicate, length-replicate, get_or-set_same, get_or-set_other, get_or-take, get_or-drop, set-set}
use Rattle.std.proofs.lemmas.Bool.{cases_eq}
use Rattle.std.proofs.Math.Nat.{mul-le-mul_left}
use Rattle.private_machine.specs.Policy.{Misses, no_misses, anew}
use Rattle.page_policy.specs.Pages.{by_page, misses_of, AreCounters}

pub length-by_page : (n : ℕ) (ws : List Bool) (cs : List ℕ) → length (by_page n ws cs) ≡ length ws
length-by_page n [] cs = refl
length-by_page n (w ∷ ws) cs = ap suc (length-by_page n ws (drop n cs))

-- the counters of a page lie within the list
pub row-within : (n p len : ℕ) → p < len → p * n + n ≤ n * len
row-within n p len lt = let more : p + 1 ≤ len = omega arith in omega (arith, mul-le-mul_left n more)

pub length-row : (n p len : ℕ) (cs : List ℕ) → length cs ≡ n * len → p < len → length (take n (drop (p * n) cs)) ≡ n
length-row n p len cs all lt = omega (arith, row-within n p len lt, length-take n (drop (p * n) cs), length-drop (p * n) cs)

abbrev misses : List ℕ → Bool → Misses
misses counts w = record { by_node = counts; written = w }

-- a page
page-at : (n p at : ℕ) (ws : List Bool) (cs : List ℕ) (d : Misses) → at ≡ p * n → p < length ws → get_or (by_page n ws cs) p d ≡ misses (take n (drop at cs)) (get_or ws p false)
page-at n p at [] cs d is lt = absurd (omega arith)
page-at n zero at (w ∷ ws) cs d is lt = let z : at ≡ 0 = omega arith in ap (λ k. misses (take n (drop k cs)) w) (sym z)
page-at n (suc p) at (w ∷ ws) cs d is lt =
    page-at n p (p * n) ws (drop n cs) d refl (omega arith)
    ∙ ap (λ xs. misses (take n xs) (get_or ws p false)) (drop-drop (p * n) n cs ∙ ap (λ k. drop k cs) (let e : n + p * n ≡ at = omega arith in e))

pub misses_of-by_page : (n p : ℕ) (ws : List Bool) (cs : List ℕ) → p < length ws → misses_of p (by_page n ws cs) ≡ misses (take n (drop (p * n) cs)) (get_or ws p false)
misses_of-by_page n p ws cs lt = page-at n p (p * n) ws cs (no_misses 0) refl lt

-- its mark is written
mark-set : (n p at : ℕ) (b : Bool) (ws : List Bool) (cs : List ℕ) → at ≡ p * n → p < length ws → by_page n (set ws p b) cs ≡ set (by_page n ws cs) p (misses (take n (drop at cs)) b)
mark-set n p at b [] cs is lt = absurd (omega arith)
mark-set n zero at b (w ∷ ws) cs is lt = let z : at ≡ 0 = omega arith in ap (λ k. misses (take n (drop k cs)) b ∷ by_page n ws (drop n cs)) (sym z)
mark-set n (suc p) at b (w ∷ ws) cs is lt =
    ap (λ xs. misses (take n cs) w ∷ xs)
    (mark-set n p (p * n) b ws (drop n cs) refl (omega arith)
    ∙ ap (λ xs. set (by_page n ws (drop n cs)) p (misses (take n xs) b)) (drop-drop (p * n) n cs ∙ ap (λ k. drop k cs) (let e : n + p * n ≡ at = omega arith in e)))

pub by_page-mark : (n p : ℕ) (b : Bool) (ws : List Bool) (cs : List ℕ) → p < length ws → by_page n (set ws p b) cs ≡ set (by_page n ws cs) p (record (misses_of p (by_page n ws cs)) { written = b })
by_page-mark n p b ws cs lt =
    mark-set n p (p * n) b ws cs refl lt ∙ ap (λ (m : Misses). set (by_page n ws cs) p (record m { written = b })) (sym (misses_of-by_page n p ws cs lt))

-- one of its counters is written
take-set : (n i v : ℕ) (cs : List ℕ) → i < n → take n (set cs i v) ≡ set (take n cs) i v
take-set zero i v cs lt = absurd (omega arith)
take-set (suc n) i v [] lt = refl
take-set (suc n) zero v (c ∷ cs) lt = refl
take-set (suc n) (suc i) v (c ∷ cs) lt = ap (λ xs. c ∷ xs) (take-set n i v cs (omega arith))

count-set : (n p at i v : ℕ) (ws : List Bool) (cs : List ℕ) → at ≡ p * n → i < n → p < length ws
    → by_page n ws (set cs (at + i) v) ≡ set (by_page n ws cs) p (misses (set (take n (drop at cs)) i v) (get_or ws p false))
count-set n p at i v [] cs is within lt = absurd (omega arith)
count-set n zero at i v (w ∷ ws) cs is within lt =
    let z : at ≡ 0 = omega arith in
    let here : at + i ≡ i = omega arith in
    ap (λ k. by_page n (w ∷ ws) (set cs k v)) here
    ∙ ap (λ xs. misses xs w ∷ by_page n ws (drop n (set cs i v))) (take-set n i v cs within)
    ∙ ap (λ xs. misses (set (take n cs) i v) w ∷ by_page n ws xs) (drop-set-lt n cs i v within)
    ∙ ap (λ k. misses (set (take n (drop k cs)) i v) w ∷ by_page n ws (drop n cs)) (sym z)
count-set n (suc p) at i v (w ∷ ws) cs is within lt =
    let here : at + i ≡ n + (p * n + i) = omega arith in
    ap (λ k. by_page n (w ∷ ws) (set cs k v)) here
    ∙ ap (λ xs. misses xs w ∷ by_page n ws (drop n (set cs (n + (p * n + i)) v))) (take-set-le n cs (n + (p * n + i)) v (omega arith))
    ∙ ap (λ xs. misses (take n cs) w ∷ by_page n ws xs) (drop-set-add n cs (p * n + i) v)
    ∙ ap (λ xs. misses (take n cs) w ∷ xs)
    (count-set n p (p * n) i v ws (drop n cs) refl within (omega arith)
    ∙ ap (λ xs. set (by_page n ws (drop n cs)) p (misses (set (take n xs) i v) (get_or ws p false))) (drop-drop (p * n) n cs ∙ ap (λ k. drop k cs) (let e : n + p * n ≡ at = omega arith in e)))

pub by_page-count : (n p i v : ℕ) (ws : List Bool) (cs : List ℕ) → i < n → p < length ws
    → by_page n ws (set cs (p * n + i) v) ≡ set (by_page n ws cs) p (record (misses_of p (by_page n ws cs)) { by_node = set (misses_of p (by_page n ws cs)).by_node i v })
by_page-count n p i v ws cs within lt =
    count-set n p (p * n) i v ws cs refl within lt
    ∙ ap (λ (m : Misses). set (by_page n ws cs) p (record m { by_node = set m.by_node i v })) (sym (misses_of-by_page n p ws cs lt))

-- all of its counters are written
row-put : (n p at : ℕ) (zs : List ℕ) (ws : List Bool) (cs : List ℕ) → at ≡ p * n → p < length ws → length cs ≡ n * length ws → length zs ≡ n
    → by_page n ws (take at cs ++ (zs ++ drop (at + n) cs)) ≡ set (by_page n ws cs) p (misses zs (get_or ws p false))
row-put n p at zs [] cs is lt all long = absurd (omega arith)
row-put n zero at zs (w ∷ ws) cs is lt all long =
    let z : at ≡ 0 = omega arith in
    let here : 0 + n ≡ n = omega arith in
    ap (λ k. by_page n (w ∷ ws) (take k cs ++ (zs ++ drop (k + n) cs))) z
    ∙ ap (λ k. by_page n (w ∷ ws) (zs ++ drop k cs)) here
    ∙ ap (λ xs. misses xs w ∷ by_page n ws (drop n (zs ++ drop n cs))) (take_at zs (drop n cs) n long)
    ∙ ap (λ xs. misses zs w ∷ by_page n ws xs) (drop_at zs (drop n cs) n long)
row-put n (suc p) at zs (w ∷ ws) cs is lt all long =
    let m : ℕ = p * n in
    let here : at ≡ n + m = omega arith in
    let behind : n + m + n ≡ n + (m + n) = omega arith in
    let end : List ℕ = zs ++ drop (m + n) (drop n cs) in
    let enough : n ≤ length cs = omega arith in
    let front : n ≤ length (take (n + m) cs) = omega (arith, length-take (n + m) cs) in
    let rest : length (drop n cs) ≡ n * length ws = omega (arith, length-drop n cs) in
    ap (λ k. by_page n (w ∷ ws) (take k cs ++ (zs ++ drop (k + n) cs))) here
    ∙ ap (λ k. by_page n (w ∷ ws) (take (n + m) cs ++ (zs ++ drop k cs))) behind
    ∙ ap (λ xs. by_page n (w ∷ ws) (take (n + m) cs ++ (zs ++ xs))) (sym (drop-drop (m + n) n cs))
    ∙ ap (λ xs. misses xs w ∷ by_page n ws (drop n (take (n + m) cs ++ end))) (take-append-le n (take (n + m) cs) end front ∙ take-take n (n + m) cs (omega arith))
    ∙ ap (λ xs. misses (take n cs) w ∷ by_page n ws xs) (drop-append-le n (take (n + m) cs) end front ∙ ap (λ xs. xs ++ end) (drop-take n m cs))
    ∙ ap (λ xs. misses (take n cs) w ∷ xs) (row-put n p m zs ws (drop n cs) refl (omega arith) rest long)

pub by_page-row : (n p : ℕ) (zs : List ℕ) (ws : List Bool) (cs : List ℕ) → p < length ws → length cs ≡ n * length ws → length zs ≡ n
    → by_page n ws (take (p * n) cs ++ (zs ++ drop (p * n + n) cs)) ≡ set (by_page n ws cs) p (record (misses_of p (by_page n ws cs)) { by_node = zs })
by_page-row n p zs ws cs lt all long =
    row-put n p (p * n) zs ws cs refl lt all long
    ∙ ap (λ (m : Misses). set (by_page n ws cs) p (record m { by_node = zs })) (sym (misses_of-by_page n p ws cs lt))

-- no misses
none-of : (n p m : ℕ) → m ≡ p * n → by_page n (replicate p false) (replicate m 0) ≡ replicate p (no_misses n)
none-of n zero m is = refl
none-of n (suc p) m is =
    let rest : m - n ≡ p * n = omega arith in
    ap (λ xs. misses xs false ∷ by_page n (replicate p false) (drop n (replicate m 0))) (take-replicate n m 0 (omega arith))
    ∙ ap (λ xs. no_misses n ∷ by_page n (replicate p false) xs) (drop-replicate n m 0)
    ∙ ap (λ xs. no_misses n ∷ xs) (none-of n p (m - n) rest)

pub by_page-none : (n p : ℕ) → by_page n (replicate p false) (replicate (p * n) 0) ≡ replicate p (no_misses n)
by_page-none n p = none-of n p (p * n) refl

-- counters that are 0
pub zeros : (cs : List ℕ) → map (λ (n : ℕ). let z : ℕ = 0 in z) cs ≡ replicate (length cs) 0
zeros [] = refl
zeros (c ∷ cs) = ap (λ xs. 0 ∷ xs) (zeros cs)

-- a page's misses are replaced by as many
pub AreCounters-set : (pages n p : ℕ) (xs : List Misses) (m : Misses) → p < length xs → length m.by_node ≡ length (misses_of p xs).by_node → AreCounters pages n xs → AreCounters pages n (set xs p m)
AreCounters-set pages n p xs m there same are =
    let all : length xs ≡ pages = are.long in
    record {
      long = length-set xs p m ∙ all;
      each = λ q lt. elim (cases_eq q p) [
        | inl is ↦ ap (λ k. length (misses_of k (set xs p m)).by_node) is ∙ ap (λ (x : Misses). length x.by_node) (get_or-set_same xs p m (no_misses 0) there) ∙ same ∙ are.each p (omega arith)
        | inr other ↦ ap (λ (x : Misses). length x.by_node) (get_or-set_other xs p q m (no_misses 0) other) ∙ are.each q lt
      ];
    }

-- what is known of a page and a node of the table that callers see
pub page-within : (n p : ℕ) (ws : List Bool) (cs : List ℕ) (v : List Misses) → by_page n ws cs ≡ v → p < length v → p < length ws
page-within n p ws cs v is lt = omega (arith, ap length is, length-by_page n ws cs)

pub node-within : (n p i : ℕ) (ws : List Bool) (cs : List ℕ) (v : List Misses) → by_page n ws cs ≡ v → p < length v → i < length (misses_of p v).by_node → i < n
node-within n p i ws cs v is lt within =
    let at = ap (λ xs. length (misses_of p xs).by_node) (sym is) ∙ ap (λ (m : Misses). length m.by_node) (misses_of-by_page n p ws cs (page-within n p ws cs v is lt)) in
    omega (arith, at, length-take n (drop (p * n) cs))

pub place-within : (n p i : ℕ) (ws : List Bool) (cs : List ℕ) (v : List Misses) → by_page n ws cs ≡ v → length cs ≡ n * length ws → p < length v → i < length (misses_of p v).by_node → p * n + i < length cs
place-within n p i ws cs v is all lt within =
    omega (arith, all, node-within n p i ws cs v is lt within, row-within n p (length ws) (page-within n p ws cs v is lt))

pub row-end : (n p : ℕ) (ws : List Bool) (cs : List ℕ) (v : List Misses) → by_page n ws cs ≡ v → length cs ≡ n * length ws → p < length v → p * n + n ≤ length cs
row-end n p ws cs v is all lt = omega (arith, all, row-within n p (length ws) (page-within n p ws cs v is lt))

-- a counter of a page
pub count-at : (n p i : ℕ) (ws : List Bool) (cs : List ℕ) → i < n → p < length ws → get_or (misses_of p (by_page n ws cs)).by_node i 0 ≡ get_or cs (p * n + i) 0
count-at n p i ws cs within lt =
    ap (λ (m : Misses). get_or m.by_node i 0) (misses_of-by_page n p ws cs lt) ∙ get_or-take n (drop (p * n) cs) i 0 within ∙ get_or-drop (p * n) cs i 0

-- a page's misses are replaced twice
pub mark-again : (p : ℕ) (b : Bool) (v : List Misses) (x : Misses) → p < length v → set (set v p x) p (record (misses_of p (set v p x)) { written = b }) ≡ set v p (record x { written = b })
mark-again p b v x lt =
    ap (λ (m : Misses). set (set v p x) p (record m { written = b })) (get_or-set_same v p x (no_misses 0) lt) ∙ set-set v p x (record x { written = b })

pub AreCounters-by_page : (pages n : ℕ) (ws : List Bool) (cs : List ℕ) → length ws ≡ pages → length cs ≡ n * length ws → AreCounters pages n (by_page n ws cs)
AreCounters-by_page pages n ws cs marks all = record {
  long = length-by_page n ws cs ∙ marks;
  each = λ p lt.
      let there : p < length ws = omega arith in
      ap (λ (m : Misses). length m.by_node) (misses_of-by_page n p ws cs there) ∙ length-row n p (length ws) cs all there;
}

-- a page starts anew
zero-row : (n p : ℕ) (ws : List Bool) (cs : List ℕ) → length cs ≡ n * length ws → p < length ws → map (λ (k : ℕ). let z : ℕ = 0 in z) (misses_of p (by_page n ws cs)).by_node ≡ replicate n 0
zero-row n p ws cs all lt =
    ap (λ (m : Misses). map (λ (k : ℕ). let z : ℕ = 0 in z) m.by_node) (misses_of-by_page n p ws cs lt)
    ∙ zeros (take n (drop (p * n) cs))
    ∙ ap (λ k. let z : ℕ = 0 in replicate k z) (length-row n p (length ws) cs all lt)

pub by_page-anew : (n p : ℕ) (ws : List Bool) (cs : List ℕ) (v : List Misses) → by_page n ws cs ≡ v → length cs ≡ n * length ws → p < length v
    → by_page n (set ws p false) (take (p * n) cs ++ (replicate n 0 ++ drop (p * n + n) cs)) ≡ set v p (anew (misses_of p v))
by_page-anew n p ws cs v is all lt =
    let there = page-within n p ws cs v is lt in
    let b = by_page n ws cs in
    let within : p < length b = omega (arith, length-by_page n ws cs, there) in
    let zs : List ℕ = replicate n 0 in
    let none : ℕ = 0 in
    let x : Misses = record (misses_of p b) { by_node = zs } in
    by_page-mark n p false ws (take (p * n) cs ++ (zs ++ drop (p * n + n) cs)) there
    ∙ ap (λ (ms : List Misses). set ms p (record (misses_of p ms) { written = false })) (by_page-row n p zs ws cs there all (length-replicate n none))
    ∙ mark-again p false b x within
    ∙ ap (λ ys. set b p (misses ys false)) (sym (zero-row n p ws cs all there))
    ∙ ap (λ (ms : List Misses). set ms p (anew (misses_of p ms))) is

-- a page's counters and mark, as they were read
pub page-read : (n p : ℕ) (ws : List Bool) (cs : List ℕ) (v : List Misses) (row : List ℕ) (mark : Bool) → by_page n ws cs ≡ v → p < length v
    → row ≡ take n (drop (p * n) cs) → mark ≡ get_or ws p false → misses row mark ≡ misses_of p v
page-read n p ws cs v row mark is lt row_is mark_is =
    ap (λ xs. misses xs mark) row_is
    ∙ ap (λ w. misses (take n (drop (p * n) cs)) w) mark_is
    ∙ sym (misses_of-by_page n p ws cs (page-within n p ws cs v is lt))
    ∙ ap (misses_of p) is
