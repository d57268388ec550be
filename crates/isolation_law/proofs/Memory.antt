-- A flat memory made of pages of n words each.
use Rattle.std.proofs.Common.{◌≡◌, ℕ, suc, zero, ◌+◌, ◌-◌, ◌*◌, ◌<◌, List, [], ◌∷◌, ◌++◌, length, set, get_or, take, drop, refl, sym, ap, ◌∙◌, arith}
use Rattle.std.proofs.lemmas.List.{set-append_left, set-append_right, get_or_append_left, get_or-append_right, drop_at, append_assoc, take-append-le, drop-append-le, take_at}
use Rattle.base_words.specs.Memory.{with_word}
use Rattle.std.proofs.Math.Nat.{suc-mul}
use Rattle.std.proofs.Math.Seq.{take-append-add, drop-append-add}
use Rattle.std.specs.Prelude.{flat_map, ◌^◌, ◌≤◌}
use Rattle.byteorder.specs.Endian.{big_from, big_bytes}

-- each page has n words
abbrev pub Even : {A : Type 0} → ℕ → (A → List ℕ) → List A → Type 0
Even n f [] = Unit {0}
Even n f (x ∷ xs) = (length (f x) ≡ n) × Even n f xs

pub flat_same : {A : Type 0} (f : A → List ℕ) (xs : List A) (q : ℕ) (y d : A) → f y ≡ f (get_or xs q d) → flat_map f (set xs q y) ≡ flat_map f xs
flat_same f [] q y d e = refl
flat_same f (x ∷ xs) zero y d e = ap (λ (ws : List ℕ). ws ++ flat_map f xs) e
flat_same f (x ∷ xs) (suc q) y d e = ap (λ (ws : List ℕ). f x ++ ws) (flat_same f xs q y d e)

-- a word of page q
pub flat_get : {A : Type 0} (f : A → List ℕ) (n : ℕ) (xs : List A) (q o : ℕ) (d : A) → Even n f xs → q < length xs → o < n → get_or (flat_map f xs) (q * n + o) 0 ≡ get_or (f (get_or xs q d)) o 0
flat_get f n [] q o d even lt inside = absurd (omega arith)
flat_get f n (x ∷ xs) zero o d even lt inside =
    let at : 0 * n + o ≡ o = omega arith in
    let short : o < length (f x) = rw even.0 inside in
    ap (λ (k : ℕ). get_or (f x ++ flat_map f xs) k 0) at ∙ get_or_append_left (f x) (flat_map f xs) 0 o short
flat_get f n (x ∷ xs) (suc q) o d even lt inside =
    let at : suc q * n + o - n ≡ q * n + o = omega (arith, suc-mul q n) in
    get_or-append_right (f x) (flat_map f xs) n (suc q * n + o) 0 even.0 (omega (arith, suc-mul q n))
    ∙ ap (λ (k : ℕ). get_or (flat_map f xs) k 0) at
    ∙ flat_get f n xs q o d even.1 (omega arith) inside

-- a word of page q is set
pub flat_set : {A : Type 0} (f : A → List ℕ) (n : ℕ) (xs : List A) (q o v : ℕ) (y d : A) → Even n f xs → q < length xs → o < n → f y ≡ set (f (get_or xs q d)) o v → flat_map f (set xs q y) ≡ set (flat_map f xs) (q * n + o) v
flat_set f n [] q o v y d even lt inside e = absurd (omega arith)
flat_set f n (x ∷ xs) zero o v y d even lt inside e =
    let at : o ≡ 0 * n + o = omega arith in
    let short : o < length (f x) = rw even.0 inside in
    ap (λ (ws : List ℕ). ws ++ flat_map f xs) e ∙ sym (set-append_left (f x) (flat_map f xs) o v short) ∙ ap (λ (k : ℕ). set (f x ++ flat_map f xs) k v) at
flat_set f n (x ∷ xs) (suc q) o v y d even lt inside e =
    let at : q * n + o ≡ suc q * n + o - n = omega (arith, suc-mul q n) in
    ap (λ (ws : List ℕ). f x ++ ws) (flat_set f n xs q o v y d even.1 (omega arith) inside e ∙ ap (λ (k : ℕ). set (flat_map f xs) k v) at)
    ∙ sym (set-append_right (f x) (flat_map f xs) n (suc q * n + o) v even.0 (omega (arith, suc-mul q n)))

-- page q is replaced
pub flat_replaced : {A : Type 0} (f : A → List ℕ) (n : ℕ) (xs : List A) (q : ℕ) (y : A) → Even n f xs → q < length xs → flat_map f (set xs q y) ≡ take (q * n) (flat_map f xs) ++ f y ++ drop (q * n + n) (flat_map f xs)
flat_replaced f n [] q y even lt = absurd (omega arith)
flat_replaced f n (x ∷ xs) zero y even lt =
    let none : 0 ≡ 0 * n = omega arith in
    let all : n ≡ 0 * n + n = omega arith in
    ap (λ (ws : List ℕ). f y ++ ws) (sym (drop_at (f x) (flat_map f xs) n even.0))
    ∙ ap (λ (k : ℕ). take k (f x ++ flat_map f xs) ++ f y ++ drop n (f x ++ flat_map f xs)) none
    ∙ ap (λ (k : ℕ). take (0 * n) (f x ++ flat_map f xs) ++ f y ++ drop k (f x ++ flat_map f xs)) all
flat_replaced f n (x ∷ xs) (suc q) y even lt =
    let whole : length (f x) ≡ n = even.0 in
    let front : length (f x) + q * n ≡ suc q * n = omega (arith, suc-mul q n) in
    let back : length (f x) + (q * n + n) ≡ suc q * n + n = omega (arith, suc-mul q n) in
    let rest = flat_map f xs in
    let taken : take (suc q * n) (f x ++ rest) ≡ f x ++ take (q * n) rest = ap (λ (k : ℕ). take k (f x ++ rest)) (sym front) ∙ take-append-add (f x) rest (q * n) in
    let dropped : drop (suc q * n + n) (f x ++ rest) ≡ drop (q * n + n) rest = ap (λ (k : ℕ). drop k (f x ++ rest)) (sym back) ∙ drop-append-add (f x) rest (q * n + n) in
    ap (λ (ws : List ℕ). f x ++ ws) (flat_replaced f n xs q y even.1 (omega arith)) ∙ rw (taken, dropped) (simp append_assoc)

-- n bytes of page q as a number
pub flat_big : {A : Type 0} (f : A → List ℕ) (n : ℕ) (xs : List A) (q o k : ℕ) (d : A) → Even n f xs → q < length xs → o + k ≤ n → big_from (q * n + o) k (flat_map f xs) ≡ big_from o k (f (get_or xs q d))
flat_big f n xs q o zero d even lt inside = refl
flat_big f n xs q o (suc k) d even lt inside =
    let first = flat_get f n xs q o d even lt (omega arith) in
    let rest = flat_big f n xs q (suc o) k d even lt (omega arith) in
    let next : suc (q * n + o) ≡ q * n + suc o = omega arith in
    let tail : big_from (suc (q * n + o)) k (flat_map f xs) ≡ big_from (suc o) k (f (get_or xs q d)) = ap (λ (i : ℕ). big_from i k (flat_map f xs)) next ∙ rest in
    λ i. first i * 256 ^ k + tail i

-- a word of page q becomes another
pub flat_with_word : {A : Type 0} (f : A → List ℕ) (n : ℕ) (xs : List A) (q o w : ℕ) (y d : A) → Even n f xs → q < length xs → o + 4 ≤ n → f y ≡ with_word (f (get_or xs q d)) o w → flat_map f (set xs q y) ≡ with_word (flat_map f xs) (q * n + o) w
flat_with_word f n [] q o w y d even lt inside e = absurd (omega arith)
flat_with_word f n (x ∷ xs) zero o w y d even lt inside e =
    let rest = flat_map f xs in
    let at : o ≡ 0 * n + o = omega arith in
    let front : o ≤ length (f x) = rw even.0 (omega arith) in
    let back : o + 4 ≤ length (f x) = rw even.0 inside in
    let same : with_word (f x) o w ++ rest ≡ with_word (f x ++ rest) o w =
    append_assoc (take o (f x)) (big_bytes 4 w ++ drop (o + 4) (f x)) rest
    ∙ ap (λ (b : List ℕ). take o (f x) ++ b) (append_assoc (big_bytes 4 w) (drop (o + 4) (f x)) rest)
    ∙ (λ i. sym (take-append-le o (f x) rest front) i ++ (big_bytes 4 w ++ sym (drop-append-le (o + 4) (f x) rest back) i)) in
    ap (λ (b : List ℕ). b ++ rest) e ∙ same ∙ ap (λ (k : ℕ). with_word (f x ++ rest) k w) at
flat_with_word f n (x ∷ xs) (suc q) o w y d even lt inside e =
    let rest = flat_map f xs in
    let whole : length (f x) ≡ n = even.0 in
    let front : length (f x) + (q * n + o) ≡ suc q * n + o = omega (arith, suc-mul q n) in
    let back : length (f x) + (q * n + o + 4) ≡ suc q * n + o + 4 = omega (arith, suc-mul q n) in
    let taken : take (suc q * n + o) (f x ++ rest) ≡ f x ++ take (q * n + o) rest = ap (λ (k : ℕ). take k (f x ++ rest)) (sym front) ∙ take-append-add (f x) rest (q * n + o) in
    let dropped : drop (suc q * n + o + 4) (f x ++ rest) ≡ drop (q * n + o + 4) rest = ap (λ (k : ℕ). drop k (f x ++ rest)) (sym back) ∙ drop-append-add (f x) rest (q * n + o + 4) in
    ap (λ (b : List ℕ). f x ++ b) (flat_with_word f n xs q o w y d even.1 (omega arith) inside e)
    ∙ sym (append_assoc (f x) (take (q * n + o) rest) (big_bytes 4 w ++ drop (q * n + o + 4) rest))
    ∙ (λ i. sym taken i ++ (big_bytes 4 w ++ sym dropped i))

-- the first bytes of page q are replaced
pub flat_filled : {A : Type 0} (f : A → List ℕ) (n : ℕ) (xs : List A) (q : ℕ) (bytes : List ℕ) (y d : A) → Even n f xs → q < length xs → length bytes ≤ n → f y ≡ bytes ++ drop (length bytes) (f (get_or xs q d))
    → flat_map f (set xs q y) ≡ take (q * n) (flat_map f xs) ++ (bytes ++ drop (q * n + length bytes) (flat_map f xs))
flat_filled f n [] q bytes y d even lt inside e = absurd (omega arith)
flat_filled f n (x ∷ xs) zero bytes y d even lt inside e =
    let rest = flat_map f xs in
    let none : 0 ≡ 0 * n = omega arith in
    let all : length bytes ≡ 0 * n + length bytes = omega arith in
    let back : length bytes ≤ length (f x) = rw even.0 inside in
    ap (λ (b : List ℕ). b ++ rest) e
    ∙ append_assoc bytes (drop (length bytes) (f x)) rest
    ∙ ap (λ (b : List ℕ). bytes ++ b) (sym (drop-append-le (length bytes) (f x) rest back))
    ∙ (λ i. take (none i) (f x ++ rest) ++ (bytes ++ drop (all i) (f x ++ rest)))
flat_filled f n (x ∷ xs) (suc q) bytes y d even lt inside e =
    let rest = flat_map f xs in
    let whole : length (f x) ≡ n = even.0 in
    let front : length (f x) + q * n ≡ suc q * n = omega (arith, suc-mul q n) in
    let back : length (f x) + (q * n + length bytes) ≡ suc q * n + length bytes = omega (arith, suc-mul q n) in
    let taken : take (suc q * n) (f x ++ rest) ≡ f x ++ take (q * n) rest = ap (λ (k : ℕ). take k (f x ++ rest)) (sym front) ∙ take-append-add (f x) rest (q * n) in
    let dropped : drop (suc q * n + length bytes) (f x ++ rest) ≡ drop (q * n + length bytes) rest = ap (λ (k : ℕ). drop k (f x ++ rest)) (sym back) ∙ drop-append-add (f x) rest (q * n + length bytes) in
    ap (λ (b : List ℕ). f x ++ b) (flat_filled f n xs q bytes y d even.1 (omega arith) inside e)
    ∙ sym (append_assoc (f x) (take (q * n) rest) (bytes ++ drop (q * n + length bytes) rest))
    ∙ (λ i. sym taken i ++ (bytes ++ sym dropped i))

-- page q
pub flat_page : {A : Type 0} (f : A → List ℕ) (n : ℕ) (xs : List A) (q : ℕ) (d : A) → Even n f xs → q < length xs → take n (drop (q * n) (flat_map f xs)) ≡ f (get_or xs q d)
flat_page f n [] q d even lt = absurd (omega arith)
flat_page f n (x ∷ xs) zero d even lt =
    let none : 0 * n ≡ 0 = omega arith in
    ap (λ (k : ℕ). take n (drop k (f x ++ flat_map f xs))) none ∙ take_at (f x) (flat_map f xs) n even.0
flat_page f n (x ∷ xs) (suc q) d even lt =
    let whole : length (f x) ≡ n = even.0 in
    let back : suc q * n ≡ length (f x) + q * n = omega (arith, suc-mul q n) in
    ap (λ (k : ℕ). take n (drop k (f x ++ flat_map f xs))) back ∙ ap (take n) (drop-append-add (f x) (flat_map f xs) (q * n)) ∙ flat_page f n xs q d even.1 (omega arith)
