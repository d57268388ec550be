-- What the code finds on a line is what the text says of it.
use Rattle.std.proofs.Common.{◌≡◌, ℕ, zero, suc, ◌+◌, Bool, true, false, cond, not, ◌&&◌, ◌||◌, ltb, List, [], ◌∷◌, ◌++◌, length, take, Option, Some, None, ap, sym, refl, ◌∙◌, arith, inl, inr}
use mathlib.Core.Path.{fun_ext}
use Rattle.std.specs.Option.{option_map}
use Rattle.std.specs.List.{position_or_len, list_any}
use Rattle.std.proofs.lemmas.Bool.{cases_lt, lt-ltb, le-ltb}
use Rattle.guest_asm.specs.declared.labels.Labels.{Labels}
use Rattle.guest_asm.specs.declared.labels.Site.{Site}
use Rattle.guest_asm.specs.Lines.{label_of, line_at}
use Rattle.guest_asm.specs.Statements.{statement_on}
use Rattle.guest_asm.specs.Addresses.{address_of, has_name, label_line, label_address}
use Rattle.guest_asm.specs.Sites.{site_in, address_in, site_of, IsKept}
use Rattle.guest_asm.specs.Causes.{stands_before, stands_before_in, is_before, begins_outside, with_statement, line_word, line_word_in}
use Rattle.guest_asm.specs.Assembled.{placed_on, words_below}
use Rattle.guest_asm.proofs.Ranges.{joined_more}

ltb-more : (a b : ℕ) → ltb (1 + a) (suc b) ≡ ltb a b
ltb-more a b =
    elim (cases_lt a b) [
      | inl below ↦ lt-ltb (1 + a) (suc b) (omega arith) ∙ sym (lt-ltb a b below)
      | inr above ↦ le-ltb (1 + a) (suc b) (omega arith) ∙ sym (le-ltb a b above)
    ]

any-step : (b rest : Bool) (p n len : ℕ) → rest ≡ (ltb p len && ltb p n)
    → (b || rest) ≡ (ltb (cond (not b) (1 + p) 0) (suc len) && ltb (cond (not b) (1 + p) 0) (suc n))
any-step true rest p n len is = rw (lt-ltb 0 (suc len) (omega arith), lt-ltb 0 (suc n) (omega arith)) refl
any-step false rest p n len is = rw (ltb-more p len, ltb-more p n) is

none-before : (b : Bool) (p : ℕ) → false ≡ (b && ltb p 0)
none-before true p = sym (le-ltb p 0 (omega arith))
none-before false p = refl

-- some of the first elements pass where the first that passes is among them
any_before : {X : Type 0} (p : X → Bool) (xs : List X) (n : ℕ) → list_any p (take n xs) ≡ (ltb (position_or_len p xs) (length xs) && ltb (position_or_len p xs) n)
any_before p [] zero = refl
any_before p [] (suc n) = refl
any_before p (x ∷ xs) zero = none-before (ltb (position_or_len p (x ∷ xs)) (length (x ∷ xs))) (position_or_len p (x ∷ xs))
any_before p (x ∷ xs) (suc n) = any-step (p x) (list_any p (take n xs)) (position_or_len p xs) n (length xs) (any_before p xs n)

before-found : (b : Bool) (p n : ℕ) (site : ℕ → Site) → ((i : ℕ) → (site i).line ≡ i) → is_before n (option_map site (cond b (Some p) None)) ≡ (b && ltb p n)
before-found true p n site same = ap (λ (k : ℕ). ltb k n) (same p)
before-found false p n site same = refl

stands_before-is : (lines : List (List ℕ)) (n : ℕ) (label : Option (List ℕ)) → stands_before_in (site_of lines) label n ≡ stands_before (take n lines) label
stands_before-is lines n None = refl
stands_before-is lines n (Some name) =
    let first : ℕ = position_or_len (has_name name) lines in
    before-found (ltb first (length lines)) first n (λ i. record { line = i; address = address_of lines i }) (λ i. refl)
    ∙ sym (any_before (has_name name) lines n)

address-found : (address : ℕ → ℕ) (o : Option ℕ) → option_map (λ (site : Site). site.address) (option_map (λ i. record { line = i; address = address i }) o) ≡ option_map address o
address-found address None = refl
address-found address (Some i) = refl

pub address_in-is : (lines : List (List ℕ)) (labels : Labels) → IsKept lines labels → (name : List ℕ) → address_in labels name ≡ label_address lines name
address_in-is lines labels kept name =
    ap (option_map (λ (site : Site). site.address)) (kept name) ∙ address-found (address_of lines) (label_line lines name)

-- a line in the words of the code
pub line_word-is : (lines : List (List ℕ)) (labels : Labels) (n address : ℕ) (line : List ℕ) → IsKept lines labels → address ≡ address_of lines n → line ≡ line_at lines n
    → line_word_in (site_in labels) (address_in labels) n address line ≡ line_word lines n
unfolding line_word
line_word-is lines labels n address line kept there is =
    let sites : site_in labels ≡ site_of lines = fun_ext kept in
    let addresses : address_in labels ≡ label_address lines = fun_ext (address_in-is lines labels kept) in
    ap (λ (s : List ℕ → Option Site). line_word_in s (address_in labels) n address line) sites
    ∙ ap (λ (a : List ℕ → Option ℕ). line_word_in (site_of lines) a n address line) addresses
    ∙ ap (λ (a : ℕ). line_word_in (site_of lines) (label_address lines) n a line) there
    ∙ ap (λ (l : List ℕ). line_word_in (site_of lines) (label_address lines) n (address_of lines n) l) is
    ∙ ap (λ (twice : Bool). with_statement (address_of lines n) twice (begins_outside (address_of lines n) (label_of (line_at lines n))) (statement_on (label_address lines) (line_at lines n)))
    (stands_before-is lines n (label_of (line_at lines n)))

-- the words of one more line
pub words_more : (lines : List (List ℕ)) (n : ℕ) → words_below lines (n + 1) ≡ words_below lines n ++ placed_on lines n
words_more lines n = joined_more (placed_on lines) n
